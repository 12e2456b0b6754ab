-- Those of the window are kept.
use Rattle.std.proofs.Common.{◌-◌, ◌≤◌}
use Rattle.free_runs.specs.Sparse.{KeepsWindow}
use Rattle.free_runs.proofs.sparse.make_room.Given as goal

abbrev pub invariant-loop-count : goal.invariant-loop-count
invariant-loop-count l = record {
  room : l.count ≤ 4096;
  keeps : KeepsWindow l.from l.initial.end l.initial.kept l.initial.count l.kept l.count l.end;
}

abbrev pub decreases-loop-count : goal.decreases-loop-count
decreases-loop-count l = l.end - l.from
