use Rattle.std.proofs.Common.{◌-◌, ◌≤◌, false, ◌≡◌}
use Rattle.book_desks.specs.Desks.{reserve_high}
use Rattle.book_desks.specs.Counts.{limits_in}
use Rattle.book_start.proofs.making.above_ceiling.Given as goal

abbrev pub invariant-loop-d : goal.invariant-loop-d
invariant-loop-d l = (l.d ≤ 16) × (reserve_high l.d (limits_in l.counts) ≡ false)
