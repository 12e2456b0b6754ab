-- The page so far ahead is the least of those looked at.
use Rattle.std.proofs.Common.{◌+◌, ◌≤◌}
use Rattle.free_runs.specs.Sparse.{LeastFrom}
use Rattle.free_runs.proofs.sparse.least_from.Given as goal

abbrev pub invariant-loop-x : goal.invariant-loop-x
invariant-loop-x l = record {
  high : l.page + l.least ≤ l.end;
  so_far : LeastFrom l.kept l.x-index l.page l.end (l.page + l.least);
}
