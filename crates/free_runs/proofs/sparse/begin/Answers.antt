use Rattle.std.proofs.Common.{rules}
use Rattle.free_runs.specs.Sparse.{begins_from}
use Rattle.free_runs.proofs.sparse.begin.Goals as goal

pub returns-then-page-next : goal.returns-then-page-next
unfolding begins_from
returns-then-page-next c = search rules

pub returns-else-page-next : goal.returns-else-page-next
unfolding begins_from
returns-else-page-next c = search rules
