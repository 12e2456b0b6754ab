-- The pages so far lie in the run.
use Rattle.std.proofs.Common.{◌-◌}
use Rattle.free_runs.proofs.LawsLinks.{Passed}
use Rattle.free_runs.proofs.unlinking.pass_over.Given as goal

abbrev pub invariant-loop-passed : goal.invariant-loop-passed
invariant-loop-passed l = Passed l.list.mark l.list.body.now l.from l.end l.list.head l.list.count l.at (l.list.count - l.passed)
