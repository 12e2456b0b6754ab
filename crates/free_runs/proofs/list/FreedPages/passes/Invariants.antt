-- What is left of the list tells it of all.
use Rattle.std.proofs.Common.{◌≡◌, ◌-◌}
use Rattle.free_runs.specs.PageList.{pages_end}
use Rattle.free_runs.specs.Freed.{passes}
use Rattle.free_runs.proofs.list.FreedPages.passes.Given as goal

abbrev pub invariant-loop-walked : goal.invariant-loop-walked
invariant-loop-walked l = pages_end l.self.mark (l.self.count - l._walked) l.self.body.now l.at ≡ passes l.self
