-- What is left of the list tells of all whether it passes, and with it all of the list is flagged at the end.
use Rattle.std.proofs.Common.{◌≡◌, ◌-◌}
use Rattle.free_runs.specs.PageList.{walked, pages_end}
use Rattle.free_runs.proofs.LawsMark.{Going}
use Rattle.free_runs.proofs.flags.flag_pages.Given as goal

abbrev pub invariant-loop-walked : goal.invariant-loop-walked
invariant-loop-walked l = record {
  tells : pages_end l.mark (l.count - l._walked) l.body l.at ≡ pages_end l.mark l.count l.body l.head;
  going : Going l.mark (walked l.count l.body l.head) l.from l.initial.words l.words (walked (l.count - l._walked) l.body l.at) l.next;
}
