-- What is left of the list passes, and with it all pages of the window are kept.
use Rattle.std.proofs.Common.{◌≡◌, ◌-◌, true}
use Rattle.free_runs.specs.PageList.{walked, pages_end}
use Rattle.free_runs.specs.Freed.{pages_of}
use Rattle.free_runs.proofs.LawsSparse.{Collecting}
use Rattle.free_runs.proofs.sparse.collect.Given as goal

abbrev pub invariant-loop-walked : goal.invariant-loop-walked
invariant-loop-walked l = record {
  passes : pages_end l.list.mark (l.count - l._walked) l.body l.at ≡ true;
  going : Collecting (pages_of l.list) l.from l.end l.kept l.room.count l.room.end (walked (l.count - l._walked) l.body l.at);
}
