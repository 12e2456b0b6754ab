-- Linking what is left of the list gives the whole: what is left passes, and its first page isn't one of the run.
use Rattle.std.proofs.Common.{◌≡◌, ◌<◌, true, false, length}
use Rattle.free_runs.specs.Runs.{in_run, left_of}
use Rattle.free_runs.specs.PageList.{walked, pages_end, relinked}
use Rattle.free_runs.proofs.unlinking.unlink.Given as goal

abbrev pub invariant-loop-left : goal.invariant-loop-left
invariant-loop-left l = record {
  long : length l.body ≡ length l.initial.body;
  passes : pages_end l.mark l.left l.body l.at ≡ true;
  stays : 0 < l.left → in_run l.from l.end l.at ≡ false;
  links : relinked (left_of l.from l.end (walked l.left l.body l.at)) l.body
      ≡ relinked (left_of l.from l.end (walked l.count l.initial.body l.head)) l.initial.body;
}

abbrev pub decreases-loop-left : goal.decreases-loop-left
decreases-loop-left l = l.left
