-- The search has come to the window's first page, with fewer pages before it than are wanted; behind the first window the list has passed.
use Rattle.std.proofs.Common.{◌≡◌, ◌-◌, ◌<◌, ◌≤◌, true}
use Rattle.free_runs.specs.Steps.{Sought, ToGoOn}
use Rattle.free_runs.specs.Freed.{pages_of, passes}
use Rattle.free_runs.proofs.search.search_windows.Given as goal

abbrev pub invariant-loop-from : goal.invariant-loop-from
invariant-loop-from l = record {
  inside : l.from ≤ l.limit;
  goes_on : ToGoOn l.from l.start l.pages;
  sought : Sought l.pages l.from l.start (pages_of l.list);
  judged : 0 < l.from → passes l.list ≡ true;
}

abbrev pub decreases-loop-from : goal.decreases-loop-from
decreases-loop-from l = l.limit - l.from
