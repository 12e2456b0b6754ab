-- The search has come to the page, with fewer pages before it than are wanted.
use Rattle.std.proofs.Common.{ℕ, ◌-◌, ◌≤◌, List}
use Rattle.free_runs.specs.Steps.{Flags, Sought, ToGoOn}
use Rattle.free_runs.proofs.flags.scan.Given as goal

abbrev pub invariant-loop-page : goal.invariant-loop-page
invariant-loop-page l = record {
  low : l.from ≤ l.page;
  high : l.page ≤ l.end;
  goes_on : ToGoOn l.page l.start l.pages;
  sought : (os : List ℕ) → Flags l.words l.from (l.end - l.from) os → Sought l.pages l.from l.initial.start os
      → Sought l.pages l.page l.start os;
}

abbrev pub decreases-loop-page : goal.decreases-loop-page
decreases-loop-page l = l.end - l.page
