-- What the loop of `calls_spelled` keeps: the words from here on spell calls just where all do.
use Prim.Native.Nat.{ℕ, ◌-◌, ◌≤◌}
use mathlib.Core.Path.{◌≡◌}
use lib.ListN.{length, drop}
use Rattle.book_words.specs.SpellCalls.{calls_of}
use Rattle.book_calls.specs.Steps.{is_some}
use Rattle.book_calls.proofs.words.calls_spelled.Given as goal

abbrev pub invariant-loop-at : goal.invariant-loop-at
invariant-loop-at l = record {
  within : l.at ≤ length l.calls;
  same : is_some (calls_of (drop l.at l.calls)) ≡ is_some (calls_of l.calls);
}

abbrev pub decreases-loop-at : goal.decreases-loop-at
decreases-loop-at l = length l.calls - l.at
