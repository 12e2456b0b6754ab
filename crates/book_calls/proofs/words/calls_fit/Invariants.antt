-- What the loop of `calls_fit` keeps: what the calls from here on may need, and what is left of the room.
use Prim.Native.Nat.{ℕ, ◌-◌, ◌≤◌}
use mathlib.Core.List.{List}
use mathlib.Core.Option.{some}
use mathlib.Core.Path.{◌≡◌}
use lib.ListN.{length}
use Rattle.book_words.specs.Spelled.{SpelledCall}
use Rattle.book_words.specs.SpellCalls.{calls_of}
use Rattle.book_calls.proofs.LawsSteps.{Fitting}
use Rattle.book_calls.proofs.words.calls_fit.Given as goal

abbrev pub invariant-loop-at : goal.invariant-loop-at
invariant-loop-at l = record {
  within : l.at ≤ length l.calls;
  fitting : (cs : List SpelledCall) → calls_of l.calls ≡ some cs → Fitting l.calls l.room l.at l.left cs;
}

abbrev pub decreases-loop-at : goal.decreases-loop-at
decreases-loop-at l = length l.calls - l.at
