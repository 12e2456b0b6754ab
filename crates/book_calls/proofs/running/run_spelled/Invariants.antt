-- What is left of the words gives the rest of the answers.
use Rattle.std.proofs.Common.{◌-◌, ◌≤◌, List, ◌≡◌, length}
use Rattle.std.proofs.Math.Option.{some}
use Rattle.book_words.specs.Spelled.{SpelledCall}
use Rattle.book.specs.Answers.{book_of}
use Rattle.book_words.specs.SpellCalls.{calls_of}
use Rattle.book_calls.proofs.LawsRun.{Running}
use Rattle.book_calls.proofs.running.run_spelled.Given as goal

abbrev pub invariant-loop-at : goal.invariant-loop-at
invariant-loop-at l =
    (length l.body ≡ length l.initial.body) × (length l.heads ≡ length l.initial.heads) × (length l.out ≡ length l.initial.out) × (l.at ≤
    length l.calls) × (l.to ≤ length l.out)
    × ((cs : List SpelledCall) → calls_of l.calls ≡ some cs
    → Running l.desks (book_of l.initial.body l.initial.heads l.initial.mark l.initial.free l.initial.counts) cs l.calls l.initial.out
    (book_of l.body l.heads l.mark l.free l.counts) l.out l.at l.to)

abbrev pub decreases-loop-at : goal.decreases-loop-at
decreases-loop-at l = length l.calls - l.at
