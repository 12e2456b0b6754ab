-- Taking the words from here on, behind those that were put, is taking all.
use Rattle.std.proofs.Common.{◌≡◌, ◌-◌, ◌≤◌, length}
use Rattle.decimal.specs.Words.{words_from, take_words}
use Rattle.decimal.proofs.words.numbers_into.Given as goal

abbrev pub invariant-loop-at : goal.invariant-loop-at
invariant-loop-at l =
    (l.at ≤ length l.line) × (l.count ≤ l.at)
    × (take_words l.line l.list l.count (words_from l.line l.at) ≡ take_words l.line l.initial.list 0 (words_from l.line l.from))

abbrev pub decreases-loop-at : goal.decreases-loop-at
decreases-loop-at l = length l.line - l.at
