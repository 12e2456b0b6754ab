-- The word goes on here.
use Rattle.std.proofs.Common.{◌≡◌, ◌+◌, drop}
use Rattle.std.proofs.Math.Option.{some}
use Rattle.decimal.specs.Words.{words_in}
use Rattle.decimal.proofs.words.word_end.Given as goal

abbrev pub invariant-loop-i : goal.invariant-loop-i
invariant-loop-i l =
    words_in (some l.start) (l.start + 1) (drop (l.start + 1) l.line) ≡ words_in (some l.start) l.i (drop l.i l.line)
