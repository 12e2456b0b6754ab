-- The words from here on are all that there are.
use Rattle.std.proofs.Common.{◌≡◌}
use Rattle.decimal.specs.Words.{words_from}
use Rattle.decimal.proofs.words.skip_spaces.Given as goal

abbrev pub invariant-loop-i : goal.invariant-loop-i
invariant-loop-i l = words_from l.line l.from ≡ words_from l.line l.i
