-- A space before words is nothing.
use Rattle.std.proofs.Common.{◌∙◌, arith}
use Rattle.decimal.proofs.LawsWords.{words_space}
use Rattle.decimal.proofs.words.skip_spaces.Goals as goal

pub loop-i-preserved : goal.loop-i-preserved
loop-i-preserved c =
    c.loop-i.invariant ∙ words_space c.args.line.now c.loop-i.i (omega arith) (omega (arith, c.if-line-i-gt32.false))
