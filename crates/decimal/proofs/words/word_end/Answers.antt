-- A byte above the space goes on with the word; a space ends it, and so does the line's end.
use Rattle.std.proofs.Common.{◌≡◌, ◌∙◌, length, arith}
use Rattle.decimal.proofs.LawsWords.{word_on, word_stop, word_end}
use Rattle.decimal.proofs.words.word_end.Goals as goal

pub returns-then-line-i-le32 : goal.returns-then-line-i-le32
returns-then-line-i-le32 c =
    record {
      after = omega arith;
      inside = omega arith;
      whole = c.loop-i.invariant ∙ word_stop c.args.line.now c.loop-i.i c.args.start (omega arith) c.if-line-i-le32.true;
    }

pub loop-i-preserved : goal.loop-i-preserved
loop-i-preserved c =
    c.loop-i.invariant ∙ word_on c.args.line.now c.loop-i.i c.args.start (omega arith) (omega (arith, c.if-line-i-le32.false))

pub returns : goal.returns
returns c =
    let at_end : c.loop-i.i ≡ length c.args.line.now = omega arith in
    record {
      after = omega arith;
      inside = omega arith;
      whole = (rw at_end at c.loop-i.invariant) ∙ word_end c.args.line.now (length c.args.line.now) c.args.start (omega arith);
    }
