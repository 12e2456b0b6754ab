use Rattle.std.proofs.Common.{arith}
use Rattle.scripthash_words.proofs.LawsStarts.{count_before}
use Rattle.scripthash_words.proofs.starts.place_before.Goals as goal

pub loop-left-preserved : goal.loop-left-preserved
loop-left-preserved c =
    let count = count_before c.args.buf.now c.loop-left.i (omega arith) (omega arith) in record {
      behind = omega arith;
      before = omega arith;
      counted = omega arith;
    }
