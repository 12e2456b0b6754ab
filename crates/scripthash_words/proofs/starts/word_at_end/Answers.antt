use Rattle.std.proofs.Common.{arith}
use Rattle.scripthash_words.proofs.LawsStarts.{word_bytes}
use Rattle.scripthash_words.proofs.starts.word_at_end.Goals as goal

pub returns : goal.returns
returns c = omega (arith, word_bytes c.args.buf.now c.args.i)
