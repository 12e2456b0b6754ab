use Rattle.scripthash_words.proofs.LawsOnes.{Between}
use Rattle.scripthash_words.proofs.ones.all_ones.Given as goal

abbrev pub invariant-loop-b : goal.invariant-loop-b
invariant-loop-b l = Between l.bytes 0 l.low l.high l.b-index
