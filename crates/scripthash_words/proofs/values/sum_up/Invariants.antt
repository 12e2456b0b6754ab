use Rattle.std.proofs.Common.{◌≡◌, ◌+◌, length, drop, map}
use Rattle.scripthash_words.specs.Words.{sum_of}
use Rattle.scripthash_words.proofs.LawsValues.{Summing}
use Rattle.scripthash_words.proofs.values.sum_up.Given as goal

abbrev pub invariant-loop-k : goal.invariant-loop-k
invariant-loop-k g l = record {
  kept : length l.out ≡ length l.initial.out;
  total : l.sum + sum_of (drop l.k (map g.T.Difference.value l.differences)) ≡ l.prev + sum_of (map g.T.Difference.value l.differences);
  summing : Summing (map g.T.Difference.value l.differences) (length l.differences) l.prev l.initial.out 0 l.out l.sum l.k;
}
