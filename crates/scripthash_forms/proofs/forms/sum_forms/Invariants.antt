use Rattle.std.proofs.Common.{◌≡◌, ◌^◌, ◌<◌, ◌≤◌, length}
use Rattle.scripthash_forms.proofs.LawsSums.{Summed}
use Rattle.scripthash_forms.proofs.forms.sum_forms.Given as goal

abbrev pub invariant-loop-k : goal.invariant-loop-k
invariant-loop-k l = record {
  within : l.i ≤ length l.buf;
  below : l.sum < 2 ^ 63;
  kept : length l.space ≡ length l.initial.space;
  summed : Summed l.buf l.from l.prev l.n l.space l.sum l.i l.k;
}
