-- The sums so far are the numbers of as many forms, and the list from there on is as it was.
use Rattle.std.proofs.Common.{◌≡◌, ◌*◌, ◌≤◌, length, drop}
use Rattle.scripthash_forms.proofs.LawsSums.{Summed}
use Rattle.scripthash_scan.proofs.quick.sum_bytes.Given as goal

abbrev pub invariant-loop-k : goal.invariant-loop-k
invariant-loop-k l =
    (length l.out ≡ length l.initial.out) × (l.sum ≤ 127 * l.k) × (drop l.k l.out ≡ drop l.k l.initial.out)
    × Summed l.buf 0 0 l.n l.out l.sum l.k l.k
