-- Each byte so far lies between the least and the greatest.
use Rattle.std.proofs.Common.{ℕ, ◌≤◌, ◌<◌, get_or}
use Rattle.scripthash_scan.proofs.quick.one_byte_forms.Given as goal

abbrev pub invariant-loop-k : goal.invariant-loop-k
invariant-loop-k l = (j : ℕ) → j < l.k → (l.low ≤ get_or l.buf j 0) × (get_or l.buf j 0 ≤ l.high)
