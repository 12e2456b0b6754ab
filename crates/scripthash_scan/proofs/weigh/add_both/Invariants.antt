-- The sums so far are added to, and the others are as they were.
use Rattle.std.proofs.Common.{◌≡◌, ℕ, ◌+◌, ◌≤◌, ◌<◌, length, get_or}
use Rattle.scripthash_scan.proofs.weigh.add_both.Given as goal

abbrev pub invariant-loop-k : goal.invariant-loop-k
invariant-loop-k g l =
    (length l.sums ≡ g.row.N) × ((j : ℕ) → j < l.k → get_or l.sums j 0 ≡ get_or l.initial.sums j 0 + (get_or l.p j 0 + get_or l.q j 0))
    × ((j : ℕ) → l.k ≤ j → j < g.row.N → get_or l.sums j 0 ≡ get_or l.initial.sums j 0)
