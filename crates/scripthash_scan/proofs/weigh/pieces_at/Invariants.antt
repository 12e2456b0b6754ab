-- The pieces so far are what they should be.
use Rattle.std.proofs.Common.{◌≡◌, ℕ, ◌≤◌, ◌<◌, get_or, length}
use Rattle.scripthash_scan.specs.Weights.{behind_by}
use Rattle.scripthash_scan.proofs.weigh.pieces_at.Given as goal

abbrev pub invariant-loop-k : goal.invariant-loop-k
invariant-loop-k g l =
    (length l.pieces ≡ g.row.N)
    × ((j : ℕ) → j < l.k → (get_or l.pieces j 0 ≡ behind_by j l.buf l.i) × (get_or l.pieces j 0 ≤ 127))
