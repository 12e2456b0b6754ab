-- Each sum adds the pieces of both halves so far.
use Rattle.std.proofs.Common.{◌≡◌, ℕ, ◌<◌, length, get_or}
use Rattle.scripthash_scan.specs.Weights.{behind_by}
use Rattle.scripthash_scan.proofs.LawsTotals.{AddsBoth}
use Rattle.scripthash_scan.proofs.stretch.Stretch.weigh.Given as goal

abbrev pub invariant-loop-i : goal.invariant-loop-i
invariant-loop-i g l =
    (length l.sums ≡ g.row.N) × ((k : ℕ) → k < g.row.N → AddsBoth (behind_by k l.self.buf.now) l.self.from l.half l.i (get_or l.sums k 0))
