-- What the sums so far weigh.
use Rattle.std.proofs.Common.{◌≡◌, ◌*◌, ◌^◌, ◌≤◌}
use Rattle.scripthash_scan.specs.Weights.{weigh_sums}
use Rattle.scripthash_scan.proofs.weigh.weight_of.Given as goal

abbrev pub invariant-loop-k : goal.invariant-loop-k
invariant-loop-k g l = (l.sum ≡ weigh_sums l.k l.sums) × (l.sum ≤ 2 ^ 44 * l.k)
