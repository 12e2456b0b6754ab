-- The sum is that of the blocks so far, and the longest form of the last of them tells of the bytes before the next.
use Rattle.std.proofs.Common.{◌≡◌, ◌+◌, ◌-◌, ◌*◌, ◌^◌, ◌≤◌, min, false}
use Rattle.scripthash_scan.specs.Weights.{weighed, two_before, three_before, five_go_on, Lacks}
use Rattle.scripthash_scan.proofs.stretch.Stretch.weigh_blocks.Given as goal

abbrev pub invariant-loop-from : goal.invariant-loop-from
invariant-loop-from l =
    let at = min l.from l.self.to in
    (l.self.from ≤ l.from) × (l.sum + 2 ^ 35 * l.self.from ≤ 2 ^ 35 * at) × (weighed l.self.buf.now l.self.from + l.sum ≡ weighed l.self.buf.now at)
    × Lacks l.self.buf.now (five_go_on l.self.buf.now) l.self.from at × (l.longest ≤ 2 → two_before l.self.buf.now at ≡ false)
    × (l.longest ≤ 3 → three_before l.self.buf.now at ≡ false)

abbrev pub decreases-loop-from : goal.decreases-loop-from
decreases-loop-from l = l.self.to - l.from
