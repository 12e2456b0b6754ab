-- The forms that ended and those left are the forms wanted; each turn goes on by some bytes.
use Rattle.std.proofs.Common.{◌-◌, length}
use Rattle.scripthash_scan.specs.Weights.{Counts}
use Rattle.scripthash_scan.proofs.ends.count_blocks.Given as goal

abbrev pub invariant-loop-left : goal.invariant-loop-left
invariant-loop-left l = Counts l.buf l.from l.want l.at l.left

abbrev pub decreases-loop-left : goal.decreases-loop-left
decreases-loop-left l = length l.buf - l.at
