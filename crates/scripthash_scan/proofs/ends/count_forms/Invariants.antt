-- The forms that ended and those left are the forms wanted; each turn goes on by some bytes, or takes forms to be denser.
use Rattle.std.proofs.Common.{◌+◌, ◌-◌, ◌*◌, ◌<◌, ◌≤◌, length}
use Rattle.scripthash_scan.specs.Weights.{Counts}
use Rattle.scripthash_scan.proofs.ends.count_forms.Given as goal

abbrev pub invariant-loop-counted : goal.invariant-loop-counted
invariant-loop-counted l = Counts l.buf l.from l.want l.counted.at l.counted.left × (0 < l.dense) × (l.dense ≤ 16)

abbrev pub decreases-loop-counted : goal.decreases-loop-counted
decreases-loop-counted l = 32 * length l.buf + 16 - (32 * l.counted.at + l.dense)
