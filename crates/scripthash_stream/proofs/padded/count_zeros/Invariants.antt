-- What the loop of `count_zeros` keeps: the count is that of the bytes passed.
use Prim.Native.Nat.{◌-◌, ◌≤◌}
use mathlib.Core.Path.{◌≡◌}
use lib.ListN.{take}
use Rattle.compact.specs.Uleb128.{zeros}
use Rattle.scripthash_stream.proofs.padded.count_zeros.Given as goal

abbrev pub invariant-loop-at : goal.invariant-loop-at
invariant-loop-at l = record { within : l.at ≤ l.n; small : l.count ≤ l.at; counted : l.count ≡ zeros (take l.at l.buf) }

abbrev pub decreases-loop-at : goal.decreases-loop-at
decreases-loop-at l = l.n - l.at
