-- What the loop of `zeros_in` keeps: the count is that of the bytes passed.
use Prim.Native.Nat.{◌≤◌}
use mathlib.Core.Path.{◌≡◌}
use lib.ListN.{take}
use Rattle.compact.specs.Uleb128.{zeros}
use Rattle.scripthash_stream.proofs.padded.zeros_in.Given as goal

abbrev pub invariant-loop-b : goal.invariant-loop-b
invariant-loop-b l = record { counted : l.count ≡ zeros (take l.b-index l.part); small : l.count ≤ l.b-index }
