-- `zeros_in` meets its contract: one more byte adds to the zeros what it counts.
use Prim.Native.Nat.{◌≤◌}
use mathlib.Core.Bool.{Bool, true, false}
use mathlib.Core.Path.{◌≡◌, refl, sym}
use mir.Val.{bool_byte}
use native.Mathlib.Omega.{arith}
use borrow.Author.Rules.{rules}
use lib.Dec.{eqb}
use lib.ListN.{get_or}
use Rattle.compact.specs.Uleb128.{one}
use Rattle.scripthash_stream.proofs.LawsPadded.{zeros_next, zeros_nothing}
use Rattle.scripthash_stream.proofs.padded.zeros_in.Goals as goal

-- a condition as a byte is what it counts
counts : (b : Bool) → (bool_byte b ≡ one b) × (bool_byte b ≤ 1)
counts true = (refl, search rules)
counts false = (refl, search rules)

pub loop-b-init : goal.loop-b-init
loop-b-init c = record { counted = sym (zeros_nothing c.args.part.now); small = search rules }

pub loop-b-preserved : goal.loop-b-preserved
loop-b-preserved c =
    let next = zeros_next c.args.part.now c.loop-b.b-index (omega arith) in
    let byte = counts (eqb (get_or c.args.part.now c.loop-b.b-index 0) 0) in
    record { counted = omega (arith, c.from-count.ensures, byte.0); small = omega (arith, c.from-count.ensures, byte.1) }
