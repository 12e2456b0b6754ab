-- `put_unrolled` meets its contract: the form ends at a byte below 128, at the tenth at the latest.
use Prim.Native.Nat.{◌<◌}
use mathlib.Core.Path.{◌≡◌}
use native.Mathlib.Omega.{arith}
use borrow.Author.Rules.{rules}
use Rattle.compact.proofs.LawsWrite.{starts, inside, goes, ends, tenth}
use Rattle.compact.proofs.put_unrolled.Goals as goal

pub loop-i-init : goal.loop-i-init
loop-i-init c = starts c.args.dst.now c.args.n c.requires

pub bounds-dst-i : goal.bounds-dst-i
bounds-dst-i c = inside c.loop-i.invariant

pub returns-then-rest-lt128 : goal.returns-then-rest-lt128
returns-then-rest-lt128 c = let e = ends c.loop-i.invariant (omega arith) in record { len = e.0; bytes = e.1 }

pub bounds-dst-i-in-loop-i : goal.bounds-dst-i-in-loop-i
bounds-dst-i-in-loop-i c = inside c.loop-i.invariant

pub loop-i-preserved : goal.loop-i-preserved
loop-i-preserved c = goes c.loop-i.invariant (omega arith)

pub overflow_cast-dst-2 : goal.overflow_cast-dst-2
overflow_cast-dst-2 c = omega (arith, tenth c.loop-i.invariant (search rules) (omega arith))

pub bounds-dst-9 : goal.bounds-dst-9
bounds-dst-9 c = let nine : c.loop-i.i ≡ 9 = omega arith in rw nine at (inside c.loop-i.invariant)

pub returns : goal.returns
returns c =
    let nine : c.loop-i.i ≡ 9 = omega arith in
    let last : c.loop-i.rest < 128 = tenth c.loop-i.invariant (search rules) (omega arith) in
    let e = rw nine at (ends c.loop-i.invariant last) in record { len = e.0; bytes = e.1 }
