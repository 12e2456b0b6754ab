-- `count_parts` meets its contract: a part is one more, and the rest is what is left.
use Prim.Native.Nat.{◌+◌}
use mathlib.Core.Path.{◌≡◌}
use native.Mathlib.Omega.{arith}
use lib.ListN.{length, drop}
use Rattle.scripthash_cutting.specs.Cutting.{last_page_room, cutting_for}
use Rattle.scripthash_cutting.proofs.LawsPages.{part_from, parts_behind}
use Rattle.scripthash_cutting.proofs.cut.count_parts.Goals as goal

pub loop-start-smaller : goal.loop-start-smaller
loop-start-smaller c =
    let page = c.args.room.of_a_page in
    let found = part_from c.args.room.bytes page.0 page.1 c.args.fks.now c.loop-start.start c.part_end-start.result c.loop-start-test.true
    (λ i. omega (arith, c.type_inv.fks i)) c.part_end-start.ensures in
    omega (arith, found.later, found.within)

pub loop-start-preserved : goal.loop-start-preserved
loop-start-preserved c =
    let page = c.args.room.of_a_page in
    let found = part_from c.args.room.bytes page.0 page.1 c.args.fks.now c.loop-start.start c.part_end-start.result c.loop-start-test.true
    (λ i. omega (arith, c.type_inv.fks i)) c.part_end-start.ensures in
    record { few = omega (arith, found.later); within = found.within; counted = omega (arith, found.count) }

pub returns : goal.returns
returns c =
    let page = c.args.room.of_a_page in
    let counted : c.loop-start.count + 0 ≡ length (cutting_for last_page_room c.args.room.bytes (drop c.args.from c.args.fks.now)) =
    rw (parts_behind c.args.room.bytes page.0 page.1 c.args.fks.now c.loop-start.start c.loop-start-test.false) at
    c.loop-start.invariant.counted in
    omega arith
