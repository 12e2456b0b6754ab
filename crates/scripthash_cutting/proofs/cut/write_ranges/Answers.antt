-- `write_ranges` meets its contract: a part's range is written, and the rest is what is left.
use Prim.Native.Nat.{◌+◌, ◌<◌}
use mathlib.Core.List.{[]}
use mathlib.Core.Path.{◌≡◌, sym, ◌∙◌}
use native.Mathlib.Omega.{arith}
use lib.ListN.{length, drop}
use Rattle.buffer.specs.Bytes.{overwrite}
use Rattle.buffer.proofs.LawsBytes.{overwrite_nil, overwrite_step}
use Rattle.scripthash_cutting.specs.Cutting.{last_page_room, cutting_for, range_of, ranges_from}
use Rattle.scripthash_cutting.proofs.LawsPages.{part_from, parts_behind}
use Rattle.scripthash_cutting.proofs.cut.write_ranges.Goals as goal

pub bounds-out-count : goal.bounds-out-count
bounds-out-count c =
    let page = c.args.room.of_a_page in
    let found = part_from c.args.room.bytes page.0 page.1 c.args.fks.now c.loop-start.start c.part_end-end.result c.loop-start-test.true
    (λ i. omega (arith, c.type_inv.fks i)) c.part_end-end.ensures in
    omega (arith, found.count, c.loop-start.invariant.counted, c.requires.1)

pub loop-start-smaller : goal.loop-start-smaller
loop-start-smaller c =
    let page = c.args.room.of_a_page in
    let found = part_from c.args.room.bytes page.0 page.1 c.args.fks.now c.loop-start.start c.part_end-end.result c.loop-start-test.true
    (λ i. omega (arith, c.type_inv.fks i)) c.part_end-end.ensures in
    omega (arith, found.later, found.within)

pub loop-start-preserved : goal.loop-start-preserved
loop-start-preserved c =
    let page = c.args.room.of_a_page in
    let room = c.args.room.bytes in
    let fks = c.args.fks.now in
    let l = c.loop-start in
    let end = c.part_end-end.result in
    let found = part_from room page.0 page.1 fks l.start end c.loop-start-test.true (λ i. omega (arith, c.type_inv.fks i)) c.part_end-end.ensures in
    let inside : l.count < length l.out = omega (arith, found.count, l.invariant.counted, c.requires.1) in
    record {
      within = found.within;
      counted = omega (arith, found.count, l.invariant.counted);
      written = sym (overwrite_step l.out l.count (range_of l.start end) (ranges_from end (cutting_for last_page_room room (drop end fks))) inside)
          ∙ (rw found.ranges at l.invariant.written);
    }

pub returns-clause-count : goal.returns-clause-count
returns-clause-count c =
    let page = c.args.room.of_a_page in
    let counted : c.loop-start.count + 0 ≡ c.args.at + length (cutting_for last_page_room c.args.room.bytes (drop c.args.from c.args.fks.now)) =
    rw (parts_behind c.args.room.bytes page.0 page.1 c.args.fks.now c.loop-start.start c.loop-start-test.false) at
    c.loop-start.invariant.counted in
    omega arith

pub returns-clause-ranges : goal.returns-clause-ranges
unfolding ranges_from
returns-clause-ranges c =
    let page = c.args.room.of_a_page in
    let written : overwrite c.loop-start.out c.loop-start.count []
    ≡ overwrite c.args.out.now c.args.at (ranges_from c.args.from (cutting_for last_page_room c.args.room.bytes (drop c.args.from c.args.fks.now))) =
    rw (parts_behind c.args.room.bytes page.0 page.1 c.args.fks.now c.loop-start.start c.loop-start-test.false) at
    c.loop-start.invariant.written in
    sym (overwrite_nil c.loop-start.out c.loop-start.count) ∙ written
