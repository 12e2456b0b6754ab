-- `cut_from` meets its contract: by cases on whether the lent list is long enough.
use Prim.Native.Nat.{ℕ, ◌+◌, ◌-◌, ◌/◌, ◌≤◌}
use mathlib.Core.List.{List}
use mathlib.Core.Path.{refl, ap}
use native.Mathlib.Omega.{arith}
use borrow.Author.Tests.{lt-ltb, le-ltb}
use lib.ListN.{length, drop, length-drop}
use Rattle.error.specs.Refusal.{accepted, refuse_if}
use Rattle.scripthash_cutting.specs.Cutting.{page_room, last_page_room, cutting_for}
use Rattle.scripthash_cutting.specs.Steps.{cut_from, after_cut_from}
use Rattle.scripthash_cutting.proofs.LawsFitting.{Words, words_drop}
use Rattle.scripthash_cutting.proofs.LawsPages.{pages_at_most}
use Rattle.scripthash_cutting.proofs.cut.cut_from.Goals as goal
use Rattle.scripthash_cutting.proofs.cut.cut_from.Goals.{else-free-fks-via-then-free-fks+else-free-count_parts, else-free-fks-via-else-free-fks}

-- how many ranges the lent list has afterwards
abbrev ranges : ℕ → List ℕ → ℕ → ℕ → ℕ
ranges room fks from at = at + length (cutting_for last_page_room room (drop from fks))

pub returns-then-free-count_parts-clause-answer : goal.returns-then-free-count_parts-clause-answer
unfolding cut_from refuse_if
returns-then-free-count_parts-clause-answer c =
    let count = ranges c.args.room.bytes c.args.fks.now c.args.from c.args.at in
    rw (lt-ltb (length c.args.out.now) count (omega (arith, c.count_parts.ensures, c.if-free-count_parts.true))) refl

pub returns-then-free-count_parts-clause-list : goal.returns-then-free-count_parts-clause-list
unfolding after_cut_from
returns-then-free-count_parts-clause-list c =
    let count = ranges c.args.room.bytes c.args.fks.now c.args.from c.args.at in
    rw (lt-ltb (length c.args.out.now) count (omega (arith, c.count_parts.ensures, c.if-free-count_parts.true))) refl

-- a lent list with so much room is long enough for any numbers
plenty : (room : ℕ) → last_page_room ≤ room → room ≤ page_room → (fks : List ℕ) (from at size : ℕ) → Words fks → at ≤ size
    → (length fks - from) / 407 + 2 ≤ size - at
    → ranges room fks from at ≤ size
plenty room less most fks from at size w within free =
    omega (arith, length-drop from fks, pages_at_most room less most (drop from fks) (words_drop from fks w))

pub write_ranges-count-requires : goal.write_ranges-count-requires
write_ranges-count-requires c =
    let page = c.args.room.of_a_page in (
      c.requires.0,
      elim c.else-free-fks.branch [
        | else-free-fks-via-then-free-fks+else-free-count_parts w ↦ omega (arith, w.count_parts.ensures, w.if-free-count_parts.false)
        | else-free-fks-via-else-free-fks w ↦ plenty c.args.room.bytes page.0 page.1 c.args.fks.now c.args.from c.args.at
            (length c.args.out.now) (λ i. omega (arith, c.type_inv.fks i)) c.requires.1 w.if-free-fks.false
      ],
    )

pub returns-clause-answer : goal.returns-clause-answer
unfolding cut_from refuse_if
returns-clause-answer c =
    let page = c.args.room.of_a_page in
    let count = ranges c.args.room.bytes c.args.fks.now c.args.from c.args.at in
    let long : count ≤ length c.args.out.now =
    elim c.else-free-fks.branch [
      | else-free-fks-via-then-free-fks+else-free-count_parts w ↦ omega (arith, w.count_parts.ensures, w.if-free-count_parts.false)
      | else-free-fks-via-else-free-fks w ↦ plenty c.args.room.bytes page.0 page.1 c.args.fks.now c.args.from c.args.at
          (length c.args.out.now) (λ i. omega (arith, c.type_inv.fks i)) c.requires.1 w.if-free-fks.false
    ] in
    rw (le-ltb (length c.args.out.now) count long) (ap accepted c.write_ranges-count.ensures.count)

pub returns-clause-list : goal.returns-clause-list
unfolding after_cut_from
returns-clause-list c =
    let page = c.args.room.of_a_page in
    let count = ranges c.args.room.bytes c.args.fks.now c.args.from c.args.at in
    let long : count ≤ length c.args.out.now =
    elim c.else-free-fks.branch [
      | else-free-fks-via-then-free-fks+else-free-count_parts w ↦ omega (arith, w.count_parts.ensures, w.if-free-count_parts.false)
      | else-free-fks-via-else-free-fks w ↦ plenty c.args.room.bytes page.0 page.1 c.args.fks.now c.args.from c.args.at
          (length c.args.out.now) (λ i. omega (arith, c.type_inv.fks i)) c.requires.1 w.if-free-fks.false
    ] in
    rw (le-ltb (length c.args.out.now) count long) c.write_ranges-count.ensures.ranges
