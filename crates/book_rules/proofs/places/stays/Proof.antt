-- `stays` meets its contract: its tests in their order, each size a shift that loses nothing. Assumes nothing.
use Prim.Native.Nat.{ℕ, ◌%◌, ◌^◌, ◌≤◌}
use mathlib.Core.Path.{◌≡◌}
use native.Mathlib.Nat.{mod-eq_of_lt}
use native.Mathlib.Omega.{arith}
use borrow.Author.Rules.{rules}
use borrow.Author.Tests.{le-leb, lt-leb}
use Rattle.scripthash_layout.specs.Sizes.{slab_bytes, slab_slots, max_slab_class, max_slab_count}
use Rattle.scripthash_layout.proofs.LawsSizes.{size_below}
use Rattle.book_rules.specs.Places.{stays}
use Rattle.book_rules.proofs.places.stays.Statement.{statement}
use Rattle.book_rules.proofs.places.stays.Tie as tie

-- a shift gives the slots of a slab's class
slots : (class : ℕ) → class ≤ max_slab_class → slab_slots class % 2 ^ 64 ≡ slab_slots class
slots class h = mod-eq_of_lt (size_below 2 class 64 (omega arith))

-- and its bytes
bytes : (class : ℕ) → class ≤ max_slab_class → slab_bytes class % 2 ^ 64 ≡ slab_bytes class
bytes class h = mod-eq_of_lt (size_below 4 class 64 (omega arith))

returns-then-count-gt-MOST_IN_SLAB : tie.Need-returns-then-count-gt-MOST_IN_SLAB
unfolding stays
returns-then-count-gt-MOST_IN_SLAB c = rw (lt-leb c.before.args.count max_slab_count (omega arith))

overflow_shl-slots : tie.Need-overflow_shl-slots
overflow_shl-slots c = search rules

returns-then-slots-count : tie.Need-returns-then-slots-count
unfolding stays
returns-then-slots-count c =
    let a = c.before.before.args in
    let s = slots a.class (omega arith) in
    rw (le-leb a.count max_slab_count (omega arith), lt-leb a.count (slab_slots a.class) (omega arith))

overflow_shl-size : tie.Need-overflow_shl-size
overflow_shl-size c = search rules

overflow_add-result : tie.Need-overflow_add-result
overflow_add-result c = search rules

returns : tie.Need-returns
unfolding stays
returns c =
    let a = c.before.before.args in
    let s = slots a.class (omega arith) in
    rw (
      le-leb a.count max_slab_count (omega arith),
      le-leb a.count (slab_slots a.class) (omega arith),
      bytes a.class (omega arith),
    )

pub stays_spec : {M : Type 1} → statement M
stays_spec = tie.close (tie.spec returns-then-count-gt-MOST_IN_SLAB overflow_shl-slots returns-then-slots-count overflow_shl-size overflow_add-result returns)
