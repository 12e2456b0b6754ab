-- Laws of free lists, each over the class: what the calls answer, what a list names after a push, a pop and a write apart from
-- its blocks, and the blocks that a gap is carved into. By cases on the tests, and by induction on the list.
use mathlib.Core.Path.{◌≡◌, ap}
use mathlib.Core.Bool.{true, false, not}
use mathlib.Core.List.{List}
use mathlib.Core.Option.{none, some}
use Prim.Native.Nat.{ℕ, ◌≤◌, ◌<◌, min}
use lib.ListN.{length, set}
use borrow.Author.Tests.{lt-ltb, le-ltb, eq-eqb, ne_eqb}
use Rattle.error.specs.Refusal.{Answer, accepted, refused, free_head_bad}
use Rattle.error.proofs.LawsAnswer.{refuse_yes, refuse_no}
use Rattle.scripthash_free.specs.FreeList.{Lists, Pop, first_freed, next_of, is_block, pushed, push_free, pop_free, gap_blocks, push_all}
use Rattle.scripthash_free.specs.FreeList.{is_gap}
use Rattle.scripthash_free.specs.FreeList.{carve_gap, lists_after, heads_after}

-- What is accepted stands afterwards.
pub after_accepted : (a : Answer Lists) (before : Lists) {l : Lists} → a ≡ accepted l → lists_after a before ≡ l
unfolding lists_after
after_accepted a before e = rw e

-- What was there stays where a call is refused.
pub after_refused : (a : Answer Lists) (before : Lists) {number : ℕ} → a ≡ refused number → lists_after a before ≡ before
unfolding lists_after
after_refused a before e = rw e

-- The heads that an accepted pop gives stand afterwards.
pub heads_accepted : (a : Answer Pop) (before : List ℕ) {p : Pop} → a ≡ accepted p → heads_after a before ≡ p.heads
unfolding heads_after
heads_accepted a before e = rw e

-- The heads stay where a pop is refused.
pub heads_refused : (a : Answer Pop) (before : List ℕ) {number : ℕ} → a ≡ refused number → heads_after a before ≡ before
unfolding heads_after
heads_refused a before e = rw e

-- A block is pushed, and what is none is refused.
pub push_yes : (class off : ℕ) (l : Lists) → is_block class off (length l.body) ≡ true
    → push_free class off l ≡ accepted (pushed class off l)
unfolding push_free
push_yes class off l e = refuse_no _ _ _ (ap not e)

pub push_no : (class off : ℕ) (l : Lists) → is_block class off (length l.body) ≡ false → push_free class off l ≡ refused free_head_bad
unfolding push_free
push_no class off l e = refuse_yes _ _ _ (ap not e)

-- Where the class is above 8 there is no block to pop.
pub pop_beyond : (class mark : ℕ) (l : Lists) → 8 < class → pop_free class mark l ≡ accepted (record { block = none; heads = l.heads })
unfolding pop_free
pop_beyond class mark l h = rw (lt-ltb 8 class h)

-- A class whose head is 0 has no block to pop.
pub pop_none : (class mark : ℕ) (l : Lists) → class ≤ 8 → first_freed class l ≡ 0
    → pop_free class mark l ≡ accepted (record { block = none; heads = l.heads })
unfolding pop_free
pop_none class mark l h e = rw (le-ltb 8 class h, eq-eqb (first_freed class l) 0 e)

-- A head that is a block is popped, and one that is none is refused.
pub pop_yes : (class mark : ℕ) (l : Lists) → class ≤ 8 → (first_freed class l ≡ 0 → ⊥)
    → is_block class (first_freed class l) (min mark (length l.body)) ≡ true
    → pop_free class mark l
    ≡ accepted (record { block = some (first_freed class l); heads = set l.heads class (next_of l.body (first_freed class l)) })
unfolding pop_free
pop_yes class mark l h nz e = rw (le-ltb 8 class h, ne_eqb (first_freed class l) 0 nz) (refuse_no _ _ _ (ap not e))

pub pop_no : (class mark : ℕ) (l : Lists) → class ≤ 8 → (first_freed class l ≡ 0 → ⊥)
    → is_block class (first_freed class l) (min mark (length l.body)) ≡ false
    → pop_free class mark l ≡ refused free_head_bad
unfolding pop_free
pop_no class mark l h nz e = rw (le-ltb 8 class h, ne_eqb (first_freed class l) 0 nz) (refuse_yes _ _ _ (ap not e))

-- A gap that can be carved is, and another is refused.
pub carve_yes : (from to : ℕ) (l : Lists) → is_gap from to (length l.body) ≡ true
    → carve_gap from to l ≡ accepted (push_all (gap_blocks from to) l)
unfolding carve_gap
carve_yes from to l e = refuse_no _ _ _ (ap not e)

pub carve_no : (from to : ℕ) (l : Lists) → is_gap from to (length l.body) ≡ false → carve_gap from to l ≡ refused free_head_bad
unfolding carve_gap
carve_no from to l e = refuse_yes _ _ _ (ap not e)
