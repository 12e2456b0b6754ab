-- What a look ahead at a take tells: the mark after it, or its refusal. By cases on the tests, over the laws of takes. Assumes nothing.
use Prim.Native.Nat.{ℕ, ◌+◌, ◌*◌, ◌≤◌, min}
use mathlib.Core.Bool.{Bool, true, false}
use mathlib.Core.Path.{◌≡◌, refl, sym, ap, ◌∙◌}
use native.Mathlib.Nat.{min-eq_left}
use native.Mathlib.Omega.{arith}
use borrow.Author.Tests.{ltb-true, ltb-false}
use lib.Dec.{ltb}
use lib.ListN.{length}
use Rattle.error.specs.Refusal.{Answer, accepted, refused, refuse_if, answered, free_head_bad, no_room}
use Rattle.error.proofs.LawsAnswer.{refuse_yes, refuse_no, answered_yes, answered_no, was_accepted}
use Rattle.scripthash_layout.specs.Sizes.{slab_bytes, page_class, page_size}
use Rattle.scripthash_free.specs.FreeList.{Pop, first_freed, is_block, pop_free, carve_gap, lists_after, heads_after}
use Rattle.scripthash_free.proofs.LawsFree.{pop_none, pop_yes, pop_no}
use Rattle.book_limits.specs.Limits.{slabs_end, page_after, gap_end, pop_end}
use Rattle.book_limits.proofs.LawsLimits.{pop_below}
use Rattle.book_space.specs.Space.{Space, lists_of, InShape, take_mark, take_slab, run_at_mark, take_fresh, take_block}
use Rattle.book_space.specs.Steps.{mark_after, mark_after_run, mark_after_slab}
use Rattle.book_space.proofs.LawsSteps.{told_block, told_none, told_refused, fresh_page, fresh_slab}
use Rattle.book_space.proofs.LawsTake.{run_yes, run_no, run_ran, take_took}

-- A test, and then other words.
test_answered : {A B : Type 0} (f : A → B) (test : Bool) (m : ℕ) (a : Answer A)
    → answered f (refuse_if test m a) ≡ refuse_if test m (answered f a)
unfolding refuse_if answered
test_answered f true m a = refl
test_answered f false m a = refl

-- The mark after a slab at it.
slab_marked : (bytes : ℕ) (s : Space) → answered mark_after (take_slab bytes s) ≡ mark_after_slab (length s.body) s.mark bytes
unfolding take_slab take_mark mark_after_slab answered
slab_marked bytes s =
    test_answered mark_after (ltb slabs_end (s.mark + bytes)) no_room _
    ∙ ap (refuse_if (ltb slabs_end (s.mark + bytes)) no_room) (test_answered mark_after (ltb (length s.body) (s.mark + bytes)) no_room _)

-- The mark after a run at it.
pub run_marked : (pages : ℕ) (s : Space) → InShape s
    → answered mark_after (run_at_mark pages s) ≡ mark_after_run (length s.body) s.mark pages
unfolding mark_after_run
run_marked pages s i = go (ltb (length s.body) end) refl
  where
    end : ℕ
    end = page_after s.mark + pages * page_size

    go : (t : Bool) → ltb (length s.body) end ≡ t
        → answered mark_after (run_at_mark pages s) ≡ refuse_if (ltb (length s.body) end) no_room (accepted end)
    go true e = answered_no mark_after _ (run_no pages s i (ltb-true _ _ e)) ∙ sym (refuse_yes _ _ _ e)
    go false e =
        let l = lists_after (carve_gap s.mark (gap_end s.mark) (lists_of s)) (lists_of s) in
        answered_yes mark_after _ (run_yes pages s i l refl (ltb-false _ _ e)) ∙ sym (refuse_no _ _ _ e)

-- It is within the body.
pub run_within : (pages : ℕ) (s : Space) {mark : ℕ} → InShape s → answered mark_after (run_at_mark pages s) ≡ accepted mark
    → mark ≤ length s.body
run_within pages s i e =
    let (u, is, m) = was_accepted mark_after (run_at_mark pages s) e in
    let k = (run_ran pages s i is).kept in
    omega (arith, m, k.shape.within, k.size)

-- The mark after a block of a class, by its free head.
module _ (class : ℕ) (s : Space) (low : class ≤ page_class) (i : InShape s) where
  abbrev head : ℕ
  head = first_freed class (lists_of s)

  abbrev end : ℕ
  end = pop_end class s.mark

  abbrev popping : Answer Pop
  popping = pop_free class end (lists_of s)

  -- None is freed: the block is a fresh one.
  fresh : head ≡ 0 → take_block class s ≡ take_fresh class s
  fresh e = told_none class s (answered_yes (λ (p : Pop). p.block) popping (pop_none class end (lists_of s) low e))

  -- It is a page.
  pub page_ahead : head ≡ 0 → class ≡ page_class → answered mark_after (take_block class s) ≡ mark_after_run (length s.body) s.mark 1
  page_ahead e z = ap (answered mark_after) (fresh e ∙ ap (λ (c : ℕ). take_fresh c s) z ∙ fresh_page s) ∙ run_marked 1 s i

  -- It is a slab.
  pub slab_ahead : head ≡ 0 → (class ≡ page_class → ⊥)
      → answered mark_after (take_block class s) ≡ mark_after_slab (length s.body) s.mark (slab_bytes class)
  slab_ahead e n = ap (answered mark_after) (fresh e ∙ fresh_slab class s n) ∙ slab_marked (slab_bytes class) s

  -- A freed one lies below the mark, so within the body.
  lower : min end (length s.body) ≡ end
  lower = min-eq_left (omega (arith, pop_below class s.mark, i.within))

  -- A freed one can stand there: the mark stays.
  pub popped_ahead : (head ≡ 0 → ⊥) → is_block class head end ≡ true → answered mark_after (take_block class s) ≡ accepted s.mark
  popped_ahead n e =
      let pop = pop_yes class end (lists_of s) low n (ap (is_block class head) lower ∙ e) in
      answered_yes mark_after _
      (told_block class s (heads_after popping s.free) (answered_yes (λ (p : Pop). p.block) popping pop) refl)

  -- Or it can't: 35.
  pub bad_ahead : (head ≡ 0 → ⊥) → is_block class head end ≡ false → answered mark_after (take_block class s) ≡ refused free_head_bad
  bad_ahead n e =
      let pop = pop_no class end (lists_of s) low n (ap (is_block class head) lower ∙ e) in
      answered_no mark_after _ (told_refused class s (answered_no (λ (p : Pop). p.block) popping pop))

  -- It is within the body.
  pub block_within : {mark : ℕ} → answered mark_after (take_block class s) ≡ accepted mark → mark ≤ length s.body
  block_within e =
      let (u, is, m) = was_accepted mark_after (take_block class s) e in
      let k = (take_took class s low i is).kept in
      omega (arith, m, k.shape.within, k.size)
