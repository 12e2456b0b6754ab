-- A slab that is taken lies below the end of slabs, so that its head word can tell its offset. Assumes nothing.
use Prim.Native.Nat.{ℕ, ◌+◌, ◌≤◌, min}
use mathlib.Core.Option.{Option, none, some}
use mathlib.Core.Path.{◌≡◌, refl, sym, subst, ◌∙◌}
use native.Mathlib.Nat.{min-le_left, min-le_right}
use native.Mathlib.Omega.{arith}
use borrow.Author.Tests.{ltb-false, ne_eqb}
use lib.ListN.{length}
use Rattle.error.specs.Refusal.{accepted}
use Rattle.error.proofs.LawsAnswer.{accepted_inj, passed, went_on}
use Rattle.scripthash_layout.specs.Sizes.{slab_bytes, max_slab_class, page_class}
use Rattle.scripthash_free.specs.FreeList.{Pop, pop_free}
use Rattle.scripthash_free.proofs.LawsBlock.{block_stands}
use Rattle.book_limits.specs.Limits.{slabs_end, pop_end}
use Rattle.book_space.specs.Space.{Space, lists_of, Taken, take_mark, take_slab, take_popped, take_block}
use Rattle.book_space.proofs.LawsLists.{Popped, popped}
use Rattle.book_space.proofs.LawsSteps.{fresh_slab}

-- A slab that is popped lies below the end of slabs.
pop_low : (class mark : ℕ) → class ≤ max_slab_class → pop_end class mark ≤ slabs_end
unfolding pop_end
pop_low class mark low = rw (ne_eqb class page_class (λ (z : class ≡ page_class). omega arith)) (min-le_right mark slabs_end)

module _ (class : ℕ) (s : Space) (low : class ≤ max_slab_class) where
  -- A fresh one.
  fresh_low : {t : Taken} → take_slab (slab_bytes class) s ≡ accepted t → t.off + slab_bytes class ≤ slabs_end
  unfolding take_slab take_mark
  fresh_low e =
      let (below, e1) = passed _ _ _ e in
      let (within, is) = passed _ _ _ e1 in
      subst (λ (x : Taken). x.off + slab_bytes class ≤ slabs_end) (accepted_inj is) (ltb-false slabs_end (s.mark + slab_bytes class) below)

  -- One after a pop.
  after_pop : {t : Taken} (p : Pop) → Popped class (pop_end class s.mark) (lists_of s) p → (o : Option ℕ) → p.block ≡ o
      → take_popped class s o p.heads ≡ accepted t → t.off + slab_bytes class ≤ slabs_end
  unfolding take_popped
  after_pop p q none b e = fresh_low (sym (fresh_slab class s (λ (z : class ≡ page_class). omega arith)) ∙ e)
  after_pop p q (some off) b e =
      let end = min (pop_end class s.mark) (length s.body) in
      let stands = block_stands class off end (q.block off b) in
      subst (λ (x : Taken). x.off + slab_bytes class ≤ slabs_end) (accepted_inj e)
      (omega (arith, stands.ends, min-le_left (pop_end class s.mark) (length s.body), pop_low class s.mark low))

  -- A slab that was taken.
  pub taken_low : {t : Taken} → take_block class s ≡ accepted t → t.off + slab_bytes class ≤ slabs_end
  unfolding take_block
  taken_low e =
      let w = went_on (pop_free class (pop_end class s.mark) (lists_of s)) (λ (p : Pop). take_popped class s p.block p.heads) e in
      after_pop w.0 (popped class (pop_end class s.mark) (lists_of s) w.1) w.0.block refl w.2
