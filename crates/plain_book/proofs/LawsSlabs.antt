-- Slabs that are taken end at or below the end of slabs. Assumes nothing.
use Prim.Native.Nat.{ℕ, ◌+◌, ◌≤◌, ◌<◌}
use mathlib.Core.Bool.{Bool, true, false, cond, false≢true}
use mathlib.Core.List.{List, [], ◌∷◌}
use mathlib.Core.Path.{◌≡◌, sym, ap, subst}
use native.Mathlib.Omega.{arith}
use lib.Dec.{eqb}
use borrow.Author.Tests.{ltb-false, ne_eqb}
use Rattle.error.specs.Refusal.{accepted}
use Rattle.error.proofs.LawsAnswer.{passed, accepted_inj}
use Rattle.scripthash_layout.specs.Sizes.{slab_bytes, max_slab_class, page_class}
use Rattle.scripthash_free.proofs.LawsBlock.{bytes_from_16}
use Rattle.book_limits.specs.Limits.{slabs_end, past_slabs}
use Rattle.plain_book.specs.Space.{Space, stack_of, Taken, take_mark, take_slab, run_at_mark, take_fresh, take_from, take_block}

-- What is taken at the mark begins there.
marked_off : (end bytes : ℕ) (s : Space) {t : Taken} → take_mark end bytes s ≡ accepted t → t.off ≡ s.mark
unfolding take_mark
marked_off end bytes s e = ap (λ (v : Taken). v.off) (sym (accepted_inj (passed _ _ _ e).1))

-- A slab that is taken ends at or below the end of slabs.
pub taken_ends : (end class : ℕ) (s : Space) {t : Taken} → class ≤ max_slab_class → take_block end class s ≡ accepted t
    → t.off + slab_bytes class ≤ slabs_end
unfolding take_from take_fresh take_slab past_slabs
taken_ends end class s {t} c e = from_stack (stack_of class s) e
  where
    no_page_lem : eqb class page_class ≡ false
    no_page_lem = ne_eqb class page_class (λ (z : class ≡ page_class). omega arith)

    fresh_slab : (b : Bool) → b ≡ false → cond b (run_at_mark end 1 s) (take_slab end (slab_bytes class) s) ≡ accepted t
        → t.off + slab_bytes class ≤ slabs_end
    fresh_slab true q e = absurd (false≢true (sym q))
    fresh_slab false q e =
        let (low, is) = passed _ _ _ e in
        let ends = ltb-false slabs_end (s.mark + slab_bytes class) low in
        omega (arith, ends, marked_off end (slab_bytes class) s is)

    from_stack : (os : List ℕ) → take_from end class os s ≡ accepted t → t.off + slab_bytes class ≤ slabs_end
    from_stack (o ∷ os) e =
        let (low, is) = passed _ _ _ e in
        let ends = ltb-false slabs_end (o + slab_bytes class) (rw no_page_lem at low) in
        subst (λ (v : Taken). v.off + slab_bytes class ≤ slabs_end) (accepted_inj is) ends
    from_stack [] e = fresh_slab (eqb class page_class) no_page_lem e

-- So its head word can tell its offset.
pub taken_low : (end class : ℕ) (s : Space) {t : Taken} → class ≤ max_slab_class → take_block end class s ≡ accepted t → t.off < slabs_end
taken_low end class s c e = omega (arith, taken_ends end class s c e, bytes_from_16 class)
