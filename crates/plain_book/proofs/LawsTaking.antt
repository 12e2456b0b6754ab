-- Who has which block after a take: the gap before a page carved, a block in hand, and a run of pages for a key. Assumes nothing.
use Prim.Native.Nat.{ℕ, zero, suc, ◌+◌, ◌*◌, ◌%◌, ◌≤◌, ◌<◌}
use mathlib.Core.Bool.{Bool, true, false, cond}
use mathlib.Core.List.{List, [], ◌∷◌}
use mathlib.Core.Logic.{◌⊎◌, inl, inr, ⊎_elim, ◌≢◌}
use mathlib.Core.Option.{Option, none, some}
use mathlib.Core.Path.{◌≡◌, refl, sym, ap, subst, ◌∙◌}
use native.Mathlib.Nat.{eq-or-lt_of_le}
use native.Mathlib.Omega.{arith}
use lib.Dec.{eqb}
use lib.ListN.{length, length-set}
use borrow.Author.Tests.{eqb-true, eqb-false}
use Rattle.error.specs.Refusal.{accepted}
use Rattle.error.proofs.LawsAnswer.{accepted_inj, passed}
use Rattle.scripthash_layout.specs.Sizes.{slab_bytes, page_class, page_size}
use Rattle.scripthash_free.specs.FreeList.{Block, is_block, Adjoin, Each, IsSlab, gap_blocks}
use Rattle.scripthash_free.proofs.LawsBlock.{stands_block, slab_stands}
use Rattle.scripthash_free.proofs.LawsGap.{gap_filled, gap_slabs}
use Rattle.free_runs.specs.Runs.{lowest}
use Rattle.book_limits.specs.Limits.{page_after, past_slabs, gap_end}
use Rattle.book_limits.proofs.LawsLimits.{gap_end_lem}
use Rattle.plain_book.specs.Space.{Space, stack_of, freed, freed_all, Taken, take_mark, take_slab, rounded, take_fresh, take_from}
use Rattle.plain_book.specs.Space.{take_block, run_at_mark, run_freed, take_found, take_run}
use Rattle.plain_book.specs.Key.{Place, pages, run_pages}
use Rattle.plain_book.specs.Owners.{Owner, hand, stack, slab_of, page_of, page_no, has, RunClear}
use Rattle.plain_book.specs.Good.{Good}
use Rattle.plain_book.proofs.LawsApart.{apart_raised, apart_added, apart_run}
use Rattle.plain_book.proofs.LawsOwners.{some_inj, none_some, below_top, with_stack, changed_has, bytes_aligned, good_popped}
use Rattle.plain_book.proofs.LawsOwners.{good_marked, at_key, key_slab, key_page}

-- ---- carving the gap before a page

-- A block at the mark goes onto its stack, and the mark passes it.
pub good_carved_one : (s : Space) (at : ℕ → Place) (held : Option Block) (class off : ℕ) → off ≡ s.mark → class ≤ 7 → Good s at held
    → Good (record { mark = s.mark + slab_bytes class; stacks = (freed class off s).stacks }) at held
unfolding has
good_carved_one s at held class off is c g =
    let n = g.nine in
    record {
      nine = length-set s.stacks class (off ∷ stack_of class s) ∙ g.nine;
      aligned = bytes_aligned s.mark class g.aligned;
      from = omega (arith, g.from);
      apart = apart_added _ _ s.mark (s.mark + slab_bytes class) (stack class (length (stack_of class s)))
          (record { class = class; off = off }) (omega arith) (omega arith)
          (slab_stands class off (s.mark + slab_bytes class) c (rw is g.aligned) (omega (arith, g.from)) (omega arith)) to g.apart;
    }
  where
    in_nine : class < length s.stacks
    in_nine = let n = g.nine in omega arith

    to : (w : Owner) (x : Block) → has (record { mark = s.mark + slab_bytes class; stacks = (freed class off s).stacks }) at held w ≡ some x
        → ((w ≡ stack class (length (stack_of class s))) × (x ≡ record { class = class; off = off })) ⊎ (has s at held w ≡ some x)
    to hand x e = inr e
    to (slab_of k) x e = inr e
    to (page_of k i) x e = inr e
    to (stack c' d) x e =
        ⊎_elim
        (λ (depth, q, found).
        ⊎_elim
        (λ (top, block). inl (q ∙ ap (stack class) top, block))
        (λ (n, under). inr (subst (λ (v : Owner). has s at held v ≡ some x) (sym q) under))
        (below_top class depth off (stack_of class s) x found))
        (λ (n, found). inr found)
        (changed_has s class (off ∷ stack_of class s) in_nine at held (stack c' d) x e)

-- What is freed doesn't depend on the mark.
pub freed_stacks : (bs : List Block) (m m' : ℕ) (st : List (List ℕ))
    → (freed_all bs (record { mark = m; stacks = st })).stacks ≡ (freed_all bs (record { mark = m'; stacks = st })).stacks
unfolding freed_all
freed_stacks [] m m' st = refl
freed_stacks (b ∷ bs) m m' st = freed_stacks bs m m' _

-- Blocks side by side from the mark on are freed, and the mark passes them.
pub good_carved : (bs : List Block) (s : Space) (at : ℕ → Place) (held : Option Block) (end : ℕ) → Adjoin s.mark bs end
    → Each (IsSlab end) bs → Good s at held
    → Good (record { mark = end; stacks = (freed_all bs s).stacks }) at held
unfolding Adjoin Each freed_all
good_carved [] s at held end a e g = subst (λ (m : ℕ). Good (record { mark = m; stacks = s.stacks }) at held) a g
good_carved (b ∷ bs) s at held end (is, a) (b7, e) g =
    let one = good_carved_one s at held b.class b.off is b7.0 g in
    let all = good_carved bs (record { mark = s.mark + slab_bytes b.class; stacks = (freed b.class b.off s).stacks })
    at held end a e one in
    subst (λ (st : List (List ℕ)). Good (record { mark = end; stacks = st }) at held)
    (freed_stacks bs (s.mark + slab_bytes b.class) s.mark (freed b.class b.off s).stacks)
    all

-- The mark rises, with no block on a list.
pub good_raised : (s : Space) (at : ℕ → Place) (held : Option Block) (m : ℕ) → s.mark ≤ m → m % 16 ≡ 0 → Good s at held
    → Good (record { mark = m; stacks = s.stacks }) at held
unfolding has
good_raised s at held m up a g =
    record {
      nine = g.nine;
      aligned = a;
      from = omega (arith, g.from);
      apart = apart_raised _ _ s.mark m up same g.apart;
    }
  where
    same : (w : Owner) (x : Block) → has (record { mark = m; stacks = s.stacks }) at held w ≡ some x → has s at held w ≡ some x
    same hand x e = e
    same (stack c d) x e = e
    same (slab_of k) x e = e
    same (page_of k i) x e = e

-- The mark rounded up to a page: the gap's blocks are freed, save past the end of slabs.
pub good_rounded : (s : Space) (at : ℕ → Place) (held : Option Block) → Good s at held → Good (rounded s) at held
unfolding rounded
good_rounded s at held g =
    let to = gap_end_lem s.mark g.aligned in
    let filled = good_carved (gap_blocks s.mark (gap_end s.mark)) s at held (gap_end s.mark)
    (gap_filled s.mark (gap_end s.mark) to.from to.whole)
    (gap_slabs s.mark (gap_end s.mark) (gap_end s.mark) to.from
    (record { aligned = g.aligned; begins = g.from; ends = omega arith }))
    g in
    good_raised _ at held (page_after s.mark) to.within (omega arith) filled

-- A page at a multiple of 4,096 can stand there.
pub page_stands : (off end : ℕ) → off % 4096 ≡ 0 → 4096 ≤ off → off + 4096 ≤ end → is_block page_class off end ≡ true
page_stands off end a b e = stands_block page_class off end (record { class_to_8 = omega arith; aligned = a; begins = b; ends = e })

-- ---- a block is taken

-- What a take gave, from a stack and from the mark.
pub took_stack : (end class o : ℕ) (os : List ℕ) (s : Space) {t : Taken} → take_from end class (o ∷ os) s ≡ accepted t
    → t ≡ record { off = o; space = with_stack class os s }
unfolding take_from
took_stack end class o os s e = sym (accepted_inj (passed (past_slabs class o) _ _ e).1)

pub took_mark : (end bytes : ℕ) (s : Space) {t : Taken} → take_mark end bytes s ≡ accepted t
    → t ≡ record { off = s.mark; space = record { mark = s.mark + bytes; stacks = s.stacks } }
unfolding take_mark
took_mark end bytes s e = sym (accepted_inj (passed _ _ _ e).1)

-- What the run of a load gave: a run at the mark, or, where a stretch was found, that one.
pub took_run : (end n : ℕ) (s : Space) {t : Taken} → take_run end n s ≡ accepted t
    → ((lowest n (stack_of page_class s) ≡ none) × (run_at_mark end n s ≡ accepted t))
    ⊎ ((off : ℕ) × (lowest n (stack_of page_class s) ≡ some off) × (t ≡ run_freed off n s))
unfolding take_found
took_run end n s {t} e = go (lowest n (stack_of page_class s)) refl e
  where
    go : (found : Option ℕ) → lowest n (stack_of page_class s) ≡ found → take_found end n s found ≡ accepted t
        → ((lowest n (stack_of page_class s) ≡ none) × (run_at_mark end n s ≡ accepted t))
        ⊎ ((off : ℕ) × (lowest n (stack_of page_class s) ≡ some off) × (t ≡ run_freed off n s))
    go none q e = inl (q, e)
    go (some off) q e = inr (off, q, sym (accepted_inj e))

-- What is in hand after a take.
abbrev pub InHand : (ℕ → Place) → ℕ → Taken → Type 0
InHand at class t = Good t.space at (some (record { class = class; off = t.off }))

-- The mark rounded up lies at a multiple of a page.
pub rounded_mark : (s : Space) → (rounded s).mark % 4096 ≡ 0
unfolding rounded
rounded_mark s = omega arith

-- A page from the mark, and a slab.
pub good_fresh_page : (end : ℕ) (s : Space) (at : ℕ → Place) {t : Taken} → run_at_mark end 1 s ≡ accepted t → Good s at none
    → InHand at page_class t
unfolding run_at_mark
good_fresh_page end s at e g =
    let r = good_rounded s at none g in
    let b : is_block page_class (rounded s).mark ((rounded s).mark + slab_bytes page_class) ≡ true =
    page_stands (rounded s).mark ((rounded s).mark + slab_bytes page_class) (rounded_mark s) r.from (omega arith) in
    subst (InHand at page_class) (sym (took_mark end (1 * page_size) (rounded s) e)) (good_marked (rounded s) at page_class b r)

pub good_fresh_slab : (end class : ℕ) (s : Space) (at : ℕ → Place) {t : Taken} → class ≤ 7 → take_mark end (slab_bytes class) s ≡ accepted t
    → Good s at none → InHand at class t
good_fresh_slab end class s at c e g =
    subst (InHand at class) (sym (took_mark end (slab_bytes class) s e))
    (good_marked s at class (slab_stands class s.mark (s.mark + slab_bytes class) c g.aligned g.from (omega arith)) g)

-- A class that is no page's is a slab's.
pub slab_class : (class : ℕ) → class ≤ 8 → class ≢ 8 → class ≤ 7
slab_class class c n = ⊎_elim (λ e. absurd (n e)) (λ l. omega arith) (eq-or-lt_of_le c)

-- A block of a class is taken.
pub good_taken : (end class : ℕ) (s : Space) (at : ℕ → Place) {t : Taken} → class ≤ 8 → take_block end class s ≡ accepted t → Good s at none
    → InHand at class t
unfolding take_from take_fresh take_slab
good_taken end class s at {t} c e g = from_stack (stack_of class s) refl e
  where
    fresh : (b : Bool) → eqb class page_class ≡ b → cond b (run_at_mark end 1 s) (take_slab end (slab_bytes class) s) ≡ accepted t
        → InHand at class t
    fresh true q e = subst (λ (k : ℕ). InHand at k t) (sym (eqb-true class page_class q)) (good_fresh_page end s at e g)
    fresh false q e = let n = eqb-false class page_class q in good_fresh_slab end class s at (slab_class class c n) (passed _ _ _ e).1 g

    from_stack : (os : List ℕ) → stack_of class s ≡ os → take_from end class os s ≡ accepted t → InHand at class t
    from_stack (o ∷ os) q e = subst (InHand at class) (sym (took_stack end class o os s e)) (good_popped s at class o os c q g)
    from_stack [] q e = fresh (eqb class page_class) refl e

-- ---- a run of pages is taken for a key

pub run_at : (i off : ℕ) (parts : List (List ℕ)) (x : Block) → page_no i (run_pages off parts) ≡ some x
    → (x ≡ record { class = page_class; off = off + i * page_size }) × (i < length parts)
unfolding page_no run_pages
run_at i off [] x e = absurd (none_some e)
run_at zero off (p ∷ []) x e = (sym (some_inj e) ∙ ap (λ (o : ℕ). record { class = page_class; off = o }) (omega arith), omega arith)
run_at (suc i) off (p ∷ []) x e = absurd (none_some e)
run_at zero off (p ∷ q ∷ ps) x e = (sym (some_inj e) ∙ ap (λ (o : ℕ). record { class = page_class; off = o }) (omega arith), omega arith)
run_at (suc i) off (p ∷ q ∷ ps) x e =
    let (is, l) = run_at i (off + page_size) (q ∷ ps) x e in
    (is ∙ ap (λ (o : ℕ). record { class = page_class; off = o }) (omega arith), omega arith)

-- A run that is nobody's becomes a key's pages.
pub good_run_clear : (s : Space) (at : ℕ → Place) (key off : ℕ) (parts : List (List ℕ)) → Good s at none
    → RunClear s.mark off (length parts) (has s at none) → Good s (at_key key (pages (run_pages off parts)) at) none
unfolding has
good_run_clear s at key off parts g r =
    record {
      nine = g.nine;
      aligned = g.aligned;
      from = g.from;
      apart = apart_run _ _ s.mark off (length parts) page_size page_class (page_of key) refl
          (λ i l. page_stands (off + i * page_size) s.mark (omega (arith, r.aligned)) (omega (arith, r.from)) (omega (arith, r.below)))
          r.clear to g.apart;
    }
  where
    to : (w : Owner) (x : Block) → has s (at_key key (pages (run_pages off parts)) at) none w ≡ some x
        → ((i : ℕ) × (w ≡ page_of key i) × (x ≡ record { class = page_class; off = off + i * page_size }) × (i < length parts))
        ⊎ (has s at none w ≡ some x)
    to hand x e = inr e
    to (stack c d) x e = inr e
    to (slab_of j) x e = ⊎_elim (λ (is, f). absurd (none_some f)) (λ (n, f). inr f) (key_slab key (pages (run_pages off parts)) at j x e)
    to (page_of j i) x e =
        ⊎_elim
        (λ (is, f). let (block, l) = run_at i off parts x f in inl (i, ap (λ (k : ℕ). page_of k i) is, block, l))
        (λ (n, f). inr f)
        (key_page key (pages (run_pages off parts)) at j i x e)
