-- What takes and releases promise of the space afterwards. By cases on the tests, over the laws of each step.
use Prim.Native.Nat.{ℕ, ◌+◌, ◌*◌, ◌%◌, ◌≤◌, ◌<◌, min}
use mathlib.Core.Bool.{true}
use mathlib.Core.List.{List, [], ◌∷◌}
use mathlib.Core.Logic.{◌⊎◌, inl, ⊎_elim}
use mathlib.Core.Option.{Option, none, some}
use mathlib.Core.Path.{◌≡◌, refl, ap, sym, subst, ◌∙◌}
use native.Mathlib.Nat.{eq-or-lt_of_le}
use native.Mathlib.Omega.{arith}
use borrow.Author.Tests.{ltb-false}
use lib.ListN.{length}
use Rattle.error.specs.Refusal.{accepted, refused, no_room}
use Rattle.error.proofs.LawsAnswer.{accepted_inj, passed, went_on}
use Rattle.buffer.specs.Bytes.{part}
use Rattle.scripthash_layout.specs.Sizes.{slab_bytes, page_class, page_size}
use Rattle.scripthash_layout.specs.Head.{payload_start}
use Rattle.scripthash_free.specs.FreeList.{Lists, Block, Pop, is_block, is_gap, gap_blocks, carve_gap, push_all, pop_free, lists_after, Each}
use Rattle.scripthash_free.specs.FreeList.{Within}
use Rattle.scripthash_free.proofs.LawsBlock.{block_stands, stands_block, slab_stands, lies_gap}
use Rattle.scripthash_free.proofs.LawsFree.{after_accepted, carve_yes}
use Rattle.scripthash_free.proofs.LawsGap.{gap_filled, adjoin_within, each_map}
use Rattle.book_limits.specs.Limits.{page_after, gap_end, pop_end}
use Rattle.book_limits.proofs.LawsLimits.{GapTo, gap_end_lem, pop_below}
use Rattle.book_space.specs.Space.{Space, space, lists_of, InShape, Taken, take_mark, take_slab, rounded, run_at_mark, take_fresh}
use Rattle.book_space.specs.Space.{take_popped, take_block, release}
use Rattle.book_space.proofs.LawsLists.{heads_stay, size_stays, outside_stays, stands_further, Popped, popped}
use Rattle.book_space.proofs.LawsSteps.{mark_yes, mark_no, fresh_page, fresh_slab}

-- What stays of a space in which blocks are taken: it is in shape, and as long, with as many free heads; its mark doesn't fall, and what
-- lies below the mark before is untouched.
pub record Kept (s t : Space) : Type 0 where
  pub shape : InShape t
  pub size : length t.body ≡ length s.body
  pub heads : length t.free ≡ length s.free
  pub rises : s.mark ≤ t.mark
  pub below : (o n : ℕ) → o + n ≤ s.mark → part t.body o n ≡ part s.body o n

-- What stays in two steps stays.
pub kept_on : {s t u : Space} → Kept s t → Kept t u → Kept s u
kept_on j k = record {
  shape = k.shape;
  size = k.size ∙ j.size;
  heads = k.heads ∙ j.heads;
  rises = omega arith;
  below = λ o n h. k.below o n (omega arith) ∙ j.below o n h;
}

-- A space as long as one in shape is, with a mark that is aligned, no lower, and within the body, is in shape.
pub shape_stays : (s t : Space) → InShape s → length t.body ≡ length s.body → t.mark % 16 ≡ 0 → s.mark ≤ t.mark
    → t.mark ≤ length t.body → InShape t
shape_stays s t i size aligned rises within = record {
  paged = rw size i.paged;
  least = omega arith;
  most = omega arith;
  aligned = aligned;
  begins = omega arith;
  within = within;
}

-- The gap between the mark of a space in shape and the page after it.
module _ (s : Space) (i : InShape s) where
  -- It ends within the body.
  pub gap_ends : page_after s.mark ≤ length s.body
  gap_ends = omega arith

  -- So does what is carved of it.
  to : GapTo s.mark (gap_end s.mark)
  to = gap_end_lem s.mark i.aligned

  gap_below : gap_end s.mark ≤ length s.body
  gap_below = omega (arith, to.within, gap_ends)

  -- It can be carved.
  pub gap_carves : is_gap s.mark (gap_end s.mark) (length s.body) ≡ true
  gap_carves = lies_gap s.mark (gap_end s.mark) (length s.body)
      (record { aligned = i.aligned; begins = i.begins; ends = gap_below })

  -- Its blocks lie in it.
  gap_within : Each (Within s.mark (gap_end s.mark)) (gap_blocks s.mark (gap_end s.mark))
  gap_within =
      adjoin_within s.mark (gap_blocks s.mark (gap_end s.mark)) (gap_end s.mark)
      (gap_filled s.mark (gap_end s.mark) to.from to.whole)

  -- Rounding the mark up keeps the space.
  pub rounded_kept : Kept s (rounded s)
  unfolding rounded
  rounded_kept =
      let bs = gap_blocks s.mark (gap_end s.mark) in
      let size = size_stays s.mark (gap_end s.mark) bs (lists_of s) gap_within gap_below in
      record {
        shape = shape_stays s (rounded s) i size (omega arith) (omega arith) (omega (arith, gap_ends));
        size = size;
        heads = heads_stay bs (lists_of s);
        rises = omega arith;
        below = λ o n h. outside_stays s.mark (gap_end s.mark) bs (lists_of s) gap_within gap_below o n (inl h);
      }

-- The mark after rounding.
pub rounded_mark : (s : Space) → (rounded s).mark ≡ page_after s.mark
unfolding rounded
rounded_mark s = refl

-- A run of pages at the mark of a space in shape, rounded up.
module _ (pages : ℕ) (s : Space) (i : InShape s) where
  -- One that fits is taken, with the free lists after carving the gap.
  pub run_yes : (l : Lists) → l ≡ lists_after (carve_gap s.mark (gap_end s.mark) (lists_of s)) (lists_of s)
      → page_after s.mark + pages * page_size ≤ length s.body
      → run_at_mark pages s ≡ accepted
      (record { off = page_after s.mark; space = space l.body (page_after s.mark + pages * page_size) l.heads })
  unfolding run_at_mark rounded
  run_yes l e h =
      let r = rounded_kept s i in
      let carved = e ∙ after_accepted _ (lists_of s) (carve_yes s.mark (gap_end s.mark) (lists_of s) (gap_carves s i)) in
      rw carved (mark_yes (pages * page_size) (rounded s) (omega (arith, r.size)))

  -- One that would pass the body's end is refused.
  pub run_no : length s.body < page_after s.mark + pages * page_size → run_at_mark pages s ≡ refused no_room
  unfolding run_at_mark rounded
  run_no h = let r = rounded_kept s i in mark_no (pages * page_size) (rounded s) (omega (arith, r.size))

-- Bytes that were taken at the mark fit.
mark_taken : (bytes : ℕ) (s : Space) {t : Taken} → take_mark bytes s ≡ accepted t
    → (s.mark + bytes ≤ length s.body) × (record { off = s.mark; space = space s.body (s.mark + bytes) s.free } ≡ t)
unfolding take_mark
mark_taken bytes s e = let p = passed _ _ _ e in (ltb-false _ _ p.0, accepted_inj p.1)

-- Taking a multiple of 16 bytes at the mark keeps the space.
mark_kept : (bytes : ℕ) (s : Space) {t : Taken} → InShape s → bytes % 16 ≡ 0 → take_mark bytes s ≡ accepted t → Kept s t.space
mark_kept bytes s i aligned e =
    let m = mark_taken bytes s e in
    let moved = space s.body (s.mark + bytes) s.free in
    subst (λ (x : Taken). Kept s x.space) m.1
    (record {
      shape = shape_stays s moved i refl (omega arith) (omega arith) m.0;
      size = refl;
      heads = refl;
      rises = omega arith;
      below = λ o n h. refl;
    })

-- What a run that was taken promises: what stays, where it begins and ends, and that each of its pages can stand there.
pub record Ran (pages : ℕ) (s : Space) (t : Taken) : Type 0 where
  pub kept : Kept s t.space
  pub begins : t.off ≡ page_after s.mark
  pub ends : t.space.mark ≡ t.off + pages * page_size
  pub stands : (k : ℕ) → k < pages → is_block page_class (t.off + k * page_size) t.space.mark ≡ true

-- A page at a multiple of 4,096 from 4,096 on, that ends at or below an end, can stand there.
page_stands : (off end : ℕ) → off % page_size ≡ 0 → payload_start ≤ off → off + page_size ≤ end → is_block page_class off end ≡ true
page_stands off end aligned begins ends =
    stands_block page_class off end (record { class_to_8 = omega arith; aligned = aligned; begins = begins; ends = ends })

-- A run that is taken from a space in shape promises that.
pub run_ran : (pages : ℕ) (s : Space) {t : Taken} → InShape s → run_at_mark pages s ≡ accepted t → Ran pages s t
unfolding run_at_mark
run_ran pages s {t} i e =
    let r = rounded_kept s i in
    let m = mark_taken (pages * page_size) (rounded s) e in
    let begins : t.off ≡ page_after s.mark = ap (λ (x : Taken). x.off) (sym m.1) ∙ rounded_mark s in
    let ends : t.space.mark ≡ t.off + pages * page_size
    = ap (λ (x : Taken). x.space.mark) (sym m.1) ∙ ap (λ (x : Taken). x.off + pages * page_size) m.1 in
    let low = i.begins in
    record {
      kept = kept_on r (mark_kept (pages * page_size) (rounded s) r.shape (omega arith) e);
      begins = begins;
      ends = ends;
      stands = λ k h. page_stands (t.off + k * page_size) t.space.mark (omega arith) (omega arith) (omega arith);
    }

-- What a block that was taken promises: what stays, and that it can stand below the mark.
pub record Took (class : ℕ) (s : Space) (t : Taken) : Type 0 where
  pub kept : Kept s t.space
  pub stands : is_block class t.off t.space.mark ≡ true

-- A block of a class taken from a space in shape.
module _ (class : ℕ) (s : Space) (small : class ≤ page_class) (i : InShape s) where
  -- A fresh slab.
  slab_took : {t : Taken} → class < page_class → take_slab (slab_bytes class) s ≡ accepted t → Took class s t
  unfolding take_slab
  slab_took less e' =
      let e = (passed _ _ _ e').1 in
      let m = mark_taken (slab_bytes class) s e in
      record {
        kept = mark_kept (slab_bytes class) s i (omega arith) e;
        stands = subst (λ (x : Taken). is_block class x.off x.space.mark ≡ true) m.1
            (slab_stands class s.mark (s.mark + slab_bytes class) (omega arith) i.aligned i.begins (omega arith));
      }

  -- A fresh page.
  page_took : {t : Taken} → class ≡ page_class → run_at_mark 1 s ≡ accepted t → Took class s t
  page_took {t} z e =
      let r = run_ran 1 s i e in
      let here : t.off + 0 * page_size ≡ t.off = omega arith in
      let page : is_block page_class t.off t.space.mark ≡ true
      = subst (λ (o : ℕ). is_block page_class o t.space.mark ≡ true) here (r.stands 0 (omega arith)) in
      record { kept = r.kept; stands = subst (λ (c : ℕ). is_block c t.off t.space.mark ≡ true) (sym z) page }

  -- A fresh block.
  fresh_took : {t : Taken} → take_fresh class s ≡ accepted t → Took class s t
  fresh_took {t} e =
      ⊎_elim
      (λ (z : class ≡ page_class). page_took z (sym (fresh_page s) ∙ ap (λ (c : ℕ). take_fresh c s) (sym z) ∙ e))
      (λ (less : class < page_class). slab_took less (sym (fresh_slab class s (λ z. omega arith)) ∙ e))
      (eq-or-lt_of_le small)

  -- A block after a pop.
  popped_took : {t : Taken} (p : Pop) → Popped class (pop_end class s.mark) (lists_of s) p → (o : Option ℕ) → p.block ≡ o
      → take_popped class s o p.heads ≡ accepted t → Took class s t
  unfolding take_popped
  popped_took p q none b e = fresh_took e
  popped_took p q (some off) b e =
      let moved = space s.body s.mark p.heads in
      subst (λ (x : Taken). Took class s x) (accepted_inj e)
      (record {
        kept = record {
          shape = shape_stays s moved i refl i.aligned (omega arith) i.within;
          size = refl;
          heads = q.heads;
          rises = omega arith;
          below = λ o n h. refl;
        };
        stands = stands_further class off (min (pop_end class s.mark) (length s.body)) s.mark
            (omega (arith, pop_below class s.mark)) (q.block off b);
      })

  -- A block.
  pub take_took : {t : Taken} → take_block class s ≡ accepted t → Took class s t
  unfolding take_block
  take_took e =
      let w = went_on (pop_free class (pop_end class s.mark) (lists_of s)) (λ (p : Pop). take_popped class s p.block p.heads) e in
      popped_took w.0 (popped class (pop_end class s.mark) (lists_of s) w.1) w.0.block refl w.2

-- ---- giving back

-- None given back changes nothing.
pub release_none : (s : Space) → release [] s ≡ s
unfolding release push_all
release_none s = refl

-- A block that stands within a space's body.
abbrev pub InBody : Space → Block → Type 0
InBody s b = is_block b.class b.off (length s.body) ≡ true

-- Blocks given back one after the other: the first, and then the others.
pub release_first : (b : Block) (bs : List Block) (s : Space) → release (b ∷ bs) s ≡ release bs (release (b ∷ []) s)
unfolding release push_all
release_first b bs s = refl

-- Blocks given back that stand within the body.
module _ (bs : List Block) (s : Space) where
  -- The mark stays.
  pub release_mark : (release bs s).mark ≡ s.mark
  unfolding release
  release_mark = refl

  -- The number of free heads stays.
  pub release_heads : length (release bs s).free ≡ length s.free
  unfolding release
  release_heads = heads_stay bs (lists_of s)

  -- The length stays.
  pub release_size : Each (InBody s) bs → length (release bs s).body ≡ length s.body
  unfolding release
  release_size e =
      size_stays 0 (length s.body) bs (lists_of s)
      (each_map (InBody s) (Within 0 (length s.body)) (λ b h. let t = block_stands _ _ _ h in (omega arith, t.ends)) bs e) (omega arith)

  -- The space stays in shape.
  pub release_shape : Each (InBody s) bs → InShape s → InShape (release bs s)
  release_shape e i =
      let size = release_size e in
      let mark = release_mark in
      shape_stays s (release bs s) i size (rw mark i.aligned) (omega arith) (omega arith)

  -- What lies outside of two offsets between which the blocks are stays.
  pub release_outside : (lo hi : ℕ) → Each (Within lo hi) bs → hi ≤ length s.body → (o n : ℕ) → (o + n ≤ lo) ⊎ (hi ≤ o)
      → part (release bs s).body o n ≡ part s.body o n
  unfolding release
  release_outside lo hi e h o n apart = outside_stays lo hi bs (lists_of s) e h o n apart
