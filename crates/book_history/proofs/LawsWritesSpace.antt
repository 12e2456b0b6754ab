-- What the parts of calls change in a space is what they name: blocks freed, taken and filled. By cases on the tests.
use Prim.Native.Nat.{ℕ, ◌+◌, ◌*◌, ◌≤◌, ◌<◌}
use mathlib.Core.Bool.{Bool, true, false, cond}
use mathlib.Core.List.{List, [], ◌∷◌, ◌++◌}
use mathlib.Core.Logic.{inl, inr, ⊎_elim}
use mathlib.Core.Path.{◌≡◌, refl, ap, subst, ◌∙◌}
use native.Mathlib.Omega.{arith}
use borrow.Author.Tests.{le-ltb}
use lib.Dec.{eqb}
use lib.ListN.{length, get_or}
use Rattle.book_limits.proofs.LawsLimits.{gap_end_lem}
use Rattle.error.specs.Refusal.{accepted, and_then}
use Rattle.error.proofs.LawsAnswer.{accepted_inj, passed, went_on, neither}
use Rattle.buffer.specs.Bytes.{part, overwrite}
use Rattle.buffer.specs.LittleEndian.{bytes_of}
use Rattle.buffer.proofs.LawsBytes.{length_overwrite}
use Rattle.scripthash_layout.specs.Sizes.{slab_bytes, page_class, page_size}
use Rattle.scripthash_free.specs.FreeList.{Lists, first_freed, next_of, Block, Pop, pushed, push_all, gap_blocks, pop_free, Each, Within}
use Rattle.scripthash_free.proofs.LawsBlock.{bytes_from_16, block_stands}
use Rattle.scripthash_free.proofs.LawsGap.{each_map, gap_filled, adjoin_within}
use Rattle.scripthash_free.proofs.LawsFreeList.{length_pushed}
use Rattle.scripthash_cutting.specs.Cutting.{page_room, last_page_room, Fit}
use Rattle.book_limits.specs.Limits.{page_after, gap_end}
use Rattle.book_space.specs.Space.{Space, space, lists_of, InShape, Taken, take_mark, rounded, take_fresh, take_popped, take_block}
use Rattle.book_space.specs.Space.{run_at_mark, take_slab, release}
use Rattle.book_space.specs.Desks.{TakenFor}
use Rattle.book_space.proofs.LawsDesks.{taken}
use Rattle.book_space.proofs.LawsTake.{take_took}
use Rattle.book_blocks.specs.Blocks.{last_page_of, page_to, write_run}
use Rattle.book_blocks.proofs.LawsWrites.{length_last_page, length_page_to}
use Rattle.book.specs.Book.{filled}
use Rattle.book_history.specs.Writes.{Region, region, Outside, Only, SpaceWrites, nothing, bytes_at, free_head, the_mark, both, freeing}
use Rattle.book_history.specs.Writes.{freeing_all, taking_pages, taking, filling, Wrote}
use Rattle.book_history.proofs.LawsOnly.{outside_of, outside_both, only_same, only_then, only_set, only_written, only_bytes}
use Rattle.book_history.proofs.LawsOnly.{only_covered, shifted, only_part}

-- A space differs in nothing from itself.
pub wrote_same : (n : SpaceWrites) (s : Space) → Wrote n s s
wrote_same n s = record {
  body = only_same n.body s.body;
  free = only_same n.free s.free;
  mark = λ e. refl;
  rises =
      omega arith;
}

-- One part of a call after another.
pub wrote_then : {m n : SpaceWrites} {s t u : Space} → Wrote m s t → Wrote n t u → Wrote (both m n) s u
unfolding both
wrote_then {m} {n} v w = record {
  body = only_then v.body w.body;
  free = only_then v.free w.free;
  mark = λ e. let p = neither m.mark n.mark e in w.mark p.1 ∙ v.mark p.0;
  rises = omega arith;
}

-- Outside of regions, in another order.
outside_swapped : (ms xs ys : List Region) (i : ℕ) → Outside ((ms ++ ys) ++ xs) i → Outside (ms ++ (xs ++ ys)) i
outside_swapped ms xs ys i h =
    let p = outside_of (ms ++ ys) xs i h in
    let q = outside_of ms ys i p.0 in
    outside_both ms (xs ++ ys) i q.0 (outside_both xs ys i p.1 q.1)

-- Three parts of a call, of which the one in between is named last.
pub wrote_between : {m x y : SpaceWrites} {s t u v : Space} → Wrote m s t → Wrote x t u → Wrote y u v → Wrote (both (both m y) x) s v
unfolding both
wrote_between {m} {x} {y} a b c = record {
  body = only_covered (outside_swapped m.body x.body y.body) (only_then a.body (only_then b.body c.body));
  free = only_covered (outside_swapped m.free x.free y.free) (only_then a.free (only_then b.free c.free));
  mark = λ e. let p = neither _ x.mark e in let q = neither m.mark y.mark p.0 in
      c.mark q.1 ∙ b.mark p.1 ∙ a.mark q.0;
  rises = omega arith;
}

-- Bytes of the body are overwritten.
pub wrote_bytes : (s : Space) (off len : ℕ) (ys : List ℕ) → length ys ≡ len → off + len ≤ length s.body
    → Wrote (bytes_at off len) s (space (overwrite s.body off ys) s.mark s.free)
wrote_bytes s off len ys e fits = record {
  body = only_bytes s.body off len ys e fits;
  free = only_same [] s.free;
  mark = λ z. refl;
  rises = omega arith;
}

-- A part of the body is overwritten by what differs from it in some regions only.
pub wrote_part : (s : Space) (off len : ℕ) (block : List ℕ) (rs : List Region) → off + len ≤ length s.body
    → Only rs (part s.body off len) block
    → Wrote (record { body = shifted off rs; free = []; mark = false }) s (space (overwrite s.body off block) s.mark s.free)
wrote_part s off len block rs fits o = record {
  body = only_part s.body off len block rs fits o;
  free = only_same [] s.free;
  mark = λ z. refl;
  rises = omega arith;
}

-- ---- freed

-- A block that is freed, with its first 8 bytes within the body.
wrote_freed : (mark : ℕ) (x : Block) (l : Lists) → x.off + 8 ≤ length l.body
    → Wrote (freeing x) (space l.body mark l.heads)
    (space (pushed x.class x.off l).body mark (pushed x.class x.off l).heads)
unfolding both pushed
wrote_freed mark x l h = record {
  body = only_written l.body x.off (bytes_of 8 (first_freed x.class l)) h [];
  free = only_set [] l.heads x.class x.off;
  mark = λ e. refl;
  rises = omega arith;
}

-- Blocks that are freed so.
wrote_pushed : (size mark : ℕ) (xs : List Block) (l : Lists) → Each (λ x. x.off + 8 ≤ size) xs → length l.body ≡ size
    → Wrote (freeing_all xs) (space l.body mark l.heads) (space (push_all xs l).body mark (push_all xs l).heads)
unfolding push_all Each freeing_all
wrote_pushed size mark [] l e z = wrote_same nothing (space l.body mark l.heads)
wrote_pushed size mark (x ∷ xs) l e z =
    let fits : x.off + 8 ≤ length l.body = omega (arith, e.0) in
    wrote_then (wrote_freed mark x l fits) (wrote_pushed size mark xs (pushed x.class x.off l) e.1
    (length_pushed x.class x.off l fits ∙ z))

-- Blocks that end within the body are given back.
pub wrote_released : (xs : List Block) (s : Space) → Each (Within 0 (length s.body)) xs → Wrote (freeing_all xs) s (release xs s)
unfolding release
wrote_released xs s e =
    let size = length s.body in
    wrote_pushed size s.mark xs (lists_of s)
    (each_map (Within 0 size) (λ x. x.off + 8 ≤ size) (λ x h. omega (arith, bytes_from_16 x.class, h.1)) xs e) refl

-- ---- taken

-- The mark rises.
wrote_rises : (body free : List ℕ) (mark later : ℕ) → mark ≤ later → Wrote the_mark (space body mark free) (space body later free)
wrote_rises body free mark later h = record {
  body = only_same [] body;
  free = only_same [] free;
  mark = λ z. let w : ◌≡◌ {A = ℕ} 0 1 = cc in absurd (omega arith);
  rises = h;
}

-- Bytes taken at the mark.
wrote_mark : (bytes : ℕ) (s : Space) {t : Taken} → take_mark bytes s ≡ accepted t → Wrote the_mark s t.space
unfolding take_mark
wrote_mark bytes s e =
    subst (λ (t : Taken). Wrote the_mark s t.space) (accepted_inj (passed _ _ _ e).1)
    (wrote_rises s.body s.free s.mark (s.mark + bytes) (omega arith))

-- A run of pages taken at the mark: the blocks of the gap are freed, then the mark rises.
pub wrote_run : (pages : ℕ) (s : Space) {t : Taken} → InShape s → run_at_mark pages s ≡ accepted t → Wrote (taking_pages s) s t.space
unfolding run_at_mark take_mark rounded taking_pages
wrote_run pages s i e =
    let to = gap_end s.mark in
    let ends = gap_end_lem s.mark i.aligned in
    let size = length s.body in
    let gap = adjoin_within s.mark (gap_blocks s.mark to) to (gap_filled s.mark to ends.from ends.whole) in
    let carved = wrote_pushed size s.mark (gap_blocks s.mark to) (lists_of s)
    (each_map (Within s.mark to) (λ x. x.off + 8 ≤ size)
    (λ x h. omega (arith, bytes_from_16 x.class, h.1, ends.within, i.within, i.paged))
    (gap_blocks s.mark to) gap) refl in
    let r = rounded s in
    subst (λ (t : Taken). Wrote (taking_pages s) s t.space) (accepted_inj (passed _ _ _ e).1)
    (wrote_then carved (wrote_rises r.body r.free s.mark (page_after s.mark + pages * page_size) (omega arith)))

-- A block of a class 0 to 8, taken from a space in shape.
module _ (class : ℕ) (s : Space) (small : class ≤ page_class) (i : InShape s) where
  -- A fresh one.
  fresh_wrote : (page : Bool) {t : Taken} → cond page (run_at_mark 1 s) (take_slab (slab_bytes class) s) ≡ accepted t
      → Wrote (cond page (taking_pages s) the_mark) s t.space
  unfolding take_slab
  fresh_wrote true e = wrote_run 1 s i e
  fresh_wrote false e = wrote_mark (slab_bytes class) s (passed _ _ _ e).1

  -- A block, by whether the class's free head is 0.
  took_wrote : (none_there : Bool) {t : Taken} → eqb (get_or s.free class 0) 0 ≡ none_there → take_block class s ≡ accepted t
      → Wrote (cond none_there (cond (eqb class page_class) (taking_pages s) the_mark) (free_head class)) s t.space
  unfolding take_block pop_free take_popped take_fresh and_then
  took_wrote true z e = fresh_wrote (eqb class page_class) (rw (le-ltb page_class class small, z) at e)
  took_wrote false z e =
      let p = went_on _ _ (rw (le-ltb page_class class small, z) at e) in
      let q = passed _ _ _ p.1 in
      subst (λ (t : Taken). Wrote (free_head class) s t.space)
      (accepted_inj (ap (λ (x : Pop). take_popped class s x.block x.heads) (accepted_inj q.1) ∙ p.2))
      (record {
        body = only_same [] s.body;
        free = only_set [] s.free class (next_of s.body (get_or s.free class 0));
        mark =
            λ w. refl;
        rises = omega arith;
      })

  -- A block.
  pub wrote_took : {t : Taken} → take_block class s ≡ accepted t → Wrote (taking class s) s t.space
  unfolding taking
  wrote_took e = took_wrote (eqb (get_or s.free class 0) 0) refl e

  -- A block whose first bytes are then filled.
  pub wrote_filled : (len : ℕ) (ys : List ℕ) (t : TakenFor) → length ys ≡ len → len ≤ slab_bytes class
      → take_block class s ≡ accepted (taken t)
      → Wrote (filling class len s) s (filled t ys)
  unfolding filling
  wrote_filled len ys t long fits e =
      let took = take_took class s small i e in
      let ends = (block_stands class t.off t.space.mark took.stands).ends in
      let within = took.kept.shape.within in
      rw e (wrote_then (wrote_took e) (wrote_bytes t.space t.off len ys long (omega arith)))

-- ---- a run

-- The pages of a run lie side by side.
pub only_run : (start count creates : ℕ) (body : List ℕ) (off : ℕ) (parts : List (List ℕ)) → Fit last_page_room page_room parts
    → off + length parts * page_size ≤ length body
    → Only (region off (length parts * page_size) ∷ []) body (write_run start count creates body off parts)
unfolding write_run Fit Outside
only_run start count creates body off [] f h = only_same _ body
only_run start count creates body off (p ∷ []) f h =
    let page = length_last_page start start count creates p f.1 in
    only_covered (λ i o. (⊎_elim (λ (l : i < off). inl l) (λ (l : off + 1 * page_size ≤ i). inr (omega arith)) o.0, tt))
    (only_written body off (last_page_of start start count creates p) (omega arith) [])
only_run start count creates body off (p ∷ q ∷ ps) f h =
    let first = page_to (off + page_size) p in
    let page = length_page_to (off + page_size) p f.1 in
    let one = length_overwrite body off first (omega arith) in
    let rest = only_run start count creates (overwrite body off first) (off + page_size) (q ∷ ps) f.2 (omega arith) in
    only_covered
    (λ i o. (
      ⊎_elim (λ (l : i < off). inl l) (λ (l : off + length (p ∷ q ∷ ps) * page_size ≤ i). inr (omega arith)) o.0,
      (⊎_elim (λ (l : i < off). inl (omega arith)) (λ (l : off + length (p ∷ q ∷ ps) * page_size ≤ i). inr (omega arith)) o.0, tt),
    ))
    (only_then (only_written body off first (omega arith) []) rest)
