-- After any list of calls on a fresh plain book, with a body that has room for the first page, the mark is within the body. Assumes
-- nothing.
use Prim.Native.Nat.{ℕ, ◌+◌, ◌*◌, ◌≤◌}
use mathlib.Core.Bool.{Bool, true, false, cond}
use mathlib.Core.List.{List, [], ◌∷◌}
use mathlib.Core.Logic.{inl, inr, ⊎_elim}
use mathlib.Core.Path.{◌≡◌, refl, sym, ap, subst}
use native.Mathlib.Omega.{arith}
use lib.Dec.{eqb}
use lib.ListN.{length}
use borrow.Author.Tests.{ltb-false}
use Rattle.error.specs.Refusal.{Answer, accepted, refused}
use Rattle.error.proofs.LawsAnswer.{accepted_inj, passed}
use Rattle.scripthash_layout.specs.Sizes.{slab_bytes, page_class, page_size}
use Rattle.scripthash_cutting.specs.Cutting.{cutting}
use Rattle.book_rules.specs.declared.places.SlabFit.{SlabFit}
use Rattle.book_rules.specs.Outcomes.{book_after}
use Rattle.book_statements.specs.Calls.{Change, load, append, drop, Made, Call}
use Rattle.book_limits.specs.Limits.{slabs_end, past_slabs}
use Rattle.plain_book.specs.Space.{Space, stack_of, Taken, take_mark, take_slab, rounded, take_fresh, take_from, take_block, take_run}
use Rattle.plain_book.specs.Space.{run_at_mark}
use Rattle.plain_book.specs.Key.{Page, Place, empty, inline, slab, pages, freed_pages, freed_place, Placed}
use Rattle.plain_book.specs.Book.{Book, fresh, Outcome, does, after, key_of, serves}
use Rattle.plain_book.specs.Filled.{MarkWhole}
use Rattle.plain_book.specs.Did.{LoadDid, loaded_none, loaded_one, loaded_slab, loaded_run, AppendDid, began, stayed, moved_slab}
use Rattle.plain_book.specs.Did.{moved_page, joined_page, begun_page}
use Rattle.book_statements.proofs.LawsCalls.{calls_keep}
use Rattle.book_desks.specs.Desks.{Limits}
use Rattle.plain_book.proofs.LawsHistory.{load_did, append_did, drop_did}
use Rattle.plain_book.proofs.LawsTaking.{took_run}

-- Freeing leaves the mark.
pages_mark : (ps : List Page) (s : Space) → (freed_pages ps s).mark ≡ s.mark
unfolding freed_pages
pages_mark [] s = refl
pages_mark (p ∷ ps) s = pages_mark ps _

place_mark : (p : Place) (s : Space) → (freed_place p s).mark ≡ s.mark
unfolding freed_place
place_mark empty s = refl
place_mark inline s = refl
place_mark (slab class off kept) s = refl
place_mark (pages ps) s = pages_mark ps s

-- What is taken at the mark ends within the body.
marked_within : (end bytes : ℕ) (s : Space) {t : Taken} → take_mark end bytes s ≡ accepted t → t.space.mark ≤ end
unfolding take_mark
marked_within end bytes s e =
    let (room, is) = passed _ _ _ e in
    subst (λ (v : Taken). v.space.mark ≤ end) (accepted_inj is) (ltb-false end (s.mark + bytes) room)

-- A slab at the mark is taken there.
slab_marked : (end bytes : ℕ) (s : Space) {t : Taken} → take_slab end bytes s ≡ accepted t → take_mark end bytes s ≡ accepted t
unfolding take_slab
slab_marked end bytes s e = (passed _ _ _ e).1

-- So is the mark after a block is taken, where it was.
taken_within : (end class : ℕ) (s : Space) {t : Taken} → take_block end class s ≡ accepted t → s.mark ≤ end → t.space.mark ≤ end
unfolding take_from take_fresh run_at_mark
taken_within end class s {t} e h = from_stack (stack_of class s) e
  where
    fresh_block : (b : Bool) → cond b (take_mark end (1 * page_size) (rounded s)) (take_slab end (slab_bytes class) s) ≡ accepted t
        → t.space.mark ≤ end
    fresh_block true e = marked_within end (1 * page_size) (rounded s) e
    fresh_block false e = marked_within end (slab_bytes class) s (slab_marked end (slab_bytes class) s e)

    from_stack : (os : List ℕ) → take_from end class os s ≡ accepted t → t.space.mark ≤ end
    from_stack (o ∷ os) e = subst (λ (v : Taken). v.space.mark ≤ end) (accepted_inj (passed (past_slabs class o) _ _ e).1) h
    from_stack [] e = fresh_block (eqb class page_class) e

-- And after a run.
run_within : (end n : ℕ) (s : Space) {t : Taken} → take_run end n s ≡ accepted t → s.mark ≤ end → t.space.mark ≤ end
unfolding run_at_mark
run_within end n s e h =
    ⊎_elim (λ (q, at_mark). marked_within end (n * page_size) (rounded s) at_mark)
    (λ (off, q, is). subst (λ (v : Taken). v.space.mark ≤ end) (sym is) h)
    (took_run end n s e)

-- The mark that an append or a load leaves.
abbrev Within : ℕ → Placed → Type 0
Within end p = p.space.mark ≤ end

append_within : (end held : ℕ) (list : List ℕ) (n : ℕ) (s : Space) {old : Place} {p : Placed} → s.mark ≤ end
    → AppendDid end held list n s old p → Within end p
append_within end held list n s h began = h
append_within end held list n s h (stayed class off kept q) = h
append_within end held list n s h (moved_slab old c t out q got) = rw (place_mark old t.space) (taken_within end c s got h)
append_within end held list n s h (moved_page old t out q got) = rw (place_mark old t.space) (taken_within end page_class s got h)
append_within end held list n s h (joined_page ps q) = h
append_within end held list n s h (begun_page ps t q got) = taken_within end page_class s got h

load_within : {fit : SlabFit} (end : ℕ) (s : Space) {ns : List ℕ} {p : Placed} → s.mark ≤ end → LoadDid fit end s ns p → Within end p
load_within end s h loaded_none = h
load_within end s h loaded_one = h
load_within end s h (loaded_slab c t two q got) = taken_within end c s got h
load_within end s {ns} h (loaded_run t two q got) = run_within end (length (cutting ns)) s got h

-- A call leaves the body's length, and the mark within it.
abbrev pub Inside : ℕ → Book → Type 0
Inside size b = (b.size ≡ size) × (b.space.mark ≤ size)

pub call_inside : (size : ℕ) (b : Book) (c : Change) (a : Answer (Outcome (Made c))) → does b c ≡ a → Inside size b
    → Inside size (book_after b a)
unfolding does book_after
call_inside size b c (refused number) e h = h
call_inside size b (load fit key ns) (accepted o) e (s, m) =
    let (p, within, free, rises, got, is) = load_did fit b key ns e in
    rw (ap (λ (x : Outcome _). x.book) is) (s, rw (← s) (load_within b.size b.space (rw s m) got))
call_inside size b (append key n) (accepted o) e (s, m) =
    let (p, within, rises, low, got, is) = append_did b key n e in
    rw (ap (λ (x : Outcome _). x.book) is) (s, rw (← s) (append_within b.size _ _ n b.space (rw s m) got))
call_inside size b (drop key) (accepted o) e (s, m) =
    let (within, is) = drop_did b key e in
    rw (ap (λ (x : Outcome _). x.book) is) (s, rw (place_mark (key_of key b).place b.space) m)

-- Take any book whose mark is within the body and any list of calls: it is so afterwards.
pub mark_from : (b : Book) (cs : List Call) → b.space.mark ≤ b.size → (after b cs).space.mark ≤ b.size
mark_from b cs h = (calls_keep serves (Inside b.size) (λ b' c i. call_inside b.size b' c (does b' c) refl i) b cs (refl, h)).1

-- So it is after any list of calls on a fresh book.
pub mark_within : (ds : List ℕ) (size heads : ℕ) (l : Limits) (cs : List Call) → 4096 ≤ size
    → (after (fresh ds size heads l) cs).space.mark ≤ size
mark_within ds size heads l cs h = mark_from (fresh ds size heads l) cs h

-- ---- where the mark stands

-- What is taken as a slab leaves the mark at or below the end of slabs, and what is taken as pages leaves it at a page.
slab_whole : (end bytes : ℕ) (s : Space) {t : Taken} → take_slab end bytes s ≡ accepted t → MarkWhole t.space.mark
unfolding take_slab take_mark
slab_whole end bytes s e =
    let (low, e1) = passed _ _ _ e in
    let (room, is) = passed _ _ _ e1 in
    subst (λ (v : Taken). MarkWhole v.space.mark) (accepted_inj is) (inl (ltb-false slabs_end (s.mark + bytes) low))

mark_run_whole : (end n : ℕ) (s : Space) {t : Taken} → run_at_mark end n s ≡ accepted t → MarkWhole t.space.mark
unfolding run_at_mark take_mark rounded
mark_run_whole end n s e =
    let (room, is) = passed _ _ _ e in
    subst (λ (v : Taken). MarkWhole v.space.mark) (accepted_inj is) (inr (omega arith))

-- A run out of the freed pages leaves the mark where it was.
run_whole : (end n : ℕ) (s : Space) {t : Taken} → take_run end n s ≡ accepted t → MarkWhole s.mark → MarkWhole t.space.mark
run_whole end n s e h =
    ⊎_elim (λ (q, at_mark). mark_run_whole end n s at_mark)
    (λ (off, q, is). subst (λ (v : Taken). MarkWhole v.space.mark) (sym is) h)
    (took_run end n s e)

taken_whole : (end class : ℕ) (s : Space) {t : Taken} → take_block end class s ≡ accepted t → MarkWhole s.mark
    → MarkWhole t.space.mark
unfolding take_from take_fresh
taken_whole end class s {t} e h = from_stack (stack_of class s) e
  where
    fresh_block : (b : Bool) → cond b (run_at_mark end 1 s) (take_slab end (slab_bytes class) s) ≡ accepted t → MarkWhole t.space.mark
    fresh_block true e = mark_run_whole end 1 s e
    fresh_block false e = slab_whole end (slab_bytes class) s e

    from_stack : (os : List ℕ) → take_from end class os s ≡ accepted t → MarkWhole t.space.mark
    from_stack (o ∷ os) e = subst (λ (v : Taken). MarkWhole v.space.mark) (accepted_inj (passed (past_slabs class o) _ _ e).1) h
    from_stack [] e = fresh_block (eqb class page_class) e

append_whole : (end held : ℕ) (list : List ℕ) (n : ℕ) (s : Space) {old : Place} {p : Placed} → MarkWhole s.mark
    → AppendDid end held list n s old p → MarkWhole p.space.mark
append_whole end held list n s h began = h
append_whole end held list n s h (stayed class off kept q) = h
append_whole end held list n s h (moved_slab old c t out q got) = rw (place_mark old t.space) (taken_whole end c s got h)
append_whole end held list n s h (moved_page old t out q got) = rw (place_mark old t.space) (taken_whole end page_class s got h)
append_whole end held list n s h (joined_page ps q) = h
append_whole end held list n s h (begun_page ps t q got) = taken_whole end page_class s got h

load_whole : {fit : SlabFit} (end : ℕ) (s : Space) {ns : List ℕ} {p : Placed} → MarkWhole s.mark → LoadDid fit end s ns p
    → MarkWhole p.space.mark
load_whole end s h loaded_none = h
load_whole end s h loaded_one = h
load_whole end s h (loaded_slab c t two q got) = taken_whole end c s got h
load_whole end s {ns} h (loaded_run t two q got) = run_whole end (length (cutting ns)) s got h

-- A call that skips no bytes leaves the mark so.
pub call_whole : (b : Book) (c : Change) (a : Answer (Outcome (Made c))) → does b c ≡ a → MarkWhole b.space.mark
    → MarkWhole (book_after b a).space.mark
unfolding does book_after
call_whole b c (refused number) e h = h
call_whole b (load fit key ns) (accepted o) e h =
    let (p, within, free, rises, got, is) = load_did fit b key ns e in
    rw (ap (λ (x : Outcome _). x.book) is) (load_whole b.size b.space h got)
call_whole b (append key n) (accepted o) e h =
    let (p, within, rises, low, got, is) = append_did b key n e in
    rw (ap (λ (x : Outcome _). x.book) is) (append_whole b.size _ _ n b.space h got)
call_whole b (drop key) (accepted o) e h =
    let (within, is) = drop_did b key e in
    rw (ap (λ (x : Outcome _). x.book) is, place_mark (key_of key b).place b.space) h
