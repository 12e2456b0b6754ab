-- Without a slab past the end of slabs a plain book stays so, whatever is called, and never refuses with 35. Assumes nothing.
use Prim.Native.Nat.{ℕ, zero, suc, ◌+◌, ◌%◌, ◌≤◌}
use mathlib.Core.Bool.{Bool, true, false, cond, not, ◌&&◌, false≢true}
use mathlib.Core.List.{List, [], ◌∷◌}
use mathlib.Core.Logic.{◌⊎◌, inl, inr, ⊎_elim}
use mathlib.Core.Path.{◌≡◌, refl, sym, ap, subst, ◌∙◌}
use native.Mathlib.Nat.{zero-add}
use native.Mathlib.Omega.{arith}
use lib.Dec.{eqb}
use lib.ListN.{length, get_or, set}
use borrow.Author.Tests.{le-ltb}
use Rattle.error.specs.Refusal.{Answer, accepted, refused, free_head_bad}
use Rattle.error.proofs.LawsAnswer.{passed}
use Rattle.scripthash_layout.specs.Sizes.{slab_bytes, page_class}
use Rattle.scripthash_free.specs.FreeList.{Block, Each, Within, gap_blocks}
use Rattle.scripthash_free.proofs.LawsBlock.{bytes_from_16}
use Rattle.scripthash_free.proofs.LawsGap.{gap_filled, adjoin_within, each_map}
use Rattle.book_limits.specs.Limits.{out_of_shape, slabs_end, past_slabs, gap_end}
use Rattle.book_limits.proofs.LawsLimits.{gap_end_lem}
use Rattle.free_runs.specs.Runs.{without_run}
use Rattle.book_rules.specs.declared.places.SlabFit.{SlabFit}
use Rattle.book_rules.specs.Outcomes.{book_after}
use Rattle.book_rules.proofs.LawsRules.{moves_to_lem, loads_to_lem}
use Rattle.book_statements.specs.Calls.{Change, load, append, drop, Made, Call}
use Rattle.book_statements.specs.Moves.{no_moves}
use Rattle.book_desks.specs.Desks.{Limits}
use Rattle.plain_book.specs.Space.{Space, stack_of, freed, freed_all, Taken, take_slab, rounded, run_at_mark, take_run, take_fresh}
use Rattle.plain_book.specs.Space.{take_from, take_block}
use Rattle.plain_book.specs.Key.{Page, Place, empty, inline, slab, pages, Key, freed_pages, freed_place, Placed}
use Rattle.plain_book.specs.Book.{Book, fresh, Outcome, key_of, does, answers}
use Rattle.plain_book.specs.Did.{LoadDid, loaded_none, loaded_one, loaded_slab, loaded_run, AppendDid, began, stayed, moved_slab}
use Rattle.plain_book.specs.Did.{moved_page}
use Rattle.plain_book.specs.Did.{joined_page, begun_page}
use Rattle.plain_book.specs.Good.{GoodPlain}
use Rattle.plain_book.specs.Low.{LowStack, LowPlace, LowSpace, LowSlabs, PastTop}
use Rattle.plain_book.specs.Refusals.{key_refusals, low_refusals, is_one_of, RefusedBy, EachRefusedBy}
use Rattle.plain_book.proofs.LawsHistory.{load_did, append_did, drop_did, fresh_key, KeptByCalls, kept_call, all_same}
use Rattle.plain_book.proofs.LawsTaking.{took_stack, took_mark, took_run}
use Rattle.plain_book.proofs.LawsSlabs.{taken_ends}
use Rattle.plain_book.proofs.LawsGood.{shape_kept, call_good}
use Rattle.plain_book.proofs.LawsRefusals.{ForCause, from_plain, change_by, enquiry_by, each_by, or_right, low_named, no_cause}

-- ---- one stack changes

-- An element of a list with one set is that one, or what it was.
set_either : {A : Type 0} (xs : List A) (i j : ℕ) (x d : A)
    → ((i ≡ j) × (get_or (set xs i x) j d ≡ x)) ⊎ (get_or (set xs i x) j d ≡ get_or xs j d)
set_either [] i j x d = inr refl
set_either (y ∷ ys) zero zero x d = inl (refl, refl)
set_either (y ∷ ys) zero (suc j) x d = inr refl
set_either (y ∷ ys) (suc i) zero x d = inr refl
set_either (y ∷ ys) (suc i) (suc j) x d =
    ⊎_elim (λ (same, e). inl (ap suc same, e)) (λ e. inr e) (set_either ys i j x d)

-- A space with another stack of a class, which is low.
low_stack : (s : Space) (class : ℕ) (os : List ℕ) (mark : ℕ) → LowStack class os → LowSpace s
    → LowSpace (record { mark = mark; stacks = set s.stacks class os })
low_stack s class os mark l h c =
    ⊎_elim (λ (same, e). rw e (subst (λ (k : ℕ). LowStack k os) same l)) (λ e. rw e (h c)) (set_either s.stacks class c os [])

-- A block that ends at or below the end of slabs isn't past it, and a page never is.
pub low_block : (class off : ℕ) → off + slab_bytes class ≤ slabs_end → past_slabs class off ≡ false
unfolding past_slabs
low_block class off h = rw (le-ltb slabs_end (off + slab_bytes class) h) (never (not (eqb class page_class)))
  where
    never : (t : Bool) → t && false ≡ false
    never true = refl
    never false = refl

page_low : (off : ℕ) → past_slabs page_class off ≡ false
unfolding past_slabs
page_low off = refl

-- A block is freed.
low_freed : (class off : ℕ) (s : Space) → past_slabs class off ≡ false → LowSpace s → LowSpace (freed class off s)
unfolding LowStack
low_freed class off s l h = low_stack s class (off ∷ stack_of class s) s.mark (l, h class) h

-- Blocks of a gap are.
low_all : (bs : List Block) (s : Space) → Each (λ b. past_slabs b.class b.off ≡ false) bs → LowSpace s → LowSpace (freed_all bs s)
unfolding Each freed_all
low_all [] s e h = h
low_all (b ∷ bs) s (l, e) h = low_all bs (freed b.class b.off s) e (low_freed b.class b.off s l h)

-- The gap's blocks end at or below the end of slabs.
gap_low : (mark : ℕ) → mark % 16 ≡ 0 → Each (λ b. past_slabs b.class b.off ≡ false) (gap_blocks mark (gap_end mark))
gap_low mark a =
    let to = gap_end_lem mark a in
    each_map (Within mark (gap_end mark)) _
    (λ b (from, ends). low_block b.class b.off
    (⊎_elim (λ (low : gap_end mark ≤ slabs_end). omega arith)
    (λ (none' : gap_end mark ≡ mark). absurd (let some' = bytes_from_16 b.class in omega arith)) to.low))
    (gap_blocks mark (gap_end mark))
    (adjoin_within mark (gap_blocks mark (gap_end mark)) (gap_end mark) (gap_filled mark (gap_end mark) to.from to.whole))

low_rounded : (s : Space) → s.mark % 16 ≡ 0 → LowSpace s → LowSpace (rounded s)
unfolding rounded
low_rounded s a h = low_all (gap_blocks s.mark (gap_end s.mark)) s (gap_low s.mark a) h

-- ---- takes

low_run_marked : (end n : ℕ) (s : Space) {t : Taken} → s.mark % 16 ≡ 0 → run_at_mark end n s ≡ accepted t → LowSpace s
    → LowSpace t.space
unfolding run_at_mark
low_run_marked end n s a e h = subst (λ (v : Taken). LowSpace v.space) (sym (took_mark end _ (rounded s) e)) (low_rounded s a h)

-- Freed pages are no slabs.
pages_low : (os : List ℕ) → LowStack page_class os
unfolding LowStack
pages_low [] = tt
pages_low (o ∷ os) = (page_low o, pages_low os)

low_run : (end n : ℕ) (s : Space) {t : Taken} → s.mark % 16 ≡ 0 → take_run end n s ≡ accepted t → LowSpace s → LowSpace t.space
low_run end n s a e h =
    ⊎_elim (λ (q, at_mark). low_run_marked end n s a at_mark h)
    (λ (off, q, is).
    subst (λ (v : Taken). LowSpace v.space) (sym is)
    (low_stack s page_class (without_run off n (stack_of page_class s)) s.mark (pages_low _) h))
    (took_run end n s e)

low_taken : (end class : ℕ) (s : Space) {t : Taken} → s.mark % 16 ≡ 0 → take_block end class s ≡ accepted t → LowSpace s
    → LowSpace t.space
unfolding take_from take_fresh take_slab LowStack
low_taken end class s {t} a e h = from_stack (stack_of class s) refl e
  where
    fresh_block : (b : Bool) → cond b (run_at_mark end 1 s) (take_slab end (slab_bytes class) s) ≡ accepted t → LowSpace t.space
    fresh_block true e = low_run_marked end 1 s a e h
    fresh_block false e =
        subst (λ (v : Taken). LowSpace v.space) (sym (took_mark end (slab_bytes class) s (passed _ _ _ e).1)) h

    from_stack : (os : List ℕ) → stack_of class s ≡ os → take_from end class os s ≡ accepted t → LowSpace t.space
    from_stack [] q e = fresh_block (eqb class page_class) e
    from_stack (o ∷ os) q e =
        let l : LowStack class (o ∷ os) = subst (LowStack class) q (h class) in
        subst (λ (v : Taken). LowSpace v.space) (sym (took_stack end class o os s e)) (low_stack s class os s.mark l.1 h)

-- A slab that is taken is low.
taken_low_slab : (end class : ℕ) (s : Space) {t : Taken} → class ≤ 7 → take_block end class s ≡ accepted t → past_slabs class t.off ≡ false
taken_low_slab end class s {t} c e = low_block class t.off (taken_ends end class s c e)

-- ---- a place given up

low_pages : (ps : List Page) (s : Space) → LowSpace s → LowSpace (freed_pages ps s)
unfolding freed_pages
low_pages [] s h = h
low_pages (p ∷ ps) s h = low_pages ps (freed page_class p.off s) (low_freed page_class p.off s (page_low p.off) h)

low_place : (place : Place) (s : Space) → LowPlace place → LowSpace s → LowSpace (freed_place place s)
unfolding freed_place
low_place empty s l h = h
low_place inline s l h = h
low_place (slab class off kept) s l h = low_freed class off s l h
low_place (pages ps) s l h = low_pages ps s h

-- ---- what a load or an append leaves

low_load : {fit : SlabFit} (end : ℕ) (s : Space) {ns : List ℕ} {p : Placed} → s.mark % 16 ≡ 0 → LoadDid fit end s ns p → LowSpace s
    → LowSpace p.space
low_load end s a loaded_none h = h
low_load end s a loaded_one h = h
low_load end s a (loaded_slab c t two q got) h = low_taken end c s a got h
low_load end s a (loaded_run t two q got) h = low_run end _ s a got h

load_low_place : {fit : SlabFit} (end : ℕ) (s : Space) {ns : List ℕ} {p : Placed} → LoadDid fit end s ns p → LowPlace p.place
load_low_place end s loaded_none = tt
load_low_place end s loaded_one = tt
load_low_place {fit} end s {ns} (loaded_slab c t two q got) =
    let (few, class, fits) = loads_to_lem fit (length ns) _ q in taken_low_slab end c s class got
load_low_place end s (loaded_run t two q got) = tt

low_append : (end held : ℕ) (list : List ℕ) (n : ℕ) (s : Space) {old : Place} {p : Placed} → s.mark % 16 ≡ 0 → LowPlace old
    → AppendDid end held list n s old p → LowSpace s → LowSpace p.space
low_append end held list n s a l began h = h
low_append end held list n s a l (stayed class off kept q) h = h
low_append end held list n s a l (moved_slab old c t out q got) h = low_place old t.space l (low_taken end c s a got h)
low_append end held list n s a l (moved_page old t out q got) h = low_place old t.space l (low_taken end page_class s a got h)
low_append end held list n s a l (joined_page ps q) h = h
low_append end held list n s a l (begun_page ps t q got) h = low_taken end page_class s a got h

append_low_place : (end held : ℕ) (list : List ℕ) (n : ℕ) (s : Space) {old : Place} {p : Placed} → LowPlace old
    → AppendDid end held list n s old p → LowPlace p.place
append_low_place end held list n s l began = tt
append_low_place end held list n s l (stayed class off kept q) = l
append_low_place end held list n s l (moved_slab old c t out q got) = let m = moves_to_lem (length list) _ q in taken_low_slab end c s
    m.slab got
append_low_place end held list n s l (moved_page old t out q got) = tt
append_low_place end held list n s l (joined_page ps q) = tt
append_low_place end held list n s l (begun_page ps t q got) = tt

-- ---- books

-- What every call keeps of a key: its slab is low.
places_kept : KeptByCalls (λ k t. LowPlace k.place)
places_kept =
    record {
      loads = λ fit end k ns s p t h f rises e. load_low_place end s e;
      appends = λ end k n s p t h rises low e. append_low_place end _ _ n s h e;
      drops = tt;
    }

-- A call leaves no freed slab past their end.
call_low_space : (b : Book) (c : Change) (a : Answer (Outcome (Made c))) → does b c ≡ a → GoodPlain b → LowSlabs b
    → LowSpace (book_after b a).space
unfolding does book_after
call_low_space b c (refused number) e g l = l.freed
call_low_space b (load fit key ns) (accepted o) e g l =
    let (p, within, free, rises, got, is) = load_did fit b key ns e in
    rw (ap (λ (x : Outcome _). x.book) is) (low_load b.size b.space g.space.aligned got l.freed)
call_low_space b (append key n) (accepted o) e g l =
    let (p, within, rises, low, got, is) = append_did b key n e in
    rw (ap (λ (x : Outcome _). x.book) is) (low_append b.size _ _ n b.space g.space.aligned (l.held key) got l.freed)
call_low_space b (drop key) (accepted o) e g l =
    let (within, is) = drop_did b key e in
    rw (ap (λ (x : Outcome _). x.book) is) (low_place (key_of key b).place b.space (l.held key) l.freed)

-- A call on a good book keeps it without a slab past their end.
pub low_kept : (b : Book) (c : Change) → GoodPlain b → LowSlabs b → LowSlabs (book_after b (does b c))
low_kept b c g l =
    record {
      freed = call_low_space b c (does b c) refl g l;
      held = λ key. kept_call (λ k t. LowPlace k.place) places_kept key b c no_moves (does b c) refl (l.held key);
    }

-- A fresh book has none.
pub low_fresh : (ds : List ℕ) (size heads : ℕ) (l : Limits) → LowSlabs (fresh ds size heads l)
unfolding LowStack
low_fresh ds size heads l =
    record {
      freed = λ class. subst (LowStack class) (sym (all_same [] 9 class)) tt;
      held = λ key. subst (λ (k : Key). LowPlace k.place) (sym (fresh_key ds size heads l key)) tt;
    }

-- ---- 35

-- What is refused with 35 only for a freed slab past their end isn't where there is none.
takes_low : (numbers : List ℕ) (named : (m : ℕ) → is_one_of m key_refusals ≡ true → is_one_of m numbers ≡ true) (b : Book) (c : Change)
    → ForCause numbers named b → LowSlabs b → RefusedBy numbers (does b c)
unfolding LowStack
takes_low numbers named b c cause l =
    change_by numbers named b c cause
    (λ class. from_plain numbers named b.size class (stack_of class b.space) b.space
    (λ o os is past. absurd (false≢true (sym (subst (LowStack class) is (l.freed class)).0 ∙ past))))

-- Its changes are never refused with 35.
pub change_low : (b : Book) (c : Change) → LowSlabs b → RefusedBy low_refusals (does b c)
unfolding is_one_of low_refusals
change_low b c l = takes_low low_refusals low_named b c (λ e. refl, λ e. refl) l

-- A good book in shape.
abbrev Shaped : Book → Type 0
Shaped b = GoodPlain b × (out_of_shape b.size (length b.keys) ≡ false)

-- It stays one.
shaped_kept : (b : Book) (c : Change) → Shaped b → Shaped (book_after b (does b c))
shaped_kept b c (g, shape) = let (size, keys, lent, limits) = shape_kept b c in (call_good c g, rw (size, keys) shape)

-- Numbers that good books in shape are refused with.
module _ (numbers : List ℕ) (named : (m : ℕ) → is_one_of m key_refusals ≡ true → is_one_of m numbers ≡ true) where
  shaped_cause : (b : Book) → Shaped b → ForCause numbers named b
  shaped_cause b (g, shape) = no_cause numbers named b shape g.desks.named

-- No call of a list on a good book in shape is refused with 1 or 39, nor with 35 where no slab ends past the end of slabs;
pub never_35 : (b : Book) (cs : List Call) → GoodPlain b → out_of_shape b.size (length b.keys) ≡ false → LowSlabs b
    → EachRefusedBy key_refusals (answers b cs)
never_35 b cs g shape l =
    each_by key_refusals (λ m e. e) (λ b. Shaped b × LowSlabs b) (λ b c (h, l). (shaped_kept b c h, low_kept b c h.0 l))
    (λ b c (h, l). takes_low key_refusals (λ m e. e) b c (shaped_cause key_refusals (λ m e. e) b h) l)
    (λ b q (h, l). enquiry_by key_refusals (λ m e. e) b q (shaped_cause key_refusals (λ m e. e) b h)) b cs ((g, shape), l)

-- else 35 is all that is met besides.
pub never_1 : (b : Book) (cs : List Call) → GoodPlain b → out_of_shape b.size (length b.keys) ≡ false
    → EachRefusedBy (free_head_bad ∷ key_refusals) (answers b cs)
unfolding is_one_of
never_1 b cs g shape =
    each_by (free_head_bad ∷ key_refusals) named Shaped shaped_kept
    (λ b c h. change_by (free_head_bad ∷ key_refusals) named b c (shaped_cause (free_head_bad ∷ key_refusals) named b h)
    (λ class. from_plain (free_head_bad ∷ key_refusals) named b.size class (stack_of class b.space) b.space (λ o os is past. refl)))
    (λ b q h. enquiry_by (free_head_bad ∷ key_refusals) named b q (shaped_cause (free_head_bad ∷ key_refusals) named b h)) b cs (g, shape)
  where
    named : (m : ℕ) → is_one_of m key_refusals ≡ true → is_one_of m (free_head_bad ∷ key_refusals) ≡ true
    named m e = rw e (or_right (eqb m free_head_bad))

-- Among some stacks, the first of which is of class k, one whose top is past the end of slabs.
record Found (st : List (List ℕ)) (k : ℕ) : Type 0 where
  class : ℕ
  off : ℕ
  rest : List ℕ
  top : get_or st class [] ≡ off ∷ rest
  past : past_slabs (k + class) off ≡ true

search_tops : (st : List (List ℕ)) (k : ℕ)
    → Found st k ⊎ ((class o : ℕ) (os : List ℕ) → get_or st class [] ≡ o ∷ os → past_slabs (k + class) o ≡ false)
search_tops [] k = inr (λ class o os e. absurd (let z : ◌≡◌ {A = ℕ} 0 1 = ap (λ (l : List ℕ). some_of l) e in omega arith))
  where
    some_of : List ℕ → ℕ
    some_of [] = 0
    some_of (o ∷ os) = 1
search_tops (xs ∷ st) k = here xs refl (search_tops st (k + 1))
  where
    behind : Found st (k + 1) → Found (xs ∷ st) k
    behind p =
        let same : k + 1 + p.class ≡ k + suc p.class = omega arith in
        record { class = suc p.class; off = p.off; rest = p.rest; top = p.top; past = rw (← same) p.past }

    all : ((o : ℕ) (os : List ℕ) → xs ≡ o ∷ os → past_slabs (k + 0) o ≡ false)
        → ((class o : ℕ) (os : List ℕ) → get_or st class [] ≡ o ∷ os → past_slabs (k + 1 + class) o ≡ false)
        → (class o : ℕ) (os : List ℕ) → get_or (xs ∷ st) class [] ≡ o ∷ os → past_slabs (k + class) o ≡ false
    all first others zero o os e = first o os e
    all first others (suc class) o os e =
        let same : k + 1 + class ≡ k + suc class = omega arith in rw (← same) (others class o os e)

    here : (ys : List ℕ) → xs ≡ ys
        → Found st (k + 1) ⊎ ((class o : ℕ) (os : List ℕ) → get_or st class [] ≡ o ∷ os → past_slabs (k + 1 + class) o ≡ false)
        → Found (xs ∷ st) k ⊎ ((class o : ℕ) (os : List ℕ) → get_or (xs ∷ st) class [] ≡ o ∷ os → past_slabs (k + class) o ≡ false)
    here ys is (inl p) = inl (behind p)
    here [] is (inr others) = inr (all (λ o os e. absurd (let z : ◌≡◌ {A = ℕ} 0 1 = cc in omega arith)) others)
    here (y ∷ ys) is (inr others) = go (past_slabs (k + 0) y) refl
      where
        go : (t : Bool) → past_slabs (k + 0) y ≡ t
            → Found (xs ∷ st) k ⊎ ((class o : ℕ) (os : List ℕ) → get_or (xs ∷ st) class [] ≡ o ∷ os → past_slabs (k + class) o ≡ false)
        go true e = inl (record { class = 0; off = y; rest = ys; top = is; past = e })
        go false e = inr (all (λ o os f. (let same : y ≡ o = cc in subst (λ (x : ℕ). past_slabs (k + 0) x ≡ false) same e)) others)

-- A change is refused with 35 only where such a slab is the first of its class.
pub only_35 : (b : Book) (c : Change) → does b c ≡ refused free_head_bad → PastTop b.space
unfolding is_one_of low_refusals key_refusals RefusedBy
only_35 b c e =
    ⊎_elim (λ p. record { class = p.class; off = p.off; rest = p.rest; top = p.top; past = rw (zero-add p.class) at p.past })
    (λ (low : (class o : ℕ) (os : List ℕ) → stack_of class b.space ≡ o ∷ os → past_slabs (0 + class) o ≡ false).
    absurd (false≢true (subst (RefusedBy low_refusals) e
    (change_by low_refusals low_named b c (λ e. refl, λ e. refl)
    (λ class. from_plain low_refusals low_named b.size class (stack_of class b.space) b.space
    (λ o os is past.
    absurd (false≢true (sym (rw (zero-add class) at (low class o os is)) ∙ past))))))))
    (search_tops b.space.stacks 0)
