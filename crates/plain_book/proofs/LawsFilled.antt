-- Nothing is leaked: after any list of calls on a fresh plain book the blocks of its keys and stacks fill it from 4,096 up to the mark.
-- Assumes nothing.
use Prim.Native.Nat.{ℕ, zero, suc, ◌+◌, ◌*◌, ◌%◌, ◌≤◌, ◌<◌}
use mathlib.Core.Bool.{Bool, true, false, cond, false≢true}
use mathlib.Core.List.{List, [], ◌∷◌, ◌++◌}
use mathlib.Core.Logic.{inl, ⊎_elim}
use mathlib.Core.Option.{none, some}
use mathlib.Core.Path.{◌≡◌, refl, sym, ap, subst, ◌∙◌}
use native.Mathlib.Omega.{arith}
use lib.Dec.{eqb, leb}
use lib.ListN.{length, get_or, set, replicate, length-set}
use borrow.Author.Tests.{eqb-true, leb-false}
use Rattle.error.specs.Refusal.{Answer, accepted, refused}
use Rattle.error.proofs.LawsAnswer.{passed}
use Rattle.scripthash_layout.specs.Sizes.{slab_bytes, page_class, page_size}
use Rattle.scripthash_stream.specs.Stream.{stream_len}
use Rattle.scripthash_cutting.specs.Cutting.{cutting, replace_last}
use Rattle.scripthash_free.specs.FreeList.{Block, Adjoin, Each, IsSlab, gap_blocks}
use Rattle.scripthash_free.proofs.LawsGap.{gap_filled, gap_slabs}
use Rattle.free_runs.specs.Runs.{lowest, without_run}
use Rattle.book_rules.specs.declared.places.SlabFit.{SlabFit}
use Rattle.book_rules.specs.Outcomes.{book_after}
use Rattle.book_statements.specs.Calls.{Change, load, append, drop, Made, Call}
use Rattle.book_limits.specs.Limits.{slabs_end, page_after}
use Rattle.book_rules.proofs.LawsRules.{moves_to_lem, loads_to_lem}
use Rattle.book_statements.proofs.LawsCalls.{calls_keep}
use Rattle.book_desks.specs.Desks.{Limits}
use Rattle.plain_book.specs.Space.{Space, stack_of, freed, freed_all, Taken, take_slab, rounded, take_run, take_fresh, take_from}
use Rattle.plain_book.specs.Space.{take_block, run_at_mark, run_freed}
use Rattle.plain_book.specs.Key.{Key, empty_key, Page, Place, empty, inline, slab, pages, freed_pages, freed_place, Placed, written}
use Rattle.plain_book.specs.Key.{key_in}
use Rattle.plain_book.specs.Key.{longer_page, run_pages}
use Rattle.plain_book.specs.Book.{Book, fresh, makes, Outcome, with_key, in_use, does, after, serves}
use Rattle.plain_book.specs.Owners.{places}
use Rattle.plain_book.specs.Sound.{Fits}
use Rattle.plain_book.specs.Good.{Good, GoodPlain}
use Rattle.plain_book.specs.Filled.{bytes_in, bytes_held, bytes_on_stack, bytes_freed, Fills, Filled, MarkWhole}
use Rattle.plain_book.specs.Did.{LoadDid, loaded_none, loaded_one, loaded_slab, loaded_run, AppendDid, began, stayed, moved_slab}
use Rattle.plain_book.specs.Did.{moved_page, joined_page, begun_page}
use Rattle.plain_book.proofs.LawsHistory.{load_did, append_did, drop_did}
use Rattle.plain_book.proofs.LawsOwners.{with_stack}
use Rattle.plain_book.proofs.LawsTaking.{took_stack, took_mark, took_run, freed_stacks}
use Rattle.plain_book.proofs.LawsRunFreed.{run_count, cutting_some}
use Rattle.plain_book.proofs.LawsGood.{fresh_good, call_good}
use Rattle.plain_book.proofs.LawsMark.{call_whole}

-- ---- one stack, and one key, changes

stack_changed : (k c : ℕ) (st : List (List ℕ)) (class : ℕ) (os : List ℕ) → c ≡ k + class → class < length st
    → bytes_freed k (set st class os) + bytes_on_stack c (get_or st class []) ≡ bytes_freed k st + bytes_on_stack c os
unfolding bytes_freed
stack_changed k c [] class os is l = absurd (omega arith)
stack_changed k c (xs ∷ st) zero os is l =
    let z : c ≡ k = omega arith in
    rw z (omega arith)
stack_changed k c (xs ∷ st) (suc class) os is l =
    let rest = stack_changed (k + 1) c st class os (omega arith) (omega arith) in
    omega arith

key_changed : (ks : List Key) (key : ℕ) (k : Key) → key < length ks
    → bytes_held (set ks key k) + bytes_in (get_or ks key empty_key).place ≡ bytes_held ks + bytes_in k.place
unfolding bytes_held
key_changed [] key k l = absurd (omega arith)
key_changed (x ∷ ks) zero k l = omega arith
key_changed (x ∷ ks) (suc key) k l = let rest = key_changed ks key k (omega arith) in omega arith

-- ---- freeing, popping, and taking from the mark

-- What a space keeps besides: nine stacks, and a mark that is a multiple of 16.
pub record Full (s : Space) (others : ℕ) : Type 0 where
  pub nine : length s.stacks ≡ 9
  pub aligned : s.mark % 16 ≡ 0
  pub fills : Fills s others

-- A block that others had is freed.
pub full_freed : (s : Space) (others class off : ℕ) → class ≤ 8 → Full s (slab_bytes class + others) → Full (freed class off s) others
unfolding bytes_on_stack
full_freed s others class off c f =
    let n = f.nine in
    let e : bytes_freed 0 (set s.stacks class (off ∷ stack_of class s)) + bytes_on_stack class (stack_of class s)
    ≡ bytes_freed 0 s.stacks + (slab_bytes class + bytes_on_stack class (stack_of class s))
    = stack_changed 0 class s.stacks class (off ∷ stack_of class s) (omega arith) (omega arith) in
    let was = f.fills in
    let done : 4096 + (bytes_freed 0 (set s.stacks class (off ∷ stack_of class s)) + others) ≡ s.mark = omega arith in
    record { nine = length-set s.stacks class (off ∷ stack_of class s) ∙ f.nine; aligned = f.aligned; fills = done }

-- The top of a stack is taken.
pub full_popped : (s : Space) (others class o : ℕ) (os : List ℕ) → class ≤ 8 → stack_of class s ≡ o ∷ os → Full s others
    → Full (with_stack class os s) (slab_bytes class + others)
unfolding bytes_on_stack
full_popped s others class o os c is f =
    let n = f.nine in
    let e : bytes_freed 0 (set s.stacks class os) + bytes_on_stack class (stack_of class s)
    ≡ bytes_freed 0 s.stacks + bytes_on_stack class os =
    stack_changed 0 class s.stacks class os (omega arith) (omega arith) in
    let high : bytes_on_stack class (stack_of class s) ≡ slab_bytes class + bytes_on_stack class os = ap (bytes_on_stack class) is in
    let was = f.fills in
    let done : 4096 + (bytes_freed 0 (set s.stacks class os) + (slab_bytes class + others)) ≡ s.mark = omega arith in
    record { nine = length-set s.stacks class os ∙ f.nine; aligned = f.aligned; fills = done }

-- The mark passes some bytes.
pub full_marked : (s : Space) (others bytes : ℕ) → bytes % 16 ≡ 0 → Full s others
    → Full (record { mark = s.mark + bytes; stacks = s.stacks }) (bytes + others)
full_marked s others bytes m f =
    let was = f.fills in
    let a = f.aligned in
    record { nine = f.nine; aligned = omega arith; fills = omega arith }

-- Blocks side by side from the mark on are freed, and the mark passes them.
pub full_carved : (bs : List Block) (s : Space) (others end : ℕ) → Adjoin s.mark bs end → Each (IsSlab end) bs → Full s others
    → Full (record { mark = end; stacks = (freed_all bs s).stacks }) others
unfolding Adjoin Each freed_all
full_carved [] s others end a e f = subst (λ (m : ℕ). Full (record { mark = m; stacks = s.stacks }) others) a f
full_carved (b ∷ bs) s others end (is, a) (b7, e) f =
    let up = full_marked s others (slab_bytes b.class) (omega arith) f in
    let one = full_freed (record { mark = s.mark + slab_bytes b.class; stacks = s.stacks }) others b.class b.off
    (let c = b7.0 in omega arith) up in
    let all = full_carved bs (record { mark = s.mark + slab_bytes b.class; stacks = (freed b.class b.off s).stacks })
    others end a e one in
    subst (λ (st : List (List ℕ)). Full (record { mark = end; stacks = st }) others)
    (freed_stacks bs (s.mark + slab_bytes b.class) s.mark (freed b.class b.off s).stacks)
    all

-- The mark rounded up to a page, where no bytes are skipped.
pub full_rounded : (s : Space) (others : ℕ) → MarkWhole s.mark → Full s others → Full (rounded s) others
unfolding rounded
full_rounded s others whole f = go (leb (page_after s.mark) slabs_end) refl
  where
    a : s.mark % 16 ≡ 0
    a = f.aligned

    from : 4096 ≤ s.mark
    from = let was = f.fills in omega arith

    -- past the end of slabs the mark is at a page
    at_page : slabs_end < page_after s.mark → s.mark ≡ page_after s.mark
    at_page past = ⊎_elim (λ (low : s.mark ≤ slabs_end). absurd (omega arith)) (λ (paged : s.mark % page_size ≡ 0). omega arith) whole

    go : (low : Bool) → leb (page_after s.mark) slabs_end ≡ low
        → Full (record {
          mark = page_after s.mark;
          stacks = (freed_all (gap_blocks s.mark (cond low (page_after s.mark) s.mark))
              s).stacks;
        })
        others
    go true e =
        full_carved (gap_blocks s.mark (page_after s.mark)) s others (page_after s.mark)
        (gap_filled s.mark (page_after s.mark) (omega arith) (omega arith))
        (gap_slabs s.mark (page_after s.mark) (page_after s.mark) (omega arith)
        (record { aligned = a; begins = from; ends = omega arith }))
        f
    go false e =
        let none-skipped : s.mark ≡ page_after s.mark = at_page (leb-false (page_after s.mark) slabs_end e) in
        let carved = full_carved (gap_blocks s.mark s.mark) s others s.mark
        (gap_filled s.mark s.mark (omega arith) (omega arith))
        (gap_slabs s.mark s.mark s.mark (omega arith) (record { aligned = a; begins = from; ends = omega arith }))
        f in
        subst (λ (m : ℕ). Full (record { mark = m; stacks = (freed_all (gap_blocks s.mark s.mark) s).stacks }) others) none-skipped
        carved

-- A run of pages is taken at the mark.
pub full_run_marked : (end n : ℕ) (s : Space) (others : ℕ) {t : Taken} → MarkWhole s.mark → run_at_mark end n s ≡ accepted t
    → Full s others → Full t.space (n * page_size + others)
unfolding run_at_mark
full_run_marked end n s others w e f =
    subst (λ (v : Taken). Full v.space (n * page_size + others)) (sym (took_mark end (n * page_size) (rounded s) e))
    (full_marked (rounded s) others (n * page_size) (omega arith) (full_rounded s others w f))

-- The bytes of freed pages.
pages_bytes : (os : List ℕ) → bytes_on_stack page_class os ≡ length os * page_size
unfolding bytes_on_stack
pages_bytes [] = refl
pages_bytes (o ∷ os) = let e = pages_bytes os in omega arith

-- A run of pages is taken out of the freed ones.
pub full_run_freed : (n off : ℕ) (s : Space) (at : ℕ → Place) (others : ℕ) → 0 < n → Good s at none
    → lowest n (stack_of page_class s) ≡ some off → Full s others → Full (run_freed off n s).space (n * page_size + others)
full_run_freed n off s at others some_pages g found f =
    let nine = f.nine in
    let e : bytes_freed 0 (set s.stacks page_class (without_run off n (stack_of page_class s))) + bytes_on_stack page_class (stack_of page_class s)
    ≡ bytes_freed 0 s.stacks + bytes_on_stack page_class (without_run off n (stack_of page_class s))
    = stack_changed 0 page_class s.stacks page_class (without_run off n (stack_of page_class s)) (omega arith) (omega arith) in
    let many = run_count n off s at some_pages g found in
    let before = pages_bytes (stack_of page_class s) in
    let after = pages_bytes (without_run off n (stack_of page_class s)) in
    let was = f.fills in
    let done : 4096 + (bytes_freed 0 (set s.stacks page_class (without_run off n (stack_of page_class s))) + (n * page_size + others))
    ≡ s.mark = omega arith in
    record { nine = length-set s.stacks page_class _ ∙ f.nine; aligned = f.aligned; fills = done }

-- The run of a load is taken.
pub full_run : (end n : ℕ) (s : Space) (at : ℕ → Place) (others : ℕ) {t : Taken} → 0 < n → Good s at none → MarkWhole s.mark
    → take_run end n s ≡ accepted t → Full s others → Full t.space (n * page_size + others)
full_run end n s at others some_pages g w e f =
    ⊎_elim (λ (q, at_mark). full_run_marked end n s others w at_mark f)
    (λ (off, q, is).
    subst (λ (v : Taken). Full v.space (n * page_size + others)) (sym is) (full_run_freed n off s at others some_pages g q f))
    (took_run end n s e)

-- A block of a class is taken.
pub full_taken : (end class : ℕ) (s : Space) (others : ℕ) {t : Taken} → MarkWhole s.mark → class ≤ 8
    → take_block end class s ≡ accepted t → Full s others
    → Full t.space (slab_bytes class + others)
unfolding take_from take_fresh take_slab
full_taken end class s others {t} w c e f = from_stack (stack_of class s) refl e
  where
    fresh_block : (b : Bool) → eqb class page_class ≡ b → cond b (run_at_mark end 1 s) (take_slab end (slab_bytes class) s) ≡ accepted t
        → Full t.space (slab_bytes class + others)
    fresh_block true q e =
        subst (λ (k : ℕ). Full t.space (slab_bytes k + others)) (sym (eqb-true class page_class q)) (full_run_marked end 1 s others w e f)
    fresh_block false q e =
        subst (λ (v : Taken). Full v.space (slab_bytes class + others)) (sym (took_mark end (slab_bytes class) s (passed _ _ _ e).1))
        (full_marked s others (slab_bytes class) (omega arith) f)

    from_stack : (os : List ℕ) → stack_of class s ≡ os → take_from end class os s ≡ accepted t → Full t.space (slab_bytes class + others)
    from_stack (o ∷ os) q e =
        subst (λ (v : Taken). Full v.space (slab_bytes class + others)) (sym (took_stack end class o os s e))
        (full_popped s others class o os c q f)
    from_stack [] q e = fresh_block (eqb class page_class) refl e

-- ---- a place given up

-- So many bytes, told in another way.
same_full : (s : Space) {m n : ℕ} → m ≡ n → Full s m → Full s n
same_full s e f = subst (Full s) e f

full_pages_freed : (ps : List Page) (s : Space) (others : ℕ) → Full s (length ps * page_size + others) → Full (freed_pages ps s) others
unfolding freed_pages
full_pages_freed [] s others f = same_full s (omega arith) f
full_pages_freed (p ∷ ps) s others f =
    full_pages_freed ps (freed page_class p.off s) others
    (full_freed s (length ps * page_size + others) page_class p.off (omega arith) (same_full s (omega arith) f))

-- A slab's class is one of the nine.
abbrev pub Classed : Place → Type 0
Classed empty = Unit {0}
Classed inline = Unit {0}
Classed (slab class off kept) = class ≤ 8
Classed (pages ps) = Unit {0}

pub full_freed_place : (place : Place) (s : Space) (others : ℕ) → Classed place → Full s (bytes_in place + others)
    → Full (freed_place place s) others
unfolding freed_place bytes_in
full_freed_place empty s others c f = same_full s (omega arith) f
full_freed_place inline s others c f = same_full s (omega arith) f
full_freed_place (slab class off kept) s others c f = full_freed s others class off c f
full_freed_place (pages ps) s others c f = full_pages_freed ps s others f

-- ---- moving, appending and loading

-- What an append or a load leaves.
abbrev pub Leaves : ℕ → Placed → Type 0
Leaves others p = Full p.space (bytes_in p.place + others)

-- Pages whose last one has a number more are as many.
joined_many : (n : ℕ) (ps : List Page) → length (replace_last (λ p. longer_page n p ∷ []) ps) ≡ length ps
unfolding replace_last
joined_many n [] = refl
joined_many n (p ∷ []) = refl
joined_many n (p ∷ q ∷ ps) = ap suc (joined_many n (q ∷ ps))

behind_many : (ps : List Page) (p : Page) → length (ps ++ (p ∷ [])) ≡ suc (length ps)
behind_many [] p = refl
behind_many (q ∷ ps) p = ap suc (behind_many ps p)

-- The pages of a run are as many as its parts.
run_many : (off : ℕ) (parts : List (List ℕ)) → length (run_pages off parts) ≡ length parts
unfolding run_pages
run_many off [] = refl
run_many off (p ∷ []) = refl
run_many off (p ∷ q ∷ ps) = ap suc (run_many (off + page_size) (q ∷ ps))

full_append : (end held : ℕ) (list : List ℕ) (n : ℕ) (s : Space) (others : ℕ) {old : Place} {p : Placed} → MarkWhole s.mark → Classed old
    → AppendDid end held list n s old p → Full s (bytes_in old + others) → Leaves others p
unfolding bytes_in
full_append end held list n s others w c began f = f
full_append end held list n s others w c (stayed class off kept q) f = f
full_append end held list n s others w c (moved_slab old class t out q got) f =
    let m = moves_to_lem (length list) (stream_len list) q in
    let h = full_taken end class s (bytes_in old + others) w (omega (arith, m.slab)) got f in
    full_freed_place old t.space (slab_bytes class + others) c (same_full t.space (omega arith) h)
full_append end held list n s others w c (moved_page old t out q got) f =
    let h = full_taken end page_class s (bytes_in old + others) w (omega arith) got f in
    full_freed_place old t.space (page_size + others) c (same_full t.space (omega arith) h)
full_append end held list n s others w c (joined_page ps q) f =
    same_full s (ap (λ (k : ℕ). k * page_size + others) (sym (joined_many n ps))) f
full_append end held list n s others w c (begun_page ps t q got) f =
    let h = full_taken end page_class s (length ps * page_size + others) w (omega arith) got f in
    let many = behind_many ps (record { off = t.off; room = 4072; part = written (n ∷ []) }) in
    same_full t.space (omega arith) h

full_load : {fit : SlabFit} (end : ℕ) (s : Space) (at : ℕ → Place) (others : ℕ) {ns : List ℕ} {p : Placed} → Good s at none
    → MarkWhole s.mark → LoadDid fit end s ns p → Full s others → Leaves others p
unfolding bytes_in
full_load end s at others g w loaded_none f = same_full s (omega arith) f
full_load end s at others g w loaded_one f = same_full s (omega arith) f
full_load {fit} end s at others {ns} g w (loaded_slab c t two q got) f =
    let (few, class, fits) = loads_to_lem fit (length ns) (stream_len ns) q in full_taken end c s others w (omega arith) got f
full_load end s at others {ns} g w (loaded_run t two q got) f =
    same_full t.space (ap (λ (k : ℕ). k * page_size + others) (sym (run_many t.off (cutting ns))))
    (full_run end (length (cutting ns)) s at others (cutting_some ns (omega arith)) g w got f)

-- ---- books

-- A key that isn't in use holds no bytes.
unused_none : (place : Place) → in_use place ≡ false → bytes_in place ≡ 0
unfolding bytes_in
unused_none empty e = refl
unused_none inline e = absurd (false≢true (sym e))
unused_none (slab class off kept) e = absurd (false≢true (sym e))
unused_none (pages ps) e = absurd (false≢true (sym e))

-- A book's space is full, with what its keys hold and so many bytes that belong to nobody.
abbrev pub FullBook : ℕ → Book → Type 0
FullBook lost b = Full b.space (bytes_held b.keys + lost)

-- What a book's other keys hold, when one key is set apart, and what belongs to nobody.
others_of : (lost : ℕ) (b : Book) (key : ℕ) → key < length b.keys → FullBook lost b
    → (others : ℕ) × Full b.space (bytes_in (places b key) + others)
    × ((k : Key) → bytes_held (set b.keys key k) + lost ≡ bytes_in k.place + others)
unfolding bytes_in
others_of lost b key l f =
    let none' = key_changed b.keys key empty_key l in (
      bytes_held (set b.keys key empty_key) + lost,
      same_full b.space (omega arith) f,
      λ k. (let e = key_changed b.keys key k l in omega arith),
    )

-- What is left when a place was given up.
empty_full : (s : Space) (others : ℕ) → Full s others → Full s (bytes_in empty + others)
unfolding bytes_in
empty_full s others f = same_full s (omega arith) f

-- A book with a key changed.
full_with : (lost : ℕ) (b : Book) (key : ℕ) (new : Key) (space : Space) (others : ℕ)
    → ((k : Key) → bytes_held (set b.keys key k) + lost ≡ bytes_in k.place + others) → Full space (bytes_in new.place + others)
    → FullBook lost (with_key key new space b)
full_with lost b key new space others held f = same_full space (sym (held new)) f

-- In a good book a slab's class is one of the nine.
fits_classed : (list : List ℕ) (place : Place) → Fits list place → Classed place
unfolding Fits
fits_classed list empty f = tt
fits_classed list inline f = tt
fits_classed list (slab class off kept) f = let few = f.2 in omega arith
fits_classed list (pages ps) f = tt

-- A call keeps a good book full.
pub call_full : (lost : ℕ) (b : Book) (c : Change) (a : Answer (Outcome (Made c))) → does b c ≡ a → GoodPlain b → MarkWhole b.space.mark
    → FullBook lost b → FullBook lost (book_after b a)
unfolding does book_after
call_full lost b c (refused number) e g w f = f
call_full lost b (load fit key ns) (accepted o) e g w f =
    let (p, within, free, rises, got, is) = load_did fit b key ns e in
    let (others, rest, held) = others_of lost b key within f in
    let unused = unused_none (places b key) free in
    rw (ap (λ (x : Outcome _). x.book) is)
    (full_with lost b key (key_in ns p.place true) p.space others held
    (full_load b.size b.space (places b) others g.space w got (same_full b.space (omega arith) rest)))
call_full lost b (append key n) (accepted o) e g w f =
    let (p, within, rises, low, got, is) = append_did b key n e in
    let (others, rest, held) = others_of lost b key within f in
    rw (ap (λ (x : Outcome _). x.book) is)
    (full_with lost b key (key_in _ p.place _) p.space others held
    (full_append b.size _ _ n b.space others w (fits_classed _ (places b key) (g.keys key).fits) got rest))
call_full lost b (drop key) (accepted o) e g w f =
    let (within, is) = drop_did b key e in
    let (others, rest, held) = others_of lost b key within f in
    let gone = full_freed_place (places b key) b.space others (fits_classed _ (places b key) (g.keys key).fits) rest in
    rw (ap (λ (x : Outcome _). x.book) is)
    (full_with lost b key empty_key (freed_place (places b key) b.space) others held (empty_full _ others gone))

-- Take any good book whose mark leaves none to be skipped, of which so many bytes belong to nobody, and any list of calls: as many belong
-- to nobody afterwards.
pub filled_from : (lost : ℕ) (b : Book) (cs : List Call) → GoodPlain b → MarkWhole b.space.mark → Filled lost b
    → Filled lost (after b cs)
filled_from lost b cs g w f =
    (calls_keep serves (λ x. GoodPlain x × MarkWhole x.space.mark × FullBook lost x)
    (λ x c (good, whole, full). (
      call_good c good,
      call_whole x c (does x c) refl whole,
      call_full lost x c (does x c) refl good whole full,
    ))
    b cs
    (g, w, record { nine = g.space.nine; aligned = g.space.aligned; fills = f })).2.fills

-- Keys that hold nothing.
none_held : (heads : ℕ) → bytes_held (replicate heads empty_key) ≡ 0
unfolding bytes_held bytes_in
none_held zero = refl
none_held (suc n) = let e = none_held n in omega arith

-- A fresh book is filled: it has no block, and the mark is where lists may begin.
pub fresh_filled : (ds : List ℕ) (size heads : ℕ) (l : Limits) → Filled 0 (fresh ds size heads l)
unfolding bytes_freed bytes_on_stack
fresh_filled ds size heads l = let e = none_held heads in rw e refl

-- Nothing is leaked: after any list of calls on a fresh book the blocks of its keys and stacks take all bytes from 4,096 to the mark.
pub nothing_leaked : (ds : List ℕ) (size heads : ℕ) (l : Limits) (cs : List Call)
    → makes ds size heads l ≡ accepted (fresh ds size heads l) → Filled 0 (after (fresh ds size heads l) cs)
nothing_leaked ds size heads l cs made =
    filled_from 0 (fresh ds size heads l) cs (fresh_good ds size heads l made) (inl (omega arith))
    (fresh_filled ds size heads l)
