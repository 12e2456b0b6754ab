-- Pages and desks: what takes and what is given back do to the pages to be had, and which takes an accepted change was allowed. Assumes
-- nothing.
use Prim.Native.Nat.{ℕ, zero, suc, ◌+◌, ◌-◌, ◌*◌, ◌/◌, ◌≤◌, ◌<◌}
use mathlib.Core.Bool.{Bool, true, false, cond}
use mathlib.Core.List.{List, [], ◌∷◌}
use mathlib.Core.Logic.{⊎_elim}
use mathlib.Core.Option.{Option, none, some}
use mathlib.Core.Path.{◌≡◌, refl, sym, ap, subst, ◌∙◌}
use native.Mathlib.Omega.{arith}
use borrow.Author.Tests.{ltb-false, ne_eqb}
use lib.Dec.{eqb}
use lib.ListN.{length, set, length-append, length-set}
use lib.Seq.{get_or-set_same, get_or-set_other}
use Rattle.error.specs.Refusal.{Answer, accepted}
use Rattle.error.proofs.LawsAnswer.{accepted_inj, passed, went_on}
use Rattle.scripthash_layout.specs.Sizes.{slab_bytes, max_slab_class, page_class, page_size}
use Rattle.scripthash_stream.specs.Stream.{stream_len}
use Rattle.scripthash_cutting.specs.Cutting.{cutting, replace_last}
use Rattle.scripthash_free.specs.FreeList.{Block, reloc_class, block_then, carve}
use Rattle.scripthash_free.proofs.LawsBlock.{largest_some}
use Rattle.free_runs.specs.Runs.{lowest, without_run}
use Rattle.book_limits.specs.Limits.{page_after, gap_end}
use Rattle.book_rules.specs.declared.places.SlabFit.{SlabFit}
use Rattle.book_rules.specs.Places.{stays, moves_to, loads_to}
use Rattle.book_rules.proofs.LawsRules.{moves_to_lem, loads_to_lem}
use Rattle.book_desks.specs.Desks.{Limits, to_be_had}
use Rattle.book_desks.proofs.LawsDesks.{Within, Covers, permits}
use Rattle.plain_book.specs.Space.{Space, stack_of, freed, freed_all, Taken, take_mark, rounded, run_at_mark, take_run, take_slab, take_fresh}
use Rattle.plain_book.specs.Space.{take_from, take_block, run_freed}
use Rattle.plain_book.specs.Key.{Page, Place, empty, inline, slab, pages, pages_of, freed_pages, freed_place}
use Rattle.plain_book.specs.Key.{longer, longer_page}
use Rattle.plain_book.specs.Key.{one_page, joins, joined_to, run_pages, Placed, placed, moved, begin_page, append_pages}
use Rattle.plain_book.specs.Key.{append_place, load_into, load_place}
use Rattle.plain_book.specs.Book.{freed_in, allowed}
use Rattle.plain_book.specs.Sound.{Fits}
use Rattle.plain_book.specs.Good.{Good}
use Rattle.plain_book.proofs.LawsOwners.{stack_same}
use Rattle.plain_book.proofs.LawsTaking.{took_stack, took_run}
use Rattle.plain_book.proofs.LawsRunFreed.{run_count, cutting_some}

-- Pages to be had in a space, in a body of so many bytes.
abbrev pub had_in : ℕ → Space → ℕ
had_in end s = to_be_had end (freed_in s) s.mark

-- ---- what is given back

-- A freed slab is no freed page.
pub freed_slab : (class off : ℕ) (s : Space) → class ≤ max_slab_class → freed_in (freed class off s) ≡ freed_in s
freed_slab class off s c =
    ap length (get_or-set_other s.stacks class page_class (off ∷ stack_of class s) [] (λ (e : page_class ≡ class). omega arith))

-- Nor are the blocks that a gap is carved into.
block_then_lem : (o : Option ℕ) (off : ℕ) (rest : ℕ → List Block) (s : Space) → ((class : ℕ) → o ≡ some class → class ≤ max_slab_class)
    → ((class : ℕ) (s : Space) → freed_in (freed_all (rest class) s) ≡ freed_in s) → freed_in (freed_all (block_then o off rest) s) ≡ freed_in s
unfolding block_then freed_all
block_then_lem none off rest s low more = refl
block_then_lem (some class) off rest s low more = more class (freed class off s) ∙ freed_slab class off s (low class refl)

carved_slabs : (k off n : ℕ) (s : Space) → freed_in (freed_all (carve k off n) s) ≡ freed_in s
unfolding carve freed_all
carved_slabs zero off n s = refl
carved_slabs (suc k) off n s =
    block_then_lem (reloc_class n) off _ s (λ class e. (largest_some max_slab_class n class e).0)
    (λ class s. carved_slabs k (off + slab_bytes class) (n - slab_bytes class) s)

-- So rounding the mark up leaves the freed pages.
pub rounded_freed : (s : Space) → freed_in (rounded s) ≡ freed_in s
unfolding rounded
rounded_freed s = carved_slabs ((gap_end s.mark - s.mark) / 16) s.mark (gap_end s.mark - s.mark) s

-- What giving pages back leaves: the mark, and so many freed pages more.
pub record Back (s after : Space) (n : ℕ) : Type 0 where
  pub mark : after.mark ≡ s.mark
  pub more : freed_in after ≡ freed_in s + n

-- Pages given back are to be had again.
pub pages_back : (ps : List Page) (s : Space) → length s.stacks ≡ 9 → Back s (freed_pages ps s) (length ps)
unfolding freed_pages
pages_back [] s nine = record { mark = refl; more = omega arith }
pages_back (p ∷ ps) s nine =
    let one : freed_in (freed page_class p.off s) ≡ freed_in s + 1 =
    ap length (get_or-set_same s.stacks page_class (p.off ∷ stack_of page_class s) [] (omega arith)) ∙ omega arith in
    let b = pages_back ps (freed page_class p.off s) (length-set s.stacks page_class _ ∙ nine) in
    record { mark = b.mark; more = let m = b.more in omega arith }

-- A place given back gives back its pages.
pub place_back : (list : List ℕ) (place : Place) (s : Space) → Fits list place → length s.stacks ≡ 9
    → Back s (freed_place place s) (pages_of place)
unfolding freed_place Fits
place_back list empty s fits nine = record { mark = refl; more = omega arith }
place_back list inline s fits nine = record { mark = refl; more = omega arith }
place_back list (slab class off kept) s fits nine =
    record { mark = refl; more = let e = freed_slab class off s fits.2 in omega arith }
place_back list (pages ps) s fits nine = pages_back ps s nine

-- The pages to be had after it.
pub had_back : (end : ℕ) (s after : Space) (n : ℕ) → Back s after n → had_in end after ≡ had_in end s + n
had_back end s after n b =
    let m = b.more in
    let e : (end - page_after after.mark) / page_size ≡ (end - page_after s.mark) / page_size =
    ap (λ (x : ℕ). (end - page_after x) / page_size) b.mark in
    omega arith

-- ---- what is taken

-- Where the mark is, rounded up.
pub rounded_at : (s : Space) → (rounded s).mark ≡ page_after s.mark
unfolding rounded
rounded_at s = refl

-- A run at the mark leaves so many pages less to be had.
pub mark_run_taken : (end k : ℕ) (s : Space) {t : Taken} → run_at_mark end k s ≡ accepted t → k + had_in end t.space ≤ had_in end s
unfolding run_at_mark take_mark
mark_run_taken end k s e =
    let (room, is) = passed _ _ _ e in
    let fits : (rounded s).mark + k * page_size ≤ end = ltb-false _ _ room in
    let f = rounded_freed s in
    let m = rounded_at s in
    subst (λ (x : Taken). k + had_in end x.space ≤ had_in end s) (accepted_inj is) (omega arith)

-- So does one out of the freed pages, just as many.
pub freed_run_taken : (end k off : ℕ) (s : Space) (at : ℕ → Place) → 0 < k → Good s at none → lowest k (stack_of page_class s) ≡ some off
    → k + had_in end (run_freed off k s).space ≡ had_in end s
freed_run_taken end k off s at some_pages g found =
    let n = g.nine in
    let left : freed_in (run_freed off k s).space ≡ length (without_run off k (stack_of page_class s)) =
    ap length (stack_same s page_class (without_run off k (stack_of page_class s)) (omega arith)) in
    let many = run_count k off s at some_pages g found in
    omega arith

-- So does the run of a load.
pub run_taken : (end k : ℕ) (s : Space) (at : ℕ → Place) {t : Taken} → 0 < k → Good s at none → take_run end k s ≡ accepted t
    → k + had_in end t.space ≤ had_in end s
run_taken end k s at some_pages g e =
    ⊎_elim (λ (q, at_mark). mark_run_taken end k s at_mark)
    (λ (off, q, is).
    let same = freed_run_taken end k off s at some_pages g q in
    subst (λ (x : Taken). k + had_in end x.space ≤ had_in end s) (sym is) (omega arith))
    (took_run end k s e)

-- A block at the mark that is no page leaves no page more.
mark_taken : (end bytes : ℕ) (s : Space) {t : Taken} → take_mark end bytes s ≡ accepted t → had_in end t.space ≤ had_in end s
unfolding take_mark
mark_taken end bytes s e =
    let (room, is) = passed _ _ _ e in
    subst (λ (x : Taken). had_in end x.space ≤ had_in end s) (accepted_inj is) (omega arith)

-- A page leaves one less.
pub page_taken : (end : ℕ) (s : Space) {t : Taken} → length s.stacks ≡ 9 → take_block end page_class s ≡ accepted t
    → 1 + had_in end t.space ≤ had_in end s
unfolding take_from take_fresh
page_taken end s {t} nine e = go (stack_of page_class s) refl e
  where
    go : (os : List ℕ) → stack_of page_class s ≡ os → take_from end page_class os s ≡ accepted t → 1 + had_in end t.space ≤ had_in end s
    go [] q e = mark_run_taken end 1 s e
    go (o ∷ os) q e =
        let is = took_stack end page_class o os s e in
        let left : freed_in (record { mark = s.mark; stacks = set s.stacks page_class os }) ≡ length os =
        ap length (get_or-set_same s.stacks page_class os [] (omega arith)) in
        let before : freed_in s ≡ length os + 1 = ap length q ∙ omega arith in
        subst (λ (x : Taken). 1 + had_in end x.space ≤ had_in end s) (sym is) (omega arith)

-- A slab leaves no page more: from the mark it may begin one, and from its stack it takes none.
pub slab_taken : (end class : ℕ) (s : Space) {t : Taken} → class ≤ max_slab_class → take_block end class s ≡ accepted t
    → had_in end t.space ≤ had_in end s
unfolding take_from take_fresh take_slab
slab_taken end class s {t} low e = go (stack_of class s) refl e
  where
    go : (os : List ℕ) → stack_of class s ≡ os → take_from end class os s ≡ accepted t → had_in end t.space ≤ had_in end s
    go [] q e =
        let no_page_lem : eqb class page_class ≡ false = ne_eqb class page_class (λ (z : class ≡ page_class). omega arith) in
        let e1 : take_slab end (slab_bytes class) s ≡ accepted t =
        ap (λ (x : Bool). cond x (run_at_mark end 1 s) (take_slab end (slab_bytes class) s)) (sym no_page_lem) ∙ e in
        mark_taken end (slab_bytes class) s (passed _ _ _ e1).1
    go (o ∷ os) q e =
        let is = took_stack end class o os s e in
        let same : freed_in (record { mark = s.mark; stacks = set s.stacks class os }) ≡ freed_in s =
        ap length (get_or-set_other s.stacks class page_class os [] (λ (z : page_class ≡ class). omega arith)) in
        subst (λ (x : Taken). had_in end x.space ≤ had_in end s) (sym is) (omega arith)

-- ---- how many pages a place has

-- Pages with a number joined to the last.
pub joined_many : (n : ℕ) (ps : List Page) → length (replace_last (λ p. longer_page n p ∷ []) ps) ≡ length ps
unfolding replace_last
joined_many n [] = refl
joined_many n (p ∷ []) = refl
joined_many n (p ∷ q ∷ ps) = ap suc (joined_many n (q ∷ ps))

-- The pages of a run.
pub run_many : (off : ℕ) (parts : List (List ℕ)) → length (run_pages off parts) ≡ length parts
unfolding run_pages
run_many off [] = refl
run_many off (p ∷ []) = refl
run_many off (p ∷ q ∷ ps) = ap suc (run_many (off + page_size) (q ∷ ps))

-- ---- steps of a key's place

module _ (l : Limits) (end desk : ℕ) (held : List ℕ) where
  -- What an allowed take of so many pages says of the space that it leaves.
  pub record Allowed (k : ℕ) (after : Space) : Type 0 where
    pub within : Within l end desk k held (freed_in after) after.mark
    pub covers : Covers l end desk k held (freed_in after) after.mark

  -- An allowed take was accepted, and its desk had leave.
  pub allows : (k : ℕ) (a : Answer Taken) {t : Taken} → allowed l end desk held k a ≡ accepted t → (a ≡ accepted t) × Allowed k t.space
  unfolding allowed
  allows k a {t} e =
      let (y, is, more) = went_on a _ e in
      let (same, w, c) = permits l end desk k held (freed_in y.space) y.space.mark (accepted y) more in
      let z : y ≡ t = accepted_inj same in
      (is ∙ same, subst (λ (x : Taken). Allowed k x.space) z (record { within = w; covers = c }))

  -- Giving back what is no page leaves that.
  allowed_back : (k : ℕ) (s after : Space) → Back s after 0 → Allowed k s → Allowed k after
  allowed_back k s after b a =
      record { within = a.within; covers = let h = had_back end s after 0 b in let c = a.covers in omega arith }

  -- A step of a key from so many pages to so many: it takes some with leave, or gives some back, maybe none.
  pub data Step (s : Space) (old new : ℕ) (after : Space) : Type 0 where
    takes : (k : ℕ) → new ≡ old + k → Allowed k after → k + had_in end after ≤ had_in end s → Step s old new after
    gives : (k : ℕ) → new + k ≡ old → had_in end after ≡ had_in end s + k → Step s old new after

  -- Nothing is taken or given back.
  stays_put : (s : Space) (old new : ℕ) → new ≡ old → Step s old new s
  stays_put s old new e = gives 0 (omega arith) (omega arith)

  -- A place without pages is given back behind a take.
  none_back : (old : Place) (list : List ℕ) (s : Space) → Fits list old → pages_of old ≡ 0 → Back s (freed_place old s) 0
  unfolding freed_place freed_pages Fits
  none_back empty list s fits bare = record { mark = refl; more = omega arith }
  none_back inline list s fits bare = record { mark = refl; more = omega arith }
  none_back (slab class off kept) list s fits bare =
      record { mark = refl; more = let e = freed_slab class off s fits.2 in omega arith }
  none_back (pages []) list s fits bare = record { mark = refl; more = omega arith }
  none_back (pages (p ∷ ps)) list s fits bare = absurd (omega arith)

  module _ (s : Space) (nine : length s.stacks ≡ 9) where
    -- A slab is taken, with leave, behind which a place without pages is given back.
    slab_step : (class : ℕ) (old : Place) (was : List ℕ) {t : Taken} → class ≤ max_slab_class → Fits was old → pages_of old ≡ 0
        → allowed l end desk held 0 (take_block end class s) ≡ accepted t → Step s (pages_of old) 0 (freed_place old t.space)
    slab_step class old was {t} low fits bare e =
        let (got, a) = allows 0 _ e in
        let back = none_back old was t.space fits bare in
        let h = had_back end t.space (freed_place old t.space) 0 back in
        let less = slab_taken end class s low got in
        takes 0 (omega arith) (allowed_back 0 t.space (freed_place old t.space) back a) (omega arith)

    -- A page is.
    page_step : (old : Place) (was : List ℕ) {t : Taken} → Fits was old → pages_of old ≡ 0
        → allowed l end desk held 1 (take_block end page_class s) ≡ accepted t → Step s (pages_of old) 1 (freed_place old t.space)
    page_step old was {t} fits bare e =
        let (got, a) = allows 1 _ e in
        let back = none_back old was t.space fits bare in
        let h = had_back end t.space (freed_place old t.space) 0 back in
        let less = page_taken end s nine got in
        takes 1 (omega arith) (allowed_back 1 t.space (freed_place old t.space) back a) (omega arith)

    -- A list moves.
    moved_steps : (count bytes held' : ℕ) (list : List ℕ) (old : Place) (was : List ℕ) {p : Placed} → Fits was old → pages_of old ≡ 0
        → moved end (allowed l end desk held) (moves_to count bytes) held' list old s ≡ accepted p
        → Step s (pages_of old) (pages_of p.place) p.space
    unfolding moved
    moved_steps count bytes held' list old was {p} fits bare e = go (moves_to count bytes) refl e
      where
        go : (o : Option ℕ) → moves_to count bytes ≡ o → moved end (allowed l end desk held) o held' list old s ≡ accepted p
            → Step s (pages_of old) (pages_of p.place) p.space
        go (some c) q e =
            let (t, got, is) = went_on (allowed l end desk held 0 (take_block end c s)) _ e in
            subst (λ (x : Placed). Step s (pages_of old) (pages_of x.place) x.space) (accepted_inj is)
            (slab_step c old was (moves_to_lem count bytes q).slab fits bare got)
        go none q e =
            let (t, got, is) = went_on (allowed l end desk held 1 (take_block end page_class s)) _ e in
            subst (λ (x : Placed). Step s (pages_of old) (pages_of x.place) x.space) (accepted_inj is)
            (page_step old was fits bare got)

    -- An accepted append is a step of its key's place.
    pub append_steps_lem : (count : ℕ) (list : List ℕ) (n : ℕ) (old : Place) (was : List ℕ) {p : Placed} → Fits was old
        → append_place end (allowed l end desk held) count list n old s ≡ accepted p
        → Step s (pages_of old) (pages_of p.place) p.space
    unfolding append_place append_pages begin_page
    append_steps_lem count list n empty was fits e =
        subst (λ (x : Placed). Step s 0 (pages_of x.place) x.space) (accepted_inj e) (stays_put s 0 0 refl)
    append_steps_lem count list n inline was fits e = moved_steps _ _ count list inline was fits refl e
    append_steps_lem count list n (slab class off kept) was {p} fits e = go (stays class (length list) (longer n kept).bytes) e
      where
        go : (b : Bool)
            → cond b (accepted (placed (slab class off (longer n kept)) s 0))
            (moved end (allowed l end desk held) (moves_to (length list) (stream_len list)) count list (slab class off kept) s) ≡ accepted p
            → Step s 0 (pages_of p.place) p.space
        go true e = subst (λ (x : Placed). Step s 0 (pages_of x.place) x.space) (accepted_inj e) (stays_put s 0 0 refl)
        go false e = moved_steps _ _ count list (slab class off kept) was fits refl e
    append_steps_lem count list n (pages ps) was {p} fits e = go (joins n ps) e
      where
        go : (b : Bool)
            → cond b (accepted (placed (joined_to n ps) s 0)) (begin_page end (allowed l end desk held) ps n s) ≡ accepted p
            → Step s (length ps) (pages_of p.place) p.space
        go true e =
            subst (λ (x : Placed). Step s (length ps) (pages_of x.place) x.space) (accepted_inj e)
            (stays_put s (length ps) _ (joined_many n ps))
        go false e =
            let (t, got, is) = went_on (allowed l end desk held 1 (take_block end page_class s)) _ e in
            let (took, a) = allows 1 _ got in
            subst (λ (x : Placed). Step s (length ps) (pages_of x.place) x.space) (accepted_inj is)
            (takes 1 (length-append ps (one_page t.off (n ∷ []))) a (page_taken end s nine took))

    -- An accepted load is one from an empty place.
    pub load_steps : (fit : SlabFit) (ns : List ℕ) (at : ℕ → Place) {p : Placed} → Good s at none
        → load_place fit end (allowed l end desk held) ns s ≡ accepted p → Step s 0 (pages_of p.place) p.space
    unfolding load_place load_into
    load_steps fit [] at g e = subst (λ (x : Placed). Step s 0 (pages_of x.place) x.space) (accepted_inj e) (stays_put s 0 0 refl)
    load_steps fit (n ∷ []) at g e =
        subst (λ (x : Placed). Step s 0 (pages_of x.place) x.space) (accepted_inj e) (stays_put s 0 0 refl)
    load_steps fit (n ∷ m ∷ ns) at {p} g e = go (loads_to fit (length (n ∷ m ∷ ns)) (stream_len (n ∷ m ∷ ns))) refl e
      where
        go : (o : Option ℕ) → loads_to fit (length (n ∷ m ∷ ns)) (stream_len (n ∷ m ∷ ns)) ≡ o
            → load_into end (allowed l end desk held) o (n ∷ m ∷ ns) s ≡ accepted p → Step s 0 (pages_of p.place) p.space
        go (some c) q e =
            let (t, got, is) = went_on (allowed l end desk held 0 (take_block end c s)) _ e in
            let (took, a) = allows 0 _ got in
            let less = slab_taken end c s (loads_to_lem fit _ _ q).1 took in
            subst (λ (x : Placed). Step s 0 (pages_of x.place) x.space) (accepted_inj is) (takes 0 refl a (omega arith))
        go none q e =
            let (t, got, is) = went_on (allowed l end desk held _ (take_run end (length (cutting (n ∷ m ∷ ns))) s)) _ e in
            let (took, a) = allows _ _ got in
            let many = run_many t.off (cutting (n ∷ m ∷ ns)) in
            subst (λ (x : Placed). Step s 0 (pages_of x.place) x.space) (accepted_inj is)
            (takes (length (cutting (n ∷ m ∷ ns))) (omega arith) a
            (run_taken end _ s at (cutting_some (n ∷ m ∷ ns) (omega arith)) g took))

    -- A drop is one to an empty place.
    pub drop_steps : (old : Place) (was : List ℕ) → Fits was old → Step s (pages_of old) 0 (freed_place old s)
    drop_steps old was fits =
        gives (pages_of old) (omega arith) (had_back end s (freed_place old s) (pages_of old) (place_back was old s fits nine))
