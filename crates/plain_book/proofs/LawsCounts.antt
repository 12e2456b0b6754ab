-- Good desks: a book that is made has them, and every change keeps them. Counts stay true, no desk passes its ceiling, and what the desks
-- lack stays covered. Assumes nothing.
use Prim.Native.Nat.{ℕ, ◌+◌, ◌-◌, ◌/◌, ◌≤◌, ◌<◌}
use mathlib.Core.Bool.{Bool, true, false, cond}
use mathlib.Core.List.{List}
use mathlib.Core.Logic.{◌≢◌, ⊎_elim}
use mathlib.Core.Path.{◌≡◌, refl, sym, ap, subst, ◌∙◌}
use native.Mathlib.Omega.{arith}
use borrow.Author.Tests.{eq-eqb, ne_eqb}
use lib.Dec.{eqb}
use lib.ListN.{length, set, replicate, length-set, length-replicate, get_or-replicate}
use lib.Seq.{get_or-set_same, get_or-set_other}
use Rattle.error.specs.Refusal.{Answer, accepted, refused}
use Rattle.error.proofs.LawsAnswer.{accepted_inj, passed, went_on}
use Rattle.scripthash_layout.specs.Sizes.{page_size}
use Rattle.book_rules.specs.declared.places.SlabFit.{SlabFit}
use Rattle.book_rules.specs.Outcomes.{Loaded, Appended, Dropped, book_after}
use Rattle.book_rules.proofs.LawsOffered.{offered_on, offered_all}
use Rattle.book_statements.specs.Calls.{Change, load, append, drop, Made}
use Rattle.book_limits.proofs.LawsLimits.{in_shape}
use Rattle.book_desks.specs.Desks.{desks, Limits, desk_count, sum_to, total, lacks, list_bad}
use Rattle.book_desks.proofs.LawsSums.{same_or_not, sum_least, sum_most, sum_set, term_least}
use Rattle.book_desks.proofs.LawsDesks.{desk_in_lem, own_count, ceilings_kept, lacks_moved, total_set, lacks_with_lem}
use Rattle.book_desks.proofs.LawsMaking.{making_passed}
use Rattle.plain_book.specs.Space.{Space}
use Rattle.plain_book.specs.Key.{Place, empty, inline, slab, pages, Key, empty_key, pages_of, freed_place, Placed, key_in}
use Rattle.plain_book.specs.Key.{append_place, load_place}
use Rattle.plain_book.specs.Book.{Book, fresh, makes, Outcome, freed_in, key_of, desk_in, leave_of, with_key, in_use, extended}
use Rattle.plain_book.specs.Book.{loads, appends, drops, does}
use Rattle.plain_book.specs.Good.{pages_for, pages_of_desk, to_be_had_in, GoodDesks, GoodPlain}
use Rattle.plain_book.proofs.LawsDesks.{had_in, Allowed, Step, takes, gives, append_steps_lem, load_steps, drop_steps}
use Rattle.plain_book.proofs.LawsHistory.{on_key_lem, fresh_key}

-- ---- a key's pages in its desk's count

-- The pages of a key are counted by its own desk, and by no other.
counted_own : (b : Book) (key d : ℕ) → d ≡ desk_in b key → pages_for b d key ≡ pages_of (key_of key b).place
counted_own b key d e = ap (λ (t : Bool). cond t (pages_of (key_of key b).place) 0) (eq-eqb (desk_in b key) d (sym e))

counted_other : (b : Book) (key d : ℕ) → d ≢ desk_in b key → pages_for b d key ≡ 0
counted_other b key d n =
    ap (λ (t : Bool). cond t (pages_of (key_of key b).place) 0) (ne_eqb (desk_in b key) d (λ (e : desk_in b key ≡ d). n (sym e)))

module _ (b : Book) (key : ℕ) (good : GoodDesks b) (within : key < length b.keys) where
  -- The key's desk is one of the desks.
  pub desk_known : desk_in b key < desks
  desk_known = desk_in_lem b.desks (length b.keys) key good.named within

  -- Its desk holds the key's pages.
  pub own_held : pages_of (key_of key b).place ≤ desk_count (desk_in b key) b.held
  own_held =
      let all = good.exact (desk_in b key) desk_known in
      let one = term_least (length b.keys) key (pages_for b (desk_in b key)) within in
      let own = counted_own b key (desk_in b key) refl in
      omega arith

  module _ (k : Key) (space : Space) where
    abbrev b' : Book
    b' = with_key key k space b

    abbrev desk : ℕ
    desk = desk_in b key

    -- How many pages its desk holds afterwards.
    abbrev new : ℕ
    new = desk_count desk b.held + pages_of k.place - pages_of (key_of key b).place

    -- The changed key's pages for a desk, and those of the others.
    here : key_of key b' ≡ k
    here = get_or-set_same b.keys key k empty_key within

    elsewhere : (d i : ℕ) → i ≢ key → pages_for b' d i ≡ pages_for b d i
    elsewhere d i n =
        ap (λ (x : Key). cond (eqb (desk_in b i) d) (pages_of x.place) 0) (get_or-set_other b.keys key i k empty_key n)

    -- The pages of a desk's keys change by those of this key.
    summed : (d : ℕ) → pages_of_desk b' d + pages_for b d key ≡ pages_of_desk b d + pages_for b' d key
    summed d =
        let s = sum_set (length b.keys) key (pages_for b' d) (pages_for b d) within (λ i _ n. elsewhere d i n) in
        let e : pages_of_desk b' d ≡ sum_to (length b.keys) (pages_for b' d) =
        ap (λ (m : ℕ). sum_to m (pages_for b' d)) (length-set b.keys key k) in
        omega arith

    -- Counts stay true: each desk's is the pages of its keys.
    pub true_counts : (d : ℕ) → d < desks → desk_count d b'.held ≡ pages_of_desk b' d
    true_counts d h = ⊎_elim own other (same_or_not d desk)
      where
        own : d ≡ desk → desk_count d b'.held ≡ pages_of_desk b' d
        own e =
            let now : desk_count d b'.held ≡ new =
            ap (λ (x : ℕ). desk_count x b'.held) e ∙ own_count b.held desk new good.sixteen desk_known in
            let was : desk_count desk b.held ≡ pages_of_desk b d = ap (λ (x : ℕ). desk_count x b.held) (sym e) ∙ good.exact d h in
            let mine : pages_for b' d key ≡ pages_of k.place =
            counted_own b' key d e ∙ ap (λ (x : Key). pages_of x.place) here in
            let old = counted_own b key d e in
            let sum = summed d in
            let least = own_held in
            omega arith

        other : d ≢ desk → desk_count d b'.held ≡ pages_of_desk b' d
        other n =
            let now = get_or-set_other b.held desk d new 0 n in
            let was = good.exact d h in
            let mine = counted_other b' key d n in
            let old = counted_other b key d n in
            let sum = summed d in
            omega arith

    -- ---- what a step keeps

    -- Desks stay good where the desk's new count is within its ceiling, the lacks are covered, and no page is had twice.
    with_good : new ≤ desk_count desk b.limits.ceiling → lacks b.limits b'.held ≤ to_be_had_in b'
        → 1 + (total b'.held + to_be_had_in b') ≤ b.size / page_size → GoodDesks b'
    with_good ceiling covered balanced =
        record {
          paged = good.paged;
          named = subst (λ (n : ℕ). list_bad b.desks n ≡ false) (sym (length-set b.keys key k)) good.named;
          sixteen = length-set b.held desk new ∙ good.sixteen;
          exact = true_counts;
          ceilings = ceilings_kept b.held desk new good.sixteen desk_known b.limits.ceiling good.ceilings ceiling;
          reserves = good.reserves;
          low = good.low;
          covered = covered;
          balanced = balanced;
        }

    -- An allowed take keeps them.
    pub take_keeps : (n : ℕ) → pages_of k.place ≡ pages_of (key_of key b).place + n
        → Allowed b.limits b.size desk b.held n space → n + had_in b.size space ≤ had_in b.size b.space → GoodDesks b'
    take_keeps n more a less =
        let least = own_held in
        let is : new ≡ desk_count desk b.held + n = omega arith in
        let with_it : lacks b.limits b'.held ≡ _ =
        ap (λ (x : ℕ). lacks b.limits (set b.held desk x)) is
        ∙ lacks_with_lem b.limits b.held desk n good.sixteen desk_known in
        let sum = total_set b.held desk new good.sixteen desk_known in
        let c = a.covers in
        let whole = good.balanced in
        with_good (below n a.within is) (omega arith) (omega arith)
      where
        below : (n : ℕ) → (n ≢ 0 → desk_count desk b.held + n ≤ desk_count desk b.limits.ceiling) → new ≡ desk_count desk b.held + n
            → new ≤ desk_count desk b.limits.ceiling
        below n w is =
            ⊎_elim (λ (z : n ≡ 0). let c = good.ceilings desk desk_known in omega arith) (λ (z : n ≢ 0). let c = w z in omega arith)
            (same_or_not n 0)

    -- Pages given back keep them.
    pub back_keeps : (n : ℕ) → pages_of k.place + n ≡ pages_of (key_of key b).place
        → had_in b.size space ≡ had_in b.size b.space + n → GoodDesks b'
    back_keeps n less more =
        let least = own_held in
        let is : new + n ≡ desk_count desk b.held = omega arith in
        let lack : lacks b.limits b'.held + 0 ≤ lacks b.limits b.held + n =
        lacks_moved b.held desk new good.sixteen desk_known b.limits 0 n (omega arith) in
        let sum = total_set b.held desk new good.sixteen desk_known in
        let c = good.covered in
        let whole = good.balanced in
        let top = good.ceilings desk desk_known in
        with_good (omega arith) (omega arith) (omega arith)

    -- So does every step.
    pub step_keeps : Step b.limits b.size desk b.held b.space (pages_of (key_of key b).place) (pages_of k.place) space
        → GoodDesks b'
    step_keeps (takes n more a less) = take_keeps n more a less
    step_keeps (gives n less more) = back_keeps n less more

-- ---- what changes keep

module _ (b : Book) (key : ℕ) (good : GoodPlain b) (within : key < length b.keys) where
  -- An accepted append keeps desks good.
  pub place_keeps : (count : ℕ) (list : List ℕ) (n : ℕ) (known : Bool) {p : Placed}
      → append_place b.size (leave_of b key) count list n (key_of key b).place b.space ≡ accepted p
      → GoodDesks (with_key key (key_in list p.place known) p.space b)
  place_keeps count list n known {p} e =
      step_keeps b key good.desks within (key_in list p.place known) p.space
      (append_steps_lem b.limits b.size (desk_in b key) b.held b.space good.space.nine count list n (key_of key b).place
      (key_of key b).list (good.keys key).fits e)

  -- An accepted load of an empty key does.
  pub load_keeps : (fit : SlabFit) (ns : List ℕ) (known : Bool) {p : Placed} → in_use (key_of key b).place ≡ false
      → load_place fit b.size (leave_of b key) ns b.space ≡ accepted p
      → GoodDesks (with_key key (key_in ns p.place known) p.space b)
  load_keeps fit ns known {p} free e =
      step_keeps b key good.desks within (key_in ns p.place known) p.space
      (subst
      (λ (old : ℕ). Step b.limits b.size (desk_in b key) b.held b.space old (pages_of p.place) p.space)
      (sym (unused (key_of key b).place free))
      (load_steps b.limits b.size (desk_in b key) b.held b.space good.space.nine fit ns _ good.space e))
    where
      unused : (place : Place) → in_use place ≡ false → pages_of place ≡ 0
      unused empty q = refl
      unused inline q = refl
      unused (slab class off kept) q = refl
      unused (pages ps) q = let z : ◌≡◌ {A = ℕ} 0 1 = cc in absurd (omega arith)

  -- A drop does.
  pub drop_keeps : GoodDesks (with_key key empty_key (freed_place (key_of key b).place b.space) b)
  drop_keeps =
      step_keeps b key good.desks within empty_key (freed_place (key_of key b).place b.space)
      (drop_steps b.limits b.size (desk_in b key) b.held b.space good.space.nine (key_of key b).place (key_of key b).list
      (good.keys key).fits)

-- An outcome leaves desks good, a refusal the book.
desks_after : (b : Book) (c : Change) (a : Answer (Outcome (Made c))) → does b c ≡ a → GoodPlain b → GoodDesks (book_after b a)
unfolding does loads appends drops book_after
desks_after b c (refused number) e good = good.desks
desks_after b (load fit key ns) (accepted o) e good =
    let (within, e1) = on_key_lem b key _ e in
    let (free, e2) = passed _ _ _ e1 in
    let (few, e3) = passed _ _ _ e2 in
    let (rises, e4) = offered_all true 0 ns _ e3 in
    let (p, got, is) = went_on (load_place fit b.size (leave_of b key) ns b.space) _ e4 in
    subst (λ (x : Outcome Loaded). GoodDesks x.book) (accepted_inj is) (load_keeps b key good within fit ns true free got)
desks_after b (append key n) (accepted o) e good =
    let (within, e1) = on_key_lem b key _ e in
    let (rises, low, e2) = offered_on true _ n _ e1 in
    let list = extended (key_of key b).list n in
    let (p, got, is) = went_on (append_place b.size (leave_of b key) _ list n (key_of key b).place b.space) _ e2 in
    subst (λ (x : Outcome Appended). GoodDesks x.book) (accepted_inj is)
    (place_keeps b key good within _ list n _ got)
desks_after b (drop key) (accepted o) e good =
    let (within, is) = on_key_lem b key _ e in
    subst (λ (x : Outcome Dropped). GoodDesks x.book) (accepted_inj is) (drop_keeps b key good within)

-- A change keeps desks good.
pub call_desks : (b : Book) (c : Change) → GoodPlain b → GoodDesks (book_after b (does b c))
call_desks b c good = desks_after b c (does b c) refl good

-- ---- making

-- A book that is made is the fresh one.
pub made_is : (ds : List ℕ) (size heads : ℕ) (l : Limits) {b : Book} → makes ds size heads l ≡ accepted b → b ≡ fresh ds size heads l
unfolding makes
made_is ds size heads l e = sym (accepted_inj (making_passed ds size heads l e).1)

-- Its desks are good.
pub made_desks : (ds : List ℕ) (size heads : ℕ) (l : Limits) → makes ds size heads l ≡ accepted (fresh ds size heads l)
    → GoodDesks (fresh ds size heads l)
unfolding makes lacks
made_desks ds size heads l made =
    let (may, is) = making_passed ds size heads l made in
    let s = in_shape size heads may.shape in
    let enough = may.covered in
    let least = s.least in
    let paged = s.paged in
    record {
      paged = paged;
      named = subst (λ (n : ℕ). list_bad ds n ≡ false) (sym (length-replicate heads empty_key)) may.named;
      sixteen = refl;
      exact = λ d h. nothing d h ∙ sym (no_pages d);
      ceilings = λ d h. let z = nothing d h in omega arith;
      reserves = may.reserves;
      low = may.low;
      covered =
          let less : sum_to desks (λ d. desk_count d l.reserve - desk_count d (replicate desks 0)) ≤ total l.reserve =
          sum_least desks _ (λ d. desk_count d l.reserve) (λ d h. omega arith) in
          omega arith;
      balanced = let z = none_held in omega arith;
    }
  where
    nothing : (d : ℕ) → d < desks → desk_count d (replicate desks 0) ≡ 0
    nothing d h = get_or-replicate desks d 0 0 h

    none_held : total (replicate desks 0) ≡ 0
    none_held = let m = sum_most desks 0 (λ d. desk_count d (replicate desks 0)) (λ d h. let z = nothing d h in omega arith) in omega arith

    no_pages : (d : ℕ) → pages_of_desk (fresh ds size heads l) d ≡ 0
    no_pages d =
        let m = sum_most (length (replicate heads empty_key)) 0 (pages_for (fresh ds size heads l) d) (λ key h. each_none key (eqb _ d)) in
        omega arith
      where
        each_none : (key : ℕ) (t : Bool) → cond t (pages_of (key_of key (fresh ds size heads l)).place) 0 ≤ 0
        each_none key true = let e = ap (λ (k : Key). pages_of k.place) (fresh_key ds size heads l key) in omega arith
        each_none key false = omega arith

-- ---- counts are low

-- Freed pages, and those that each desk holds, are no more than the body's pages.
pub counts_low : (b : Book) → GoodDesks b
    → (freed_in b.space ≤ b.size / page_size) × ((d : ℕ) → d < desks → desk_count d b.held ≤ b.size / page_size)
counts_low b good =
    let whole = good.balanced in
    (omega arith, λ d h. let t = term_least desks d (λ i. desk_count i b.held) h in omega arith)
