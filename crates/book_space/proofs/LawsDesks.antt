-- What a desk's takes promise: the take that is made, the judgement that it passed, and the counts afterwards; and what giving back
-- tells. By cases on the tests. Assumes nothing.
use Prim.Native.Nat.{ℕ, ◌+◌, ◌-◌, ◌≤◌, ◌<◌}
use mathlib.Core.Bool.{Bool, true, false, cond}
use mathlib.Core.List.{List}
use mathlib.Core.Logic.{◌≢◌}
use mathlib.Core.Option.{Option}
use mathlib.Core.Path.{◌≡◌, refl, sym, ap, ◌∙◌}
use native.Mathlib.Omega.{arith}
use borrow.Author.Tests.{ltb-true, ltb-false, lt-ltb, le-ltb, ne_eqb}
use lib.Dec.{ltb, eqb}
use lib.ListN.{length, get_or}
use Rattle.error.specs.Refusal.{Answer, accepted, refused, refuse_if, and_then, answered, refusal_of, value_or, shape_bad, key_unsound}
use Rattle.error.proofs.LawsAnswer.{accepted_inj, passed, refuse_yes, refuse_no, went_on, then_yes, then_no, answered_yes, answered_no}
use Rattle.error.proofs.LawsAnswer.{was_accepted, was_refused}
use Rattle.scripthash_layout.specs.Sizes.{page_class}
use Rattle.book_desks.specs.Desks.{permission_number}
use Rattle.book_desks.specs.Counts.{freed_count, held_count, held_in, limits_in, counts_high, counted}
use Rattle.book_desks.proofs.LawsDesks.{Within, Covers, permits, permission_given, permission_not}
use Rattle.book_space.specs.Space.{Space, InShape, Taken, take_block, searched, take_found}
use Rattle.book_space.specs.Desks.{TakenFor, judged_take, slab_for, freed_untrue, freed_left, page_for, freed_but, run_found, run_for}
use Rattle.book_space.specs.Desks.{given_back}
use Rattle.book_space.specs.Steps.{Takes, mark_after, judged_number, space_for, counts_for, TakesFor, GivesBack}
use Rattle.book_space.proofs.LawsSteps.{after_taken}
use Rattle.book_space.proofs.LawsFreed.{RunLies, found_lies}

-- What a desk's take gives that is such a take, with some counts.
abbrev pub taken_for : Taken → List ℕ → TakenFor
taken_for t counts = record { off = t.off; space = t.space; counts = counts }

-- A desk's take is one of an answer, and leaves some counts.
abbrev pub TookFor : Answer Taken → List ℕ → TakenFor → Type 0
TookFor a counts t = (u : Taken) × (a ≡ accepted u) × (t.off ≡ u.off) × (t.space ≡ u.space) × (t.counts ≡ counts)

-- What a desk's take is of the space.
abbrev pub taken : TakenFor → Taken
taken t = record { off = t.off; space = t.space }

-- A desk's take that was accepted is that take, and leaves those counts.
pub took_is : {a : Answer Taken} {counts : List ℕ} {t : TakenFor} → TookFor a counts t → (a ≡ accepted (taken t)) × (t.counts ≡ counts)
took_is {a} {counts} {t} (u, is, off, space, left) = (is ∙ ap accepted (λ i. record { off = sym off i; space = sym space i }), left)

-- ---- the judgement

-- A number by two tests is 0 where the first fails and the other's is 0.
both_zero : (high : Bool) (number : ℕ) → cond high shape_bad number ≡ 0 → (high ≡ false) × (number ≡ 0)
both_zero true number e = absurd (omega arith)
both_zero false number e = (refl, e)

-- And else it is the number of the first that holds.
first_told : {A : Type 0} (high : Bool) (number : ℕ) (after : Answer A) → (number ≢ 0 → after ≡ refused number)
    → cond high shape_bad number ≢ 0 → refuse_if high shape_bad after ≡ refused (cond high shape_bad number)
unfolding refuse_if
first_told true number after f n = refl
first_told false number after f n = f n

module _ (end desk pages freed : ℕ) (before after : List ℕ) where
  -- What a take's judgement is told by.
  abbrev number : ℕ → ℕ
  number mark = judged_number end desk pages freed before mark

  abbrev judging : Taken → Answer TakenFor
  judging = judged_take end desk pages freed before after

  -- A take that passed its judgement: the counts are no more than the body's pages, the ceiling and the reserves are kept.
  pub judged_passed : (t : Taken) {u : TakenFor} → judging t ≡ accepted u
      → (counts_high end before ≡ false) × Within (limits_in before) end desk pages (held_in before) freed t.space.mark
      × Covers (limits_in before) end desk pages (held_in before) freed t.space.mark × (taken_for t after ≡ u)
  unfolding judged_take
  judged_passed t e =
      let (low, e1) = passed _ _ _ e in
      let (same, within, covers) =
      permits (limits_in before) end desk pages (held_in before) freed t.space.mark (accepted (taken_for t after)) e1 in
      (low, within, covers, accepted_inj same)

  -- Where its number is 0 it is given, and else turned back with that number.
  judged_given : (t : Taken) → number t.space.mark ≡ 0 → judging t ≡ accepted (taken_for t after)
  unfolding judged_take judged_number
  judged_given t e =
      let (low, z) = both_zero _ _ e in
      refuse_no _ _ _ low
      ∙ permission_given (limits_in before) end desk pages (held_in before) freed t.space.mark (accepted (taken_for t after)) z

  judged_not : (t : Taken) → number t.space.mark ≢ 0 → judging t ≡ refused (number t.space.mark)
  unfolding judged_take judged_number
  judged_not t n =
      first_told (counts_high end before) (permission_number (limits_in before) end desk pages (held_in before) freed t.space.mark) _
      (permission_not (limits_in before) end desk pages (held_in before) freed t.space.mark (accepted (taken_for t after))) n

  -- A judgement that is 0 found the counts no more than the body's pages.
  pub judged_low : (mark : ℕ) {m : ℕ} → m ≡ number mark → m ≡ 0 → counts_high end before ≡ false
  unfolding judged_number
  judged_low mark told z = (both_zero _ _ (sym told ∙ z)).0

  module _ (a : Answer Taken) where
    -- A take of an answer that is then judged.
    judged_on : {t : TakenFor} → and_then a judging ≡ accepted t → TookFor a after t
    judged_on e =
        let (u, is, e1) = went_on a judging e in
        let (low, within, covers, same) = judged_passed u e1 in (
          u,
          is,
          ap (λ (t : TakenFor). t.off) (sym same),
          ap (λ (t : TakenFor). t.space) (sym same),
          ap (λ (t : TakenFor). t.counts)
              (sym same),
        )

    -- A look ahead at it told a refusal.
    pub peek_refused : {m : ℕ} → answered mark_after a ≡ refused m → and_then a judging ≡ refused m
    peek_refused e = then_no a judging (was_refused mark_after a e)

    -- It told where the mark would stand, and the judgement by that is another number than 0.
    pub judge_refused : {mark m : ℕ} → answered mark_after a ≡ accepted mark → m ≡ number mark → m ≢ 0 → and_then a judging ≡ refused m
    judge_refused {mark} {m} e told n =
        let (u, is, at) = was_accepted mark_after a e in
        let same : m ≡ number u.space.mark = told ∙ ap number (sym at) in
        then_yes a judging is ∙ judged_not u (λ (z : number u.space.mark ≡ 0). n (same ∙ z)) ∙ ap refused (sym same)

    -- The judgement is 0, and the take is made: that is the desk's take.
    pub take_judged : {mark m : ℕ} {s left : Space} {tells : Answer ℕ} → answered mark_after a ≡ accepted mark → m ≡ number mark → m ≡ 0
        → Takes a s left tells → TakesFor (and_then a judging) s before left after tells
    unfolding space_for counts_for
    take_judged {mark} {m} {s} e told z takes =
        let (u, is, at) = was_accepted mark_after a e in
        let done : and_then a judging ≡ accepted (taken_for u after)
        = then_yes a judging is ∙ judged_given u (ap number at ∙ sym told ∙ z) in
        record {
          told = takes.told ∙ answered_yes (λ (t : Taken). t.off) a is ∙ sym (answered_yes (λ (t : TakenFor). t.off) _ done);
          left = takes.left ∙ after_taken s a is ∙ sym (ap (space_for s) done);
          counts = sym (ap (counts_for before) done);
        }

-- A desk's take that is refused tells its number, and leaves all as it was.
pub refused_for : {a : Answer TakenFor} {m : ℕ} (s : Space) (counts : List ℕ) → a ≡ refused m → TakesFor a s counts s counts (refused m)
unfolding space_for counts_for
refused_for s counts e =
    record {
      told = sym (answered_no (λ (t : TakenFor). t.off) _ e);
      left = sym (ap (space_for s) e);
      counts = sym (ap (counts_for counts) e);
    }

-- What a desk's take does by one answer, it does by another that is the same.
pub takes_for_same : {a c : Answer TakenFor} {s left : Space} {before after : List ℕ} {tells : Answer ℕ} → a ≡ c
    → TakesFor c s before left after tells → TakesFor a s before left after tells
takes_for_same e t = rw e t

-- ---- a desk's takes

module _ (desk : ℕ) (s : Space) (counts : List ℕ) where
  -- A slab for a desk is that slab, and no count changes.
  pub slab_for_lem : (class : ℕ) {t : TakenFor} → slab_for desk class s counts ≡ accepted t → TookFor (take_block class s) counts t
  unfolding slab_for
  slab_for_lem class e = judged_on (length s.body) desk 0 (freed_count counts) counts counts (take_block class s) e

  -- A page for a desk is that page: the free head and the count of freed pages agree, a freed page is one less, and the desk holds one
  -- more.
  pub page_true : {t : TakenFor} → page_for desk s counts ≡ accepted t → freed_untrue s counts ≡ false
  unfolding page_for
  page_true e = (passed _ _ _ e).0

  -- Where they agree, the page is taken and judged.
  pub page_tested : freed_untrue s counts ≡ false → page_for desk s counts
      ≡ and_then (take_block page_class s)
      (judged_take (length s.body) desk 1 (freed_left s counts) counts
      (counted (freed_left s counts) desk (held_count desk counts + 1) counts))
  unfolding page_for
  page_tested e = refuse_no _ _ _ e

  pub page_for_lem : {t : TakenFor} → page_for desk s counts ≡ accepted t
      → TookFor (take_block page_class s) (counted (freed_left s counts) desk (held_count desk counts + 1) counts) t
  unfolding page_for
  page_for_lem e =
      judged_on (length s.body) desk 1 (freed_left s counts) counts (counted (freed_left s counts) desk (held_count desk counts + 1) counts)
      (take_block page_class s) (passed _ _ _ e).1

  -- Where the freed pages are searched, the run is taken where that led, and else it is refused.
  pub run_searched : (pages : ℕ) {found : Option ℕ} → searched pages (freed_count counts) s ≡ accepted found
      → run_for desk pages s counts ≡ run_found desk pages s counts found
  unfolding run_for
  run_searched pages e = then_yes (searched pages (freed_count counts) s) _ e

  pub run_unsearched : (pages : ℕ) {m : ℕ} → searched pages (freed_count counts) s ≡ refused m → run_for desk pages s counts ≡ refused m
  unfolding run_for
  run_unsearched pages e = then_no (searched pages (freed_count counts) s) _ e

  -- A run for a desk is the run where a search of the freed pages led, which are fewer then, and the desk holds its pages more.
  pub run_for_lem : (pages : ℕ) {t : TakenFor} → run_for desk pages s counts ≡ accepted t
      → (found : Option ℕ) × (searched pages (freed_count counts) s ≡ accepted found)
      × (take_found pages (freed_count counts) s found ≡ accepted (taken t))
      × (t.counts ≡ counted (freed_but pages found counts) desk (held_count desk counts + pages) counts)
  unfolding run_for run_found
  run_for_lem pages e =
      let (found, is, run) = went_on (searched pages (freed_count counts) s) _ e in
      let (took, left) =
      took_is
      (judged_on (length s.body) desk pages (freed_but pages found counts) counts
      (counted (freed_but pages found counts) desk (held_count desk counts + pages) counts)
      (take_found pages (freed_count counts) s found) run) in
      (found, is, took, left)

  -- It keeps the space in shape, and lies below the mark.
  pub run_for_lies : (pages : ℕ) {t : TakenFor} → InShape s → 0 < pages → run_for desk pages s counts ≡ accepted t
      → RunLies pages s (taken t)
  run_for_lies pages i some_pages e =
      let (found, is, took, c) = run_for_lem pages e in found_lies pages (freed_count counts) s found i some_pages is took

-- No more pages are freed once one is taken.
pub freed_less : (s : Space) (counts : List ℕ) → freed_left s counts ≤ freed_count counts
freed_less s counts = go (eqb (get_or s.free page_class 0) 0)
  where
    go : (none : Bool) → cond none (freed_count counts) (freed_count counts - 1) ≤ freed_count counts
    go true = omega arith
    go false = omega arith

-- ---- giving back

module _ (end desk pages : ℕ) (before : List ℕ) (some : 0 < pages) where
  -- The counts once they are given back.
  abbrev given : List ℕ
  given = counted (freed_count before + pages) desk (held_count desk before - pages) before

  -- What is told of giving back some pages: 1, 31 or the counts.
  module _ {A : Type 0} (call : List ℕ → Answer A) where
    abbrev giving : Answer A
    giving = given_back end desk pages before call

    asked : giving
        ≡ refuse_if (counts_high end before) shape_bad (refuse_if (ltb (held_count desk before) pages) key_unsound (call given))
    unfolding given_back
    asked = rw (ne_eqb pages 0 (λ (e : pages ≡ 0). omega arith))

    pub back_high : counts_high end before ≡ true → giving ≡ refused shape_bad
    back_high e = asked ∙ refuse_yes _ _ _ e

    pub back_few : counts_high end before ≡ false → held_count desk before < pages → giving ≡ refused key_unsound
    back_few e h = asked ∙ refuse_no _ _ _ e ∙ refuse_yes _ _ _ (lt-ltb _ _ h)

    pub back_given : counts_high end before ≡ false → pages ≤ held_count desk before → giving ≡ call given
    back_given e h = asked ∙ refuse_no _ _ _ e ∙ refuse_no _ _ _ (le-ltb _ _ h)

  -- A giving back that tells a number: with 0 a call goes on with the counts as they are left, and else it is turned back with the number.
  module _ {after : List ℕ} {number : ℕ} (g : GivesBack end desk pages before after number) {A : Type 0} (call : List ℕ → Answer A) where
    pub back_yes : number ≡ 0 → given_back end desk pages before call ≡ call after
    back_yes z = go (counts_high end before) (ltb (held_count desk before) pages) refl refl
      where
        go : (high few : Bool) → counts_high end before ≡ high → ltb (held_count desk before) pages ≡ few
            → given_back end desk pages before call ≡ call after
        go true few e f = let o = ap refusal_of (back_high {A = List ℕ} accepted e) in let t = g.told in absurd (omega arith)
        go false true e f =
            let o = ap refusal_of (back_few {A = List ℕ} accepted e (ltb-true _ _ f)) in let t = g.told in absurd (omega arith)
        go false false e f =
            let h = ltb-false _ _ f in
            back_given call e h ∙ ap call
            (sym (g.left ∙ ap (λ (a : Answer (List ℕ)). value_or (λ c. c) a before) (back_given accepted e h)))

    pub back_no : number ≢ 0 → given_back end desk pages before call ≡ refused number
    back_no n = go (counts_high end before) (ltb (held_count desk before) pages) refl refl
      where
        go : (high few : Bool) → counts_high end before ≡ high → ltb (held_count desk before) pages ≡ few
            → given_back end desk pages before call ≡ refused number
        go true few e f = back_high call e ∙ ap refused (sym (g.told ∙ ap refusal_of (back_high {A = List ℕ} accepted e)))
        go false true e f =
            let h = ltb-true _ _ f in
            back_few call e h ∙ ap refused (sym (g.told ∙ ap refusal_of (back_few {A = List ℕ} accepted e h)))
        go false false e f =
            absurd (n (g.told ∙ ap refusal_of (back_given {A = List ℕ} accepted e (ltb-false _ _ f))))

-- ---- pages given back

-- The counts after a desk gave back so many pages.
abbrev pub counts_back : ℕ → ℕ → List ℕ → List ℕ
counts_back desk pages counts =
    cond (eqb pages 0) counts (counted (freed_count counts + pages) desk (held_count desk counts - pages) counts)

-- Where pages are given back, the call goes on with those counts.
pub given_back_lem : {A : Type 0} (end desk pages : ℕ) (counts : List ℕ) (after : List ℕ → Answer A) {x : A}
    → given_back end desk pages counts after ≡ accepted x → after (counts_back desk pages counts) ≡ accepted x
unfolding given_back
given_back_lem end desk pages counts after {x} e = by_pages (eqb pages 0) refl
  where
    by_pages : (none_there : Bool) → eqb pages 0 ≡ none_there → after (counts_back desk pages counts) ≡ accepted x
    by_pages true z = rw z (rw z at e)
    by_pages false z = rw z (passed _ _ _ (passed _ _ _ (rw z at e)).1).1
