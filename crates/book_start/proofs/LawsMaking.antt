-- Making a book fresh: its counts as they are filled, and what a making is turned back with, by them. Assumes nothing.
use Prim.Native.Nat.{ℕ, zero, suc, ◌+◌, ◌-◌, ◌/◌, ◌≤◌, ◌<◌}
use mathlib.Core.Bool.{Bool, true, false, ◌||◌, true≢false}
use mathlib.Core.List.{List}
use mathlib.Core.Logic.{◌≢◌, ⊎_elim}
use mathlib.Core.Path.{◌≡◌, refl, sym, subst, ◌∙◌}
use native.Mathlib.Numerals.{add-one}
use native.Mathlib.Omega.{arith}
use borrow.Author.Tests.{ltb-true, ltb-false, le-ltb}
use lib.Dec.{ltb}
use lib.ListN.{length, get_or, set, replicate, length-set, get_or-replicate}
use lib.Seq.{ext_get_or, get_or-set_same, get_or-set_other}
use Rattle.error.specs.Refusal.{Answer, accepted, refused, refuse_if, refusal_of, shape_bad, desks_bad}
use Rattle.scripthash_layout.specs.Sizes.{page_size}
use Rattle.book_limits.specs.Limits.{out_of_shape}
use Rattle.book_desks.specs.Desks.{desks, Limits, desk_count, total, lacks, above, list_bad, reserve_high, making}
use Rattle.book_desks.specs.Counts.{count_words, reserve_at, ceiling_at, held_count, held_in, limits_in, fresh_counts, counts_high}
use Rattle.book_desks.proofs.LawsSums.{same_or_not, sum_same, above_no, none_above}
use Rattle.book_desks.proofs.LawsDesks.{reserves_low}
use Rattle.book_desks.proofs.LawsCounts.{length_fresh, freed_fresh, fresh_none, fresh_reserve, fresh_ceiling, held_at_lem, reserve_at_lem}
use Rattle.book_desks.proofs.LawsCounts.{ceiling_at_lem, lacks_in, counts_low, none_high}
use Rattle.book.specs.Book.{Book, fresh}
use Rattle.book_start.specs.Making.{makes_fresh, making_number}

-- ---- fresh counts, filled

-- Words of which the limits of the desks below a number are filled in, and those before them are 0.
pub record Filled (l : Limits) (words : List ℕ) (n : ℕ) : Type 0 where
  pub long : length words ≡ count_words
  pub none : (i : ℕ) → i < 17 → get_or words i 0 ≡ 0
  pub reserve : (d : ℕ) → d < n → get_or words (reserve_at d) 0 ≡ desk_count d l.reserve
  pub ceiling : (d : ℕ) → d < n → get_or words (ceiling_at d) 0 ≡ desk_count d l.ceiling

-- Before the first.
pub filled_none : (l : Limits) → Filled l (replicate count_words 0) 0
filled_none l =
    record {
      long = refl;
      none = λ i h. get_or-replicate count_words i 0 0 (omega arith);
      reserve = λ d h. absurd (omega arith);
      ceiling = λ d h. absurd (omega arith);
    }

module _ (l : Limits) (words : List ℕ) (n : ℕ) (f : Filled l words n) (within : n < desks) where
  abbrev kept : List ℕ
  kept = set words (reserve_at n) (desk_count n l.reserve)

  abbrev next : List ℕ
  next = set kept (ceiling_at n) (desk_count n l.ceiling)

  -- What stands elsewhere stays.
  elsewhere : (i : ℕ) → i ≢ reserve_at n → i ≢ ceiling_at n → get_or next i 0 ≡ get_or words i 0
  elsewhere i r c =
      get_or-set_other kept (ceiling_at n) i (desk_count n l.ceiling) 0 c
      ∙ get_or-set_other words (reserve_at n) i (desk_count n l.reserve) 0 r

  at_reserve : get_or next (reserve_at n) 0 ≡ desk_count n l.reserve
  at_reserve =
      get_or-set_other kept (ceiling_at n) (reserve_at n) (desk_count n l.ceiling) 0 (λ (e : reserve_at n ≡ ceiling_at n). omega arith)
      ∙ get_or-set_same words (reserve_at n) (desk_count n l.reserve) 0 (let e = f.long in omega arith)

  at_ceiling : get_or next (ceiling_at n) 0 ≡ desk_count n l.ceiling
  at_ceiling =
      get_or-set_same kept (ceiling_at n) (desk_count n l.ceiling) 0
      (let k = length-set words (reserve_at n) (desk_count n l.reserve) in let e = f.long in omega arith)

  -- One desk more.
  pub filled_next : Filled l next (n + 1)
  filled_next =
      record {
        long = length-set kept (ceiling_at n) (desk_count n l.ceiling) ∙ length-set words (reserve_at n) (desk_count n l.reserve)
            ∙ f.long;
        none = λ i h. elsewhere i (λ (e : i ≡ reserve_at n). omega arith) (λ (e : i ≡ ceiling_at n). omega arith) ∙ f.none i h;
        reserve = λ d h.
            ⊎_elim (λ (e : d ≡ n). subst (λ (x : ℕ). get_or next (reserve_at x) 0 ≡ desk_count x l.reserve) (sym e) at_reserve)
            (λ (q : d ≢ n).
            let u : (d ≡ n → ⊥) = q in
            elsewhere (reserve_at d) (λ (e : reserve_at d ≡ reserve_at n). u (omega arith)) (λ (e : reserve_at d ≡ ceiling_at n). omega arith)
            ∙ f.reserve d (omega arith)) (same_or_not d n);
        ceiling = λ d h.
            ⊎_elim (λ (e : d ≡ n). subst (λ (x : ℕ). get_or next (ceiling_at x) 0 ≡ desk_count x l.ceiling) (sym e) at_ceiling)
            (λ (q : d ≢ n).
            let u : (d ≡ n → ⊥) = q in
            elsewhere (ceiling_at d) (λ (e : ceiling_at d ≡ reserve_at n). omega arith) (λ (e : ceiling_at d ≡ ceiling_at n). u (omega arith))
            ∙ f.ceiling d (omega arith)) (same_or_not d n);
      }

-- After the last they are the fresh counts.
pub filled_all : (l : Limits) (words : List ℕ) → Filled l words desks → words ≡ fresh_counts l
filled_all l words f =
    ext_get_or 0 words (fresh_counts l) (f.long ∙ sym (length_fresh l))
    (λ i h. by_place i (ltb i 17) (ltb i 33) refl refl (let e = f.long in omega arith))
  where
    by_place : (i : ℕ) (s t : Bool) → ltb i 17 ≡ s → ltb i 33 ≡ t → i < 49 → get_or words i 0 ≡ get_or (fresh_counts l) i 0
    by_place i true t e g h = let k : i < 17 = ltb-true i 17 e in f.none i k ∙ sym (fresh_none l i k)
    by_place i false true e g h =
        let a : 17 ≤ i = ltb-false i 17 e in
        let b : i < 33 = ltb-true i 33 g in
        let at : reserve_at (i - 17) ≡ i = omega arith in
        let d : i - 17 < desks = omega arith in
        subst (λ (x : ℕ). get_or words x 0 ≡ get_or (fresh_counts l) x 0) at (f.reserve (i - 17) d ∙ sym (fresh_reserve l (i - 17) d))
    by_place i false false e g h =
        let a : 33 ≤ i = ltb-false i 33 g in
        let at : ceiling_at (i - 33) ≡ i = omega arith in
        let d : i - 33 < desks = omega arith in
        subst (λ (x : ℕ). get_or words x 0 ≡ get_or (fresh_counts l) x 0) at (f.ceiling (i - 33) d ∙ sym (fresh_ceiling l (i - 33) d))

-- ---- fresh counts, judged

-- Limits that are the same for the desks below a number have a reserve above its ceiling alike.
reserves_same : (n : ℕ) (k m : Limits)
    → ((d : ℕ) → d < n → (desk_count d k.reserve ≡ desk_count d m.reserve) × (desk_count d k.ceiling ≡ desk_count d m.ceiling))
    → reserve_high n k ≡ reserve_high n m
unfolding reserve_high
reserves_same zero k m same = refl
reserves_same (suc n) k m same =
    let (r, c) = same n (omega arith) in rw (reserves_same n k m (λ d h. same d (omega arith)), r, c)

module _ (l : Limits) where
  -- The limits of a desk in them.
  kept_in : (d : ℕ) → d < desks → desk_count d (limits_in (fresh_counts l)).reserve ≡ desk_count d l.reserve
  kept_in d h = reserve_at_lem (fresh_counts l) d h ∙ fresh_reserve l d h

  most_in : (d : ℕ) → d < desks → desk_count d (limits_in (fresh_counts l)).ceiling ≡ desk_count d l.ceiling
  most_in d h = ceiling_at_lem (fresh_counts l) d h ∙ fresh_ceiling l d h

  -- One of them is high exactly where a reserve is above the body's pages.
  pub fresh_high : (size : ℕ) → counts_high size (fresh_counts l) ≡ above (size / page_size) desks (λ d. desk_count d l.reserve)
  fresh_high size = go (counts_high size (fresh_counts l)) (above (size / page_size) desks (λ d. desk_count d l.reserve)) refl refl
    where
      low : counts_high size (fresh_counts l) ≡ false → above (size / page_size) desks (λ d. desk_count d l.reserve) ≡ false
      low e =
          none_above (size / page_size) desks (λ d. desk_count d l.reserve)
          (λ d h. let r = (counts_low size (fresh_counts l) e).reserve d h in let k = fresh_reserve l d h in omega arith)

      high : above (size / page_size) desks (λ d. desk_count d l.reserve) ≡ false → counts_high size (fresh_counts l) ≡ false
      high e =
          none_high size (fresh_counts l) (let f = freed_fresh l in omega arith)
          (λ d h. let k = held_at_lem (fresh_counts l) d h in let z = fresh_none l (1 + d) (omega arith) in omega arith)
          (λ d h. let k = kept_in d h in let r = above_no (size / page_size) desks (λ i. desk_count i l.reserve) e d h in omega arith)

      go : (s t : Bool) → counts_high size (fresh_counts l) ≡ s → above (size / page_size) desks (λ d. desk_count d l.reserve) ≡ t → s ≡ t
      go true true e f = refl
      go false false e f = refl
      go true false e f = absurd (true≢false (sym e ∙ high f))
      go false true e f = absurd (true≢false (sym f ∙ low e))

  -- A fresh book lacks the sum of its reserves.
  pub fresh_lacks : lacks (limits_in (fresh_counts l)) (held_in (fresh_counts l)) ≡ total l.reserve
  fresh_lacks =
      lacks_in (fresh_counts l)
      ∙ sum_same desks (λ d. get_or (fresh_counts l) (reserve_at d) 0 - held_count d (fresh_counts l)) (λ d. desk_count d l.reserve)
      (λ d h. let k = fresh_reserve l d h in let z = fresh_none l (1 + d) (omega arith) in omega arith)

  -- A reserve in them is above its ceiling exactly where one is.
  pub fresh_reserves : reserve_high desks (limits_in (fresh_counts l)) ≡ reserve_high desks l
  fresh_reserves = reserves_same desks (limits_in (fresh_counts l)) l (λ d h. (kept_in d h, most_in d h))

-- ---- reserves above ceilings, in words

-- Of no desks none has its reserve above its ceiling.
pub none_over : (l : Limits) → reserve_high 0 l ≡ false
unfolding reserve_high
none_over l = refl

module _ (counts : List ℕ) (d : ℕ) (within : d < desks) where
  -- One more that has not changes nothing.
  pub over_step : reserve_high d (limits_in counts) ≡ false → get_or counts (reserve_at d) 0 ≤ get_or counts (ceiling_at d) 0
      → reserve_high (d + 1) (limits_in counts) ≡ false
  unfolding reserve_high
  over_step e h =
      let r = reserve_at_lem counts d within in
      let c = ceiling_at_lem counts d within in
      rw (add-one d, e) (le-ltb (desk_count d (limits_in counts).ceiling) (desk_count d (limits_in counts).reserve) (omega arith))

  -- One that has decides.
  pub over_yes : get_or counts (ceiling_at d) 0 < get_or counts (reserve_at d) 0 → reserve_high desks (limits_in counts) ≡ true
  over_yes h = go (reserve_high desks (limits_in counts)) refl
    where
      go : (t : Bool) → reserve_high desks (limits_in counts) ≡ t → reserve_high desks (limits_in counts) ≡ true
      go true e = e
      go false e =
          let l = reserves_low desks (limits_in counts) e d within in
          let r = reserve_at_lem counts d within in
          let c = ceiling_at_lem counts d within in
          absurd (omega arith)

-- ---- what a making is turned back with

module _ (ds : List ℕ) (size heads : ℕ) (l : Limits) where
  abbrev shape : Bool
  shape = out_of_shape size heads || above (size / page_size) desks (λ d. desk_count d l.reserve)

  abbrev limits : Bool
  limits = list_bad ds heads || (ltb (size / page_size - 1) (total l.reserve) || reserve_high desks l)

  -- The tests of a making, by its counts.
  abbrev high : Bool
  high = counts_high size (fresh_counts l)

  abbrev few : Bool
  few = ltb (size / page_size - 1) (lacks (limits_in (fresh_counts l)) (held_in (fresh_counts l)))

  abbrev over : Bool
  over = reserve_high desks (limits_in (fresh_counts l))

  -- Its number, by them.
  number_is : making_number ds size heads l
      ≡ refusal_of (refuse_if {A = Unit {0}} (out_of_shape size heads || high) shape_bad
      (refuse_if (list_bad ds heads || (few || over)) desks_bad (accepted tt)))
  unfolding making_number making
  number_is = rw (fresh_high l size, fresh_lacks l, fresh_reserves l)

  module _ (unlike : out_of_shape size heads ≡ false) where
    -- A count is high.
    pub number_high : high ≡ true → shape_bad ≡ making_number ds size heads l
    unfolding refuse_if
    number_high e = rw (number_is, unlike, e)

    module _ (low : high ≡ false) where
      -- The list is bad.
      pub number_list : list_bad ds heads ≡ true → desks_bad ≡ making_number ds size heads l
      unfolding refuse_if
      number_list e = rw (number_is, unlike, low, e)

      module _ (named : list_bad ds heads ≡ false) where
        -- The reserves exceed the pages to be had.
        pub number_few : few ≡ true → desks_bad ≡ making_number ds size heads l
        unfolding refuse_if
        number_few e = rw (number_is, unlike, low, named, e)

        -- A reserve is above its ceiling, or nothing is wrong.
        pub number_over : few ≡ false → over ≡ true → desks_bad ≡ making_number ds size heads l
        unfolding refuse_if
        number_over e f = rw (number_is, unlike, low, named, e, f)

        pub number_none : few ≡ false → over ≡ false → 0 ≡ making_number ds size heads l
        unfolding refuse_if
        number_none e f = rw (number_is, unlike, low, named, e, f)

  -- The lengths break the limits.
  pub number_shape : out_of_shape size heads ≡ true → shape_bad ≡ making_number ds size heads l
  unfolding refuse_if
  number_shape e = rw (number_is, e)

  module _ {A : Type 0} (after : Answer A) where
    -- Where the number is 0, the book is made.
    pub making_on : making_number ds size heads l ≡ 0 → making ds size heads l after ≡ after
    unfolding making_number making refuse_if
    making_on z = go shape limits z
      where
        go : (t u : Bool) → refusal_of (refuse_if {A = Unit {0}} t shape_bad (refuse_if u desks_bad (accepted tt))) ≡ 0
            → refuse_if t shape_bad (refuse_if u desks_bad after) ≡ after
        go true u e = absurd (omega arith)
        go false true e = absurd (omega arith)
        go false false e = refl

    -- And else the making is turned back with it.
    pub making_off : making_number ds size heads l ≢ 0 → making ds size heads l after ≡ refused (making_number ds size heads l)
    unfolding making_number making refuse_if
    making_off n = go shape limits n
      where
        go : (t u : Bool) → refusal_of (refuse_if {A = Unit {0}} t shape_bad (refuse_if u desks_bad (accepted tt))) ≢ 0
            → refuse_if t shape_bad (refuse_if u desks_bad after)
            ≡ refused (refusal_of (refuse_if {A = Unit {0}} t shape_bad (refuse_if u desks_bad (accepted tt))))
        go true u e = refl
        go false true e = refl
        go false false e = absurd (e refl)

-- Making a book fresh, by that number.
module _ (ds : List ℕ) (l : Limits) (b : Book) where
  abbrev number : ℕ
  number = making_number ds (length b.space.body) (length b.heads) l

  pub makes_on : number ≡ 0 → makes_fresh ds l b ≡ accepted (fresh b.space.body (length b.heads) l)
  unfolding makes_fresh
  makes_on z = making_on ds (length b.space.body) (length b.heads) l _ z

  pub makes_off : number ≢ 0 → makes_fresh ds l b ≡ refused number
  unfolding makes_fresh
  makes_off n = making_off ds (length b.space.body) (length b.heads) l _ n
