-- Laws of desks: the list that names them, what they lack, and what a permission says. Assumes nothing.
use Prim.Native.Nat.{ℕ, zero, suc, ◌+◌, ◌-◌, ◌≤◌, ◌<◌, max}
use mathlib.Core.Bool.{Bool, true, false, cond, not, ◌&&◌, ◌||◌, or_assoc}
use mathlib.Core.List.{List, [], ◌∷◌}
use mathlib.Core.Logic.{◌≢◌, ⊎_elim}
use mathlib.Core.Path.{◌≡◌, refl, sym, ap, ◌∙◌, subst}
use native.Mathlib.Numerals.{add-one}
use native.Mathlib.Omega.{arith}
use borrow.Author.Tests.{ltb-false, le-ltb, lt-ltb, le-leb, lt-leb, leb-true, leb-false, eqb-true, eqb-false, eq-eqb, ne_eqb, not-false}
use lib.Dec.{ltb, leb, eqb}
use lib.ListN.{length, get_or, set, drop}
use lib.Seq.{get_or-set_same, get_or-set_other, drop-cons, drop-length}
use Rattle.error.specs.Refusal.{Answer, accepted, refused, refuse_if, refusal_of, past_ceiling, into_reserves}
use Rattle.error.proofs.LawsAnswer.{neither, passed, refuse_yes, refuse_no}
use Rattle.book_desks.specs.Desks.{desks, beyond_desks, list_bad, desk_of, desk_count, Limits, sum_to, lacks, lacks_with, to_be_had}
use Rattle.book_desks.specs.Desks.{reserve_high, permitted, permission_number}
use Rattle.book_desks.proofs.LawsSums.{same_or_not, below_next, sum_same, sum_moved, sum_set}

-- ---- the list

-- A list that is good for so many heads is as long, and none of its bytes is beyond the desks.
pub list_good : (ds : List ℕ) (heads : ℕ) → list_bad ds heads ≡ false → (length ds ≡ heads) × (beyond_desks ds ≡ false)
unfolding list_bad
list_good ds heads e =
    let (long, fine) = neither (not (eqb (length ds) heads)) (beyond_desks ds) e in (eqb-true (length ds) heads (not-false _ long), fine)

-- Where no byte of a list is beyond the desks, each names a desk.
byte_in : (ds : List ℕ) (key : ℕ) → beyond_desks ds ≡ false → key < length ds → desk_of ds key < desks
unfolding beyond_desks
byte_in [] key e h = absurd (omega arith)
byte_in (d ∷ ds) zero e h = leb-false desks d (neither (leb desks d) (beyond_desks ds) e).0
byte_in (d ∷ ds) (suc key) e h = byte_in ds key (neither (leb desks d) (beyond_desks ds) e).1 (omega arith)

-- A list that is good for so many heads names a desk for each key.
pub desk_in_lem : (ds : List ℕ) (heads key : ℕ) → list_bad ds heads ≡ false → key < heads → desk_of ds key < desks
desk_in_lem ds heads key e h = let (long, fine) = list_good ds heads e in byte_in ds key fine (omega arith)

-- The larger of two passes a bound that either passes.
larger_passes : (k a b : ℕ) → leb k (max a b) ≡ (leb k a || leb k b)
larger_passes k a b = go (leb k a) (leb k b) refl refl
  where
    go : (s t : Bool) → leb k a ≡ s → leb k b ≡ t → leb k (max a b) ≡ (s || t)
    go true t e f = let h : k ≤ a = leb-true k a e in le-leb k (max a b) (omega arith)
    go false true e f = let h : k ≤ b = leb-true k b f in le-leb k (max a b) (omega arith)
    go false false e f = let h : a < k = leb-false k a e in let g : b < k = leb-false k b f in lt-leb k (max a b) (omega arith)

or_false : (b : Bool) → (b || false) ≡ b
or_false true = refl
or_false false = refl

-- Judged by the largest byte so far and the bytes to come: a byte more is judged.
pub beyond_step : (ds : List ℕ) (top i : ℕ) → i < length ds
    → (leb desks (max top (get_or ds i 0)) || beyond_desks (drop (i + 1) ds)) ≡ (leb desks top || beyond_desks (drop i ds))
unfolding beyond_desks
beyond_step ds top i h =
    rw (add-one i, drop-cons ds i 0 h, larger_passes desks top (get_or ds i 0))
    (or_assoc (leb desks top) (leb desks (get_or ds i 0)) (beyond_desks (drop (suc i) ds)))

-- At the end only the largest byte is.
pub beyond_end : (ds : List ℕ) (top i : ℕ) → i ≤ length ds → length ds ≤ i → (leb desks top || beyond_desks (drop i ds)) ≡ leb desks top
unfolding beyond_desks
beyond_end ds top i g h = let e : i ≡ length ds = omega arith in rw (e, drop-length ds) (or_false (leb desks top))

-- Where no reserve is above its ceiling, each is at most that.
pub reserves_low : (n : ℕ) (l : Limits) → reserve_high n l ≡ false → (d : ℕ) → d < n → desk_count d l.reserve ≤ desk_count d l.ceiling
unfolding reserve_high
reserves_low zero l e d h = absurd (omega arith)
reserves_low (suc n) l e d h =
    let (all, last) = neither (reserve_high n l) (ltb (desk_count n l.ceiling) (desk_count n l.reserve)) e in
    below_next (λ i. desk_count i l.reserve ≤ desk_count i l.ceiling) n (reserves_low n l all) (ltb-false _ _ last) d h

-- ---- one desk's count changed

module _ (held : List ℕ) (desk new : ℕ) (sixteen : length held ≡ desks) (within : desk < desks) where
  -- That desk has the new count.
  pub own_count : desk_count desk (set held desk new) ≡ new
  own_count = get_or-set_same held desk new 0 (omega arith)

  -- Where counts are below ceilings, they stay so if the new one is.
  pub ceilings_kept : (most : List ℕ) → ((d : ℕ) → d < desks → desk_count d held ≤ desk_count d most) → new ≤ desk_count desk most
      → (d : ℕ) → d < desks → desk_count d (set held desk new) ≤ desk_count d most
  ceilings_kept most all h d k =
      ⊎_elim
      (λ (e : d ≡ desk).
      subst (λ (x : ℕ). desk_count x (set held desk new) ≤ desk_count x most) (sym e)
      (let o : desk_count desk (set held desk new) ≡ new = own_count in omega arith))
      (λ (n : d ≢ desk).
      let e : desk_count d (set held desk new) ≡ desk_count d held = get_or-set_other held desk d new 0 n in let o = all d k in omega arith)
      (same_or_not d desk)

  -- The lacks move no further than that desk's lack.
  pub lacks_moved : (l : Limits) (a b : ℕ)
      → (desk_count desk l.reserve - new) + a ≤ (desk_count desk l.reserve - desk_count desk held) + b
      → lacks l (set held desk new) + a ≤ lacks l held + b
  unfolding lacks
  lacks_moved l a b h =
      sum_moved desks desk a b (λ d. desk_count d l.reserve - desk_count d (set held desk new))
      (λ d. desk_count d l.reserve - desk_count d held) within
      (λ i k n. let e : desk_count i (set held desk new) ≡ desk_count i held = get_or-set_other held desk i new 0 n in omega arith)
      (let e : desk_count desk (set held desk new) ≡ new = own_count in omega arith)

  -- The sum of the counts changes as that desk's does.
  pub total_set : sum_to desks (λ d. desk_count d (set held desk new)) + desk_count desk held ≡ sum_to desks (λ d. desk_count d held) + new
  total_set =
      let s = sum_set desks desk (λ d. desk_count d (set held desk new)) (λ d. desk_count d held) within
      (λ i k n. get_or-set_other held desk i new 0 n) in
      let e : desk_count desk (set held desk new) ≡ new = own_count in
      omega arith

-- ---- lacks

-- One desk's pages more or less, among the others'.
abbrev more : ℕ → ℕ → ℕ → ℕ
more desk pages d = cond (eqb d desk) pages 0

more_own : (desk pages : ℕ) → more desk pages desk ≡ pages
more_own desk pages = ap (λ (t : Bool). cond t pages 0) (eq-eqb desk desk refl)

more_other : (desk pages d : ℕ) → d ≢ desk → more desk pages d ≡ 0
more_other desk pages d n = ap (λ (t : Bool). cond t pages 0) (ne_eqb d desk n)

-- What is lacking with a desk's pages more is what is lacking once they are counted.
pub lacks_with_lem : (l : Limits) (held : List ℕ) (desk pages : ℕ) → length held ≡ desks → desk < desks
    → lacks l (set held desk (desk_count desk held + pages)) ≡ lacks_with l held desk pages
unfolding lacks lacks_with
lacks_with_lem l held desk pages sixteen within =
    sum_same desks _ _ (λ d h. ap (λ (x : ℕ). desk_count d l.reserve - x) (counted_at d))
  where
    counted_at : (d : ℕ) → desk_count d (set held desk (desk_count desk held + pages)) ≡ desk_count d held + more desk pages d
    counted_at d =
        ⊎_elim
        (λ (e : d ≡ desk).
        subst (λ (x : ℕ). desk_count x (set held desk (desk_count desk held + pages)) ≡ desk_count x held + more desk pages x) (sym e)
        (let o = own_count held desk (desk_count desk held + pages) sixteen within in let p = more_own desk pages in omega arith))
        (λ (n : d ≢ desk).
        let e = get_or-set_other held desk d (desk_count desk held + pages) 0 n in let p = more_other desk pages d n in omega arith)
        (same_or_not d desk)

-- The same as an equation of sums: only that desk's lack is another.
pub lacks_by : (l : Limits) (held : List ℕ) (desk pages : ℕ) → desk < desks
    → lacks_with l held desk pages + (desk_count desk l.reserve - desk_count desk held)
    ≡ lacks l held + (desk_count desk l.reserve - (desk_count desk held + pages))
unfolding lacks lacks_with
lacks_by l held desk pages within =
    let s = sum_set desks desk (λ d. desk_count d l.reserve - (desk_count d held + more desk pages d))
    (λ d. desk_count d l.reserve - desk_count d held) within
    (λ i k n. let p = more_other desk pages i n in omega arith) in
    let p = more_own desk pages in
    omega arith

-- A desk below its reserve lacks less by a page that it gets.
pub one_lacks : (l : Limits) (held : List ℕ) (desk : ℕ) → desk < desks → desk_count desk held < desk_count desk l.reserve
    → lacks_with l held desk 1 + 1 ≤ lacks l held
one_lacks l held desk within below = let s = lacks_by l held desk 1 within in omega arith

-- ---- permissions

module _ (l : Limits) (end desk pages : ℕ) (held : List ℕ) (freed mark : ℕ) where
  -- With some pages more, if any, the desk stays within its ceiling.
  abbrev pub Within : Type 0
  Within = pages ≢ 0 → desk_count desk held + pages ≤ desk_count desk l.ceiling

  -- What is to be had then covers what the desks lack then.
  abbrev pub Covers : Type 0
  Covers = lacks_with l held desk pages ≤ to_be_had end freed mark

  abbrev past : Bool
  past = not (eqb pages 0) && ltb (desk_count desk l.ceiling) (desk_count desk held + pages)

  -- The first test, read: it fails where the desk stays within its ceiling, and passes above it.
  not_past : Within → past ≡ false
  not_past h = go (eqb pages 0) refl
    where
      go : (t : Bool) → eqb pages 0 ≡ t → not t && ltb (desk_count desk l.ceiling) (desk_count desk held + pages) ≡ false
      go true e = refl
      go false e = le-ltb _ _ (h (eqb-false pages 0 e))

  within_by : past ≡ false → Within
  within_by e n =
      ltb-false _ _
      (subst (λ (t : Bool). not t && ltb (desk_count desk l.ceiling) (desk_count desk held + pages) ≡ false) (ne_eqb pages 0 n) e)

  is_past : pages ≢ 0 → desk_count desk l.ceiling < desk_count desk held + pages → past ≡ true
  is_past n h =
      subst (λ (t : Bool). not t && ltb (desk_count desk l.ceiling) (desk_count desk held + pages) ≡ true) (sym (ne_eqb pages 0 n))
      (lt-ltb _ _ h)

  module _ {A : Type 0} (after : Answer A) where
    abbrev asked : Answer A
    asked = permitted l end desk pages held freed mark after

    -- A permission that is given says so of the ceiling and of the reserves.
    pub permits : {x : A} → asked ≡ accepted x → (after ≡ accepted x) × Within × Covers
    unfolding permitted
    permits e =
        let (c, e1) = passed past _ _ e in let (r, e2) = passed _ _ _ e1 in (e2, within_by c, ltb-false _ _ r)

    -- Within the ceiling and with the reserves covered a take goes on.
    pub permits_by : Within → Covers → asked ≡ after
    unfolding permitted
    permits_by w c = refuse_no past _ _ (not_past w) ∙ refuse_no _ _ _ (le-ltb _ _ c)

    -- Past the ceiling it is turned back with 40.
    pub permits_no : pages ≢ 0 → desk_count desk l.ceiling < desk_count desk held + pages → asked ≡ refused past_ceiling
    unfolding permitted
    permits_no n h = refuse_yes past _ _ (is_past n h)

    -- Within it, with fewer pages to be had than are lacking, with 41.
    pub reserves_no : Within → to_be_had end freed mark < lacks_with l held desk pages → asked ≡ refused into_reserves
    unfolding permitted
    reserves_no w h = refuse_no past _ _ (not_past w) ∙ refuse_yes _ _ _ (lt-ltb _ _ h)

    -- Told by its number, a permission is given where that is 0.
    pub permission_given : permission_number l end desk pages held freed mark ≡ 0 → asked ≡ after
    unfolding permitted permission_number refuse_if
    permission_given e = go past (ltb (to_be_had end freed mark) (lacks_with l held desk pages)) e
      where
        go : (t u : Bool) → refusal_of (refuse_if {A = Unit {0}} t past_ceiling (refuse_if u into_reserves (accepted tt))) ≡ 0
            → refuse_if t past_ceiling (refuse_if u into_reserves after) ≡ after
        go true u z = absurd (omega arith)
        go false true z = absurd (omega arith)
        go false false z = refl

    -- And else it is turned back with that number.
    pub permission_not : permission_number l end desk pages held freed mark ≢ 0
        → asked ≡ refused (permission_number l end desk pages held freed mark)
    unfolding permitted permission_number refuse_if
    permission_not n = go past (ltb (to_be_had end freed mark) (lacks_with l held desk pages)) n
      where
        go : (t u : Bool) → refusal_of (refuse_if {A = Unit {0}} t past_ceiling (refuse_if u into_reserves (accepted tt))) ≢ 0
            → refuse_if t past_ceiling (refuse_if u into_reserves after)
            ≡ refused (refusal_of (refuse_if {A = Unit {0}} t past_ceiling (refuse_if u into_reserves (accepted tt))))
        go true u z = refl
        go false true z = refl
        go false false z = absurd (z refl)
