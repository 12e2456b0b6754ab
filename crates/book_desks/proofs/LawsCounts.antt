-- Laws of the counts in words: what is read of them, what a change leaves, and the fresh ones. Assumes nothing.
use Prim.Native.Nat.{ℕ, zero, suc, ◌+◌, ◌-◌, ◌/◌, ◌≤◌, ◌<◌}
use mathlib.Core.Bool.{Bool, true, false}
use mathlib.Core.List.{List, [], ◌∷◌, ◌++◌}
use mathlib.Core.Logic.{◌≢◌, ⊎_elim}
use mathlib.Core.Path.{◌≡◌, refl, sym, ap, ◌∙◌, subst}
use native.Mathlib.Omega.{arith}
use borrow.Author.Tests.{ltb-true, ltb-false}
use lib.Dec.{ltb}
use lib.ListN.{length, get_or, set, replicate, length-append, length-set, get_or-replicate, get_or-append}
use lib.Seq.{ext_get_or, get_or-set_same, get_or-set_other, get_or-append-add, get_or_at}
use Rattle.scripthash_layout.specs.Sizes.{page_size}
use Rattle.book_desks.specs.Desks.{desks, Limits, desk_count, sum_to, lacks}
use Rattle.book_desks.specs.Counts.{count_words, held_at, reserve_at, ceiling_at, freed_count, held_count, listed, held_in, limits_in}
use Rattle.book_desks.specs.Counts.{fresh_counts, counts_high, counted}
use Rattle.book_desks.proofs.LawsSums.{same_or_not, below_next, sum_same, above_no, none_above}

-- ---- lists of values

-- As many values are listed as asked for.
pub length_listed : (n : ℕ) (f : ℕ → ℕ) → length (listed n f) ≡ n
unfolding listed
length_listed zero f = refl
length_listed (suc n) f = let l = length-append (listed n f) (f n ∷ []) in let h = length_listed n f in omega arith

-- A value below the number stands where it is looked for.
pub listed_at : (n : ℕ) (f : ℕ → ℕ) (d : ℕ) → d < n → desk_count d (listed n f) ≡ f d
unfolding listed
listed_at zero f d h = absurd (omega arith)
listed_at (suc n) f d h =
    below_next (λ i. desk_count i (listed n f ++ (f n ∷ [])) ≡ f i) n
    (λ i k. get_or-append (listed n f) (f n ∷ []) 0 i (let l = length_listed n f in omega arith) ∙ listed_at n f i k)
    (get_or_at (listed n f) (f n) [] 0 n (length_listed n f)) d h

-- A list that holds a function's values is the list of them.
pub listed_is : (n : ℕ) (f : ℕ → ℕ) (xs : List ℕ) → length xs ≡ n → ((d : ℕ) → d < n → f d ≡ desk_count d xs) → listed n f ≡ xs
listed_is n f xs long same =
    ext_get_or 0 (listed n f) xs (length_listed n f ∙ sym long)
    (λ d h. let k : d < n = let l = length_listed n f in omega arith in listed_at n f d k ∙ same d k)

-- Functions that agree list the same.
pub listed_same : (n : ℕ) (f g : ℕ → ℕ) → ((d : ℕ) → d < n → f d ≡ g d) → listed n f ≡ listed n g
listed_same n f g same = listed_is n f (listed n g) (length_listed n g) (λ d h. same d h ∙ sym (listed_at n g d h))

-- ---- what is read of counts

-- There is a count of pages held for each desk.
pub length_held : (counts : List ℕ) → length (held_in counts) ≡ desks
unfolding held_in
length_held counts = length_listed desks _

-- The pages that a desk holds.
pub held_at_lem : (counts : List ℕ) (d : ℕ) → d < desks → desk_count d (held_in counts) ≡ held_count d counts
unfolding held_in
held_at_lem counts d h = listed_at desks _ d h

-- The pages kept for a desk.
pub reserve_at_lem : (counts : List ℕ) (d : ℕ) → d < desks → desk_count d (limits_in counts).reserve ≡ get_or counts (reserve_at d) 0
unfolding limits_in
reserve_at_lem counts d h = listed_at desks (λ i. get_or counts (reserve_at i) 0) d h

-- The most pages that a desk gets.
pub ceiling_at_lem : (counts : List ℕ) (d : ℕ) → d < desks → desk_count d (limits_in counts).ceiling ≡ get_or counts (ceiling_at d) 0
unfolding limits_in
ceiling_at_lem counts d h = listed_at desks (λ i. get_or counts (ceiling_at i) 0) d h

-- The lacks as the words tell them.
pub lacks_in : (counts : List ℕ)
    → lacks (limits_in counts) (held_in counts) ≡ sum_to desks (λ d. get_or counts (reserve_at d) 0 - held_count d counts)
unfolding lacks
lacks_in counts =
    sum_same desks _ (λ d. get_or counts (reserve_at d) 0 - held_count d counts)
    (λ d h. let r = reserve_at_lem counts d h in let e = held_at_lem counts d h in omega arith)

-- Where no count is high, the freed pages, each desk's and each reserve are at most the body's pages.
pub record CountsLow (end : ℕ) (counts : List ℕ) : Type 0 where
  pub freed : freed_count counts ≤ end / page_size
  pub held : (d : ℕ) → d < desks → held_count d counts ≤ end / page_size
  pub reserve : (d : ℕ) → d < desks → get_or counts (reserve_at d) 0 ≤ end / page_size

pub counts_low : (end : ℕ) (counts : List ℕ) → counts_high end counts ≡ false → CountsLow end counts
unfolding counts_high
counts_low end counts e =
    let all = above_no (end / page_size) 33 (λ i. get_or counts i 0) e in
    record { freed = all 0 (omega arith); held = λ d h. all (held_at d) (omega arith); reserve = λ d h. all (reserve_at d) (omega arith) }

-- And back: where they are, no count is high.
pub none_high : (end : ℕ) (counts : List ℕ) → freed_count counts ≤ end / page_size
    → ((d : ℕ) → d < desks → desk_count d (held_in counts) ≤ end / page_size)
    → ((d : ℕ) → d < desks → desk_count d (limits_in counts).reserve ≤ end / page_size) → counts_high end counts ≡ false
unfolding counts_high
none_high end counts freed held reserve = none_above (end / page_size) 33 (λ i. get_or counts i 0) each
  where
    held_from : (d : ℕ) → d < desks → get_or counts (held_at d) 0 ≤ end / page_size
    held_from d h = let e = held_at_lem counts d h in let l = held d h in omega arith

    reserve_from : (d : ℕ) → d < desks → get_or counts (reserve_at d) 0 ≤ end / page_size
    reserve_from d h = let e = reserve_at_lem counts d h in let l = reserve d h in omega arith

    past_first : (i : ℕ) → i < 33 → (i ≡ 0 → ⊥) → (t : Bool) → ltb i 17 ≡ t → get_or counts i 0 ≤ end / page_size
    past_first i h n true e =
        let k : i < 17 = ltb-true i 17 e in
        let at : held_at (i - 1) ≡ i = omega arith in
        subst (λ (x : ℕ). get_or counts x 0 ≤ end / page_size) at (held_from (i - 1) (omega arith))
    past_first i h n false e =
        let k : 17 ≤ i = ltb-false i 17 e in
        let at : reserve_at (i - 17) ≡ i = omega arith in
        subst (λ (x : ℕ). get_or counts x 0 ≤ end / page_size) at (reserve_from (i - 17) (omega arith))

    each : (i : ℕ) → i < 33 → get_or counts i 0 ≤ end / page_size
    each i h =
        ⊎_elim (λ (e : i ≡ 0). subst (λ (x : ℕ). get_or counts x 0 ≤ end / page_size) (sym e) freed)
        (λ (n : i ≢ 0). past_first i h n (ltb i 17) refl) (same_or_not i 0)

-- ---- counts changed

module _ (freed desk held : ℕ) (counts : List ℕ) (within : desk < desks) where
  -- A change of the freed pages and of a desk's leaves the limits.
  pub limits_counted : limits_in (counted freed desk held counts) ≡ limits_in counts
  unfolding limits_in
  limits_counted =
      ap (λ (f : List ℕ × List ℕ). record { reserve = f.0; ceiling = f.1 }) both
    where
      kept : (i : ℕ) → 17 ≤ i → get_or (counted freed desk held counts) i 0 ≡ get_or counts i 0
      kept i h =
          get_or-set_other (set counts 0 freed) (held_at desk) i held 0 (λ (e : i ≡ held_at desk). omega arith)
          ∙ get_or-set_other counts 0 i freed 0 (λ (e : i ≡ 0). omega arith)

      both : ◌≡◌ {A = List ℕ × List ℕ} (
        listed desks (λ d. get_or (counted freed desk held counts) (reserve_at d) 0),
        listed desks (λ d. get_or (counted freed desk held counts) (ceiling_at d) 0),
      )
          (listed desks (λ d. get_or counts (reserve_at d) 0), listed desks (λ d. get_or counts (ceiling_at d) 0))
      both =
          let r = listed_same desks (λ d. get_or (counted freed desk held counts) (reserve_at d) 0) (λ d. get_or counts (reserve_at d) 0)
          (λ d h. kept (reserve_at d) (omega arith)) in
          let c = listed_same desks (λ d. get_or (counted freed desk held counts) (ceiling_at d) 0) (λ d. get_or counts (ceiling_at d) 0)
          (λ d h. kept (ceiling_at d) (omega arith)) in
          cc

  module _ (long : length counts ≡ count_words) where
    -- The freed pages are as told.
    pub freed_counted : freed_count (counted freed desk held counts) ≡ freed
    freed_counted =
        get_or-set_other (set counts 0 freed) (held_at desk) 0 held 0 (λ (e : 0 ≡ held_at desk). omega arith)
        ∙ get_or-set_same counts 0 freed 0 (omega arith)

    -- And of the pages held only that desk's are others.
    pub held_counted : held_in (counted freed desk held counts) ≡ set (held_in counts) desk held
    unfolding held_in
    held_counted =
        listed_is desks (λ d. held_count d (counted freed desk held counts)) (set (held_in counts) desk held)
        (length-set (held_in counts) desk held ∙ length_held counts) each
      where
        each : (d : ℕ) → d < desks → held_count d (counted freed desk held counts) ≡ desk_count d (set (held_in counts) desk held)
        each d h =
            ⊎_elim
            (λ (e : d ≡ desk).
            subst (λ (x : ℕ). held_count x (counted freed desk held counts) ≡ desk_count x (set (held_in counts) desk held)) (sym e)
            (get_or-set_same (set counts 0 freed) (held_at desk) held 0 (let l = length-set counts 0 freed in omega arith)
            ∙ sym (get_or-set_same (held_in counts) desk held 0 (let l = length_held counts in omega arith))))
            (λ (n : d ≢ desk).
            let q : (d ≡ desk → ⊥) = n in
            get_or-set_other (set counts 0 freed) (held_at desk) (held_at d) held 0 (λ (e : held_at d ≡ held_at desk). q (omega arith))
            ∙ get_or-set_other counts 0 (held_at d) freed 0 (λ (e : held_at d ≡ 0). omega arith)
            ∙ sym (held_at_lem counts d h) ∙ sym (get_or-set_other (held_in counts) desk d held 0 n))
            (same_or_not d desk)

    -- Their number stays.
    pub length_counted : length (counted freed desk held counts) ≡ count_words
    length_counted = length-set (set counts 0 freed) (held_at desk) held ∙ length-set counts 0 freed ∙ long

-- ---- fresh counts

-- Limits with a number for each of the desks, and no more.
abbrev pub sixteen_of : Limits → Limits
sixteen_of l = record { reserve = listed desks (λ d. desk_count d l.reserve); ceiling = listed desks (λ d. desk_count d l.ceiling) }

-- Where there is just one for each, they are the limits.
pub sixteen_same : (l : Limits) → length l.reserve ≡ desks → length l.ceiling ≡ desks → sixteen_of l ≡ l
sixteen_same l r c =
    let e = listed_is desks (λ d. desk_count d l.reserve) l.reserve r (λ d h. refl) in
    let f = listed_is desks (λ d. desk_count d l.ceiling) l.ceiling c (λ d h. refl) in
    ap (λ (x : List ℕ). record { reserve = x; ceiling = listed desks (λ d. desk_count d l.ceiling) }) e
    ∙ ap (λ (x : List ℕ). record { reserve = l.reserve; ceiling = x }) f

module _ (l : Limits) where
  abbrev front : List ℕ
  front = listed desks (λ d. desk_count d l.reserve)

  abbrev behind : List ℕ
  behind = listed desks (λ d. desk_count d l.ceiling)

  -- The words before the reserves, the reserves, and the ceilings.
  pub fresh_none : (i : ℕ) → i < 1 + desks → get_or (fresh_counts l) i 0 ≡ 0
  unfolding fresh_counts
  fresh_none i h = get_or-append (replicate (1 + desks) 0) (front ++ behind) 0 i h ∙ get_or-replicate (1 + desks) i 0 0 h

  pub fresh_reserve : (d : ℕ) → d < desks → get_or (fresh_counts l) (reserve_at d) 0 ≡ desk_count d l.reserve
  unfolding fresh_counts
  fresh_reserve d h =
      get_or-append-add (replicate (1 + desks) 0) (front ++ behind) d 0
      ∙ get_or-append front behind 0 d (let n = length_listed desks (λ d. desk_count d l.reserve) in omega arith)
      ∙ listed_at desks (λ d. desk_count d l.reserve) d h

  pub fresh_ceiling : (d : ℕ) → d < desks → get_or (fresh_counts l) (ceiling_at d) 0 ≡ desk_count d l.ceiling
  unfolding fresh_counts
  fresh_ceiling d h =
      let n = length_listed desks (λ d. desk_count d l.reserve) in
      let at : ceiling_at d ≡ 17 + (16 + d) = omega arith in
      ap (λ (k : ℕ). get_or (fresh_counts l) k 0) at ∙ get_or-append-add (replicate (1 + desks) 0) (front ++ behind) (16 + d) 0
      ∙ ap (λ (k : ℕ). get_or (front ++ behind) (k + d) 0) (sym n) ∙ get_or-append-add front behind d 0
      ∙ listed_at desks (λ d. desk_count d l.ceiling) d h

  -- Fresh counts are 49 words.
  pub length_fresh : length (fresh_counts l) ≡ count_words
  unfolding fresh_counts
  length_fresh =
      let a = length-append (replicate (1 + desks) 0) (front ++ behind) in
      let b = length-append front behind in
      let c = length_listed desks (λ d. desk_count d l.reserve) in
      let d = length_listed desks (λ d. desk_count d l.ceiling) in
      omega arith

  -- Nothing is freed.
  pub freed_fresh : freed_count (fresh_counts l) ≡ 0
  unfolding fresh_counts
  freed_fresh = refl

  -- Nothing is held.
  pub held_fresh : held_in (fresh_counts l) ≡ replicate desks 0
  unfolding held_in
  held_fresh =
      listed_is desks (λ d. held_count d (fresh_counts l)) (replicate desks 0) refl
      (λ d h. fresh_none (held_at d) (omega arith) ∙ sym (get_or-replicate desks d 0 0 h))

  -- The limits are as given, for each of the desks.
  pub limits_fresh : limits_in (fresh_counts l) ≡ sixteen_of l
  unfolding limits_in
  limits_fresh =
      let e = listed_same desks (λ d. get_or (fresh_counts l) (reserve_at d) 0) (λ d. desk_count d l.reserve) (λ d h. fresh_reserve d h) in
      let f = listed_same desks (λ d. get_or (fresh_counts l) (ceiling_at d) 0) (λ d. desk_count d l.ceiling) (λ d h. fresh_ceiling d h) in
      ap (λ (x : List ℕ). record { reserve = x; ceiling = listed desks (λ d. get_or (fresh_counts l) (ceiling_at d) 0) }) e
      ∙ ap (λ (x : List ℕ). record { reserve = front; ceiling = x }) f
