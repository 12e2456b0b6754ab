-- The verdict on counts: it is good exactly where the desks are. Assumes nothing.
use Prim.Native.Nat.{ℕ, zero, suc, ◌+◌, ◌/◌, ◌≤◌, ◌<◌}
use mathlib.Core.Bool.{Bool, true, false, cond, not}
use mathlib.Core.List.{List}
use mathlib.Core.Logic.{◌≢◌, ⊎_elim}
use mathlib.Core.Option.{Option, none, some}
use mathlib.Core.Path.{◌≡◌, refl, ◌∙◌}
use native.Mathlib.Nat.{eq-or-lt_of_le}
use native.Mathlib.Omega.{arith}
use borrow.Author.Tests.{ltb-false, le-ltb, eqb-true, eq-eqb, not-false}
use lib.Dec.{ltb, eqb}
use lib.ListN.{length}
use Rattle.scripthash_layout.specs.Sizes.{page_class, page_size}
use Rattle.book_desks.specs.Desks.{desks, desk_count, total, lacks, list_bad}
use Rattle.book_desks.specs.Counts.{count_words, freed_count, held_count, held_in, limits_in, counts_high}
use Rattle.book.specs.Book.{Book}
use Rattle.book_start.specs.Start.{Verdict, good, key_unsound, key_shares, free_strays, free_shares, counts_exceed, freed_differs}
use Rattle.book_start.specs.Start.{held_differs}
use Rattle.book_start.specs.Start.{held_high, reserve_high, lacks_open, freed_of, counts_behind}
use Rattle.book_start.specs.Start.{pages_of_desk, to_be_had_in, GoodCounts, desk_fault, fault_or, judge_desks, counts_verdict}

-- What is good of one desk: its count is the pages of its keys, and neither that nor its reserve is above its ceiling.
pub record GoodDesk (ds : List ℕ) (b : Book) (d : ℕ) : Type 0 where
  pub exact : held_count d b.counts ≡ pages_of_desk ds b d
  pub ceiling : held_count d b.counts ≤ desk_count d (limits_in b.counts).ceiling
  pub reserve : desk_count d (limits_in b.counts).reserve ≤ desk_count d (limits_in b.counts).ceiling

-- A test with a fault that a good verdict passed.
passes : (t : Bool) (fault after : Verdict) (n : ℕ) → ((m : ℕ) → fault ≢ good m) → cond t fault after ≡ good n → (t ≡ false)
    × (after ≡ good n)
passes true fault after n bad e = absurd (bad n e)
passes false fault after n bad e = (refl, e)

-- A test of a desk that found no fault.
clear : (t : Bool) (v : Verdict) (after : Option Verdict) → cond t (some v) after ≡ none → (t ≡ false) × (after ≡ none)
clear true v after e = let z : ◌≡◌ {A = ℕ} 0 1 = cc in absurd (omega arith)
clear false v after e = (refl, e)

-- Two numbers that a test tells to be equal.
told_equal : (m n : ℕ) → not (eqb m n) ≡ false → m ≡ n
told_equal m n e = eqb-true m n (not-false (eqb m n) e)

module _ (ds : List ℕ) (b : Book) where
  -- A desk without a fault is good.
  fault_none : (d : ℕ) → desk_fault ds b d ≡ none → GoodDesk ds b d
  unfolding desk_fault
  fault_none d e =
      let p = clear (not (eqb (held_count d b.counts) (pages_of_desk ds b d))) _ _ e in
      let q = clear (ltb (desk_count d (limits_in b.counts).ceiling) (held_count d b.counts)) _ _ p.1 in
      let r = clear (ltb (desk_count d (limits_in b.counts).ceiling) (desk_count d (limits_in b.counts).reserve)) _ _ q.1 in
      record { exact = told_equal _ _ p.0; ceiling = ltb-false _ _ q.0; reserve = ltb-false _ _ r.0 }

  -- A good desk has no fault.
  pub none_fault : (d : ℕ) → GoodDesk ds b d → desk_fault ds b d ≡ none
  unfolding desk_fault
  none_fault d g =
      rw (eq-eqb (held_count d b.counts) (pages_of_desk ds b d) g.exact)
      (rw (le-ltb (desk_count d (limits_in b.counts).ceiling) (held_count d b.counts) g.ceiling)
      (rw (le-ltb (desk_count d (limits_in b.counts).ceiling) (desk_count d (limits_in b.counts).reserve) g.reserve) refl))

  -- A fault isn't good.
  fault_bad : (d : ℕ) (v : Verdict) (n : ℕ) → desk_fault ds b d ≡ some v → v ≢ good n
  unfolding desk_fault
  fault_bad d v n e is =
      go (not (eqb (held_count d b.counts) (pages_of_desk ds b d)))
      (ltb (desk_count d (limits_in b.counts).ceiling) (held_count d b.counts))
      (ltb (desk_count d (limits_in b.counts).ceiling) (desk_count d (limits_in b.counts).reserve)) e
    where
      go : (s t u : Bool) → cond s (some (held_differs d)) (cond t (some (held_high d)) (cond u (some (reserve_high d)) none)) ≡ some v → ⊥
      go true t u f = let z : ◌≡◌ {A = ℕ} 0 1 = cc in omega arith
      go false true u f = let z : ◌≡◌ {A = ℕ} 0 1 = cc in omega arith
      go false false true f = let z : ◌≡◌ {A = ℕ} 0 1 = cc in omega arith
      go false false false f = let z : ◌≡◌ {A = ℕ} 0 1 = cc in omega arith

  -- A fault or else a verdict, which is good.
  fault_passed : (d : ℕ) (o : Option Verdict) (after : Verdict) (n : ℕ) → desk_fault ds b d ≡ o → fault_or o after ≡ good n
      → (desk_fault ds b d ≡ none) × (after ≡ good n)
  unfolding fault_or
  fault_passed d none after n is e = (is, e)
  fault_passed d (some v) after n is e = absurd (fault_bad d v n is e)

  -- Desks that are judged good are good, and so is what comes behind them.
  desks_good : (d k : ℕ) (after : Verdict) (n : ℕ) → judge_desks ds b d k after ≡ good n
      → ((i : ℕ) → d ≤ i → i < d + k → GoodDesk ds b i) × (after ≡ good n)
  unfolding judge_desks
  desks_good d zero after n e = (λ i low high. absurd (omega arith), e)
  desks_good d (suc k) after n e =
      let p = fault_passed d (desk_fault ds b d) (judge_desks ds b (d + 1) k after) n refl e in
      let q = desks_good (d + 1) k after n p.1 in (
        λ i low high. ⊎_elim (λ (same : d ≡ i). rw (← same) (fault_none d p.0)) (λ (above : d < i). q.0 i (omega arith) (omega arith))
            (eq-or-lt_of_le low),
        q.1,
      )

  -- Good desks are judged by what comes behind them.
  good_desks : (d k : ℕ) (after : Verdict) → ((i : ℕ) → d ≤ i → i < d + k → GoodDesk ds b i) → judge_desks ds b d k after ≡ after
  unfolding judge_desks fault_or
  good_desks d zero after g = refl
  good_desks d (suc k) after g =
      rw (none_fault d (g d (omega arith) (omega arith))) (good_desks (d + 1) k after (λ i low high. g i (omega arith) (omega arith)))

  -- Counts that are judged good are good.
  pub counts_good : (lost n : ℕ) → length b.counts ≡ count_words → counts_high (length b.space.body) b.counts ≡ false
      → list_bad ds (length b.heads) ≡ false → counts_verdict ds b lost ≡ good n → GoodCounts ds b × (lost ≡ n)
  unfolding counts_verdict
  counts_good lost n long low named e =
      let p = passes (ltb (length b.space.body / page_size) (1 + (total (held_in b.counts) + to_be_had_in b))) counts_exceed _ n
      (λ m f. let z : ◌≡◌ {A = ℕ} 0 1 = cc in omega arith) e in
      let q = passes (not (eqb (freed_count b.counts) (length (freed_of b.space page_class)))) freed_differs _ n
      (λ m f. let z : ◌≡◌ {A = ℕ} 0 1 = cc in omega arith) p.1 in
      let r = desks_good 0 desks _ n q.1 in
      let s = passes (ltb (to_be_had_in b) (lacks (limits_in b.counts) (held_in b.counts))) lacks_open _ n
      (λ m f. let z : ◌≡◌ {A = ℕ} 0 1 = cc in omega arith) r.1 in
      let same : lost ≡ n = let f = s.1 in cc in (
        record {
          words = long;
          low = low;
          named = named;
          balanced = ltb-false _ _ p.0;
          freed = told_equal _ _ q.0;
          exact = λ d h. (r.0 d (omega arith) (omega arith)).exact;
          ceilings = λ d h. (r.0 d (omega arith) (omega arith)).ceiling;
          reserves = λ d h. (r.0 d (omega arith) (omega arith)).reserve;
          covered = ltb-false _ _ s.0;
        },
        same,
      )

  -- Good counts are judged good.
  pub good_counts : (lost : ℕ) → GoodCounts ds b → counts_verdict ds b lost ≡ good lost
  unfolding counts_verdict
  good_counts lost g =
      rw (le-ltb (length b.space.body / page_size) (1 + (total (held_in b.counts) + to_be_had_in b)) g.balanced)
      (rw (eq-eqb (freed_count b.counts) (length (freed_of b.space page_class)) g.freed)
      (good_desks 0 desks _ (λ i low high. record { exact = g.exact i high; ceiling = g.ceilings i high; reserve = g.reserves i high })
      ∙ rw (le-ltb (to_be_had_in b) (lacks (limits_in b.counts) (held_in b.counts)) g.covered) refl))

  -- What is judged good with its counts is judged good by its blocks, and then by its counts.
  pub behind_good : (v : Verdict) (n : ℕ) → counts_behind ds b v ≡ good n → (lost : ℕ) × (v ≡ good lost) × (counts_verdict ds b lost ≡ good n)
  unfolding counts_behind
  behind_good (good lost) n e = (lost, refl, e)
  behind_good (key_unsound key) n e = absurd (let z : ◌≡◌ {A = ℕ} 0 1 = cc in omega arith)
  behind_good (key_shares key) n e = absurd (let z : ◌≡◌ {A = ℕ} 0 1 = cc in omega arith)
  behind_good (free_strays class) n e = absurd (let z : ◌≡◌ {A = ℕ} 0 1 = cc in omega arith)
  behind_good (free_shares class) n e = absurd (let z : ◌≡◌ {A = ℕ} 0 1 = cc in omega arith)
  behind_good counts_exceed n e = absurd (let z : ◌≡◌ {A = ℕ} 0 1 = cc in omega arith)
  behind_good freed_differs n e = absurd (let z : ◌≡◌ {A = ℕ} 0 1 = cc in omega arith)
  behind_good (held_differs d) n e = absurd (let z : ◌≡◌ {A = ℕ} 0 1 = cc in omega arith)
  behind_good (held_high d) n e = absurd (let z : ◌≡◌ {A = ℕ} 0 1 = cc in omega arith)
  behind_good (reserve_high d) n e = absurd (let z : ◌≡◌ {A = ℕ} 0 1 = cc in omega arith)
  behind_good lacks_open n e = absurd (let z : ◌≡◌ {A = ℕ} 0 1 = cc in omega arith)
