-- The rule of a run is what it says: its pages stand in the list, none begins lower, none is found where there is none. Assumes nothing.
use Rattle.std.proofs.Common.{◌≡◌, ℕ, zero, suc, ◌+◌, ◌*◌, ◌<◌, ◌≤◌, min, Bool, true, false, cond, ◌&&◌, ◌||◌, eqb, ◌⊎◌, List, [], ◌∷◌, sym, refl, ap, ◌∙◌, subst, inl, inr, ⊎_elim, true≢false, arith, eq-eqb, eqb-true}
use mathlib.Core.Option.{Option, none, some}
use Rattle.buffer.proofs.LawsOrder.{lt_or_ge}
use Rattle.scripthash_free.proofs.LawsBlock.{both}
use Rattle.free_runs.specs.Runs.{is_in, stretch, lesser, least_of, lowest, Freed}

-- A test of two, one of which holds.
pub or_left : (a b : Bool) → a ≡ true → a || b ≡ true
or_left true b e = refl
or_left false b e = absurd (true≢false (sym e))

pub or_right : (a b : Bool) → b ≡ true → a || b ≡ true
or_right true b e = refl
or_right false b e = e

pub either : (a b : Bool) → a || b ≡ true → (a ≡ true) ⊎ (b ≡ true)
either true b e = inl refl
either false b e = inr e

pub and_both : (a b : Bool) → a ≡ true → b ≡ true → a && b ≡ true
and_both true b e f = f
and_both false b e f = absurd (true≢false (sym e))

-- A stretch by its test is one by its pages.
pub stretch_freed : (n o : ℕ) (os : List ℕ) → stretch n o os ≡ true → Freed n o os
unfolding stretch
stretch_freed zero o os e i h = absurd (omega arith)
stretch_freed (suc n) o os e zero h = let z : o + 0 * 4096 ≡ o = omega arith in rw z (both (is_in o os) (stretch n (o + 4096) os) e).0
stretch_freed (suc n) o os e (suc i) h =
    let z : o + suc i * 4096 ≡ o + 4096 + i * 4096 = omega arith in
    rw z (stretch_freed n (o + 4096) os (both (is_in o os) (stretch n (o + 4096) os) e).1 i (omega arith))

pub freed_stretch : (n o : ℕ) (os : List ℕ) → Freed n o os → stretch n o os ≡ true
unfolding stretch
freed_stretch zero o os f = refl
freed_stretch (suc n) o os f =
    let z : o + 0 * 4096 ≡ o = omega arith in
    and_both _ _ (rw z at (f 0 (omega arith)))
    (freed_stretch n (o + 4096) os
    (λ i h. let s : o + suc i * 4096 ≡ o + 4096 + i * 4096 = omega arith in rw s at (f (suc i) (omega arith))))

-- What the least of some offsets is: a stretch begins there, and at none of them that is lower; or at none of them.
Least : ℕ → List ℕ → List ℕ → Option ℕ → Type 0
Least n os xs none = (p : ℕ) → is_in p xs ≡ true → Freed n p os → ⊥
Least n os xs (some o) = (is_in o xs ≡ true) × Freed n o os × ((p : ℕ) → is_in p xs ≡ true → Freed n p os → o ≤ p)

module _ (n : ℕ) (os : List ℕ) (x : ℕ) (xs : List ℕ) where
  -- a first offset from which there is no stretch
  without : stretch n x os ≡ false → (r : Option ℕ) → Least n os xs r → Least n os (x ∷ xs) r
  unfolding Least is_in
  without e none l =
      λ p h f.
      ⊎_elim
      (λ (q : eqb x p ≡ true). true≢false (sym (freed_stretch n x os (subst (λ (y : ℕ). Freed n y os) (sym (eqb-true x p q)) f)) ∙ e))
      (λ (q : is_in p xs ≡ true). l p q f)
      (either (eqb x p) (is_in p xs) h)
  without e (some o) l = (
    or_right (eqb x o) (is_in o xs) l.0,
    l.1,
    λ p h f.
        ⊎_elim
        (λ (q : eqb x p ≡ true).
        absurd (true≢false (sym (freed_stretch n x os (subst (λ (y : ℕ). Freed n y os) (sym (eqb-true x p q)) f)) ∙ e)))
        (λ (q : is_in p xs ≡ true). l.2 p q f)
        (either (eqb x p) (is_in p xs) h),
  )

  -- a first offset from which there is one
  with : Freed n x os → (r : Option ℕ) → Least n os xs r → Least n os (x ∷ xs) (lesser x r)
  unfolding Least is_in lesser
  with f none l = (
    or_left (eqb x x) (is_in x xs) (eq-eqb x x refl),
    f,
    λ p h g.
        ⊎_elim (λ (q : eqb x p ≡ true). let z = eqb-true x p q in omega arith) (λ (q : is_in p xs ≡ true). absurd (l p q g))
        (either (eqb x p) (is_in p xs) h),
  )
  with f (some o) l =
      let lower : (p : ℕ) → eqb x p || is_in p xs ≡ true → Freed n p os → min x o ≤ p =
      λ p h g.
      ⊎_elim (λ (q : eqb x p ≡ true). let z = eqb-true x p q in omega arith)
      (λ (q : is_in p xs ≡ true). let z = l.2 p q g in omega arith)
      (either (eqb x p) (is_in p xs) h) in
      ⊎_elim
      (λ (h : x < o). let z : min x o ≡ x = omega arith in (subst (λ (y : ℕ). eqb x y || is_in y xs ≡ true) (sym z) (or_left (eqb x x) (is_in x xs) (eq-eqb x x refl)), rw z f, lower))
      (λ (h : o ≤ x). let z : min x o ≡ o = omega arith in (subst (λ (y : ℕ). eqb x y || is_in y xs ≡ true) (sym z) (or_right (eqb x o) (is_in o xs) l.0), rw z l.1, lower))
      (lt_or_ge x o)

  chosen : (t : Bool) → stretch n x os ≡ t → (r : Option ℕ) → Least n os xs r → Least n os (x ∷ xs) (cond t (lesser x r) r)
  chosen true e r l = with (stretch_freed n x os e) r l
  chosen false e r l = without e r l

nothing_there : (n : ℕ) (os : List ℕ) → Least n os [] none
unfolding Least is_in
nothing_there n os p h f = true≢false (sym h)

least_is : (n : ℕ) (os xs : List ℕ) → Least n os xs (least_of n os xs)
unfolding least_of
least_is n os [] = nothing_there n os
least_is n os (x ∷ xs) = chosen n os x xs (stretch n x os) refl (least_of n os xs) (least_is n os xs)

-- A stretch of one page or more begins with one of the list.
first_in : (n p : ℕ) (os : List ℕ) → 0 < n → Freed n p os → is_in p os ≡ true
first_in n p os pos f = let z : p + 0 * 4096 ≡ p = omega arith in rw z at (f 0 pos)

-- The least offset from which so many pages all stand in a list.
pub record Lowest (n o : ℕ) (os : List ℕ) : Type 0 where
  pub all : Freed n o os
  pub least : (p : ℕ) → Freed n p os → o ≤ p

module _ (n : ℕ) (os : List ℕ) (pages : 0 < n) where
  found : (r : Option ℕ) → Least n os os r → (o : ℕ) → r ≡ some o → Lowest n o os
  unfolding Least
  found none l o e = let z : ◌≡◌ {A = ℕ} 0 1 = cc in absurd (omega arith)
  found (some q) l o e =
      let z : q ≡ o = cc in
      record {
        all = subst (λ (y : ℕ). Freed n y os) z l.1;
        least = λ p f. let h = l.2 p (first_in n p os pages f) f in omega arith;
      }

  missed : (r : Option ℕ) → Least n os os r → r ≡ none → (p : ℕ) → Freed n p os → ⊥
  unfolding Least
  missed none l e p f = l p (first_in n p os pages f) f
  missed (some q) l e p f = let z : ◌≡◌ {A = ℕ} 0 1 = cc in omega arith

  is_found : (r : Option ℕ) → Least n os os r → (o : ℕ) → Lowest n o os → r ≡ some o
  unfolding Least
  is_found none l o w = absurd (l o (first_in n o os pages w.all) w.all)
  is_found (some q) l o w =
      let a = l.2 o (first_in n o os pages w.all) w.all in
      let b = w.least q l.1 in
      let z : q ≡ o = omega arith in
      ap (λ (y : ℕ). some y) z

  is_missed : (r : Option ℕ) → Least n os os r → ((p : ℕ) → Freed n p os → ⊥) → r ≡ none
  unfolding Least
  is_missed none l w = refl
  is_missed (some q) l w = absurd (w q l.1)

  -- What is found is it, and nothing is found where there is none; and the other way round.
  pub lowest_found : (o : ℕ) → lowest n os ≡ some o → Lowest n o os
  lowest_found o e = found (lowest n os) (least_is n os os) o e

  pub lowest_none : lowest n os ≡ none → (p : ℕ) → Freed n p os → ⊥
  lowest_none e = missed (lowest n os) (least_is n os os) e

  pub lowest_is : (o : ℕ) → Lowest n o os → lowest n os ≡ some o
  lowest_is o w = is_found (lowest n os) (least_is n os os) o w

  pub lowest_missed : ((p : ℕ) → Freed n p os → ⊥) → lowest n os ≡ none
  lowest_missed w = is_missed (lowest n os) (least_is n os os) w
