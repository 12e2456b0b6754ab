-- All windows laid over each other: a stretch sets flags side by side, twice round, and there is none where they are too few. By induction
-- on the list. Assumes nothing.
use Rattle.std.proofs.Common.{◌≡◌, ℕ, ◌+◌, ◌*◌, ◌/◌, ◌%◌, ◌<◌, ◌≤◌, Bool, true, ◌||◌, eqb, List, [], ◌∷◌, length, sym, refl, ap, ◌∙◌, ⊎_elim, arith, eq-eqb, ne_eqb, eqb-true}
use Rattle.buffer.proofs.LawsOrder.{lt_or_ge}
use Rattle.free_runs.specs.Runs.{is_in, Freed}
use Rattle.free_runs.specs.Steps.{window_pages, flag, set_flag, Unset, Flags, Sought}
use Rattle.free_runs.specs.Overlaid.{overlaid_in, Overlays}
use Rattle.free_runs.proofs.LawsRuns.{either, or_left, or_right}
use Rattle.free_runs.proofs.LawsFlags.{same_or_not, flag_set, long_set, unset_flag}
use Rattle.free_runs.proofs.LawsMark.{none_or, turn_or}
use Rattle.free_runs.proofs.LawsSought.{Pages}

-- ---- the pages of a list

-- With this rest of a list still to be flagged, all of it is flagged at the end.
pub record Overlaying (os before words rest : List ℕ) : Type 0 where
  pub long : length words ≡ 4096
  pub flags : (i : ℕ) → i < window_pages → eqb (flag words i) 1 || overlaid_in i rest ≡ eqb (flag before i) 1 || overlaid_in i os

module _ (os before : List ℕ) where
  pub overlaying_none : length before ≡ 4096 → Overlaying os before before os
  overlaying_none long = record { long = long; flags = λ i h. refl }

  pub overlaying_one : (words : List ℕ) (o : ℕ) (rest : List ℕ) → Overlaying os before words (o ∷ rest)
      → Overlaying os before (set_flag words (o / 4096 % window_pages)) rest
  unfolding overlaid_in
  overlaying_one words o rest g =
      let long = g.long in
      record {
        long = long_set words (o / 4096 % window_pages) ∙ long;
        flags = λ i h.
            ap (λ (b : Bool). b || overlaid_in i rest) (flag_set words (o / 4096 % window_pages) (omega arith) i)
            ∙ (turn_or (eqb (o / 4096 % window_pages) i) (eqb (flag words i) 1) (overlaid_in i rest) ∙ g.flags i h);
      }

  pub overlaying_done : (words : List ℕ) → Overlaying os before words [] → Overlays os before words
  unfolding overlaid_in
  overlaying_done words g = record { flags = λ i h. sym (none_or (eqb (flag words i) 1)) ∙ g.flags i h }

-- ---- twice round

-- The pages of a list, each in the first window and in the second.
pub twice : List ℕ → List ℕ
twice [] = []
twice (x ∷ xs) = x / 4096 % window_pages * 4096 ∷ (x / 4096 % window_pages + window_pages) * 4096 ∷ twice xs

-- One of two windows has the page.
in_one : (e t : ℕ) (b : Bool) → e < window_pages → t < 2 * window_pages
    → eqb (e * 4096) (t * 4096) || (eqb ((e + window_pages) * 4096) (t * 4096) || b) ≡ eqb e (t % window_pages) || b
in_one e t b h k =
    ⊎_elim
    (λ (q : e ≡ t % window_pages).
    ⊎_elim
    (λ (l : t < window_pages). rw (eq-eqb (e * 4096) (t * 4096) (omega arith), eq-eqb e (t % window_pages) q))
    (λ (l : window_pages ≤ t).
    rw (
      ne_eqb (e * 4096) (t * 4096) (λ z. omega arith),
      eq-eqb ((e + window_pages) * 4096) (t * 4096) (omega arith),
      eq-eqb e (t % window_pages) q,
    ))
    (lt_or_ge t window_pages))
    (λ (n : e ≡ t % window_pages → ⊥).
    rw (
      ne_eqb (e * 4096) (t * 4096)
          (λ z.
          let y : e ≡ t = omega arith in
          let m : e % window_pages ≡ e = omega arith in
          n (sym m ∙ ap (λ (k : ℕ). k % window_pages) y)),
      ne_eqb ((e + window_pages) * 4096) (t * 4096)
          (λ z.
          let y : e + window_pages ≡ t = omega arith in
          let m : (e + window_pages) % window_pages ≡ e = omega arith in
          n (sym m ∙ ap (λ (k : ℕ). k % window_pages) y)),
      ne_eqb e (t % window_pages) n,
    ))
    (same_or_not e (t % window_pages))

twice_is : (os : List ℕ) (t : ℕ) → t < 2 * window_pages → is_in (t * 4096) (twice os) ≡ overlaid_in (t % window_pages) os
unfolding is_in overlaid_in twice
twice_is [] t h = refl
twice_is (x ∷ xs) t h =
    let e = x / 4096 % window_pages in
    ap (λ (b : Bool). eqb (e * 4096) (t * 4096) || (eqb ((e + window_pages) * 4096) (t * 4096) || b)) (twice_is xs t h)
    ∙ in_one e t (overlaid_in (t % window_pages) xs) (omega arith) h

-- A page of a list has its index.
overlaid_has : (os : List ℕ) (g : ℕ) → is_in (g * 4096) os ≡ true → overlaid_in (g % window_pages) os ≡ true
unfolding is_in overlaid_in
overlaid_has [] g e = e
overlaid_has (x ∷ xs) g e =
    let i = g % window_pages in
    ⊎_elim
    (λ (q : eqb x (g * 4096) ≡ true).
    let z = eqb-true x (g * 4096) q in
    or_left (eqb (x / 4096 % window_pages) i) (overlaid_in i xs) (eq-eqb (x / 4096 % window_pages) i (omega arith)))
    (λ (q : is_in (g * 4096) xs ≡ true). or_right (eqb (x / 4096 % window_pages) i) (overlaid_in i xs) (overlaid_has xs g q))
    (either (eqb x (g * 4096)) (is_in (g * 4096) xs) e)

-- ---- what the flags tell

module _ (os before words : List ℕ) (u : Unset before) (f : Overlays os before words) where
  overlaid_flag : (i : ℕ) → i < window_pages → eqb (flag words i) 1 ≡ overlaid_in i os
  overlaid_flag i h = f.flags i h ∙ ap (λ (b : Bool). b || overlaid_in i os) (unset_flag before u i h)

  pub flags_first : Flags words 0 window_pages (twice os)
  flags_first =
      record {
        tells = λ i h.
            let z : (0 + i) % window_pages ≡ i = omega arith in
            overlaid_flag i h ∙ sym (twice_is os (0 + i) (omega arith) ∙ ap (λ (k : ℕ). overlaid_in k os) z);
      }

  pub flags_second : Flags words window_pages window_pages (twice os)
  flags_second =
      record {
        tells = λ i h.
            let z : (window_pages + i) % window_pages ≡ i = omega arith in
            overlaid_flag i h ∙ sym (twice_is os (window_pages + i) (omega arith) ∙ ap (λ (k : ℕ). overlaid_in k os) z);
      }

-- Fewer flags than so many pages side by side, twice round: no stretch of so many is freed.
pub ruled_out : (mark n start : ℕ) (os : List ℕ) → Pages mark os → 0 < n → n ≤ window_pages → Sought n (2 * window_pages) start (twice os)
    → 2 * window_pages < start + n → (p : ℕ) → Freed n p os → ⊥
ruled_out mark n start os ps pos few s short p f =
    let first : is_in p os ≡ true = let z : p + 0 * 4096 ≡ p = omega arith in rw z at (f 0 pos) in
    let a = ps.aligned p first in
    let l =
    s.least (p / 4096 % window_pages)
    (λ i h.
    let z : p + i * 4096 ≡ (p / 4096 + i) * 4096 = omega arith in
    let same : (p / 4096 % window_pages + i) % window_pages ≡ (p / 4096 + i) % window_pages = omega arith in
    twice_is os (p / 4096 % window_pages + i) (omega arith)
    ∙ (ap (λ (k : ℕ). overlaid_in k os) same ∙ overlaid_has os (p / 4096 + i) (rw z at (f i h)))) in
    omega arith
