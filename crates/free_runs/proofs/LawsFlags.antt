-- Flags in words: a flag set is set and the others stay; in a word with no flag from one on, none is set. Assumes nothing.
use Rattle.std.proofs.Common.{◌≡◌, ℕ, zero, suc, ◌+◌, ◌-◌, ◌*◌, ◌/◌, ◌%◌, ◌^◌, ◌<◌, ◌≤◌, max, true, false, ◌||◌, eqb, ◌⊎◌, List, length, get_or, set, replicate, sym, refl, ap, ◌∙◌, subst, inl, inr, ⊎_elim, mod-lt, eq-or-lt_of_le, pow-suc, mul-div_cancel, arith, length-set, get_or-set_other, get_or-set_same, pow_pos, pow-add, shr-shr, eq-eqb, ne_eqb}
use native.Mathlib.Nat.{div-eq_of_lt, div_self, zero-div}
use lib.Bits.{bit_or, or_step, or_shr}
use lib.Pow.{pow-lt}
use lib.ListN.{length-replicate}
use Rattle.buffer.proofs.LawsOrder.{lt_or_ge}
use Rattle.free_runs.specs.Steps.{window_pages, flag, set_flag, Unset}

-- A bit of a union.
or_bit : (a b t : ℕ) → bit_or a b / 2 ^ t % 2 ≡ max (a / 2 ^ t % 2) (b / 2 ^ t % 2)
or_bit a b t =
    ap (λ (x : ℕ). x % 2) (or_shr a b t ∙ or_step (a / 2 ^ t) (b / 2 ^ t))
    ∙ joined (bit_or (a / 2 ^ t / 2) (b / 2 ^ t / 2)) (a / 2 ^ t % 2) (b / 2 ^ t % 2) (mod-lt _ (omega arith)) (mod-lt _ (omega arith))
  where
    joined : (x m n : ℕ) → m < 2 → n < 2 → (x * 2 + max m n) % 2 ≡ max m n
    joined x m n h k = omega arith

-- The bits of a power of two.
same_bit : (t : ℕ) → 2 ^ t / 2 ^ t % 2 ≡ 1
same_bit t = rw (div_self (pow_pos t))

below_bit : (s t : ℕ) → s < t → 2 ^ s / 2 ^ t % 2 ≡ 0
below_bit s t h = rw (div-eq_of_lt (pow-lt h))

above_bit : (s t : ℕ) → t < s → 2 ^ s / 2 ^ t % 2 ≡ 0
above_bit s t h =
    let split : suc (s - t - 1) + t ≡ s = omega arith in
    let e : 2 ^ s ≡ 2 ^ suc (s - t - 1) * 2 ^ t = ap (λ (k : ℕ). 2 ^ k) (sym split) ∙ pow-add 2 (suc (s - t - 1)) t in
    let d : 2 ^ s / 2 ^ t ≡ 2 ^ suc (s - t - 1) = ap (λ (x : ℕ). x / 2 ^ t) e ∙ mul-div_cancel (2 ^ suc (s - t - 1)) (pow_pos t) in
    ap (λ (x : ℕ). x % 2) d ∙ omega (arith, pow-suc 2 (s - t - 1))

other_bit : (s t : ℕ) → (s ≡ t → ⊥) → 2 ^ s / 2 ^ t % 2 ≡ 0
other_bit s t h =
    ⊎_elim (λ (l : s < t). below_bit s t l)
    (λ (g : t ≤ s). above_bit s t (let k : (t ≡ s → ⊥) = λ z. h (sym z) in omega arith))
    (lt_or_ge s t)

-- A word with a bit set.
set_same : (w t : ℕ) → eqb (bit_or w (2 ^ t) / 2 ^ t % 2) 1 ≡ true
set_same w t = eq-eqb _ _ (or_bit w (2 ^ t) t ∙ rw (same_bit t) (let h : w / 2 ^ t % 2 < 2 = mod-lt _ (omega arith) in omega arith))

set_other : (w s t : ℕ) → (s ≡ t → ⊥) → bit_or w (2 ^ s) / 2 ^ t % 2 ≡ w / 2 ^ t % 2
set_other w s t h = or_bit w (2 ^ s) t ∙ rw (other_bit s t h) (omega arith)

-- Two indices are equal, or not.
pub same_or_not : (i j : ℕ) → (i ≡ j) ⊎ (i ≡ j → ⊥)
same_or_not i j =
    ⊎_elim (λ (l : i < j). inr (λ z. omega arith))
    (λ (g : j ≤ i). ⊎_elim (λ (e : j ≡ i). inl (sym e)) (λ (l : j < i). inr (λ z. omega arith)) (eq-or-lt_of_le g))
    (lt_or_ge i j)

module _ (words : List ℕ) (i : ℕ) (inside : i / 64 < length words) where
  abbrev word : ℕ
  word = bit_or (get_or words (i / 64) 0) (2 ^ (i % 64))

  kept_word : (j : ℕ) → (j / 64 ≡ i / 64 → ⊥) → flag (set_flag words i) j ≡ flag words j
  unfolding flag set_flag
  kept_word j h = ap (λ (w : ℕ). w / 2 ^ (j % 64) % 2) (get_or-set_other words (i / 64) (j / 64) word 0 h)

  same_word : (j : ℕ) → j / 64 ≡ i / 64 → (i % 64 ≡ j % 64 → ⊥) → flag (set_flag words i) j ≡ flag words j
  unfolding flag set_flag
  same_word j e h =
      ap (λ (k : ℕ). get_or (set words (i / 64) word) k 0 / 2 ^ (j % 64) % 2) e
      ∙ (ap (λ (w : ℕ). w / 2 ^ (j % 64) % 2) (get_or-set_same words (i / 64) word 0 inside)
      ∙ (set_other (get_or words (i / 64) 0) (i % 64) (j % 64) h ∙ ap (λ (k : ℕ). get_or words k 0 / 2 ^ (j % 64) % 2) (sym e)))

  same_flag : eqb (flag (set_flag words i) i) 1 ≡ true
  unfolding flag set_flag
  same_flag = rw (get_or-set_same words (i / 64) word 0 inside) (set_same (get_or words (i / 64) 0) (i % 64))

  other_flag : (j : ℕ) → (i ≡ j → ⊥) → flag (set_flag words i) j ≡ flag words j
  other_flag j h =
      ⊎_elim (λ (e : j / 64 ≡ i / 64). same_word j e (λ z. h (omega arith))) (λ (n : j / 64 ≡ i / 64 → ⊥). kept_word j n)
      (same_or_not (j / 64) (i / 64))

  -- A flag is set afterwards if it is the one, or was set.
  pub flag_set : (j : ℕ) → eqb (flag (set_flag words i) j) 1 ≡ eqb i j || eqb (flag words j) 1
  flag_set j =
      ⊎_elim
      (λ (e : i ≡ j). subst (λ (k : ℕ). eqb (flag (set_flag words i) k) 1 ≡ eqb i k || eqb (flag words k) 1) e
      (rw (eq-eqb i i refl) same_flag))
      (λ (n : i ≡ j → ⊥). rw (ne_eqb i j n) (ap (λ (b : ℕ). eqb b 1) (other_flag j n)))
      (same_or_not i j)

-- It keeps their number.
pub long_set : (words : List ℕ) (i : ℕ) → length (set_flag words i) ≡ length words
unfolding set_flag
long_set words i = length-set words (i / 64) _

-- No flag is set in a word from one on where nothing is left of it there.
pub no_flags : (words : List ℕ) (i j : ℕ) → get_or words (i / 64) 0 / 2 ^ (i % 64) ≡ 0 → j / 64 ≡ i / 64 → i ≤ j
    → eqb (flag words j) 1 ≡ false
unfolding flag
no_flags words i j z e l =
    let w = get_or words (i / 64) 0 in
    let split : i % 64 + (j % 64 - i % 64) ≡ j % 64 = omega arith in
    let none : w / 2 ^ (j % 64) ≡ 0 =
    ap (λ (k : ℕ). w / 2 ^ k) (sym split)
    ∙ (sym (shr-shr w (i % 64) (j % 64 - i % 64)) ∙ (ap (λ (x : ℕ). x / 2 ^ (j % 64 - i % 64)) z ∙ zero-div _)) in
    ap (λ (k : ℕ). eqb (get_or words k 0 / 2 ^ (j % 64) % 2) 1) e ∙ rw none

-- No flag is set in words of 0.
zero_word : (n i : ℕ) → ◌≡◌ {A = ℕ} (get_or (replicate n 0) i 0) 0
zero_word zero i = refl
zero_word (suc n) zero = refl
zero_word (suc n) (suc i) = zero_word n i

pub unset_zeros : Unset (replicate 4096 0)
unset_zeros = record { long = length-replicate {A = ℕ} 4096 0; none = λ i h. zero_word 4096 i }

pub unset_flag : (words : List ℕ) → Unset words → (i : ℕ) → i < window_pages → eqb (flag words i) 1 ≡ false
unfolding flag
unset_flag words u i h = rw (u.none (i / 64) (omega arith), zero-div (2 ^ (i % 64)))
