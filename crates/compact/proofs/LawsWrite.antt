-- Writing: the two cases of the answer and of the destination afterwards, and a form written byte by byte. Assumes nothing.
use Prim.Native.Nat.{ℕ, ◌+◌, ◌/◌, ◌%◌, ◌^◌, ◌≤◌, ◌<◌}
use mathlib.Core.List.{List}
use mathlib.Core.Logic.{⊎_elim}
use mathlib.Core.Path.{◌≡◌, refl, sym, ap, ◌∙◌}
use native.Mathlib.Omega.{arith}
use borrow.Author.Tests.{lt-ltb, le-ltb}
use lib.ListN.{length, set, length-set}
use Rattle.error.specs.Refusal.{accepted, refused, refuse_if, does_not_fit}
use Rattle.buffer.specs.Bytes.{overwrite}
use Rattle.buffer.proofs.LawsBytes.{overwrite_step, overwrite_one}
use Rattle.buffer.proofs.LawsOrder.{lt_or_ge}
use Rattle.compact.specs.Uleb128.{uleb_len, shortest, write_uleb, after_write}
use Rattle.compact.proofs.LawsLength.{len_small, len_large, len_pos, len_at_most, shortest_small, shortest_large}

-- a form that fits is written
pub accepts : (before dst : List ℕ) (n len : ℕ) → uleb_len n ≤ length before → (len ≡ uleb_len n) × (dst ≡ overwrite before 0 (shortest n))
    → (accepted len ≡ write_uleb (length before) n) × (dst ≡ after_write before n)
unfolding write_uleb refuse_if after_write
accepts before dst n len h e = rw (le-ltb (length before) (uleb_len n) h) (ap accepted e.0, e.1)

-- one that doesn't is refused, and the destination stays as it was
pub refuses : (dst : List ℕ) (n : ℕ) → length dst < uleb_len n → (refused does_not_fit ≡ write_uleb (length dst) n) × (dst ≡ after_write dst n)
unfolding write_uleb refuse_if after_write
refuses dst n h = rw (lt-ltb (length dst) (uleb_len n) h) (refl, refl)

-- What is known in the middle of a form: i bytes of n's shortest form were written to a destination, which holds dst now, and rest is what
-- is left of n. The shortest form of rest, written from i on, makes the destination what the whole form makes of it.
pub record Writing (before : List ℕ) (n : ℕ) (dst : List ℕ) (rest i : ℕ) : Type 0 where
  pub fits : uleb_len n ≤ length before
  pub same : length dst ≡ length before
  pub place : i + uleb_len rest ≡ uleb_len n
  pub bytes : overwrite dst i (shortest rest) ≡ overwrite before 0 (shortest n)

-- nothing is written
pub starts : (dst : List ℕ) (n : ℕ) → uleb_len n ≤ length dst → Writing dst n dst n 0
starts dst n h = record { fits = h; same = refl; place = omega arith; bytes = refl }

module _ {before : List ℕ} {n : ℕ} {dst : List ℕ} {rest i : ℕ} (w : Writing before n dst rest i) where
  -- the next byte has its place
  pub inside : i < length dst
  inside = omega (arith, w.fits, w.same, w.place, len_pos rest)

  -- a byte that goes on
  pub goes : 128 ≤ rest → Writing before n (set dst i (rest % 128 + 128)) (rest / 128) (i + 1)
  goes h = record {
    fits = w.fits;
    same = simp length-set w.same;
    place = omega (arith, w.place, len_large rest h);
    bytes = sym (overwrite_step dst i (rest % 128 + 128) (shortest (rest / 128)) inside)
        ∙ ap (overwrite dst i) (sym (shortest_large rest h)) ∙ w.bytes;
  }

  -- the last byte
  pub ends : rest < 128 → (i + 1 ≡ uleb_len n) × (set dst i rest ≡ overwrite before 0 (shortest n))
  ends h = (
    omega (arith, w.place, len_small rest h),
    sym (overwrite_one dst i rest inside) ∙ ap (overwrite dst i) (sym (shortest_small rest h)) ∙ w.bytes,
  )

  -- the answer behind it
  pub written : rest < 128 → (accepted (i + 1) ≡ write_uleb (length before) n) × (set dst i rest ≡ after_write before n)
  written h = accepts before (set dst i rest) n (i + 1) w.fits (ends h)

  -- the tenth byte is the last
  pub tenth : n < 2 ^ 64 → 9 ≤ i → rest < 128
  tenth h k =
      ⊎_elim (λ (p : rest < 128). p)
      (λ (q : 128 ≤ rest). absurd (omega (arith, w.place, len_at_most n h, len_large rest q, len_pos (rest / 128)))) (lt_or_ge rest 128)
