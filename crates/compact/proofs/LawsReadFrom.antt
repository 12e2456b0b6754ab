-- Reading resumed in the middle of a form, one law for each way on. Assumes nothing.
use Prim.Native.Nat.{ℕ, suc, ◌+◌, ◌-◌, ◌*◌, ◌%◌, ◌^◌, ◌≤◌, ◌<◌, zero-le, suc-le-suc}
use mathlib.Core.Bool.{Bool, true, false, cond, not, ◌&&◌, ◌||◌, false≢true}
use mathlib.Core.List.{List, [], ◌∷◌}
use mathlib.Core.Logic.{◌⊎◌, inl, inr, ⊎_elim}
use mathlib.Core.Path.{◌≡◌, refl, sym, ap, ◌∙◌}
use native.Mathlib.Nat.{zero-add, add-zero, add-mul, add_assoc, mul-one, mul_comm, mul_assoc, mul-le-mul_right, mod-eq_of_lt}
use native.Mathlib.Numerals.{add-one}
use native.Mathlib.Omega.{arith}
use borrow.Author.Tests.{lt-leb, le-leb, lt-ltb, le-ltb, ltb-true, ltb-false, eq-eqb, ne_eqb}
use lib.Dec.{ltb, eqb}
use lib.ListN.{length, drop, get_or, length-drop}
use lib.Seq.{drop-cons, get_or-drop}
use lib.Pow.{pow-add, pow_mono}
use Rattle.error.specs.Refusal.{Answer, accepted, refused, refuse_if, uleb_cut_short, uleb_overflow}
use Rattle.error.proofs.LawsAnswer.{neither}
use Rattle.buffer.proofs.LawsOrder.{lt_or_ge}
use Rattle.compact.specs.Uleb128.{Reading, goes_on, piece, passes, is_form, value, form_at, overflows, read_form, read_uleb}

-- Reading goes on at index i of a form: these bytes of it are left, and those before carry acc.

-- a byte from here on passes 64 bits
unfoldable pub overflows_from : ℕ → List ℕ → Bool
overflows_from i f = ltb 1 (piece (get_or f (9 - i) 0)) || ltb 10 (i + length f)

-- the answer for the whole form
unfoldable pub read_form_from : ℕ → ℕ → List ℕ → Answer Reading
read_form_from i acc f =
    refuse_if (overflows_from i f) uleb_overflow
    (refuse_if (not (is_form f)) uleb_cut_short (accepted (record { value = acc + value f * 2 ^ (7 * i); len = i + length f })))

-- the answer for the form at the start of some bytes
unfoldable pub read_from : ℕ → ℕ → List ℕ → Answer Reading
read_from i acc bs = read_form_from i acc (form_at bs)

-- at the start it is reading
pub from_start : (bs : List ℕ) → read_from 0 0 bs ≡ read_uleb bs
unfolding read_from read_form_from overflows_from read_uleb read_form overflows
from_start bs = simp (zero-add, mul-one)

-- the bytes end
pub from_nil : (i acc : ℕ) → i ≤ 10 → read_from i acc [] ≡ refused uleb_cut_short
unfolding read_from read_form_from overflows_from form_at is_form refuse_if
from_nil i acc h = rw (le-ltb 10 (i + 0) (omega arith))

-- which bytes pass 64 bits, and which don't
passes_yes : (i b : ℕ) → passes i b ≡ true → (9 < i) ⊎ ((i ≡ 9) × (1 < piece b))
passes_yes i b h =
    ⊎_elim (λ (p : 9 < i). inl p)
    (λ (q : i ≤ 9).
    ⊎_elim (λ (p : i < 9). absurd (false≢true (rw (le-ltb 9 i q, ne_eqb i 9 (λ (e : i ≡ 9). omega arith)) at h)))
    (λ (r : 9 ≤ i). let e : i ≡ 9 = omega arith in inr (e, ltb-true 1 (piece b) (rw (le-ltb 9 i q, eq-eqb i 9 e) at h)))
    (lt_or_ge i 9))
    (lt_or_ge 9 i)

passes_no : (i b : ℕ) → passes i b ≡ false → (i < 9) ⊎ ((i ≡ 9) × (piece b ≤ 1))
passes_no i b h =
    ⊎_elim (λ (p : i < 9). inl p)
    (λ (r : 9 ≤ i).
    let both = neither (ltb 9 i) (eqb i 9 && ltb 1 (piece b)) h in
    let most : i ≤ 9 = ltb-false 9 i both.0 in
    let e : i ≡ 9 = omega arith in
    inr (e, ltb-false 1 (piece b) (rw (eq-eqb i 9 e) at both.1)))
    (lt_or_ge i 9)

or_right : (a : Bool) → a || true ≡ true
or_right true = refl
or_right false = refl

-- a byte that passes 64 bits
over_now : (i b : ℕ) (f : List ℕ) → passes i b ≡ true → overflows_from i (b ∷ f) ≡ true
unfolding overflows_from
over_now i b f h =
    ⊎_elim (λ (p : 9 < i). rw (lt-ltb 10 (i + suc (length f)) (omega arith), or_right))
    (λ (w : (i ≡ 9) × (1 < piece b)). rw (w.0, lt-ltb 1 (piece b) w.1)) (passes_yes i b h)

-- the last byte of a form
over_last : (i b : ℕ) → passes i b ≡ false → overflows_from i (b ∷ []) ≡ false
unfolding overflows_from
over_last i b h =
    ⊎_elim (λ (p : i < 9). let later : 9 - i ≡ suc (8 - i) = omega arith in rw (later, le-ltb 10 (i + 1) (omega arith)))
    (λ (w : (i ≡ 9) × (piece b ≤ 1)). rw (w.0, le-ltb 1 (piece b) w.1)) (passes_no i b h)

-- a byte that goes on
over_later : (i b : ℕ) (f : List ℕ) → passes i b ≡ false → overflows_from i (b ∷ f) ≡ overflows_from (i + 1) f
unfolding overflows_from
over_later i b [] h =
    let most : i ≤ 9 = ⊎_elim (λ (p : i < 9). omega arith) (λ (w : (i ≡ 9) × (piece b ≤ 1)). omega arith) (passes_no i b h) in
    rw (over_last i b h, le-ltb 10 (i + 1 + 0) (omega arith))
over_later i b (d ∷ f) h =
    let place : i + suc (suc (length f)) ≡ i + 1 + suc (length f) = omega arith in
    ⊎_elim (λ (p : i < 9). let later : 9 - i ≡ suc (9 - (i + 1)) = omega arith in rw (later, place))
    (λ (w : (i ≡ 9) × (piece b ≤ 1)). rw (
      w.0,
      le-ltb 1 (piece b) w.1,
      lt-ltb 10 (9 + suc (suc (length f))) (omega arith),
      lt-ltb 10 (10 + suc (length f)) (omega arith),
      or_right,
    ))
    (passes_no i b h)

-- the next piece has 128 times the weight
weight : (i : ℕ) → 2 ^ (7 * (i + 1)) ≡ 2 ^ (7 * i) * 128
weight i = let next : 7 * (i + 1) ≡ 7 * i + 7 = omega arith in rw (next, pow-add 2 (7 * i) 7)

carried : (acc i p v : ℕ) → acc + (p + 128 * v) * 2 ^ (7 * i) ≡ acc + p * 2 ^ (7 * i) + v * 2 ^ (7 * (i + 1))
carried acc i p v = rw (weight i, add-mul, add_assoc, mul_comm (2 ^ (7 * i)) 128, ← (mul_assoc v 128 (2 ^ (7 * i))), mul_comm v 128)

from_over : (i acc b : ℕ) (bs : List ℕ) → passes i b ≡ true → read_from i acc (b ∷ bs) ≡ refused uleb_overflow
unfolding read_from read_form_from form_at refuse_if
from_over i acc b bs h = rw (over_now i b (cond (goes_on b) (form_at bs) []) h)

from_last : (i acc b : ℕ) (bs : List ℕ) → passes i b ≡ false → b < 128
    → read_from i acc (b ∷ bs) ≡ accepted (record { value = acc + piece b * 2 ^ (7 * i); len = i + 1 })
unfolding read_from read_form_from form_at is_form value refuse_if
from_last i acc b bs h k =
    let whole : b % 128 + 128 * 0 ≡ b % 128 = omega arith in
    rw (lt-leb 128 b k, over_last i b h, whole)

from_more : (i acc b : ℕ) (bs : List ℕ) → passes i b ≡ false → 128 ≤ b
    → read_from i acc (b ∷ bs) ≡ read_from (i + 1) (acc + piece b * 2 ^ (7 * i)) bs
unfolding read_from read_form_from form_at is_form value
from_more i acc b bs h k =
    let place : i + suc (length (form_at bs)) ≡ i + 1 + length (form_at bs) = omega arith in
    rw (le-leb 128 b k, over_later i b (form_at bs) h, place, carried acc i (piece b) (value (form_at bs)))

-- The byte at index i of a buffer passes 64 bits, ends its form, or goes on.
module _ (buf : List ℕ) (i acc : ℕ) (h : i < length buf) where
  pub at_over : passes i (get_or buf i 0) ≡ true → read_from i acc (drop i buf) ≡ refused uleb_overflow
  at_over p = rw (drop-cons buf i 0 h) (from_over i acc (get_or buf i 0) (drop (suc i) buf) p)

  pub at_last : passes i (get_or buf i 0) ≡ false → get_or buf i 0 < 128
      → read_from i acc (drop i buf) ≡ accepted (record { value = acc + piece (get_or buf i 0) * 2 ^ (7 * i); len = i + 1 })
  at_last p k = rw (drop-cons buf i 0 h) (from_last i acc (get_or buf i 0) (drop (suc i) buf) p k)

  pub at_more : passes i (get_or buf i 0) ≡ false → 128 ≤ get_or buf i 0
      → read_from i acc (drop i buf) ≡ read_from (i + 1) (acc + piece (get_or buf i 0) * 2 ^ (7 * i)) (drop (i + 1) buf)
  at_more p k = rw (drop-cons buf i 0 h, add-one i) (rw (add-one i) at (from_more i acc (get_or buf i 0) (drop (suc i) buf) p k))

-- a first byte below 128 is a form by itself
pub read_byte : (buf : List ℕ) → 0 < length buf → get_or buf 0 0 < 128
    → read_uleb buf ≡ accepted (record { value = piece (get_or buf 0 0); len = 1 })
read_byte buf h k = sym (from_start buf) ∙ (simp (zero-add, mul-one) at (at_last buf 0 0 h refl k))

-- the same at an offset
pub read_byte_at : (buf : List ℕ) (off : ℕ) → off < length buf → get_or buf off 0 < 128
    → read_uleb (drop off buf) ≡ accepted (record { value = get_or buf off 0; len = 1 })
read_byte_at buf off h k =
    let small : get_or buf off 0 % 128 ≡ get_or buf off 0 = omega arith in
    rw (drop-cons buf off 0 h) (rw small at (read_byte (get_or buf off 0 ∷ drop (suc off) buf) (suc-le-suc zero-le) k))

-- two bytes at an offset, of which the first goes on and the second doesn't, are a form
pub read_two_at : (buf : List ℕ) (off : ℕ) → off + 1 < length buf → 128 ≤ get_or buf off 0 → get_or buf (off + 1) 0 < 128
    → read_uleb (drop off buf) ≡ accepted (record { value = get_or buf off 0 % 128 + 128 * get_or buf (off + 1) 0; len = 2 })
read_two_at buf off h k l =
    let bs = drop off buf in
    let long : 1 < length bs = simp length-drop (omega arith) in
    let first : get_or bs 0 0 ≡ get_or buf off 0 = get_or-drop off buf 0 0 ∙ ap (λ (i : ℕ). get_or buf i 0) (add-zero off) in
    let second : get_or bs 1 0 ≡ get_or buf (off + 1) 0 = get_or-drop off buf 1 0 in
    let sum : 0 + piece (get_or bs 0 0) * 2 ^ (7 * 0) + piece (get_or bs 1 0) * 2 ^ (7 * 1)
    ≡ get_or buf off 0 % 128 + 128 * get_or buf (off + 1) 0 = omega arith in
    sym (from_start bs) ∙ at_more bs 0 0 (omega arith) refl (omega arith) ∙ at_last bs 1 _ long refl (omega arith)
    ∙ ap (λ (v : ℕ). accepted (record { value = v; len = 2 })) sum

-- What a piece leaves room for: shifted to its place it keeps all its bits, and so does its sum with the pieces before it.
pub record Room (i acc b : ℕ) : Type 0 where
  pub placed : piece b * 2 ^ (7 * i) % 2 ^ 64 ≡ piece b * 2 ^ (7 * i)
  pub added : acc + piece b * 2 ^ (7 * i) < 2 ^ 64
  pub next : acc + piece b * 2 ^ (7 * i) < 2 ^ (7 * (i + 1))
  pub index : i ≤ 9

-- a byte that doesn't pass 64 bits has that room
pub room : (i acc b : ℕ) → passes i b ≡ false → acc < 2 ^ (7 * i) → Room i acc b
room i acc b h k =
    let up : 2 ^ (7 * (i + 1)) ≡ 2 ^ (7 * i) * 128 = weight i in
    let most : piece b * 2 ^ (7 * i) ≤ 127 * 2 ^ (7 * i) = mul-le-mul_right (2 ^ (7 * i)) (omega arith) in
    ⊎_elim (λ (p : i < 9). let low : 2 ^ (7 * (i + 1)) ≤ 2 ^ 63 = pow_mono {i = 7 * (i + 1)} {j = 63} (omega arith) in
    record {
      placed = mod-eq_of_lt {n = piece b * 2 ^ (7 * i)} {m = 2 ^ 64} (omega arith);
      added = omega arith;
      next = omega arith;
      index = omega arith;
    })
    (λ (w : (i ≡ 9) × (piece b ≤ 1)).
    let one : piece b * 2 ^ (7 * i) ≤ 1 * 2 ^ (7 * i) = mul-le-mul_right (2 ^ (7 * i)) w.1 in
    let top : 2 ^ (7 * i) ≡ 2 ^ 63 = ap (λ (x : ℕ). 2 ^ (7 * x)) w.0 in
    record {
      placed = mod-eq_of_lt {n = piece b * 2 ^ (7 * i)} {m = 2 ^ 64} (omega arith);
      added = omega arith;
      next = omega arith;
      index = omega arith;
    })
    (passes_no i b h)
