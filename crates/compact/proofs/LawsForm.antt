-- Forms and their values: the value in pieces, the form at the start of some bytes, and the shortest form among the forms of a number.
-- Assumes nothing.
use Prim.Native.Nat.{ℕ, zero, suc, ◌+◌, ◌*◌, ◌/◌, ◌%◌, ◌^◌, ◌≤◌, ◌<◌, zero-le, suc-le-suc}
use mathlib.Core.Bool.{true, false≢true}
use mathlib.Core.List.{List, [], ◌∷◌, ◌++◌, append_assoc}
use mathlib.Core.Logic.{⊎_elim}
use mathlib.Core.Path.{◌≡◌, refl, sym, ap, ◌∙◌}
use native.Mathlib.Nat.{zero-div, pow-succ', div-div-eq-div-mul, div-one}
use native.Mathlib.Omega.{arith}
use borrow.Author.Tests.{lt-leb, le-leb}
use lib.ListN.{length, take, drop, get_or, take-append-drop}
use Rattle.buffer.proofs.LawsOrder.{lt_or_ge}
use Rattle.compact.specs.Uleb128.{piece, is_form, value, form_at, uleb_len, shortest}
use Rattle.compact.proofs.LawsLength.{by_sevens, shortest_small, shortest_large, len_small, len_large}

-- ---- the value in pieces

-- a form of k bytes has a value below 128 ^ k
pub value_below : (f : List ℕ) → value f < 128 ^ length f
unfolding value
value_below [] = omega arith
value_below (b ∷ f) = rw (pow-succ' 128 (length f)) (omega (arith, value_below f))

-- the piece at index i is the digit at place i of the value
pub piece_of_value : (f : List ℕ) (i : ℕ) → piece (get_or f i 0) ≡ value f / 128 ^ i % 128
unfolding value
piece_of_value [] i = rw (zero-div (128 ^ i))
piece_of_value (b ∷ f) zero = rw (div-one (b % 128 + 128 * value f)) (omega arith)
piece_of_value (b ∷ f) (suc i) =
    let quotient : (b % 128 + 128 * value f) / 128 ≡ value f = omega arith in
    rw (pow-succ' 128 i, ← (div-div-eq-div-mul (b % 128 + 128 * value f) 128 (128 ^ i)), quotient) (piece_of_value f i)

-- ---- the form at the start of some bytes

-- it is the beginning of the bytes
pub form_at_take : (bs : List ℕ) → form_at bs ≡ take (length (form_at bs)) bs
unfolding form_at
form_at_take [] = refl
form_at_take (b ∷ bs) =
    ⊎_elim (λ (p : b < 128). rw (lt-leb 128 b p)) (λ (q : 128 ≤ b). rw (le-leb 128 b q) (ap (λ (l : List ℕ). b ∷ l) (form_at_take bs)))
    (lt_or_ge b 128)

-- a form with anything behind it starts with that form
pub form_at_append : (f rest : List ℕ) → is_form f ≡ true → form_at (f ++ rest) ≡ f
unfolding is_form form_at
form_at_append [] rest h = absurd (false≢true h)
form_at_append (b ∷ []) rest h =
    ⊎_elim (λ (p : b < 128). rw (lt-leb 128 b p)) (λ (q : 128 ≤ b). absurd (false≢true (rw (le-leb 128 b q) at h))) (lt_or_ge b 128)
form_at_append (b ∷ c ∷ f) rest h =
    ⊎_elim (λ (p : b < 128). absurd (false≢true (rw (lt-leb 128 b p) at h)))
    (λ (q : 128 ≤ b). let k : is_form (c ∷ f) ≡ true = rw (le-leb 128 b q) at h in
    rw (le-leb 128 b q) (ap (λ (l : List ℕ). b ∷ l) (form_at_append (c ∷ f) rest k)))
    (lt_or_ge b 128)

-- the form at the start of some bytes, where it is whole, is that of the bytes with anything behind them
pub form_at_whole : (bs rest : List ℕ) → is_form (form_at bs) ≡ true → form_at (bs ++ rest) ≡ form_at bs
form_at_whole bs rest e =
    let k = length (form_at bs) in
    let split : bs ≡ form_at bs ++ drop k bs = sym (take-append-drop k bs) ∙ ap (λ (f : List ℕ). f ++ drop k bs) (sym (form_at_take bs)) in
    ap (λ (l : List ℕ). form_at (l ++ rest)) split ∙ ap form_at (append_assoc (form_at bs) (drop k bs) rest)
    ∙ form_at_append (form_at bs) (drop k bs ++ rest) e

-- a form has a byte
pub form_pos : (f : List ℕ) → is_form f ≡ true → 1 ≤ length f
unfolding is_form
form_pos [] h = absurd (false≢true h)
form_pos (b ∷ f) h = suc-le-suc zero-le

-- ---- the shortest form

-- its value is the number
pub value_shortest : (n : ℕ) → value (shortest n) ≡ n
unfolding value
value_shortest =
    by_sevens (λ n. value (shortest n) ≡ n) (λ n h. rw (shortest_small n h) (omega arith))
    (λ n h ih. rw (shortest_large n h) (omega (arith, ih)))

-- it is a form
pub form_shortest : (n : ℕ) → is_form (shortest n) ≡ true
unfolding is_form
form_shortest =
    by_sevens (λ n. is_form (shortest n) ≡ true) (λ n h. rw (shortest_small n h, lt-leb 128 n h))
    (λ n h ih. rw (shortest_large n h, le-leb 128 (n % 128 + 128) (omega arith)) ih)

-- no form of a number is shorter, and no bytes at all whose pieces make the number
len_least_cons : (b : ℕ) (f : List ℕ) → uleb_len (value (b ∷ f)) ≤ length (b ∷ f)
unfolding value
len_least_cons b [] = omega (arith, len_small (b % 128 + 128 * 0) (omega arith))
len_least_cons b (c ∷ f) =
    let quotient : (b % 128 + 128 * value (c ∷ f)) / 128 ≡ value (c ∷ f) = omega arith in
    ⊎_elim (λ (p : b % 128 + 128 * value (c ∷ f) < 128). omega (arith, len_small (b % 128 + 128 * value (c ∷ f)) p))
    (λ (q : 128 ≤ b % 128 + 128 * value (c ∷ f)). rw (len_large (b % 128 + 128 * value (c ∷ f)) q, quotient)
    (omega (arith, len_least_cons c f)))
    (lt_or_ge (b % 128 + 128 * value (c ∷ f)) 128)

pub len_least : (f : List ℕ) → is_form f ≡ true → uleb_len (value f) ≤ length f
unfolding is_form
len_least [] h = absurd (false≢true h)
len_least (b ∷ f) h = len_least_cons b f
