-- Padded forms: the last byte of a form tells whether it is one, so that the bytes 0 count the padded forms of numbers above 0. Assumes
-- nothing.
use Prim.Native.Nat.{ℕ, suc, ◌+◌, ◌-◌, ◌*◌, ◌/◌, ◌%◌, ◌≤◌, ◌<◌}
use mathlib.Core.Bool.{Bool, true, false, ◌&&◌, false≢true}
use mathlib.Core.List.{List, [], ◌∷◌, ◌++◌}
use mathlib.Core.Logic.{⊎_elim}
use mathlib.Core.Path.{◌≡◌, refl, sym, ap, ◌∙◌}
use native.Mathlib.Nat.{zero-add, add-zero, add_assoc}
use native.Mathlib.Omega.{arith}
use borrow.Author.Tests.{lt-leb, le-leb, lt-ltb, le-ltb, eq-eqb, ne_eqb}
use lib.Dec.{ltb, eqb}
use lib.ListN.{length, take, get_or}
use lib.Seq.{get_or-take}
use Rattle.error.specs.Refusal.{accepted, answered}
use Rattle.error.proofs.LawsAnswer.{was_accepted}
use Rattle.buffer.proofs.LawsOrder.{lt_or_ge}
use Rattle.compact.specs.Uleb128.{Reading, is_form, value, form_at, read_uleb, uleb_len, shortest, padded, one, zeros}
use Rattle.compact.specs.Uleb128.{NumberRead, number_read}
use Rattle.compact.proofs.LawsLength.{len_pos, len_small, len_large, by_sevens, shortest_small, shortest_large}
use Rattle.compact.proofs.LawsForm.{form_pos}
use Rattle.compact.proofs.LawsRead.{read_accepted}

-- ---- bytes 0

-- those of two parts
pub zeros_append : (xs ys : List ℕ) → zeros (xs ++ ys) ≡ zeros xs + zeros ys
unfolding zeros
zeros_append [] ys = sym (zero-add (zeros ys))
zeros_append (x ∷ xs) ys = rw (zeros_append xs ys, add_assoc)

-- a byte that goes on isn't one
zeros_more : (b : ℕ) (bs : List ℕ) → 128 ≤ b → zeros (b ∷ bs) ≡ zeros bs
unfolding zeros
zeros_more b bs h = rw (ne_eqb b 0 (λ (e : b ≡ 0). omega arith), zero-add)

-- a form of one byte ends
one_ends : (b : ℕ) → is_form (b ∷ []) ≡ true → b < 128
unfolding is_form
one_ends b h =
    ⊎_elim (λ (p : b < 128). p) (λ (q : 128 ≤ b). absurd (false≢true (rw (le-leb 128 b q) at h))) (lt_or_ge b 128)

-- one of more goes on, and the rest is a form
more_goes : (b c : ℕ) (f : List ℕ) → is_form (b ∷ c ∷ f) ≡ true → (128 ≤ b) × (is_form (c ∷ f) ≡ true)
unfolding is_form
more_goes b c f h =
    ⊎_elim (λ (p : b < 128). absurd (false≢true (rw (lt-leb 128 b p) at h)))
    (λ (q : 128 ≤ b). (q, rw (le-leb 128 b q) at h)) (lt_or_ge b 128)

-- ---- forms

-- one byte
zeros_one : (b : ℕ) → b ≡ 0 → zeros (b ∷ []) ≡ 1
unfolding zeros
zeros_one b z = rw (eq-eqb b 0 z)

zeros_other : (b : ℕ) → 0 < b → zeros (b ∷ []) ≡ 0
unfolding zeros
zeros_other b h = rw (ne_eqb b 0 (λ (e : b ≡ 0). omega arith))

-- a form of 0 has one byte 0
zeros_none : (f : List ℕ) → is_form f ≡ true → value f ≡ 0 → zeros f ≡ 1
unfolding value is_form
zeros_none [] h e = absurd (false≢true h)
zeros_none (b ∷ []) h e = zeros_one b (omega (arith, one_ends b h))
zeros_none (b ∷ c ∷ f) h e =
    let (goes, rest) = more_goes b c f h in
    zeros_more b (c ∷ f) goes ∙ zeros_none (c ∷ f) rest (omega arith)

-- a form of a number above 0 has a byte 0 where it is padded, and no other
pub zeros_form : (f : List ℕ) → is_form f ≡ true → 0 < value f → zeros f ≡ one (ltb (uleb_len (value f)) (length f))
unfolding value is_form
zeros_form [] h k = absurd (false≢true h)
zeros_form (b ∷ []) h k =
    let small : b % 128 + 128 * 0 < 128 = omega arith in
    rw (len_small (b % 128 + 128 * 0) small) (zeros_other b (omega (arith, one_ends b h)))
zeros_form (b ∷ c ∷ f) h k =
    let (goes, rest) = more_goes b c f h in
    ⊎_elim
    (λ (p : 0 < value (c ∷ f)).
    let quotient : (b % 128 + 128 * value (c ∷ f)) / 128 ≡ value (c ∷ f) = omega arith in
    rw (len_large (b % 128 + 128 * value (c ∷ f)) (omega arith), quotient)
    (zeros_more b (c ∷ f) goes ∙ zeros_form (c ∷ f) rest p ∙ behind (uleb_len (value (c ∷ f))) (length (c ∷ f))))
    (λ (q : value (c ∷ f) ≤ 0).
    let small : b % 128 + 128 * value (c ∷ f) < 128 = omega arith in
    rw (len_small (b % 128 + 128 * value (c ∷ f)) small, lt-ltb 1 (length (b ∷ c ∷ f)) (omega arith))
    (zeros_more b (c ∷ f) goes ∙ zeros_none (c ∷ f) rest (omega arith)))
    (lt_or_ge 0 (value (c ∷ f)))
  where
    behind : (m n : ℕ) → one (ltb m n) ≡ one (ltb (m + 1) (suc n))
    behind m n =
        ⊎_elim (λ (p : m < n). rw (lt-ltb m n p, lt-ltb (m + 1) (suc n) (omega arith)))
        (λ (q : n ≤ m). rw (le-ltb m n q, le-ltb (m + 1) (suc n) (omega arith))) (lt_or_ge m n)

-- ---- as they are read

-- the bytes that a number above 0 was read from have a byte 0 where its form is padded, and no other
pub read_zeros : (bs : List ℕ) (r : Reading) → read_uleb bs ≡ accepted r → 0 < r.value
    → zeros (take r.len bs) ≡ one (padded r)
unfolding padded
read_zeros bs r e h =
    let a = read_accepted bs r e in
    let k : 0 < value (form_at bs) = rw a.value_is h in
    rw (a.value_is, a.len_is, a.starts) at (zeros_form (form_at bs) a.form k)

-- ---- the shortest form

-- of a number above 0 it has no byte 0
pub zeros_shortest : (n : ℕ) → 0 < n → zeros (shortest n) ≡ 0
zeros_shortest =
    by_sevens (λ n. 0 < n → zeros (shortest n) ≡ 0) (λ n h k. rw (shortest_small n h) (zeros_other n k))
    (λ n h ih k. rw (shortest_large n h) (zeros_more (n % 128 + 128) (shortest (n / 128)) (omega arith) ∙ ih (omega arith)))

-- ---- the last byte

-- it alone can be 0
zeros_last : (f : List ℕ) → is_form f ≡ true → zeros f ≡ one (eqb (get_or f (length f - 1) 0) 0)
unfolding is_form zeros
zeros_last [] h = absurd (false≢true h)
zeros_last (b ∷ []) h = add-zero (one (eqb b 0))
zeros_last (b ∷ c ∷ f) h =
    let (goes, rest) = more_goes b c f h in
    let last : length (b ∷ c ∷ f) - 1 ≡ suc (length (c ∷ f) - 1) = omega arith in
    zeros_more b (c ∷ f) goes ∙ zeros_last (c ∷ f) rest ∙ ap (λ (i : ℕ). one (eqb (get_or (b ∷ c ∷ f) i 0) 0)) (sym last)

-- tests that count alike are alike
one_same : (a b : Bool) → one a ≡ one b → a ≡ b
one_same true true e = refl
one_same true false e = absurd (omega (arith, e))
one_same false true e = absurd (omega (arith, e))
one_same false false e = refl

-- a form is padded where its last byte isn't the only one and is 0
pub padded_last : (f : List ℕ) → is_form f ≡ true
    → ltb (uleb_len (value f)) (length f) ≡ (ltb 1 (length f) && eqb (get_or f (length f - 1) 0) 0)
padded_last f h =
    let last = zeros_last f h in
    ⊎_elim (λ (p : 0 < value f). above (length f) (one_same _ _ (sym (zeros_form f h p) ∙ last)) (form_pos f h) (len_pos (value f)))
    (λ (q : value f ≤ 0).
    let none : value f ≡ 0 = omega arith in
    let ends : eqb (get_or f (length f - 1) 0) 0 ≡ true = one_same _ true (sym last ∙ zeros_none f h none) in
    rw (ends, len_small (value f) (omega arith)) (sym (and_true (ltb 1 (length f)))))
    (lt_or_ge 0 (value f))
  where
    above : (n : ℕ) → ltb (uleb_len (value f)) n ≡ eqb (get_or f (length f - 1) 0) 0 → 1 ≤ n → 1 ≤ uleb_len (value f)
        → ltb (uleb_len (value f)) n ≡ (ltb 1 n && eqb (get_or f (length f - 1) 0) 0)
    above n e m l =
        ⊎_elim (λ (p : 1 < n). rw (lt-ltb 1 n p) e)
        (λ (q : n ≤ 1). rw (le-ltb 1 n q) (le-ltb (uleb_len (value f)) n (omega arith))) (lt_or_ge 1 n)

    and_true : (a : Bool) → (a && true) ≡ a
    and_true true = refl
    and_true false = refl

-- so does the last byte that a number was read from
pub read_last : (bs : List ℕ) (r : Reading) → read_uleb bs ≡ accepted r → padded r ≡ (ltb 1 r.len && eqb (get_or bs (r.len - 1) 0) 0)
unfolding padded
read_last bs r e =
    let a = read_accepted bs r e in
    let last : get_or (take r.len bs) (r.len - 1) 0 ≡ get_or bs (r.len - 1) 0 =
    get_or-take r.len bs (r.len - 1) 0 (omega (arith, a.len_pos)) in
    rw (a.value_is, a.len_is, a.starts, last) at (padded_last (form_at bs) a.form)

-- what is told of a number is told of its reading
pub number_back : (bs : List ℕ) {v l : ℕ} {s : Bool}
    → answered number_read (read_uleb bs) ≡ accepted (record { value = v; len = l; shortest = s })
    → read_uleb bs ≡ accepted (record { value = v; len = l })
number_back bs e =
    let (r, read, same) = was_accepted number_read (read_uleb bs) e in
    read ∙ ap (λ (x : NumberRead). accepted (record { value = x.value; len = x.len })) same
