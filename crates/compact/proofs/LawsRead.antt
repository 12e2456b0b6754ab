-- Reading: what an accepted form is, that a written number reads as itself, and reading resumed in the middle of a form.
-- Assumes nothing.
use Prim.Native.Nat.{ℕ, ◌/◌, ◌%◌, ◌^◌, ◌≤◌, ◌<◌}
use mathlib.Core.Bool.{Bool, true, false, not}
use mathlib.Core.List.{List, ◌++◌}
use mathlib.Core.Logic.{◌⊎◌, inl, inr}
use mathlib.Core.Path.{◌≡◌, refl, sym, ap, ◌∙◌}
use native.Mathlib.Nat.{lt_irrefl, pow-le-pow_right}
use native.Mathlib.Omega.{arith}
use borrow.Author.Tests.{le-ltb, ltb-false, not-false}
use lib.Dec.{ltb, lit<}
use lib.ListN.{length, take, get_or, length-take}
use Rattle.error.specs.Refusal.{accepted, refused, refuse_if, refusal_of, uleb_cut_short, uleb_overflow}
use Rattle.error.proofs.LawsAnswer.{passed, accepted_inj, refused≢accepted, refuse_yes, refuse_no, neither}
use Rattle.compact.specs.Uleb128.{Reading, piece, is_form, value, form_at, overflows, read_form, read_uleb, uleb_len, shortest}
use Rattle.compact.proofs.LawsLength.{len_at_most, length_shortest}
use Rattle.compact.proofs.LawsForm.{value_below, piece_of_value, form_at_take, form_at_append, form_at_whole, form_pos}
use Rattle.compact.proofs.LawsForm.{value_shortest, form_shortest, len_least}

-- ---- overflow

-- ten bytes at most whose value is below 2 ^ 64 do not overflow
fits_64 : (f : List ℕ) → length f ≤ 10 → value f < 2 ^ 64 → overflows f ≡ false
unfolding overflows
fits_64 f h k =
    let tenth : value f / 128 ^ 9 ≤ 1 = omega arith in
    let low : piece (get_or f 9 0) ≤ 1 = rw (piece_of_value f 9) (omega arith) in
    rw (le-ltb 1 (piece (get_or f 9 0)) low, le-ltb 10 (length f) h)

-- a form that doesn't overflow has ten bytes at most, and a value below 2 ^ 64
bounded : (f : List ℕ) → overflows f ≡ false → (length f ≤ 10) × (value f < 2 ^ 64)
unfolding overflows
bounded f e =
    let both = neither (ltb 1 (piece (get_or f 9 0))) (ltb 10 (length f)) e in
    let tenth : piece (get_or f 9 0) ≤ 1 = ltb-false 1 (piece (get_or f 9 0)) both.0 in
    let short : length f ≤ 10 = ltb-false 10 (length f) both.1 in
    let digit : value f / 128 ^ 9 % 128 ≤ 1 = rw (piece_of_value f 9) at tenth in
    let most : 128 ^ length f ≤ 128 ^ 10 = pow-le-pow_right {n = 128} (lit< tt) short in
    (short, omega (arith, value_below f))

-- ---- accepted forms

-- What is known of bytes that read as a number: they start with a form, whose value and length were given.
pub record Accepted (bs : List ℕ) (r : Reading) : Type 0 where
  pub form : is_form (form_at bs) ≡ true
  pub kept : overflows (form_at bs) ≡ false
  pub starts : form_at bs ≡ take r.len bs
  pub value_is : value (form_at bs) ≡ r.value
  pub len_is : length (form_at bs) ≡ r.len
  pub value_below : r.value < 2 ^ 64
  pub len_pos : 1 ≤ r.len
  pub len_at_most : r.len ≤ 10
  pub len_within : r.len ≤ length bs

-- an accepted form's value and length, its bounds, and that it is the beginning of the bytes
pub read_accepted : (bs : List ℕ) (r : Reading) → read_uleb bs ≡ accepted r → Accepted bs r
unfolding read_uleb read_form
read_accepted bs r e =
    let over = passed (overflows (form_at bs)) _ _ e in
    let short = passed (not (is_form (form_at bs))) _ _ over.1 in
    let whole = not-false (is_form (form_at bs)) short.0 in
    let same = accepted_inj short.1 in
    let limits = bounded (form_at bs) over.0 in
    let cut = simp length-take at (ap length (form_at_take bs)) in
    let within : length (form_at bs) ≤ length bs = omega arith in
    record {
      form = whole;
      kept = over.0;
      starts = rw (ap (λ (x : Reading). x.len) same) at (form_at_take bs);
      value_is = ap (λ (x : Reading). x.value) same;
      len_is = ap (λ (x : Reading). x.len) same;
      value_below = rw (ap (λ (x : Reading). x.value) same) at limits.1;
      len_pos = rw (ap (λ (x : Reading). x.len) same) at (form_pos (form_at bs) whole);
      len_at_most = rw (ap (λ (x : Reading). x.len) same) at limits.0;
      len_within = rw (ap (λ (x : Reading). x.len) same) at within;
    }

-- a refusal has a number above 0
refused_pos : (over short : Bool) (r : Reading) (number : ℕ)
    → refuse_if over uleb_overflow (refuse_if short uleb_cut_short (accepted r)) ≡ refused number → 0 < number
unfolding refuse_if
refused_pos true short r number e = omega (arith, ap refusal_of e)
refused_pos false true r number e = omega (arith, ap refusal_of e)
refused_pos false false r number e = absurd (refused≢accepted (sym e))

pub read_refused : (bs : List ℕ) (number : ℕ) → read_uleb bs ≡ refused number → 0 < number
unfolding read_uleb read_form
read_refused bs number e = refused_pos (overflows (form_at bs)) (not (is_form (form_at bs))) _ number e

-- a form that doesn't overflow reads as its value and length, whatever follows
pub read_form_lem : (f rest : List ℕ) → is_form f ≡ true → overflows f ≡ false
    → read_uleb (f ++ rest) ≡ accepted (record { value = value f; len = length f })
unfolding read_uleb read_form refuse_if
read_form_lem f rest h k = rw (form_at_append f rest h, k, h)

-- a written number reads as itself, with its length, whatever follows
pub read_shortest : (n : ℕ) (rest : List ℕ) → n < 2 ^ 64 → read_uleb (shortest n ++ rest) ≡ accepted (record { value = n; len = uleb_len n })
read_shortest n rest h =
    let fits : overflows (shortest n) ≡ false =
    fits_64 (shortest n) (rw length_shortest (len_at_most n h)) (rw value_shortest h) in
    rw (value_shortest, length_shortest) at (read_form_lem (shortest n) rest (form_shortest n) fits)

-- bytes after an accepted form don't matter
pub read_same : (bs rest : List ℕ) (r : Reading) → read_uleb bs ≡ accepted r → read_uleb (take r.len bs ++ rest) ≡ accepted r
read_same bs rest r e =
    let a = read_accepted bs r e in
    rw (a.value_is, a.len_is, a.starts) at (read_form_lem (form_at bs) rest a.form a.kept)

-- no form that reads as a number is shorter than its shortest
pub read_least : (bs : List ℕ) (r : Reading) → read_uleb bs ≡ accepted r → uleb_len r.value ≤ r.len
read_least bs r e = let a = read_accepted bs r e in rw (a.value_is, a.len_is) at (len_least (form_at bs) a.form)

-- bytes that end before the form at their start does, whatever follows, are cut short or overflow
pub read_cut : (bs rest : List ℕ) → length bs < length (form_at (bs ++ rest))
    → (read_uleb bs ≡ refused uleb_cut_short) ⊎ (read_uleb bs ≡ refused uleb_overflow)
unfolding read_uleb read_form
read_cut bs rest h = go (is_form (form_at bs)) refl (overflows (form_at bs)) refl
  where
    go : (whole : Bool) → is_form (form_at bs) ≡ whole → (over : Bool) → overflows (form_at bs) ≡ over
        → (read_uleb bs ≡ refused uleb_cut_short) ⊎ (read_uleb bs ≡ refused uleb_overflow)
    go whole e true o = inr (refuse_yes (overflows (form_at bs)) _ _ o)
    go false e false o = inl (refuse_no (overflows (form_at bs)) _ _ o ∙ refuse_yes (not (is_form (form_at bs))) _ _ (ap not e))
    go true e false o =
        let same = form_at_whole bs rest e in
        let cut = simp length-take at (ap length (form_at_take bs)) in
        absurd (lt_irrefl 0 (omega (arith, ap length same)))
