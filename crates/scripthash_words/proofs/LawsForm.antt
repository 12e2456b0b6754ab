-- The form at the start of some bytes, byte by byte. Assumes nothing.
use Prim.Native.Nat.{ℕ, zero, suc, ◌-◌, ◌≤◌, ◌<◌}
use mathlib.Core.Bool.{true, false≢true}
use mathlib.Core.List.{List, [], ◌∷◌}
use mathlib.Core.Logic.{⊎_elim}
use mathlib.Core.Path.{◌≡◌, ap}
use native.Mathlib.Omega.{arith}
use borrow.Author.Tests.{lt-leb, le-leb}
use lib.ListN.{length, get_or}
use Rattle.buffer.proofs.LawsOrder.{lt_or_ge}
use Rattle.compact.specs.Uleb128.{is_form, form_at}

-- the form at the start of some bytes, where its first byte ends it, and where it goes on
pub form_last : (b : ℕ) (bs : List ℕ) → b < 128 → form_at (b ∷ bs) ≡ b ∷ []
unfolding form_at
form_last b bs h = rw (lt-leb 128 b h)

pub form_on : (b : ℕ) (bs : List ℕ) → 128 ≤ b → form_at (b ∷ bs) ≡ b ∷ form_at bs
unfolding form_at
form_on b bs h = rw (le-leb 128 b h)

pub rest_form : (b : ℕ) (bs : List ℕ) → 128 ≤ b → is_form (form_at (b ∷ bs)) ≡ true → is_form (form_at bs) ≡ true
unfolding is_form form_at
rest_form b bs h e = rw (le-leb 128 b h) at e

pub no_form : is_form (form_at []) ≡ true → ⊥
unfolding is_form form_at
no_form e = false≢true e

whole_on : (b : ℕ) (bs : List ℕ) → 128 ≤ b → is_form (form_at bs) ≡ true → is_form (form_at (b ∷ bs)) ≡ true
unfolding is_form form_at
whole_on b bs h e = rw (le-leb 128 b h) e

whole_last : (b : ℕ) (bs : List ℕ) → b < 128 → is_form (form_at (b ∷ bs)) ≡ true
unfolding is_form form_at
whole_last b bs h = rw (lt-leb 128 b h)

-- how long it is
pub length_last : (b : ℕ) (bs : List ℕ) → b < 128 → length (form_at (b ∷ bs)) ≡ 1
length_last b bs h = ap length (form_last b bs h)

pub length_on : (b : ℕ) (bs : List ℕ) → 128 ≤ b → length (form_at (b ∷ bs)) ≡ suc (length (form_at bs))
length_on b bs h = ap length (form_on b bs h)

pub length_most : (bs : List ℕ) → length (form_at bs) ≤ length bs
unfolding form_at
length_most [] = omega arith
length_most (b ∷ bs) =
    ⊎_elim (λ (p : b < 128). rw (lt-leb 128 b p) (omega arith)) (λ (q : 128 ≤ b). rw (le-leb 128 b q) (omega (arith, length_most bs)))
    (lt_or_ge b 128)

-- its last byte ends it
pub last_byte : (bs : List ℕ) → is_form (form_at bs) ≡ true → get_or bs (length (form_at bs) - 1) 0 < 128
last_byte [] f = absurd (no_form f)
last_byte (b ∷ bs) f =
    ⊎_elim (λ (p : b < 128). rw (length_last b bs p) p)
    (λ (q : 128 ≤ b). more b bs q (last_byte bs (rest_form b bs q f)) (some bs (rest_form b bs q f))) (lt_or_ge b 128)
  where
    some : (cs : List ℕ) → is_form (form_at cs) ≡ true → 0 < length (form_at cs)
    some [] g = absurd (no_form g)
    some (c ∷ cs) g =
        ⊎_elim (λ (p : c < 128). omega (arith, length_last c cs p)) (λ (q : 128 ≤ c). omega (arith, length_on c cs q)) (lt_or_ge c 128)

    more : (b : ℕ) (bs : List ℕ) → 128 ≤ b → get_or bs (length (form_at bs) - 1) 0 < 128 → 0 < length (form_at bs)
        → get_or (b ∷ bs) (length (form_at (b ∷ bs)) - 1) 0 < 128
    more b bs q h s =
        let e : length (form_at (b ∷ bs)) - 1 ≡ suc (length (form_at bs) - 1) = omega (arith, length_on b bs q) in
        rw e h

-- where some byte ends a form, the first form ends at it or before
pub record Within (bs : List ℕ) (e : ℕ) : Type 0 where
  pub whole : is_form (form_at bs) ≡ true
  pub short : length (form_at bs) ≤ e

pub form_within : (bs : List ℕ) (e : ℕ) → e < length bs → get_or bs e 0 < 128 → Within bs (suc e)
form_within [] e h l = absurd (omega arith)
form_within (b ∷ bs) e h l =
    ⊎_elim (λ (p : b < 128). record { whole = whole_last b bs p; short = omega (arith, length_last b bs p) })
    (λ (q : 128 ≤ b). later e h l q (λ k g m. form_within bs k g m)) (lt_or_ge b 128)
  where
    later : (e : ℕ) → e < length (b ∷ bs) → get_or (b ∷ bs) e 0 < 128 → 128 ≤ b
        → ((k : ℕ) → k < length bs → get_or bs k 0 < 128 → Within bs (suc k)) → Within (b ∷ bs) (suc e)
    later zero h l q ih = absurd (omega arith)
    later (suc k) h l q ih =
        let w = ih k (omega arith) l in
        record { whole = whole_on b bs q w.whole; short = omega (arith, length_on b bs q, w.short) }
