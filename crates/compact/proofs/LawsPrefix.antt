-- Forms are told apart by their first bytes: no form is the proper beginning of another, and forms at the start of the same bytes are one
-- form, with one value. This holds of all forms, the shortest and the padded ones, whatever their values. Assumes nothing.
use Prim.Native.Nat.{ℕ}
use mathlib.Core.Bool.{true}
use mathlib.Core.List.{List, [], ◌++◌, append-nil, append_cancel_left, IsPrefix}
use mathlib.Core.Path.{◌≡◌, sym, ap, ◌∙◌}
use lib.ListN.{take}
use Rattle.error.specs.Refusal.{accepted}
use Rattle.error.proofs.LawsAnswer.{accepted_inj}
use Rattle.compact.specs.Uleb128.{Reading, is_form, value, form_at, read_uleb, shortest}
use Rattle.compact.proofs.LawsForm.{form_at_append, value_shortest, form_shortest}
use Rattle.compact.proofs.LawsRead.{read_same}

-- ---- any forms

-- two forms with anything behind them that make the same bytes are one form, with the same behind it
pub form_fixed : (f g xs ys : List ℕ) → is_form f ≡ true → is_form g ≡ true → f ++ xs ≡ g ++ ys → (f ≡ g) × (xs ≡ ys)
form_fixed f g xs ys h k e =
    let same : f ≡ g = sym (form_at_append f xs h) ∙ ap form_at e ∙ form_at_append g ys k in
    (same, append_cancel_left f xs ys (e ∙ ap (λ (l : List ℕ). l ++ ys) (sym same)))

-- no form is the proper beginning of another form
pub form_prefix : (f g : List ℕ) → is_form f ≡ true → is_form g ≡ true → IsPrefix f g → f ≡ g
form_prefix f g h k (xs, e) = (form_fixed f g xs [] h k (e ∙ sym (append-nil g))).0

-- forms at the start of the same bytes have the same value
pub value_fixed : (f g bs : List ℕ) → is_form f ≡ true → is_form g ≡ true → IsPrefix f bs → IsPrefix g bs → value f ≡ value g
value_fixed f g bs h k (xs, e) (ys, d) = ap value (form_fixed f g xs ys h k (e ∙ sym d)).0

-- ---- as they are read

-- where the bytes that one number was read from are the beginning of others that read, both readings are one
pub read_fixed : (bs cs : List ℕ) (r t : Reading) → read_uleb bs ≡ accepted r → read_uleb cs ≡ accepted t → IsPrefix (take r.len bs) cs
    → r ≡ t
read_fixed bs cs r t e d (rest, begins) = accepted_inj (sym (read_same bs rest r e) ∙ ap read_uleb begins ∙ d)

-- ---- shortest forms

-- a number's shortest form with anything behind it fixes the number, and what is behind
pub shortest_fixed : (a b : ℕ) (xs ys : List ℕ) → shortest a ++ xs ≡ shortest b ++ ys → (a ≡ b) × (xs ≡ ys)
shortest_fixed a b xs ys e =
    let (same, behind) = form_fixed (shortest a) (shortest b) xs ys (form_shortest a) (form_shortest b) e in
    (sym (value_shortest a) ∙ ap value same ∙ value_shortest b, behind)

-- of two different numbers, neither's shortest form is the beginning of the other's
pub shortest_prefix : (a b : ℕ) → IsPrefix (shortest a) (shortest b) → a ≡ b
shortest_prefix a b (xs, e) = (shortest_fixed a b xs [] (e ∙ sym (append-nil (shortest b)))).0
