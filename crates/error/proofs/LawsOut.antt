-- What goes out of an answer that is known: its number, and a value of it. Assumes nothing.
use Prim.Native.Nat.{ℕ, ◌<◌}
use mathlib.Core.Path.{◌≡◌, refl}
use native.Mathlib.Omega.{arith}
use Rattle.error.specs.Refusal.{Answer, accepted, refused, answered, refusal_of, value_or}

module _ {A : Type 0} {a : Answer A} where
  -- the number of an accepted answer, and of a refused one
  pub number_accepted : {x : A} → a ≡ accepted x → 0 ≡ refusal_of a
  number_accepted e = rw e

  pub number_refused : {number : ℕ} → a ≡ refused number → number ≡ refusal_of a
  number_refused e = rw e

  -- a value of an accepted answer
  pub value_accepted : {B : Type 0} (f : A → B) (before : B) {x : A} → a ≡ accepted x → f x ≡ value_or f a before
  value_accepted f before e = rw e

  -- no value of a refused one
  pub value_refused : {B : Type 0} (f : A → B) (before : B) {number : ℕ} → a ≡ refused number → before ≡ value_or f a before
  value_refused f before e = rw e

  -- a value of an answer that is another
  pub value_same : {B : Type 0} (f : A → B) (before : B) {b : Answer A} → a ≡ b → value_or f a before ≡ value_or f b before
  value_same f before e = rw e

module _ {A : Type 0} where
  -- an answer whose number is 0 is accepted, where no refusal of it has that number
  pub out_accepted : (a : Answer A) → ((number : ℕ) → a ≡ refused number → 0 < number) → refusal_of a ≡ 0 → (x : A) × (a ≡ accepted x)
  out_accepted (accepted x) pos e = (x, refl)
  out_accepted (refused number) pos e = absurd (omega (arith, pos number refl))

  -- one with another number is that refusal
  pub out_refused : (a : Answer A) → (refusal_of a ≡ 0 → ⊥) → refused (refusal_of a) ≡ a
  out_refused (accepted x) ne = absurd (ne refl)
  out_refused (refused number) ne = refl

-- what goes out of an answer in other words
pub number_answered : {A B : Type 0} (f : A → B) (a : Answer A) → refusal_of (answered f a) ≡ refusal_of a
unfolding answered
number_answered f (accepted x) = refl
number_answered f (refused number) = refl

pub value_answered : {A B C : Type 0} (g : B → C) (f : A → B) (before : C) (a : Answer A)
    → value_or g (answered f a) before ≡ value_or (λ x. g (f x)) a before
unfolding answered
value_answered g f before (accepted x) = refl
value_answered g f before (refused number) = refl
