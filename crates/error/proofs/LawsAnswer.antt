-- What an answer tells of the tests that it passed, and how answers go on. Assumes nothing.
use Prim.Native.Nat.{ℕ}
use native.Mathlib.Omega.{arith}
use mathlib.Core.Bool.{Bool, true, false, ◌||◌, true≢false}
use mathlib.Core.Path.{◌≡◌, refl, sym, ap}
use Rattle.error.specs.Refusal.{Answer, accepted, refused, refuse_if, and_then, answered, refusal_of}

module _ {A : Type 0} where
  -- a refusal is no acceptance
  pub refused≢accepted : {number : ℕ} {x : A} → refused number ≡ accepted x → ⊥
  refused≢accepted e = let z : ◌≡◌ {A = ℕ} 0 1 = cc in omega arith

  -- an accepted value is the value
  pub accepted_inj : {x y : A} → accepted x ≡ accepted y → x ≡ y
  accepted_inj e = cc

  -- a test that a call passed did not hold, and the call goes on as after it
  pub passed : (test : Bool) (number : ℕ) (after : Answer A) {x : A} → refuse_if test number after ≡ accepted x
      → (test ≡ false) × (after ≡ accepted x)
  unfolding refuse_if
  passed true number after e = absurd (refused≢accepted e)
  passed false number after e = (refl, e)

  -- a test that holds, and one that doesn't
  pub refuse_yes : (test : Bool) (number : ℕ) (after : Answer A) → test ≡ true → refuse_if test number after ≡ refused number
  unfolding refuse_if
  refuse_yes test number after e = rw e

  pub refuse_no : (test : Bool) (number : ℕ) (after : Answer A) → test ≡ false → refuse_if test number after ≡ after
  unfolding refuse_if
  refuse_no test number after e = rw e

module _ {A B : Type 0} where
  -- a call that is refused by the same test or by what comes after it
  pub refused_alike : (test : Bool) (number : ℕ) (a : Answer A) (b : Answer B) {m : ℕ}
      → (a ≡ refused m → b ≡ refused m) → refuse_if test number a ≡ refused m → refuse_if test number b ≡ refused m
  unfolding refuse_if
  refused_alike true number a b f e = cc
  refused_alike false number a b f e = f e

  -- a part that a call passed was accepted, and the call goes on as after it
  pub went_on : (part : Answer A) (after : A → Answer B) {x : B} → and_then part after ≡ accepted x
      → (y : A) × (part ≡ accepted y) × (after y ≡ accepted x)
  unfolding and_then
  went_on (accepted y) after e = (y, refl, e)
  went_on (refused number) after e = absurd (refused≢accepted e)

  -- a part that is accepted, and one that is refused
  pub then_yes : (part : Answer A) (after : A → Answer B) {x : A} → part ≡ accepted x → and_then part after ≡ after x
  unfolding and_then
  then_yes part after e = rw e

  pub then_no : (part : Answer A) (after : A → Answer B) {number : ℕ} → part ≡ refused number → and_then part after ≡ refused number
  unfolding and_then
  then_no part after e = rw e

  pub answered_yes : (f : A → B) (a : Answer A) {x : A} → a ≡ accepted x → answered f a ≡ accepted (f x)
  unfolding answered
  answered_yes f a e = rw e

  pub answered_no : (f : A → B) (a : Answer A) {number : ℕ} → a ≡ refused number → answered f a ≡ refused number
  unfolding answered
  answered_no f a e = rw e

-- ---- a number that a call never refuses with

module _ {A : Type 0} {n : ℕ} where
  -- it is neither a test's number nor one of what comes after it
  pub never_if : (test : Bool) (number : ℕ) (after : Answer A) → (number ≡ n → ⊥) → (after ≡ refused n → ⊥)
      → refuse_if test number after ≡ refused n → ⊥
  unfolding refuse_if
  never_if true number after f g e = f (ap refusal_of e)
  never_if false number after f g e = g e

module _ {A B : Type 0} {n : ℕ} where
  -- it is neither one of a part nor of what comes after it
  pub never_then : (part : Answer A) (after : A → Answer B) → (part ≡ refused n → ⊥) → ((x : A) → after x ≡ refused n → ⊥)
      → and_then part after ≡ refused n → ⊥
  unfolding and_then
  never_then (accepted x) after f g e = g x e
  never_then (refused number) after f g e = f (ap refused (ap refusal_of e))

-- ---- other words

module _ {A B : Type 0} where
  -- an answer in other words was the answer
  pub was_accepted : (f : A → B) (a : Answer A) {y : B} → answered f a ≡ accepted y → (x : A) × (a ≡ accepted x) × (f x ≡ y)
  unfolding answered
  was_accepted f (accepted x) e = (x, refl, accepted_inj e)
  was_accepted f (refused number) e = absurd (refused≢accepted e)

  pub was_refused : (f : A → B) (a : Answer A) {number : ℕ} → answered f a ≡ refused number → a ≡ refused number
  unfolding answered
  was_refused f (accepted x) e = absurd (refused≢accepted (sym e))
  was_refused f (refused number) e = cc

-- other words for other words
pub answered_answered : {A B C : Type 0} (g : B → C) (f : A → B) (a : Answer A) → answered g (answered f a) ≡ answered (λ x. g (f x)) a
unfolding answered
answered_answered g f (accepted x) = refl
answered_answered g f (refused number) = refl

-- other words for what comes after a part
pub answered_then : {A B C : Type 0} (f : B → C) (g : A → B) (a : Answer A)
    → answered f (and_then a (λ x. accepted (g x))) ≡ answered (λ x. f (g x)) a
unfolding answered and_then
answered_then f g (accepted x) = refl
answered_then f g (refused number) = refl

-- the same words
pub answered_same : {A : Type 0} (a : Answer A) → answered (λ x. x) a ≡ a
unfolding answered
answered_same (accepted x) = refl
answered_same (refused number) = refl

-- neither of two tests holds where their disjunction doesn't
pub neither : (a b : Bool) → a || b ≡ false → (a ≡ false) × (b ≡ false)
neither true b e = absurd (true≢false e)
neither false b e = (refl, e)
