-- Cases on numbers, and tests that are computed for each number below a bound. Assumes nothing.
use Prim.Native.Nat.{ℕ, zero, suc, ◌≤◌, ◌<◌, zero-le, suc-le-suc}
use mathlib.Core.Bool.{Bool, true, false, ◌&&◌}
use mathlib.Core.Logic.{◌⊎◌, inl, inr, ⊎_elim}
use mathlib.Core.Path.{◌≡◌, subst}
use native.Mathlib.Nat.{not-suc-le-zero}
use native.Mathlib.Omega.{arith}
use lib.Dec.{T}

-- a number is below another, or not
pub lt_or_ge : (a b : ℕ) → (a < b) ⊎ (b ≤ a)
lt_or_ge zero zero = inr zero-le
lt_or_ge zero (suc b) = inl (suc-le-suc zero-le)
lt_or_ge (suc a) zero = inr zero-le
lt_or_ge (suc a) (suc b) = ⊎_elim (λ p. inl (suc-le-suc p)) (λ q. inr (suc-le-suc q)) (lt_or_ge a b)

-- a test passes at every number below a bound
unfoldable pub every_below : (ℕ → Bool) → ℕ → Bool
every_below f zero = true
every_below f (suc n) = f n && every_below f n

and_left : (a b : Bool) → T (a && b) → T a
and_left true b t = tt
and_left false b t = t

and_right : (a b : Bool) → T (a && b) → T b
and_right true b t = t
and_right false b t = absurd t

-- where the test passes at every number below a bound, it passes at each of them
pub below_bound : (f : ℕ → Bool) (n : ℕ) → T (every_below f n) → (k : ℕ) → k < n → T (f k)
unfolding every_below
below_bound f zero t k h = absurd (not-suc-le-zero h)
below_bound f (suc n) t k h =
    ⊎_elim (λ (p : k < n). below_bound f n (and_right (f n) (every_below f n) t) k p)
    (λ (q : n ≤ k). let e : n ≡ k = omega arith in subst (λ (m : ℕ). T (f m)) e (and_left (f n) (every_below f n) t))
    (lt_or_ge k n)
