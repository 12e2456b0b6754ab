-- A total with one number more: known ones count on as long as creates can tell them, an unknown one stays so. Assumes nothing.
use Prim.Native.Nat.{ℕ, ◌+◌, ◌^◌, ◌≤◌, ◌<◌}
use mathlib.Core.Bool.{Bool, true, false, cond}
use mathlib.Core.Path.{◌≡◌, refl}
use native.Mathlib.Omega.{arith}
use lib.Dec.{eqb, leb}
use borrow.Author.Tests.{ne_eqb, le-leb, lt-leb, leb-true}
use Rattle.book_limits.specs.Limits.{most_counted, total_told}
use Rattle.book_blocks.specs.Blocks.{total_with}

-- one that was never counted stays unknown
pub total_unknown : (n : ℕ) → n ≡ 0 → total_with n ≡ 0
unfolding total_with
total_unknown n e = rw e

-- another is told with one more
pub total_known : (n : ℕ) → (n ≡ 0 → ⊥) → total_with n ≡ total_told (n + 1)
unfolding total_with
total_known n h = rw (ne_eqb n 0 h)

-- as long as creates can tell it, it is one more, and then unknown
pub total_counts : (n : ℕ) → (n ≡ 0 → ⊥) → n < most_counted → total_with n ≡ n + 1
unfolding total_with
total_counts n h low = rw (ne_eqb n 0 h, le-leb (n + 1) most_counted (omega arith))

pub total_ends : (n : ℕ) → most_counted ≤ n → total_with n ≡ 0
unfolding total_with
total_ends n h = rw (ne_eqb n 0 (λ (e : n ≡ 0). omega arith), lt-leb (n + 1) most_counted (omega arith))

-- it fits its four bytes
pub total_fits : (n : ℕ) → total_with n < 2 ^ 32
unfolding total_with
total_fits n = go (eqb n 0) (leb (n + 1) most_counted) refl
  where
    go : (none low : Bool) → leb (n + 1) most_counted ≡ low → cond none 0 (cond low (n + 1) 0) < 2 ^ 32
    go true low e = omega arith
    go false true e = let few = leb-true (n + 1) most_counted e in omega arith
    go false false e = omega arith
