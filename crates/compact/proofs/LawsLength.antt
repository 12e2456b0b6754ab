-- The shortest form of a number and its length. Each fact about every number goes by `by_sevens`: it holds below 128, and of a number where
-- it holds of its quotient by 128. Assumes nothing.
use Prim.Native.Nat.{ℕ, zero, suc, ◌+◌, ◌/◌, ◌%◌, ◌^◌, ◌≤◌, ◌<◌}
use mathlib.Core.List.{[], ◌∷◌}
use mathlib.Core.Logic.{⊎_elim}
use mathlib.Core.Path.{◌≡◌, refl}
use native.Mathlib.Nat.{le_refl, le_trans, add_comm}
use native.Mathlib.Omega.{arith}
use borrow.Author.Tests.{lt-ltb, le-ltb}
use lib.ListN.{length}
use Rattle.buffer.proofs.LawsOrder.{lt_or_ge}
use Rattle.compact.specs.Uleb128.{divided, uleb_len, shortest}

-- ---- dividing by 128 again and again

within : (P : ℕ → Type 0) → ((n : ℕ) → n < 128 → P n) → ((n : ℕ) → 128 ≤ n → P (n / 128) → P n) → (d n : ℕ) → n ≤ d → P n
within P small large zero n h = small n (omega arith)
within P small large (suc d) n h =
    ⊎_elim (λ p. small n p) (λ (q : 128 ≤ n). large n q (within P small large d (n / 128) (omega arith))) (lt_or_ge n 128)

-- what holds of every number below 128, and of a number where it holds of its quotient by 128, holds of every number
pub by_sevens : (P : ℕ → Type 0) → ((n : ℕ) → n < 128 → P n) → ((n : ℕ) → 128 ≤ n → P (n / 128) → P n) → (n : ℕ) → P n
by_sevens P small large n = within P small large n n (le_refl n)

module _ {A : Type 0} (last : ℕ → A) (more : ℕ → A → A) where
  -- any two bounds that are large enough give the same
  enough : (d e n : ℕ) → n ≤ d → n ≤ e → divided last more d n ≡ divided last more e n
  unfolding divided
  enough zero zero n h k = refl
  enough zero (suc e) n h k = rw (lt-ltb n 128 (omega arith))
  enough (suc d) zero n h k = rw (lt-ltb n 128 (omega arith))
  enough (suc d) (suc e) n h k = rw (enough d e (n / 128) (omega arith) (omega arith))

  pub divided_small : (n : ℕ) → n < 128 → divided last more n n ≡ last n
  unfolding divided
  divided_small zero h = refl
  divided_small (suc n) h = rw (lt-ltb (suc n) 128 h)

  pub divided_large : (n : ℕ) → 128 ≤ n → divided last more n n ≡ more n (divided last more (n / 128) (n / 128))
  unfolding divided
  divided_large zero h = absurd (omega arith)
  divided_large (suc n) h = rw (le-ltb (suc n) 128 h, enough n (suc n / 128) (suc n / 128) (omega arith) (le_refl (suc n / 128)))

-- ---- the length

pub len_small : (n : ℕ) → n < 128 → uleb_len n ≡ 1
unfolding uleb_len
len_small n h = divided_small (λ m. 1) (λ m rest. rest + 1) n h

pub len_large : (n : ℕ) → 128 ≤ n → uleb_len n ≡ uleb_len (n / 128) + 1
unfolding uleb_len
len_large n h = divided_large (λ m. 1) (λ m rest. rest + 1) n h

pub len_two : (n : ℕ) → 128 ≤ n → n < 16384 → uleb_len n ≡ 2
len_two n h k = rw (len_large n h, len_small (n / 128) (omega arith))

-- every form has a byte
pub len_pos : (n : ℕ) → 1 ≤ uleb_len n
len_pos = by_sevens (λ n. 1 ≤ uleb_len n) (λ n h. omega (arith, len_small n h)) (λ n h ih. omega (arith, len_large n h))

-- a larger number has no shorter form
pub len_mono : (a b : ℕ) → a ≤ b → uleb_len a ≤ uleb_len b
len_mono =
    by_sevens (λ a. (b : ℕ) → a ≤ b → uleb_len a ≤ uleb_len b) (λ a h b k. omega (arith, len_small a h, len_pos b))
    (λ a h ih b k. omega (arith, len_large a h, len_large b (le_trans h k), ih (b / 128) (omega arith)))

-- a sum with a number that is no larger takes at most one byte more
len_double : (a b : ℕ) → b ≤ a → uleb_len (a + b) ≤ uleb_len a + 1
len_double a b h =
    ⊎_elim (λ (p : a + b < 128). omega (arith, len_small (a + b) p))
    (λ (q : 128 ≤ a + b). omega (arith, len_large (a + b) q, len_mono ((a + b) / 128) a (omega arith))) (lt_or_ge (a + b) 128)

-- the length of a sum is at most the sum of the lengths
pub len_sum : (a b : ℕ) → uleb_len (a + b) ≤ uleb_len a + uleb_len b
len_sum a b =
    ⊎_elim (λ (p : a < b). rw (add_comm a b) (omega (arith, len_double b a (omega arith), len_pos a)))
    (λ (q : b ≤ a). omega (arith, len_double a b q, len_pos b)) (lt_or_ge a b)

-- a 64-bit number takes at most 10 bytes
pub len_at_most : (n : ℕ) → n < 2 ^ 64 → uleb_len n ≤ 10
unfolding uleb_len divided
len_at_most n h = len_mono n (18446744073709551615) (omega arith)

-- ---- the shortest form

pub shortest_small : (n : ℕ) → n < 128 → shortest n ≡ n ∷ []
unfolding shortest
shortest_small n h = divided_small (λ m. m ∷ []) (λ m rest. (m % 128 + 128) ∷ rest) n h

pub shortest_large : (n : ℕ) → 128 ≤ n → shortest n ≡ (n % 128 + 128) ∷ shortest (n / 128)
unfolding shortest
shortest_large n h = divided_large (λ m. m ∷ []) (λ m rest. (m % 128 + 128) ∷ rest) n h

pub shortest_two : (n : ℕ) → 128 ≤ n → n < 16384 → shortest n ≡ (n % 128 + 128) ∷ (n / 128) ∷ []
shortest_two n h k = rw (shortest_large n h, shortest_small (n / 128) (omega arith))

-- it has the length that the divisions give
pub length_shortest : (n : ℕ) → length (shortest n) ≡ uleb_len n
length_shortest =
    by_sevens (λ n. length (shortest n) ≡ uleb_len n) (λ n h. rw (shortest_small n h, len_small n h))
    (λ n h ih. rw (shortest_large n h, len_large n h) (omega (arith, ih)))
