-- Blocks of which no two share a byte, by their index. Assumes nothing.
use Prim.Native.Nat.{ℕ, zero, suc}
use mathlib.Core.List.{List, [], ◌∷◌}
use mathlib.Core.Logic.{inl, inr, ◌≢◌}
use mathlib.Core.Option.{Option, none, some}
use mathlib.Core.Path.{◌≡◌, refl, sym, ap, subst}
use Rattle.scripthash_free.specs.FreeList.{Disjoint, Block, Each}
use Rattle.plain_book.proofs.LawsOwners.{some_inj, none_some}
use Rattle.book_start.specs.Start.{AllApart}
use Rattle.book_start.proofs.LawsClaims.{disjoint_sym}
use Rattle.book_start.proofs.LawsPairs.{In, each_in}

-- The block at an index of some blocks.
unfoldable pub block_no : ℕ → List Block → Option Block
block_no i [] = none
block_no zero (x ∷ xs) = some x
block_no (suc i) (x ∷ xs) = block_no i xs

-- It is one of them.
pub no_in : (i : ℕ) (x : Block) (xs : List Block) → block_no i xs ≡ some x → In x xs
unfolding block_no In
no_in i x [] e = none_some e
no_in zero x (y ∷ ys) e = inl (sym (some_inj e))
no_in (suc i) x (y ∷ ys) e = inr (no_in i x ys e)

-- Blocks at two indices share no byte, where no two of the blocks do.
pub two_apart : (xs : List Block) → AllApart xs → (i j : ℕ) (x y : Block) → i ≢ j → block_no i xs ≡ some x → block_no j xs ≡ some y
    → Disjoint x y
unfolding AllApart block_no
two_apart [] a i j x y n e f = absurd (none_some e)
two_apart (z ∷ zs) (d, a) zero zero x y n e f = absurd (n refl)
two_apart (z ∷ zs) (d, a) zero (suc j) x y n e f =
    each_in (Disjoint x) y zs (subst (λ (u : Block). Each (Disjoint u) zs) (some_inj e) d) (no_in j y zs f)
two_apart (z ∷ zs) (d, a) (suc i) zero x y n e f =
    disjoint_sym y x (each_in (Disjoint y) x zs (subst (λ (u : Block). Each (Disjoint u) zs) (some_inj f) d) (no_in i x zs e))
two_apart (z ∷ zs) (d, a) (suc i) (suc j) x y n e f = two_apart zs a i j x y (λ (q : i ≡ j). n (ap suc q)) e f
