-- Units as the bits of bytes: one by one, and whole bytes of them. Assumes nothing.
use Prim.Native.Nat.{ℕ, zero, suc, ◌+◌, ◌*◌, ◌/◌, ◌%◌, ◌^◌, ◌<◌}
use mathlib.Core.Bool.{Bool, true, false, cond, ◌&&◌}
use mathlib.Core.List.{List, [], ◌∷◌, ◌++◌, append_assoc}
use mathlib.Core.Logic.{⊎_elim}
use mathlib.Core.Path.{◌≡◌, refl, sym, ap, ap₂, ◌∙◌}
use native.Mathlib.Omega.{arith}
use native.Mathlib.Nat.{eq-or-lt_of_le, le_of_suc-le-suc}
use lib.Dec.{eqb, ltb}
use lib.ListN.{length, get_or, set, take, drop, replicate}
use borrow.Author.Tests.{eqb-true, eqb-false, eq-eqb, ne_eqb, ltb-true}
use Rattle.buffer.specs.Bytes.{part, overwrite}
use Rattle.scripthash_free.proofs.LawsBlock.{both}
use Rattle.book_start.specs.Units.{bits_from, bits_of, units_of, all_free}

-- ---- a byte, by a test of all of them

-- A test holds of all numbers below one.
unfoldable all_below : ℕ → (ℕ → Bool) → Bool
all_below zero p = true
all_below (suc k) p = p k && all_below k p

all_at : (n : ℕ) (p : ℕ → Bool) → all_below n p ≡ true → (k : ℕ) → k < n → p k ≡ true
unfolding all_below
all_at zero p e k h = absurd (omega arith)
all_at (suc n) p e k h =
    let (last, rest) = both (p n) (all_below n p) e in
    ⊎_elim (λ (same : k ≡ n). ap p same ∙ last) (λ (low : k < n). all_at n p rest k low) (eq-or-lt_of_le (le_of_suc-le-suc h))

-- Two lists of numbers are the same.
unfoldable same_list : List ℕ → List ℕ → Bool
same_list [] [] = true
same_list [] (y ∷ ys) = false
same_list (x ∷ xs) [] = false
same_list (x ∷ xs) (y ∷ ys) = eqb x y && same_list xs ys

same_list_lem : (xs ys : List ℕ) → same_list xs ys ≡ true → xs ≡ ys
unfolding same_list
same_list_lem [] [] e = refl
same_list_lem [] (y ∷ ys) e = let z : ◌≡◌ {A = ℕ} 0 1 = cc in absurd (omega arith)
same_list_lem (x ∷ xs) [] e = let z : ◌≡◌ {A = ℕ} 0 1 = cc in absurd (omega arith)
same_list_lem (x ∷ xs) (y ∷ ys) e =
    let (head, tail) = both (eqb x y) (same_list xs ys) e in ap₂ (λ (a : ℕ) (l : List ℕ). a ∷ l) (eqb-true x y head) (same_list_lem xs ys tail)

-- A bit of a byte is what is left of it when it is shifted down.
unfoldable bit_test : ℕ → Bool
bit_test w = all_below 8 (λ j. eqb (get_or (bits_of w) j 0) (w / 2 ^ j % 2))

-- A byte whose bit is 0, with its weight added, has the bit and the others as before; and one whose bit is 1 has it.
unfoldable set_test : ℕ → Bool
set_test w = all_below 8 (λ j. cond (eqb (w / 2 ^ j % 2) 0) (same_list (bits_of (w + 2 ^ j)) (set (bits_of w) j 1))
    (same_list (bits_of w) (set (bits_of w) j 1)))

-- Where its bit is 0, the byte with its weight added is one still.
unfoldable fit_test : ℕ → Bool
fit_test w = all_below 8 (λ j. cond (eqb (w / 2 ^ j % 2) 0) (ltb (w + 2 ^ j) 256) true)

bits_tested : all_below 256 bit_test ≡ true
unfolding all_below bit_test bits_from
bits_tested = refl

sets_tested : all_below 256 set_test ≡ true
unfolding all_below set_test same_list bits_from
sets_tested = refl

fits_tested : all_below 256 fit_test ≡ true
unfolding all_below fit_test
fits_tested = refl

pub bit_is : (w j : ℕ) → w < 256 → j < 8 → get_or (bits_of w) j 0 ≡ w / 2 ^ j % 2
unfolding bit_test
bit_is w j h l = eqb-true _ _ (all_at 8 _ (all_at 256 bit_test bits_tested w h) j l)

pub bit_set : (w j : ℕ) → w < 256 → j < 8 → w / 2 ^ j % 2 ≡ 0 → bits_of (w + 2 ^ j) ≡ set (bits_of w) j 1
unfolding set_test
bit_set w j h l e = same_list_lem _ _ (rw (eq-eqb (w / 2 ^ j % 2) 0 e) at (all_at 8 _ (all_at 256 set_test sets_tested w h) j l))

pub bit_stays : (w j : ℕ) → w < 256 → j < 8 → (w / 2 ^ j % 2 ≡ 0 → ⊥) → bits_of w ≡ set (bits_of w) j 1
unfolding set_test
bit_stays w j h l e = same_list_lem _ _ (rw (ne_eqb (w / 2 ^ j % 2) 0 e) at (all_at 8 _ (all_at 256 set_test sets_tested w h) j l))

pub bit_fits : (w j : ℕ) → w < 256 → j < 8 → w / 2 ^ j % 2 ≡ 0 → w + 2 ^ j < 256
unfolding fit_test
bit_fits w j h l e = ltb-true (w + 2 ^ j) 256 (rw (eq-eqb (w / 2 ^ j % 2) 0 e) at (all_at 8 _ (all_at 256 fit_test fits_tested w h) j l))

-- The weight of a bit is a byte.
pub weight_is : (j : ℕ) → j < 8 → 1 * 2 ^ j % 256 ≡ 2 ^ j
unfolding all_below
weight_is j l = eqb-true _ _ (all_at 8 (λ k. eqb (1 * 2 ^ k % 256) (2 ^ k)) refl j l)

-- ---- bytes one behind the other

-- Eight units a byte.
pub units_long : (ws : List ℕ) → length (units_of ws) ≡ 8 * length ws
unfolding units_of bits_from
units_long [] = refl
units_long (w ∷ ws) = let e = units_long ws in omega arith

-- A unit is a bit of its byte.
pub unit_at : (ws : List ℕ) (u : ℕ) → u < 8 * length ws → get_or (units_of ws) u 0 ≡ get_or (bits_of (get_or ws (u / 8) 0)) (u % 8) 0
unfolding units_of bits_from
unit_at [] u h = absurd (omega arith)
unit_at (w ∷ ws) zero h = refl
unit_at (w ∷ ws) (suc zero) h = refl
unit_at (w ∷ ws) (suc (suc zero)) h = refl
unit_at (w ∷ ws) (suc (suc (suc zero))) h = refl
unit_at (w ∷ ws) (suc (suc (suc (suc zero)))) h = refl
unit_at (w ∷ ws) (suc (suc (suc (suc (suc zero))))) h = refl
unit_at (w ∷ ws) (suc (suc (suc (suc (suc (suc zero)))))) h = refl
unit_at (w ∷ ws) (suc (suc (suc (suc (suc (suc (suc zero))))))) h = refl
unit_at (w ∷ ws) (suc (suc (suc (suc (suc (suc (suc (suc u)))))))) h =
    let next : suc (suc (suc (suc (suc (suc (suc (suc u))))))) / 8 ≡ suc (u / 8) = omega arith in
    let same : suc (suc (suc (suc (suc (suc (suc (suc u))))))) % 8 ≡ u % 8 = omega arith in
    rw (next, same) (unit_at ws u (omega arith))

-- A unit is set with the bit of its byte.
pub set_unit : (ws : List ℕ) (u w : ℕ) → u < 8 * length ws → bits_of w ≡ set (bits_of (get_or ws (u / 8) 0)) (u % 8) 1
    → units_of (set ws (u / 8) w) ≡ set (units_of ws) u 1
unfolding units_of bits_from
set_unit [] u w h e = absurd (omega arith)
set_unit (x ∷ ws) zero w h e = ap (λ (l : List ℕ). l ++ units_of ws) e
set_unit (x ∷ ws) (suc zero) w h e = ap (λ (l : List ℕ). l ++ units_of ws) e
set_unit (x ∷ ws) (suc (suc zero)) w h e = ap (λ (l : List ℕ). l ++ units_of ws) e
set_unit (x ∷ ws) (suc (suc (suc zero))) w h e = ap (λ (l : List ℕ). l ++ units_of ws) e
set_unit (x ∷ ws) (suc (suc (suc (suc zero)))) w h e = ap (λ (l : List ℕ). l ++ units_of ws) e
set_unit (x ∷ ws) (suc (suc (suc (suc (suc zero))))) w h e = ap (λ (l : List ℕ). l ++ units_of ws) e
set_unit (x ∷ ws) (suc (suc (suc (suc (suc (suc zero)))))) w h e = ap (λ (l : List ℕ). l ++ units_of ws) e
set_unit (x ∷ ws) (suc (suc (suc (suc (suc (suc (suc zero))))))) w h e = ap (λ (l : List ℕ). l ++ units_of ws) e
set_unit (x ∷ ws) (suc (suc (suc (suc (suc (suc (suc (suc u)))))))) w h e =
    let next : suc (suc (suc (suc (suc (suc (suc (suc u))))))) / 8 ≡ suc (u / 8) = omega arith in
    let same : suc (suc (suc (suc (suc (suc (suc (suc u))))))) % 8 ≡ u % 8 = omega arith in
    let rest = set_unit ws u w (omega arith) (rw (next, same) at e) in
    rw next (ap (λ (l : List ℕ). bits_of x ++ l) rest)

-- The first bytes, and those behind them.
pub units_append : (xs ys : List ℕ) → units_of (xs ++ ys) ≡ units_of xs ++ units_of ys
unfolding units_of
units_append [] ys = refl
units_append (x ∷ xs) ys = ap (λ (l : List ℕ). bits_of x ++ l) (units_append xs ys) ∙ sym (append_assoc (bits_of x) (units_of xs) (units_of ys))

pub units_take : (n : ℕ) (ws : List ℕ) → units_of (take n ws) ≡ take (8 * n) (units_of ws)
unfolding units_of bits_from
units_take zero ws = refl
units_take (suc n) [] = let more : 8 * suc n ≡ suc (8 * n + 7) = omega arith in rw more refl
units_take (suc n) (w ∷ ws) =
    let more : 8 * suc n ≡ suc (suc (suc (suc (suc (suc (suc (suc (8 * n)))))))) = omega arith in
    rw more (ap (λ (l : List ℕ). bits_of w ++ l) (units_take n ws))

pub units_drop : (n : ℕ) (ws : List ℕ) → units_of (drop n ws) ≡ drop (8 * n) (units_of ws)
unfolding units_of bits_from
units_drop zero ws = refl
units_drop (suc n) [] = let more : 8 * suc n ≡ suc (8 * n + 7) = omega arith in rw more refl
units_drop (suc n) (w ∷ ws) =
    let more : 8 * suc n ≡ suc (suc (suc (suc (suc (suc (suc (suc (8 * n)))))))) = omega arith in
    rw more (units_drop n ws)

-- Bytes of 0 are units that are free, and bytes of 255 units that are taken.
pub units_zero : (n : ℕ) → units_of (replicate n 0) ≡ replicate (8 * n) 0
unfolding units_of bits_from
units_zero zero = refl
units_zero (suc n) =
    let more : 8 * suc n ≡ suc (suc (suc (suc (suc (suc (suc (suc (8 * n)))))))) = omega arith in
    rw more (ap (λ (l : List ℕ). bits_of 0 ++ l) (units_zero n))

pub units_full : (n : ℕ) → units_of (replicate n 255) ≡ replicate (8 * n) 1
unfolding units_of bits_from
units_full zero = refl
units_full (suc n) =
    let more : 8 * suc n ≡ suc (suc (suc (suc (suc (suc (suc (suc (8 * n)))))))) = omega arith in
    rw more (ap (λ (l : List ℕ). bits_of 255 ++ l) (units_full n))

-- Some bytes overwritten.
pub units_overwrite : (ws : List ℕ) (i : ℕ) (ys : List ℕ) → units_of (overwrite ws i ys) ≡ overwrite (units_of ws) (8 * i) (units_of ys)
unfolding overwrite
units_overwrite ws i ys =
    let behind : 8 * (i + length ys) ≡ 8 * i + length (units_of ys) = let e = units_long ys in omega arith in
    units_append (take i ws) (ys ++ drop (i + length ys) ws)
    ∙ ap₂ (λ (a b : List ℕ). a ++ b) (units_take i ws)
    (units_append ys (drop (i + length ys) ws)
    ∙ ap (λ (l : List ℕ). units_of ys ++ l) (units_drop (i + length ys) ws ∙ ap (λ (k : ℕ). drop k (units_of ws)) behind))

-- Some bytes of a work list.
pub units_part : (ws : List ℕ) (i n : ℕ) → units_of (part ws i n) ≡ part (units_of ws) (8 * i) (8 * n)
unfolding part
units_part ws i n = units_take n (drop i ws) ∙ ap (take (8 * n)) (units_drop i ws)

-- Their units are free where the bytes are 0.
bits_free : (k w : ℕ) (us : List ℕ) → all_free (bits_from k w ++ us) ≡ (eqb w 0 && all_free us)
unfolding bits_from all_free
bits_free zero w us = refl
bits_free (suc k) w us = rw (bits_free k (w / 2) us) (go (eqb (w % 2) 0) refl (eqb (w / 2) 0) refl)
  where
    go : (x : Bool) → eqb (w % 2) 0 ≡ x → (y : Bool) → eqb (w / 2) 0 ≡ y → (x && (y && all_free us)) ≡ (eqb w 0 && all_free us)
    go true e true f =
        let low = eqb-true (w % 2) 0 e in let high = eqb-true (w / 2) 0 f in rw (eq-eqb w 0 (omega arith)) refl
    go true e false f = let high = eqb-false (w / 2) 0 f in rw (ne_eqb w 0 (λ (z : w ≡ 0). high (omega arith))) refl
    go false e y f = let low = eqb-false (w % 2) 0 e in rw (ne_eqb w 0 (λ (z : w ≡ 0). low (omega arith))) refl

pub bytes_free : (ws : List ℕ) → all_free (units_of ws) ≡ all_free ws
unfolding units_of all_free
bytes_free [] = refl
bytes_free (w ∷ ws) = bits_free 7 w (units_of ws) ∙ ap (λ (t : Bool). eqb w 0 && t) (bytes_free ws)

-- Bytes are known by their units.
bits_same : (k w v : ℕ) → bits_from k w ≡ bits_from k v → w ≡ v
unfolding bits_from
bits_same zero w v e = ap (λ (l : List ℕ). get_or l 0 0) e
bits_same (suc k) w v e =
    let low : w % 2 ≡ v % 2 = ap (λ (l : List ℕ). get_or l 0 0) e in
    let high : w / 2 ≡ v / 2 = bits_same k (w / 2) (v / 2) (ap (drop 1) e) in
    omega arith

pub units_same : (ws vs : List ℕ) → units_of ws ≡ units_of vs → ws ≡ vs
unfolding units_of bits_from
units_same [] [] e = refl
units_same [] (v ∷ vs) e = let z = ap length e in absurd (omega arith)
units_same (w ∷ ws) [] e = let z = ap length e in absurd (omega arith)
units_same (w ∷ ws) (v ∷ vs) e =
    ap₂ (λ (a : ℕ) (l : List ℕ). a ∷ l) (bits_same 7 w v (ap (take 8) e)) (units_same ws vs (ap (drop 8) e))
