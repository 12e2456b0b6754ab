-- Laws of sums over the numbers below another, and of tests of each of them. Assumes nothing.
use Prim.Native.Nat.{ℕ, zero, suc, ◌+◌, ◌*◌, ◌≤◌, ◌<◌}
use mathlib.Core.Bool.{Bool, true, false, ◌||◌}
use mathlib.Core.List.{List}
use mathlib.Core.Logic.{◌≢◌, ◌⊎◌, inl, inr, ⊎_elim}
use mathlib.Core.Path.{◌≡◌, refl, sym, ap, ◌∙◌, subst}
use native.Mathlib.Nat.{suc-mul}
use native.Mathlib.Numerals.{add-one}
use native.Mathlib.Omega.{arith}
use borrow.Author.Tests.{ltb-false, le-ltb, eqb-true, eqb-false}
use lib.Dec.{ltb, eqb}
use lib.ListN.{length, get_or, take, drop, length-drop}
use Rattle.std.specs.List.{sum, list_any}
use Rattle.std.proofs.lemmas.List.{get_or-drop}
use Rattle.std.proofs.lemmas.List.Folds.{list_any_more}
use Rattle.std.proofs.lemmas.List.Sums.{sum_by_more}
use Rattle.error.proofs.LawsAnswer.{neither}
use Rattle.book_desks.specs.Desks.{sum_to, above}

-- Two numbers are the same, or not.
pub same_or_not : (a b : ℕ) → (a ≡ b) ⊎ (a ≢ b)
same_or_not a b = go (eqb a b) refl
  where
    go : (t : Bool) → eqb a b ≡ t → (a ≡ b) ⊎ (a ≢ b)
    go true e = inl (eqb-true a b e)
    go false e = inr (eqb-false a b e)

-- A number below the next one is below this one, or is it.
pub below_next : (P : ℕ → Type 0) (n : ℕ) → ((i : ℕ) → i < n → P i) → P n → (i : ℕ) → i < suc n → P i
below_next P n all last i h =
    ⊎_elim (λ (e : i ≡ n). subst P (sym e) last) (λ (k : i ≢ n). all i (let q : (i ≡ n → ⊥) = k in omega arith)) (same_or_not i n)

-- ---- sums

-- A sum with one term more.
pub sum_step : (f : ℕ → ℕ) (d s t : ℕ) → s ≡ sum_to d f → t ≡ f d → s + t ≡ sum_to (d + 1) f
unfolding sum_to
sum_step f d s t e g = rw (add-one d, e, g)

-- A sum of no terms.
pub sum_none : (f : ℕ → ℕ) → 0 ≡ sum_to 0 f
unfolding sum_to
sum_none f = refl

-- A sum doesn't grow where no term does.
pub sum_least : (n : ℕ) (f g : ℕ → ℕ) → ((i : ℕ) → i < n → f i ≤ g i) → sum_to n f ≤ sum_to n g
unfolding sum_to
sum_least zero f g less = omega arith
sum_least (suc n) f g less =
    let h : sum_to n f ≤ sum_to n g = sum_least n f g (λ i k. less i (omega arith)) in
    let k : f n ≤ g n = less n (omega arith) in
    omega arith

-- A sum of terms up to a limit is at most so many times the limit.
pub sum_most : (n most : ℕ) (f : ℕ → ℕ) → ((i : ℕ) → i < n → f i ≤ most) → sum_to n f ≤ n * most
unfolding sum_to
sum_most zero most f less = omega arith
sum_most (suc n) most f less =
    let h : sum_to n f ≤ n * most = sum_most n most f (λ i k. less i (omega arith)) in
    let k : f n ≤ most = less n (omega arith) in
    let m : suc n * most ≡ n * most + most = suc-mul n most in
    omega arith

-- The sum of a part of a list is that of its numbers, by their places.
pub sum_part : (n from : ℕ) (xs : List ℕ) → from + n ≤ length xs → sum (take n (drop from xs)) ≡ sum_to n (λ i. get_or xs (from + i) 0)
unfolding sum_to
sum_part zero from xs h = refl
sum_part (suc n) from xs h =
    let long : n < length (drop from xs) = omega (arith, length-drop from xs) in
    let more : sum (take (suc n) (drop from xs)) ≡ sum (take n (drop from xs)) + get_or (drop from xs) n 0
    = rw (← add-one n) (sum_by_more (λ x. x) (drop from xs) n 0 long) in
    let before : sum (take n (drop from xs)) ≡ sum_to n (λ i. get_or xs (from + i) 0) = sum_part n from xs (omega arith) in
    let at : get_or (drop from xs) n 0 ≡ get_or xs (from + n) 0 = get_or-drop from xs n 0 in
    omega arith

-- Sums of functions that agree are equal.
pub sum_same : (n : ℕ) (f g : ℕ → ℕ) → ((i : ℕ) → i < n → f i ≡ g i) → sum_to n f ≡ sum_to n g
unfolding sum_to
sum_same zero f g same = refl
sum_same (suc n) f g same =
    let h : sum_to n f ≡ sum_to n g = sum_same n f g (λ i k. same i (omega arith)) in
    let k : f n ≡ g n = same n (omega arith) in
    omega arith

-- Where one term moves and no other grows, the sum moves no further.
pub sum_moved : (n d a b : ℕ) (f g : ℕ → ℕ) → d < n → ((i : ℕ) → i < n → i ≢ d → f i ≤ g i) → f d + a ≤ g d + b
    → sum_to n f + a ≤ sum_to n g + b
unfolding sum_to
sum_moved zero d a b f g h same moved = absurd (omega arith)
sum_moved (suc n) d a b f g h same moved =
    ⊎_elim
    (λ (e : d ≡ n).
    let m : f n + a ≤ g n + b = subst (λ (x : ℕ). f x + a ≤ g x + b) e moved in
    let r : sum_to n f ≤ sum_to n g = sum_least n f g (λ i q. same i (omega arith) (λ (w : i ≡ d). omega arith)) in
    omega arith)
    (λ (k : d ≢ n).
    let q : (d ≡ n → ⊥) = k in
    let r : sum_to n f + a ≤ sum_to n g + b = sum_moved n d a b f g (omega arith) (λ i w. same i (omega arith)) moved in
    let l : f n ≤ g n = same n (omega arith) (λ (e : n ≡ d). k (sym e)) in
    omega arith)
    (same_or_not d n)

-- Where one term becomes another and the others stay, the sum changes by that.
pub sum_set : (n d : ℕ) (f g : ℕ → ℕ) → d < n → ((i : ℕ) → i < n → i ≢ d → f i ≡ g i) → sum_to n f + g d ≡ sum_to n g + f d
sum_set n d f g h same =
    let up : sum_to n f + g d ≤ sum_to n g + f d
    = sum_moved n d (g d) (f d) f g h (λ i k q. let e = same i k q in omega arith) (omega arith) in
    let down : sum_to n g + f d ≤ sum_to n f + g d
    = sum_moved n d (f d) (g d) g f h (λ i k q. let e = same i k q in omega arith) (omega arith) in
    omega arith

-- A term is at most the sum.
pub term_least : (n d : ℕ) (f : ℕ → ℕ) → d < n → f d ≤ sum_to n f
term_least n d f h =
    let z : sum_to n (λ i. 0) + f d ≤ sum_to n f + 0 = sum_moved n d (f d) 0 (λ i. 0) f h (λ i k q. omega arith) (omega arith) in
    omega arith

-- ---- tests of each

-- Where none is above a limit, each is at most the limit.
pub above_no : (most n : ℕ) (f : ℕ → ℕ) → above most n f ≡ false → (i : ℕ) → i < n → f i ≤ most
unfolding above
above_no most zero f e i h = absurd (omega arith)
above_no most (suc n) f e i h =
    let (all, last) = neither (above most n f) (ltb most (f n)) e in
    below_next (λ i. f i ≤ most) n (above_no most n f all) (ltb-false most (f n) last) i h

-- Where each is at most a limit, none is above it.
pub none_above : (most n : ℕ) (f : ℕ → ℕ) → ((i : ℕ) → i < n → f i ≤ most) → above most n f ≡ false
unfolding above
none_above most zero f all = refl
none_above most (suc n) f all =
    rw (none_above most n f (λ i h. all i (omega arith))) (le-ltb most (f n) (all n (omega arith)))

-- Where one is above a limit, some is.
pub above_yes : (most n : ℕ) (f : ℕ → ℕ) (i : ℕ) → i < n → most < f i → above most n f ≡ true
above_yes most n f i h over = go (above most n f) refl
  where
    go : (t : Bool) → above most n f ≡ t → above most n f ≡ true
    go true e = e
    go false e = let q : f i ≤ most = above_no most n f e i h in absurd (omega arith)

-- Some of the first numbers of a list is above a limit: by their places.
pub above_list : (most n : ℕ) (xs : List ℕ) → n ≤ length xs → list_any (ltb most) (take n xs) ≡ above most n (λ i. get_or xs i 0)
unfolding above
above_list most zero xs h = refl
above_list most (suc n) xs h =
    rw (← add-one n)
    (list_any_more (ltb most) xs n 0 (omega arith)
    ∙ ap (λ (t : Bool). t || ltb most (get_or xs n 0)) (above_list most n xs (omega arith)))
