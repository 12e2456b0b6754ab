-- Totals over the places of some bytes: the next place, and places that add nothing. Assumes nothing.
use Prim.Native.Nat.{ℕ, zero, suc, ◌+◌, ◌-◌, ◌*◌, ◌^◌, ◌≤◌, ◌<◌}
use mathlib.Core.Bool.{Bool, true, false, cond, ◌&&◌}
use mathlib.Core.List.{List, [], ◌∷◌}
use mathlib.Core.Path.{◌≡◌, refl, ap, ◌∙◌}
use native.Mathlib.Nat.{add-zero, mul-le-mul_left}
use native.Mathlib.Numerals.{add-one}
use native.Mathlib.Omega.{arith}
use lib.ListN.{get_or, length, take, drop, length-drop}
use Rattle.std.specs.List.{sum_by}
use Rattle.std.proofs.lemmas.List.{get_or-drop}
use Rattle.std.proofs.lemmas.List.Sums.{sum_by_more}
use Rattle.scripthash_words.specs.Words.{end_one}
use Rattle.compact.specs.Uleb128.{goes_on, piece}
use Rattle.scripthash_scan.specs.Weights.{total_over, end_at, piece_if, all_before, behind_by, weight, weighed_by, weigh_sums, weighed_two, weighed_three}

-- what holds at a place, and at each next one where it holds at the one before, up to another
places : (P : ℕ → Type 0) (from to : ℕ) → ((i : ℕ) → from ≤ i → i < to → P i → P (i + 1)) → P from → (d : ℕ) → from + d ≤ to → P (from + d)
places P from to step start zero h = rw (add-zero from) start
places P from to step start (suc d) h =
    let place : from + suc d ≡ from + d + 1 = omega arith in
    rw place (step (from + d) (omega arith) (omega arith) (places P from to step start d (omega arith)))

pub place_by_place : (P : ℕ → Type 0) (from to : ℕ) → from ≤ to → ((i : ℕ) → from ≤ i → i < to → P i → P (i + 1)) → P from → P to
place_by_place P from to h step start =
    let place : from + (to - from) ≡ to = omega arith in
    rw place at (places P from to step start (to - from) (omega arith))

-- one place more
pub total_next : (f : ℕ → ℕ) (i : ℕ) → total_over f (i + 1) ≡ total_over f i + f i
unfolding total_over
total_next f i = rw (add-one i)

-- places add up
total_most : (f : ℕ → ℕ) (a d : ℕ) → total_over f a ≤ total_over f (a + d)
total_most f a zero = rw (add-zero a) (omega arith)
total_most f a (suc d) =
    let place : a + suc d ≡ a + d + 1 = omega arith in
    let before = total_most f a d in
    rw (place, total_next f (a + d)) (omega arith)

pub total_rises : (f : ℕ → ℕ) (a b : ℕ) → a ≤ b → total_over f a ≤ total_over f b
total_rises f a b h =
    let place : a + (b - a) ≡ b = omega arith in
    rw place at (total_most f a (b - a))

-- places that add nothing
total_none : (f : ℕ → ℕ) (a d : ℕ) → ((i : ℕ) → a ≤ i → i < a + d → f i ≡ 0) → total_over f a ≡ total_over f (a + d)
total_none f a zero h = rw (add-zero a)
total_none f a (suc d) h =
    let place : a + suc d ≡ a + d + 1 = omega arith in
    let before = total_none f a d (λ i p q. h i p (omega arith)) in
    let last = h (a + d) (omega arith) (omega arith) in
    rw (place, total_next f (a + d)) (omega (arith, before, last))

pub total_same : (f : ℕ → ℕ) (a b : ℕ) → a ≤ b → ((i : ℕ) → a ≤ i → i < b → f i ≡ 0) → total_over f a ≡ total_over f b
total_same f a b h none =
    let place : a + (b - a) ≡ b = omega arith in
    rw place at (total_none f a (b - a) (λ i p q. none i p (omega arith)))

-- forms that end in some bytes
pub ends_between : (bs : List ℕ) (from to : ℕ) → from ≤ to → to ≤ length bs
    → total_over (end_at bs) from + sum_by end_one (take (to - from) (drop from bs)) ≡ total_over (end_at bs) to
ends_between bs from to h k =
    place_by_place (λ i. total_over (end_at bs) from + sum_by end_one (take (i - from) (drop from bs)) ≡ total_over (end_at bs) i) from to h
    (λ i p q e.
    let inside : i - from < length (drop from bs) = omega (arith, length-drop from bs) in
    let place : i + 1 - from ≡ i - from + 1 = omega arith in
    let here : from + (i - from) ≡ i = omega arith in
    let more = sum_by_more end_one (drop from bs) (i - from) 0 inside in
    let byte : get_or (drop from bs) (i - from) 0 ≡ get_or bs i 0 = rw here at (get_or-drop from bs (i - from) 0) in
    rw (place, more, byte, total_next (end_at bs) i) (omega (arith, e)))
    (let none : from - from ≡ 0 = omega arith in rw none (add-zero (total_over (end_at bs) from)))

-- A sum of what f gives, 127 at most for each place, from a place up to i.
pub record Adds (f : ℕ → ℕ) (from i sum : ℕ) : Type 0 where
  pub most : sum + 127 * from ≤ 127 * i
  pub is : total_over f from + sum ≡ total_over f i

pub adds_next : {f : ℕ → ℕ} {from i sum more : ℕ} → Adds f from i sum → more ≡ f i → more ≤ 127 → Adds f from (i + 1) (sum + more)
adds_next {f} {from} {i} a e m = record { most = omega (arith, a.most); is = omega (arith, a.is, total_next f i) }

-- The same for two places at a time: from a place up to i, and as many from the middle on, which is half of all places further.
pub record AddsBoth (f : ℕ → ℕ) (from half i sum : ℕ) : Type 0 where
  pub most : sum + 254 * from ≤ 254 * i
  pub is : total_over f from + total_over f (from + half) + sum ≡ total_over f i + total_over f (i + half)

pub both_next : {f : ℕ → ℕ} {from half i sum a b : ℕ} → AddsBoth f from half i sum → a ≡ f i → b ≡ f (i + half) → a + b ≤ 254
    → AddsBoth f from half (i + 1) (sum + (a + b))
both_next {f} {from} {half} {i} s e d m =
    let place : i + 1 + half ≡ i + half + 1 = omega arith in
    record { most = omega (arith, s.most); is = rw place (omega (arith, s.is, e, d, total_next f i, total_next f (i + half))) }

-- up to the middle
pub both_all : {f : ℕ → ℕ} {from half i sum : ℕ} → AddsBoth f from half i sum → i ≡ from + half → Adds f from (from + 2 * half) sum
both_all {f} {from} {half} {i} s e =
    let place : from + half + half ≡ from + 2 * half = omega arith in
    let all = rw (e, place) at s.is in
    record { most = omega (arith, s.most); is = omega (arith, all) }

-- one place more, said otherwise
pub adds_last : {f : ℕ → ℕ} {from at sum : ℕ} (to more all : ℕ) → Adds f from at sum → to ≡ at + 1 → more ≡ f (to - 1) → more ≤ 127
    → all ≡ sum + more → Adds f from to all
adds_last {f} {from} {at} to more all a e d m s =
    let place : to - 1 ≡ at = omega arith in
    rw (e, s) (adds_next a (d ∙ ap f place) m)

-- a piece behind bytes that go on, and behind one byte more
behind_both : (g h : Bool) (x : ℕ) → cond h (cond g x 0) 0 ≡ cond (g && h) x 0
behind_both true h x = refl
behind_both false true x = refl
behind_both false false x = refl

pub behind_next : (bs : List ℕ) (i k : ℕ) (g : Bool) {r x : ℕ} → r ≡ cond (goes_on (get_or bs (i - k) 0)) x 0 → x ≡ piece_if g (get_or bs i 0)
    → r ≡ piece_if (g && goes_on (get_or bs (i - k) 0)) (get_or bs i 0)
behind_next bs i k g e d =
    let before = goes_on (get_or bs (i - k) 0) in
    e ∙ ap (λ z. cond before z 0) d ∙ behind_both g before (piece (get_or bs i 0))

-- so many bytes, and one before them
pub behind_more : (bs : List ℕ) (i k : ℕ) {r x : ℕ} → 0 < k → x ≡ behind_by (k - 1) bs i → r ≡ cond (goes_on (get_or bs (i - k) 0)) x 0
    → r ≡ behind_by k bs i
behind_more bs i zero h e d = absurd (omega (arith, h))
behind_more bs i (suc k) h e d =
    let same : suc k - 1 ≡ k = omega arith in
    behind_next bs i (suc k) (all_before k bs i) d (rw same at e)

-- the weights in a table
pub weights_are : (k : ℕ) → k < 5 → get_or (1 ∷ 127 ∷ 16256 ∷ 2080768 ∷ 266338304 ∷ []) k 0 ≡ weight k
weights_are zero h = refl
weights_are (suc zero) h = refl
weights_are (suc (suc zero)) h = refl
weights_are (suc (suc (suc zero))) h = refl
weights_are (suc (suc (suc (suc zero)))) h = refl
weights_are (suc (suc (suc (suc (suc k))))) h = absurd (omega (arith, h))

-- the sum of the first n weights
abbrev weights_to : ℕ → ℕ
weights_to zero = 0
weights_to (suc k) = weights_to k + weight k

weights_most : (n : ℕ) → n ≤ 5 → weights_to n ≤ 2 ^ 28
weights_most zero h = omega arith
weights_most (suc zero) h = omega arith
weights_most (suc (suc zero)) h = omega arith
weights_most (suc (suc (suc zero))) h = omega arith
weights_most (suc (suc (suc (suc zero)))) h = omega arith
weights_most (suc (suc (suc (suc (suc zero))))) h = omega arith
weights_most (suc (suc (suc (suc (suc (suc n)))))) h = absurd (omega (arith, h))

-- Each of some sums adds the pieces behind one byte more, from a place up to another.
abbrev pub AddEach : ℕ → List ℕ → ℕ → ℕ → List ℕ → Type 0
AddEach n bs from to sums = (k : ℕ) → k < n → Adds (behind_by k bs) from to (get_or sums k 0)

-- what the sums weigh
pub weighed_next : (n : ℕ) (bs : List ℕ) (from to : ℕ) (sums : List ℕ) → AddEach n bs from to sums
    → weighed_by n bs from + weigh_sums n sums ≡ weighed_by n bs to
weighed_next zero bs from to sums each = refl
weighed_next (suc n) bs from to sums each =
    let before = weighed_next n bs from to sums (λ k h. each k (omega arith)) in
    let last = ap (λ (x : ℕ). weight n * x) (each n (omega arith)).is in
    omega (arith, before, last)

weighed_below : (n : ℕ) (bs : List ℕ) (from to : ℕ) (sums : List ℕ) → from ≤ to → AddEach n bs from to sums
    → weigh_sums n sums ≤ weights_to n * (127 * (to - from))
weighed_below zero bs from to sums h each = omega arith
weighed_below (suc n) bs from to sums h each =
    let before = weighed_below n bs from to sums h (λ k p. each k (omega arith)) in
    let few : get_or sums n 0 ≤ 127 * (to - from) = omega (arith, (each n (omega arith)).most) in
    let last : weight n * get_or sums n 0 ≤ weight n * (127 * (to - from)) = mul-le-mul_left (weight n) few in
    omega (arith, before, last)

pub weighed_most : (n : ℕ) (bs : List ℕ) (from to : ℕ) (sums : List ℕ) → n ≤ 5 → from ≤ to → AddEach n bs from to sums
    → weigh_sums n sums + 2 ^ 35 * from ≤ 2 ^ 35 * to
weighed_most n bs from to sums few h each =
    let below = weighed_below n bs from to sums h each in
    let all : 127 * (to - from) * weights_to n ≤ 127 * (to - from) * 2 ^ 28 = mul-le-mul_left (127 * (to - from)) (weights_most n few) in
    omega (arith, below, all)

-- forms of up to two, three and five bytes
pub by_two : (bs : List ℕ) (i : ℕ) → weighed_by 2 bs i ≡ weighed_two bs i
by_two bs i = omega arith

pub by_three : (bs : List ℕ) (i : ℕ) → weighed_by 3 bs i ≡ weighed_three bs i
by_three bs i = omega arith
