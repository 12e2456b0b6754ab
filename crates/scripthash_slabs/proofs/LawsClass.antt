-- What the choice of a class promises: it is the smallest that holds what it is chosen for, there is one exactly in the range, and it
-- grows with what is asked for. Each law is stated once for every rule of choosing; by bytes and by count are its instances.
use mathlib.Core.Path.{◌≡◌, refl, sym, ◌∙◌}
use mathlib.Core.Bool.{Bool, true, false, cond, ◌&&◌, false≢true}
use mathlib.Core.Logic.{◌⊎◌, inl, inr, ⊎_elim, ◌↔◌}
use mathlib.Core.Option.{Option, none, some}
use Prim.Native.Nat.{ℕ, zero, suc, ◌+◌, ◌-◌, ◌*◌, ◌/◌, ◌^◌, ◌≤◌, ◌<◌}
use native.Mathlib.Nat.{eq-or-lt_of_le, le_antisymm, le_of_suc-le-suc, le_refl, le_trans, le-div_iff_mul-le, div-lt_iff_lt-mul}
use native.Mathlib.Nat.{lt_of_not-le, mul_comm, pow-suc}
use native.Mathlib.Omega.{arith}
use native.Mathlib.Numerals.{add-one, lt_of_le_of_ne}
use lib.Dec.{leb, lit≤}
use lib.Pow.{pow_mono}
use lib.Count.{count_leading_zeros, leading_length}
use borrow.Author.Tests.{le-leb, lt-leb, leb-true, leb-false}
use Rattle.scripthash_layout.specs.Sizes.{slab_slots, max_slab_bytes, max_slab_class, max_slab_count}
use Rattle.scripthash_slabs.specs.Class.{Rule, first_class, smallest_class, class_for, by_bytes, by_count, class_by_bytes, class_by_count}
use Rattle.scripthash_slabs.specs.Class.{class_with_slack, or_else}

-- What is not below a number is at least that number.
le_of_not_lt : {a b : ℕ} → (a < b → ⊥) → b ≤ a
le_of_not_lt h = le_of_suc-le-suc (lt_of_not-le h)

-- Class d is the first from c on that passes a test, and is one of k.
record First (test : ℕ → Bool) (c k d : ℕ) : Type 0 where
  from : c ≤ d
  within : d < c + k
  passes : test d ≡ true
  least : (e : ℕ) → c ≤ e → e < d → test e ≡ false

module _ (test : ℕ → Bool) where
  -- What is found is the first that passes.
  first_is : (c k : ℕ) {d : ℕ} → first_class test c k ≡ some d → First test c k d
  unfolding first_class
  first_is c zero {d} e = let z : ◌≡◌ {A = ℕ} 0 1 = cc in absurd (omega arith)
  first_is c (suc k) {d} e = go (test c) refl e (first_is (c + 1) k)
    where
      go : (b : Bool) → test c ≡ b → cond b (some c) (first_class test (c + 1) k) ≡ some d
          → (first_class test (c + 1) k ≡ some d → First test (c + 1) k d) → First test c (suc k) d
      go true t e rest =
          let same : c ≡ d = cc in
          record { from = omega arith; within = omega arith; passes = cc; least = λ x l h. absurd (omega arith) }
      go false t e rest =
          let r = rest e in
          record {
            from = omega arith;
            within = omega arith;
            passes = r.passes;
            least = λ x l h. ⊎_elim (λ (q : c ≡ x). cc) (λ q. r.least x (omega arith) h) (eq-or-lt_of_le l);
          }

  -- Where one of the k classes passes, one is found.
  first_found : (c k d : ℕ) → c ≤ d → d < c + k → test d ≡ true → (e : ℕ) × (first_class test c k ≡ some e)
  unfolding first_class
  first_found c zero d l h p = absurd (omega arith)
  first_found c (suc k) d l h p = go (test c) refl (first_found (c + 1) k d)
    where
      go : (b : Bool) → test c ≡ b → (c + 1 ≤ d → d < c + 1 + k → test d ≡ true → (e : ℕ) × (first_class test (c + 1) k ≡ some e))
          → (e : ℕ) × (cond b (some c) (first_class test (c + 1) k) ≡ some e)
      go true t rest = (c, refl)
      go false t rest =
          let other : c ≡ d → ⊥ = λ (q : c ≡ d). let z : false ≡ true = cc in false≢true z in
          rest (⊎_elim (λ q. absurd (other q)) (λ q. omega arith) (eq-or-lt_of_le l)) (omega arith) p

-- Class c is the choice of a rule for n: n is in the rule's range, the class is a slab's and holds n, and no smaller class does.
pub record Chosen (rule : Rule) (n c : ℕ) : Type 0 where
  pub low : rule.least ≤ n
  pub high : n ≤ rule.most
  pub slab : c ≤ max_slab_class
  pub holds : n ≤ rule.size c
  pub smallest : (d : ℕ) → d < c → rule.size d < n

module _ (rule : Rule) where
  -- Within the range the choice is the first class that holds n.
  class_within : (n : ℕ) → rule.least ≤ n → n ≤ rule.most → class_for rule n ≡ smallest_class (λ c. leb n (rule.size c))
  unfolding class_for
  class_within n l h = simp (le-leb _ _ l, le-leb _ _ h)

  -- Below the range there is no choice.
  pub class_below : (n : ℕ) → n < rule.least → class_for rule n ≡ none
  unfolding class_for
  class_below n h = simp (lt-leb _ _ h)

  -- Above the range there is no choice.
  pub class_above : (n : ℕ) → rule.most < n → class_for rule n ≡ none
  unfolding class_for
  class_above n h = go (leb rule.least n)
    where
      go : (b : Bool) → cond (b && leb n rule.most) (smallest_class (λ c. leb n (rule.size c))) none ≡ none
      go true = simp (lt-leb _ _ h)
      go false = refl

  -- A class is answered only within the range.
  in_range : {n c : ℕ} → class_for rule n ≡ some c → (rule.least ≤ n) × (n ≤ rule.most)
  in_range {n} {c} e =
      let clash : class_for rule n ≡ none → ⊥ = λ (q : class_for rule n ≡ none). let z : ◌≡◌ {A = ℕ} 0 1 = cc in omega arith in
      (le_of_not_lt (λ h. clash (class_below n h)), le_of_not_lt (λ h. clash (class_above n h)))

  -- A class that is answered is the choice.
  pub class_is : {n c : ℕ} → class_for rule n ≡ some c → Chosen rule n c
  class_is {n} {c} e =
      let (l, h) = in_range e in
      let first = first_is (λ d. leb n (rule.size d)) 0 (max_slab_class + 1) (sym (class_within n l h) ∙ e) in
      record {
        low = l;
        high = h;
        slab = omega arith;
        holds = leb-true n (rule.size c) first.passes;
        smallest = λ d less. leb-false n (rule.size d) (first.least d (omega arith) less);
      }

  -- The choice grows with what is asked for.
  choice_mono : {m n c d : ℕ} → m ≤ n → Chosen rule m c → Chosen rule n d → c ≤ d
  choice_mono {m} {n} {c} {d} l a b =
      le_of_not_lt (λ h. let small : rule.size d < m = a.smallest d h in let held : n ≤ rule.size d = b.holds in omega arith)

  -- Where a slab class holds n and n is in the range, a class is answered.
  pub class_given : (n d : ℕ) → rule.least ≤ n → n ≤ rule.most → d ≤ max_slab_class → n ≤ rule.size d
      → (c : ℕ) × (class_for rule n ≡ some c)
  class_given n d l h s w =
      let (c, e) = first_found (λ x. leb n (rule.size x)) 0 (max_slab_class + 1) d (omega arith) (omega arith) (le-leb n (rule.size d) w) in
      (c, class_within n l h ∙ e)

  -- The choice is answered.
  pub is_class : {n c : ℕ} → Chosen rule n c → class_for rule n ≡ some c
  is_class {n} {c} a =
      let (d, e) = class_given n c a.low a.high a.slab a.holds in
      let b = class_is e in
      rw (le_antisymm (choice_mono (le_refl n) a b) (choice_mono (le_refl n) b a)) e

  -- The class grows with what is asked for.
  pub class_mono : {m n c d : ℕ} → m ≤ n → class_for rule m ≡ some c → class_for rule n ≡ some d → c ≤ d
  class_mono l e f = choice_mono l (class_is e) (class_is f)

  -- A class that holds all of the range is the largest that is answered.
  pub class_most : (n : ℕ) {c : ℕ} (top : ℕ) → rule.most ≤ rule.size top → class_for rule n ≡ some c → c ≤ top
  class_most n {c} top l e =
      let a = class_is e in
      le_of_not_lt (λ h. let small : rule.size top < n = a.smallest top h in let held : n ≤ rule.most = a.high in omega arith)

  -- Where a slab class holds all of the range, none is answered exactly outside the range.
  pub class_none : (top : ℕ) → top ≤ max_slab_class → rule.most ≤ rule.size top → (n : ℕ)
      → (class_for rule n ≡ none) ↔ ((n < rule.least) ⊎ (rule.most < n))
  class_none top s w n = (λ e. go e (leb rule.least n) refl (leb n rule.most) refl, ⊎_elim (class_below n) (class_above n))
    where
      go : class_for rule n ≡ none → (a : Bool) → leb rule.least n ≡ a → (b : Bool) → leb n rule.most ≡ b
          → (n < rule.least) ⊎ (rule.most < n)
      go e false p b q = inl (leb-false _ _ p)
      go e true p false q = inr (leb-false _ _ q)
      go e true p true q =
          let (c, f) = class_given n top (leb-true _ _ p) (leb-true _ _ q) s (le_trans (leb-true _ _ q) w) in
          let z : ◌≡◌ {A = ℕ} 0 1 = cc in absurd (omega arith)

  -- Where class c holds k * 2 ^ c, the class is the length in bits of (n - 1) / k: w bits less its leading zeros.
  pub class_bits : (w k : ℕ) → 0 < k → ((c : ℕ) → rule.size c ≡ k * 2 ^ c) → rule.most ≤ rule.size max_slab_class → (n : ℕ)
      → 0 < n → rule.least ≤ n → n ≤ rule.most → (n - 1) / k < 2 ^ w → class_for rule n ≡ some (w - count_leading_zeros w ((n - 1) / k))
  class_bits w k pos is room n one l h fits =
      let a : ℕ = (n - 1) / k in
      let (m, total, below, reached) = leading_length w a fits in
      let same : w - count_leading_zeros w a ≡ m = omega arith in
      let less : (d : ℕ) → d < m → rule.size d < n = λ d q.
      let half : 2 ^ d ≤ a = let twice : 2 ^ suc d ≤ 2 ^ m = pow_mono q in omega (arith, pow-suc 2 d) in
      let held : 2 ^ d * k ≤ n - 1 = (le-div_iff_mul-le pos).0 half in
      rw (is d, mul_comm k (2 ^ d)) (omega arith) in
      let holds : n ≤ rule.size m =
      let past : n - 1 < 2 ^ m * k = (div-lt_iff_lt-mul pos).0 below in rw (is m, mul_comm k (2 ^ m)) (omega arith) in
      let slab : m ≤ max_slab_class = le_of_not_lt (λ q. let small : rule.size max_slab_class < n = less max_slab_class q in omega arith) in
      rw same (is_class (record { low = l; high = h; slab = slab; holds = holds; smallest = less }))

-- By bytes, none is answered exactly for 0 and above 2,048.
pub bytes_none : (n : ℕ) → (class_by_bytes n ≡ none) ↔ ((n < 1) ⊎ (max_slab_bytes < n))
bytes_none = class_none by_bytes max_slab_class (lit≤ tt) (lit≤ tt)

-- By count, none is answered exactly for 0, 1 and from 257 on.
pub count_none : (n : ℕ) → (class_by_count n ≡ none) ↔ ((n < 2) ⊎ (max_slab_count < n))
count_none = class_none by_count max_slab_class (lit≤ tt) (lit≤ tt)

-- By count, the largest class that is answered is 6.
pub count_most : (n : ℕ) {c : ℕ} → class_by_count n ≡ some c → c ≤ 6
count_most n = class_most by_count n 6 (lit≤ tt)

-- With slack, the choice for n + 1 decides whether that for n is looked at.
pub slack_of : (n : ℕ) (o : Option ℕ) → class_by_count (n + 1) ≡ o → class_with_slack n ≡ or_else o (class_by_count n)
unfolding class_with_slack
slack_of n o e = rw e

-- With slack, the class is that for n + 1 or that for n.
slack_either : (n : ℕ) {c : ℕ} → class_with_slack n ≡ some c → (class_by_count (n + 1) ≡ some c) ⊎ (class_by_count n ≡ some c)
unfolding class_with_slack
slack_either n {c} e = go (class_by_count (n + 1)) refl e
  where
    go : (o : Option ℕ) → class_by_count (n + 1) ≡ o → or_else o (class_by_count n) ≡ some c
        → (class_by_count (n + 1) ≡ some c) ⊎ (class_by_count n ≡ some c)
    go (some d) q e = inl (q ∙ e)
    go none q e = inr e

-- With slack, the class is that for n + 1, save for 256.
pub slack_next : (n : ℕ) → (n ≡ max_slab_count → ⊥) → class_with_slack n ≡ class_by_count (n + 1)
unfolding class_with_slack
slack_next n f = go (class_by_count (n + 1)) refl
  where
    go : (o : Option ℕ) → class_by_count (n + 1) ≡ o → or_else o (class_by_count n) ≡ o
    go (some d) q = refl
    go none q =
        ⊎_elim (λ h. class_below by_count n (omega arith))
        (λ h. class_above by_count n (lt_of_le_of_ne (le_of_suc-le-suc (rw add-one at h)) (λ e. f (sym e))))
        ((count_none (n + 1)).0 q)

-- With slack, the class for 256 is 6.
pub slack_last : class_with_slack max_slab_count ≡ some 6
unfolding class_with_slack class_for first_class
slack_last = refl

-- With slack, the class is that for n where no slab takes more.
pub slack_from : (n : ℕ) → max_slab_count ≤ n → class_with_slack n ≡ class_by_count n
slack_from n h = slack_of n none (class_above by_count (n + 1) (omega arith))

-- The class with slack holds n.
pub slack_holds : (n : ℕ) {c : ℕ} → class_with_slack n ≡ some c → n ≤ slab_slots c
slack_holds n {c} e =
    ⊎_elim (λ q. let h = (class_is by_count q).holds in omega arith) (λ q. (class_is by_count q).holds) (slack_either n e)

-- The class with slack holds n + 1, save for 256.
pub slack_spare : (n : ℕ) {c : ℕ} → (n ≡ max_slab_count → ⊥) → class_with_slack n ≡ some c → n + 1 ≤ slab_slots c
slack_spare n f e = (class_is by_count (sym (slack_next n f) ∙ e)).holds

-- The class with slack is at most 6.
pub slack_most : (n : ℕ) {c : ℕ} → class_with_slack n ≡ some c → c ≤ 6
slack_most n e = ⊎_elim (count_most (n + 1)) (count_most n) (slack_either n e)

-- Where a class is answered by count, one at least as large is answered with slack.
pub slack_at_least : (n : ℕ) {c : ℕ} → class_by_count n ≡ some c → (d : ℕ) × (class_with_slack n ≡ some d) × (c ≤ d)
unfolding class_with_slack
slack_at_least n {c} e = go (class_by_count (n + 1)) refl
  where
    go : (o : Option ℕ) → class_by_count (n + 1) ≡ o → (d : ℕ) × (or_else o (class_by_count n) ≡ some d) × (c ≤ d)
    go (some d) q = (d, refl, class_mono by_count {m = n} {n = n + 1} (omega arith) e q)
    go none q = (c, e, le_refl c)

-- With slack, none is answered exactly for 0 and from 257 on.
pub slack_none : (n : ℕ) → (class_with_slack n ≡ none) ↔ ((n < 1) ⊎ (max_slab_count < n))
unfolding class_with_slack
slack_none n = (go (class_by_count (n + 1)) refl, λ h. slack_next n (other h) ∙ (count_none (n + 1)).1 (next h))
  where
    go : (o : Option ℕ) → class_by_count (n + 1) ≡ o → or_else o (class_by_count n) ≡ none → (n < 1) ⊎ (max_slab_count < n)
    go (some d) q e = let z : ◌≡◌ {A = ℕ} 0 1 = cc in absurd (omega arith)
    go none q e =
        ⊎_elim (λ h. inl (omega arith)) (λ h. ⊎_elim (λ l. absurd (omega arith)) (λ l. inr l) ((count_none n).0 e))
        ((count_none (n + 1)).0 q)

    other : (n < 1) ⊎ (max_slab_count < n) → n ≡ max_slab_count → ⊥
    other (inl h) q = omega arith
    other (inr h) q = omega arith

    next : (n < 1) ⊎ (max_slab_count < n) → (n + 1 < 2) ⊎ (max_slab_count < n + 1)
    next (inl h) = inl (omega arith)
    next (inr h) = inr (omega arith)

-- With slack, a class is answered from 1 to 256.
pub slack_given : (n : ℕ) → 1 ≤ n → n ≤ max_slab_count → (c : ℕ) × (class_with_slack n ≡ some c)
slack_given n l h = go (class_with_slack n) refl
  where
    go : (o : Option ℕ) → class_with_slack n ≡ o → (c : ℕ) × (o ≡ some c)
    go (some c) q = (c, refl)
    go none q = ⊎_elim (λ a. absurd (omega arith)) (λ a. absurd (omega arith)) ((slack_none n).0 q)
