-- The longest form of some bytes: what is known of the bytes that were looked at, and what it tells. Assumes nothing.
use Prim.Native.Nat.{ℕ, ◌+◌, ◌-◌, ◌≤◌, ◌<◌, min}
use mathlib.Core.Bool.{Bool, false, ◌&&◌}
use mathlib.Core.List.{List}
use mathlib.Core.Logic.{⊎_elim}
use mathlib.Core.Path.{◌≡◌, sym, ◌∙◌}
use native.Mathlib.Nat.{sub-zero}
use native.Mathlib.Omega.{arith}
use native.Mathlib.Numerals.{add-one}
use borrow.Author.Tests.{lt-leb, le-leb}
use lib.ListN.{get_or}
use Rattle.buffer.proofs.LawsOrder.{lt_or_ge}
use Rattle.compact.specs.Uleb128.{goes_on}
use Rattle.scripthash_scan.specs.Weights.{total_over, two_before, three_before, behind_two}
use Rattle.scripthash_stream.proofs.LawsEncode.{and_no}
use Rattle.scripthash_scan.specs.Weights.{behind_three, behind_four, two_go_on, three_go_on, five_go_on, in_a_row}
use Rattle.scripthash_scan.specs.Weights.{Lacks, Longest}
use Rattle.scripthash_scan.proofs.LawsTotals.{total_same}

-- Of the bytes looked at so far: the least, and, by the greatest of some bytes, that a condition holds at none.
abbrev pub Looked : List ℕ → (ℕ → Bool) → ℕ → ℕ → ℕ → ℕ → Type 0
Looked buf p least most from i = (x : ℕ) → from ≤ x → x < i → (least ≤ get_or buf x 0) × (most < 128 → p x ≡ false)

-- one byte more, and one that goes on where the condition holds there
pub looked_next : (buf : List ℕ) (p : ℕ → Bool) (from i least most least' most' m : ℕ) → Looked buf p least most from i
    → (least' ≤ least) × (least' ≤ get_or buf i 0) → (most ≤ most') × (m ≤ most') → goes_on m ≡ p i → Looked buf p least' most' from (i + 1)
looked_next buf p from i least most least' most' m so a b e x h k =
    ⊎_elim (λ (r : x < i). let w = so x h r in (omega (arith, w.0), λ (t : most' < 128). w.1 (omega arith)))
    (λ (r : i ≤ x).
    let same : x ≡ i = omega arith in
    rw same (a.1, λ (t : most' < 128). sym e ∙ lt-leb 128 m (omega arith)))
    (lt_or_ge x i)

-- the lesser of two bytes goes on where both do
least_first : (a b : ℕ) → a ≤ b → goes_on a ≡ goes_on a && goes_on b
least_first a b h =
    ⊎_elim (λ (p : a < 128). rw (lt-leb 128 a p))
    (λ (p : 128 ≤ a). rw (le-leb 128 a p, le-leb 128 b (omega arith))) (lt_or_ge a 128)

least_second : (a b : ℕ) → b ≤ a → goes_on b ≡ goes_on a && goes_on b
least_second a b h =
    ⊎_elim (λ (p : b < 128). rw (lt-leb 128 b p, and_no (goes_on a)))
    (λ (p : 128 ≤ b). rw (le-leb 128 b p, le-leb 128 a (omega arith))) (lt_or_ge b 128)

least_goes_on : (a b : ℕ) → goes_on (min a b) ≡ goes_on a && goes_on b
least_goes_on a b =
    ⊎_elim (λ (p : a < b). let e : min a b ≡ a = omega arith in rw e (least_first a b (omega arith)))
    (λ (p : b ≤ a). let e : min a b ≡ b = omega arith in rw e (least_second a b p)) (lt_or_ge a b)

-- one byte more in a row
pub row_next : (bs : List ℕ) (i k least next : ℕ) → goes_on least ≡ in_a_row k bs i → next ≡ min least (get_or bs (i - k) 0)
    → goes_on next ≡ in_a_row (k + 1) bs i
row_next bs i k least next h e = rw (e, add-one k, ← h) (least_goes_on least (get_or bs (i - k) 0))

-- what holds at no place holds behind none
behind : (q : ℕ → Bool) (from to : ℕ) → q from ≡ false → ((i : ℕ) → from ≤ i → i < to → q (i + 1) ≡ false) → (i : ℕ) → from ≤ i → i ≤ to
    → q i ≡ false
behind q from to start next i h k =
    ⊎_elim (λ (r : from < i). let place : i - 1 + 1 ≡ i = omega arith in rw place at (next (i - 1) (omega arith) (omega arith)))
    (λ (r : i ≤ from). let same : i ≡ from = omega arith in rw same start) (lt_or_ge from i)

-- bytes in a row that go on, seen from the place behind them
module _ (buf : List ℕ) (i : ℕ) where
  at_1 : i + 1 - 1 ≡ i
  at_1 = omega arith

  at_2 : i + 1 - 2 ≡ i - 1
  at_2 = omega arith

  at_3 : i + 1 - 3 ≡ i - 2
  at_3 = omega arith

  two_behind : two_before buf (i + 1) ≡ two_go_on buf i
  two_behind = rw (at_1, at_2)

  three_behind : three_before buf (i + 1) ≡ three_go_on buf i
  three_behind = rw (at_1, at_2, at_3)

-- bytes in a row, each by itself
row_two : (buf : List ℕ) (i : ℕ) → in_a_row 2 buf i ≡ two_go_on buf i
row_two buf i = rw (sub-zero i)

row_three : (buf : List ℕ) (i : ℕ) → in_a_row 3 buf i ≡ three_go_on buf i
row_three buf i = rw (sub-zero i)

row_five : (buf : List ℕ) (i : ℕ) → in_a_row 5 buf i ≡ five_go_on buf i
row_five buf i = rw (sub-zero i)

-- what holds at no place, said otherwise
lacks_same : (buf : List ℕ) (p q : ℕ → Bool) (from to : ℕ) → ((i : ℕ) → p i ≡ q i) → Lacks buf p from to → Lacks buf q from to
lacks_same buf p q from to e l i h k = let w = l i h k in (w.0, sym (e i) ∙ w.1)

module _ (buf : List ℕ) (from to : ℕ) where
  -- no form has more than two bytes
  pub longest_two : Lacks buf (in_a_row 2 buf) from to → two_before buf from ≡ false → Longest buf from to 2
  longest_two row start =
      let l = lacks_same buf (in_a_row 2 buf) (two_go_on buf) from to (row_two buf) row in
      let two = behind (two_before buf) from to start (λ i h k. two_behind buf i ∙ (l i h k).1) in
      record {
        each = λ i h k. ((l i h k).0, rw (l i h k).1);
        two = λ m i h k. two i h k;
        three = λ m i h k. rw (two i h k);
      }

  -- more than three
  pub longest_three : Lacks buf (in_a_row 3 buf) from to → three_before buf from ≡ false → Longest buf from to 3
  longest_three row start =
      let l = lacks_same buf (in_a_row 3 buf) (three_go_on buf) from to (row_three buf) row in
      let three = behind (three_before buf) from to start (λ i h k. three_behind buf i ∙ (l i h k).1) in
      record {
        each = λ i h k. ((l i h k).0, rw (l i h k).1);
        two = λ m. absurd (omega arith);
        three = λ m i h k. three i h k;
      }

  -- more than five
  pub longest_five : Lacks buf (in_a_row 5 buf) from to → Longest buf from to 5
  longest_five row =
      let l = lacks_same buf (in_a_row 5 buf) (five_go_on buf) from to (row_five buf) row in
      record { each = l; two = λ m. absurd (omega arith); three = λ m. absurd (omega arith) }

-- where no form has three bytes, no byte is behind two, as far as one looks; where none has four, none is behind three, nor behind four
module _ (buf : List ℕ) (from to longest at : ℕ) (l : Longest buf from to longest) (h : from ≤ at) (k : at ≤ to) where
  pub no_thirds : longest ≤ 2 → total_over (behind_two buf) from ≡ total_over (behind_two buf) at
  no_thirds m = total_same (behind_two buf) from at h (λ i p q. rw (l.two m i p (omega arith)))

  pub no_fourths : longest ≤ 3
      → (total_over (behind_three buf) from ≡ total_over (behind_three buf) at)
      × (total_over (behind_four buf) from ≡ total_over (behind_four buf) at)
  no_fourths m = (
    total_same (behind_three buf) from at h (λ i p q. rw (l.three m i p (omega arith))),
    total_same (behind_four buf) from at h (λ i p q. rw (l.three m i p (omega arith))),
  )
