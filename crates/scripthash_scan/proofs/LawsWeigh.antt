-- Forms weighed together: the weights of a byte add up to the power of 128 that its place in its form has, so that the weights of the bytes
-- of some forms sum up to the differences. By induction on the bytes. Assumes nothing.
use Prim.Native.Nat.{ℕ, ◌+◌, ◌-◌, ◌*◌, ◌^◌, ◌≤◌, ◌<◌}
use mathlib.Core.Bool.{true, false, false≢true}
use mathlib.Core.List.{List}
use mathlib.Core.Logic.{⊎_elim}
use mathlib.Core.Path.{◌≡◌, refl, sym, ap, ◌∙◌}
use native.Mathlib.Nat.{sub-zero, add-zero, mul-le-mul_left}
use native.Mathlib.Omega.{arith}
use borrow.Author.Tests.{lt-leb, le-leb}
use lib.ListN.{length, drop, get_or}
use lib.Pow.{pow_pos}
use Rattle.error.specs.Refusal.{Answer, accepted}
use Rattle.buffer.proofs.LawsOrder.{lt_or_ge}
use Rattle.compact.specs.Uleb128.{goes_on, piece}
use Rattle.scripthash_stream.specs.Stream.{End, ends_from}
use Rattle.scripthash_scan.specs.Weights.{total_over, end_at, one_before, piece_at}
use Rattle.scripthash_scan.specs.Weights.{behind_one, behind_two, behind_three, behind_four, weighed, five_go_on, Lacks}
use Rattle.scripthash_forms.proofs.LawsForms.{Carried, form_start, form_on, form_last}
use Rattle.scripthash_stream.proofs.LawsScanEnd.{ends_next, ends_now}
use Rattle.scripthash_forms.proofs.LawsSums.{next_sum}
use Rattle.scripthash_scan.proofs.LawsTotals.{place_by_place, total_next, total_rises}

-- The byte at place i is that of an index of its form.
pub data Within (bs : List ℕ) (i : ℕ) : ℕ → Type 0 where
  first : one_before bs i ≡ false → Within bs i 0
  second : one_before bs i ≡ true → goes_on (get_or bs (i - 2) 0) ≡ false → Within bs i 1
  third : one_before bs i ≡ true → goes_on (get_or bs (i - 2) 0) ≡ true → goes_on (get_or bs (i - 3) 0) ≡ false → Within bs i 2
  fourth : one_before bs i ≡ true → goes_on (get_or bs (i - 2) 0) ≡ true → goes_on (get_or bs (i - 3) 0) ≡ true
      → goes_on (get_or bs (i - 4) 0) ≡ false → Within bs i 3
  fifth : one_before bs i ≡ true → goes_on (get_or bs (i - 2) 0) ≡ true → goes_on (get_or bs (i - 3) 0) ≡ true → goes_on (get_or bs (i - 4) 0) ≡ true
      → Within bs i 4

-- What the byte at place i adds.
abbrev weight_at : List ℕ → ℕ → ℕ
weight_at bs i = piece_at bs i + 127 * behind_one bs i + 16256 * behind_two bs i + 2080768 * behind_three bs i + 266338304 * behind_four bs i

-- the weights add up to a power of 128
weight_at_lem : (bs : List ℕ) (i j : ℕ) → Within bs i j → weight_at bs i ≡ piece (get_or bs i 0) * 2 ^ (7 * j)
weight_at_lem bs i _ (first e) = rw e (omega arith)
weight_at_lem bs i _ (second e f) = rw (e, f) (omega arith)
weight_at_lem bs i _ (third e f g) = rw (e, f, g) (omega arith)
weight_at_lem bs i _ (fourth e f g h) = rw (e, f, g, h) (omega arith)
weight_at_lem bs i _ (fifth e f g h) = rw (e, f, g, h) (omega arith)

-- an index is at most 4
index_most : (bs : List ℕ) (i j : ℕ) → Within bs i j → j ≤ 4
index_most bs i _ (first e) = omega arith
index_most bs i _ (second e f) = omega arith
index_most bs i _ (third e f g) = omega arith
index_most bs i _ (fourth e f g h) = omega arith
index_most bs i _ (fifth e f g h) = omega arith

-- the weights of one place more
weighed_next : (bs : List ℕ) (i : ℕ) → weighed bs (i + 1) ≡ weighed bs i + weight_at bs i
weighed_next bs i =
    omega (
      arith,
      total_next (piece_at bs) i,
      total_next (behind_one bs) i,
      total_next (behind_two bs) i,
      total_next (behind_three bs) i,
      total_next (behind_four bs) i,
    )

-- behind a byte that goes on
module _ (bs : List ℕ) (i : ℕ) (l : 4 ≤ i) where
  back_1 : goes_on (get_or bs (i + 1 - 1) 0) ≡ goes_on (get_or bs i 0)
  back_1 = let e : i + 1 - 1 ≡ i = omega arith in ap (λ (x : ℕ). goes_on (get_or bs x 0)) e

  back_2 : goes_on (get_or bs (i + 1 - 2) 0) ≡ goes_on (get_or bs (i - 1) 0)
  back_2 = let e : i + 1 - 2 ≡ i - 1 = omega arith in ap (λ (x : ℕ). goes_on (get_or bs x 0)) e

  back_3 : goes_on (get_or bs (i + 1 - 3) 0) ≡ goes_on (get_or bs (i - 2) 0)
  back_3 = let e : i + 1 - 3 ≡ i - 2 = omega arith in ap (λ (x : ℕ). goes_on (get_or bs x 0)) e

  back_4 : goes_on (get_or bs (i + 1 - 4) 0) ≡ goes_on (get_or bs (i - 3) 0)
  back_4 = let e : i + 1 - 4 ≡ i - 3 = omega arith in ap (λ (x : ℕ). goes_on (get_or bs x 0)) e

  within_on : goes_on (get_or bs i 0) ≡ true → five_go_on bs i ≡ false → (j : ℕ) → Within bs i j
      → Within bs (i + 1) (j + 1)
  within_on g s _ (first e) = second (back_1 ∙ g) (back_2 ∙ e)
  within_on g s _ (second e f) = third (back_1 ∙ g) (back_2 ∙ e) (back_3 ∙ f)
  within_on g s _ (third e f h) = fourth (back_1 ∙ g) (back_2 ∙ e) (back_3 ∙ f) (back_4 ∙ h)
  within_on g s _ (fourth e f h k) = fifth (back_1 ∙ g) (back_2 ∙ e) (back_3 ∙ f) (back_4 ∙ h)
  within_on g s _ (fifth e f h k) = absurd (false≢true (sym (rw (e, f, h, k, g) at s)))

-- Bytes are weighed from a place on, with a sum before them, and place i is next: what is known of the form there, which begins at `off`
-- and has j bytes before i, and that k forms ended.
pub record Midway (buf : List ℕ) (from sum count i : ℕ) (a : Answer End) : Type 0 where
  pub off : ℕ
  pub j : ℕ
  pub acc : ℕ
  pub prev : ℕ
  pub k : ℕ
  pub here : off + j ≡ i
  pub carried : Carried buf off j acc
  pub within : Within buf i j
  pub ends : ends_from off prev (count - k) (drop off buf) ≡ a
  pub sums : prev + acc + weighed buf from ≡ sum + weighed buf i
  pub counted : k + total_over (end_at buf) from ≡ total_over (end_at buf) i
  pub none : j ≡ 0 → acc ≡ 0

-- before the first byte
pub midway_start : (buf : List ℕ) (from sum count : ℕ) → get_or buf (from - 1) 0 < 128
    → Midway buf from sum count from (ends_from from sum count (drop from buf))
midway_start buf from sum count h =
    record {
      off = from;
      j = 0;
      acc = 0;
      prev = sum;
      k = 0;
      here = add-zero from;
      carried = form_start buf from;
      within = first (lt-leb 128 (get_or buf (from - 1) 0) h);
      ends = rw (sub-zero count);
      sums = omega arith;
      counted = omega arith;
      none = λ e. refl;
    }

module _ (buf : List ℕ) (from sum count i : ℕ) (a : Answer End) (w : Midway buf from sum count i a) (l : 4 ≤ i) (h : i < length buf) where
  abbrev byte : ℕ
  byte = get_or buf i 0

  abbrev added : ℕ
  added = piece byte * 2 ^ (7 * w.j)

  is_added : weighed buf (i + 1) ≡ weighed buf i + added
  is_added = weighed_next buf i ∙ ap (λ (x : ℕ). weighed buf i + x) (weight_at_lem buf i w.j w.within)

  -- a byte that goes on
  midway_on : 128 ≤ byte → five_go_on buf i ≡ false → Midway buf from sum count (i + 1) a
  midway_on g s =
      let on : goes_on byte ≡ true = le-leb 128 byte g in
      let index = index_most buf i w.j w.within in
      let next = total_next (end_at buf) i in
      let zero : end_at buf i ≡ 0 = rw on in
      let more = is_added in
      record {
        off = w.off;
        j = w.j + 1;
        acc = w.acc + added;
        prev = w.prev;
        k = w.k;
        here = omega (arith, w.here);
        carried = form_on w.carried w.here h (omega arith) g;
        within = within_on buf i l on s w.j w.within;
        ends = w.ends;
        sums = omega (arith, more, w.sums);
        counted = omega (arith, next, zero, w.counted);
        none = λ e. absurd (omega (arith, e));
      }

  -- a form's last byte
  midway_last : byte < 128 → 0 < byte → w.k < count → sum + weighed buf (i + 1) < 2 ^ 63 + weighed buf from
      → Midway buf from sum count (i + 1) a
  midway_last b p m t =
      let off : goes_on byte ≡ false = lt-leb 128 byte b in
      let index = index_most buf i w.j w.within in
      let next = total_next (end_at buf) i in
      let one : end_at buf i ≡ 1 = rw off in
      let more = is_added in
      let same : piece byte ≡ byte = omega arith in
      let value = w.acc + added in
      let least : byte * 1 ≤ byte * 2 ^ (7 * w.j) = mul-le-mul_left byte (pow_pos (7 * w.j)) in
      let some : 0 < added = rw same (omega (arith, least)) in
      let form = form_last w.carried w.here h (omega arith) value (w.j + 1) b
      (ap (λ (x : ℕ). w.acc + x * 2 ^ (7 * w.j)) same) refl in
      let number = next_sum w.prev value (w.j + 1) (drop w.off buf) form (omega (arith, some)) (omega (arith, more, w.sums)) in
      let place : w.off + (w.j + 1) ≡ i + 1 = omega (arith, w.here) in
      record {
        off = i + 1;
        j = 0;
        acc = 0;
        prev = w.prev + value;
        k = w.k + 1;
        here = add-zero (i + 1);
        carried = form_start buf (i + 1);
        within = first (back_1 buf i l ∙ off);
        ends = (rw place at (ends_next buf count w.off w.prev w.k _ m number)) ∙ w.ends;
        sums = omega (arith, more, w.sums);
        counted = omega (arith, next, one, w.counted);
        none = λ e. refl;
      }

-- at a place with a form's end before it a form begins
at_start : (bs : List ℕ) (i j : ℕ) → get_or bs (i - 1) 0 < 128 → Within bs i j → j ≡ 0
at_start bs i _ h (first e) = refl
at_start bs i _ h (second e f) = absurd (false≢true (sym (lt-leb 128 (get_or bs (i - 1) 0) h) ∙ e))
at_start bs i _ h (third e f g) = absurd (false≢true (sym (lt-leb 128 (get_or bs (i - 1) 0) h) ∙ e))
at_start bs i _ h (fifth e f g k) = absurd (false≢true (sym (lt-leb 128 (get_or bs (i - 1) 0) h) ∙ e))
at_start bs i _ h (fourth e f g k) = absurd (false≢true (sym (lt-leb 128 (get_or bs (i - 1) 0) h) ∙ e))

-- weights never fall
weighed_rises : (bs : List ℕ) (a b : ℕ) → a ≤ b → weighed bs a ≤ weighed bs b
weighed_rises bs a b h =
    omega (
      arith,
      total_rises (piece_at bs) a b h,
      total_rises (behind_one bs) a b h,
      total_rises (behind_two bs) a b h,
      total_rises (behind_three bs) a b h,
      total_rises (behind_four bs) a b h,
    )

-- bytes without a 0 and without a form of six bytes, in which so many forms end, and whose weights are `more`
module _ (buf : List ℕ) (from sum count to more : ℕ) (l : 4 ≤ from) (r : from ≤ to) (inside : to ≤ length buf)
    (plain : Lacks buf (five_go_on buf) from to) (counts : total_over (end_at buf) from + count ≡ total_over (end_at buf) to)
    (weighs : weighed buf from + more ≡ weighed buf to) (low : sum + more < 2 ^ 63) where
  midway_next : (i : ℕ) (a : Answer End) → from ≤ i → i < to → Midway buf from sum count i a → Midway buf from sum count (i + 1) a
  midway_next i a p q w =
      let h = plain i p q in
      ⊎_elim
      (λ (b : get_or buf i 0 < 128).
      let one : end_at buf i ≡ 1 = rw (lt-leb 128 (get_or buf i 0) b) in
      let rises = total_rises (end_at buf) (i + 1) to (omega arith) in
      midway_last buf from sum count i a w (omega arith) (omega arith) b h.0 (omega (arith, w.counted, total_next (end_at buf) i))
      (omega (arith, weighed_rises buf (i + 1) to (omega arith))))
      (λ (b : 128 ≤ get_or buf i 0). midway_on buf from sum count i a w (omega arith) (omega arith) b h.1) (lt_or_ge (get_or buf i 0) 128)

  midway_end : (a : Answer End) → get_or buf (to - 1) 0 < 128 → Midway buf from sum count to a
      → a ≡ accepted (record { taken = to; last = sum + more })
  midway_end a e w =
      let start = at_start buf to w.j e w.within in
      let none = w.none start in
      let there : w.off ≡ to = omega (arith, start, w.here) in
      let last : w.prev ≡ sum + more = omega (arith, none, w.sums) in
      rw (there, last) at (sym w.ends ∙ ends_now count w.off w.prev w.k (drop w.off buf) (omega (arith, w.counted)))

  -- the scan of the forms ends where they do, and its last number is the sum
  pub weighed_ends : get_or buf (from - 1) 0 < 128 → get_or buf (to - 1) 0 < 128
      → ends_from from sum count (drop from buf) ≡ accepted (record { taken = to; last = sum + more })
  weighed_ends e f =
      let a = ends_from from sum count (drop from buf) in
      midway_end a f (place_by_place (λ i. Midway buf from sum count i a) from to r (λ i p q w. midway_next i a p q w)
      (midway_start buf from sum count e))
