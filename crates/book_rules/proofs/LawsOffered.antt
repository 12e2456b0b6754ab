-- What is offered to a book: accepted exactly where it rises below 2^62, and judged and measured from the middle. Assumes nothing.
use Prim.Native.Nat.{ℕ, ◌+◌, ◌-◌, ◌^◌, ◌<◌}
use mathlib.Core.Bool.{Bool, true, false, ◌&&◌}
use mathlib.Core.List.{List, [], ◌∷◌}
use mathlib.Core.Path.{◌≡◌, refl, sym, ◌∙◌}
use native.Mathlib.Nat.{zero-add, add-zero}
use native.Mathlib.Omega.{arith}
use borrow.Author.Tests.{lt-leb, leb-false, ne_eqb}
use lib.Dec.{leb, eqb}
use Rattle.error.specs.Refusal.{Answer, accepted, refused}
use Rattle.error.proofs.LawsAnswer.{refused≢accepted, accepted_inj, passed, refuse_no, refused_alike}
use Rattle.compact.specs.Uleb128.{uleb_len}
use Rattle.scripthash_stream.specs.Stream.{Rising, stream_len_from, stream_len}
use Rattle.scripthash_stream.proofs.LawsEncode.{and_no}
use Rattle.book_rules.specs.Offered.{offered_number, offered_list}

module _ {A : Type 0} where
  -- A number that was offered and is accepted is above the one before it, and below 2^62.
  pub offered_on : (first : Bool) (prev n : ℕ) (after : Answer A) {x : A} → offered_number first prev n after ≡ accepted x
      → (prev < n) × (n < 2 ^ 62) × (after ≡ accepted x)
  unfolding offered_number
  offered_on first prev n after e =
      let (some, e1) = passed _ _ _ e in
      let (bit, e2) = passed _ _ _ e1 in
      let (low, e3) = passed (leb (2 ^ 62) n) _ _ e2 in
      let (rises, is) = passed (leb n prev) _ after e3 in
      (leb-false n prev rises, leb-false (2 ^ 62) n low, is)

  -- A number above the one before it and below 2^62 is accepted, and what comes after decides.
  pub rising_on : (first : Bool) (prev n : ℕ) (after : Answer A) → prev < n → n < 2 ^ 62 → offered_number first prev n after ≡ after
  unfolding offered_number
  rising_on first prev n after h low =
      refuse_no (first && eqb n 0) _ _ (and_no first (eqb n 0) (ne_eqb n 0 (λ (e : n ≡ 0). omega arith)))
      ∙ refuse_no (leb (2 ^ 63) n) _ _ (lt-leb (2 ^ 63) n (omega arith)) ∙ refuse_no (leb (2 ^ 62) n) _ _ (lt-leb (2 ^ 62) n low)
      ∙ refuse_no (leb n prev) _ _ (lt-leb n prev h)

  -- A list that was offered and is accepted rises, below 2^62.
  pub offered_all : (first : Bool) (prev : ℕ) (ns : List ℕ) (after : Answer A) {x : A} → offered_list first prev ns after ≡ accepted x
      → Rising (2 ^ 62) prev ns × (after ≡ accepted x)
  unfolding offered_list Rising
  offered_all first prev [] after e = (tt, e)
  offered_all first prev (n ∷ ns) after e =
      let (rises, low, e') = offered_on first prev n (offered_list false n ns after) e in
      let (more, is) = offered_all false n ns after e' in
      ((rises, low, more), is)

  -- A list that rises below 2^62 is accepted, and what comes after decides.
  pub rising_all : (first : Bool) (prev : ℕ) (ns : List ℕ) (after : Answer A) → Rising (2 ^ 62) prev ns
      → offered_list first prev ns after ≡ after
  unfolding offered_list Rising
  rising_all first prev [] after h = refl
  rising_all first prev (n ∷ ns) after h =
      rising_on first prev n (offered_list false n ns after) h.0 h.1 ∙ rising_all false n ns after h.2

module _ {A B : Type 0} where
  -- A number that is refused by itself is refused whatever comes after it.
  pub refused_on : (first : Bool) (prev n : ℕ) (x : A) (after : Answer B) {m : ℕ} → offered_number first prev n (accepted x) ≡ refused m
      → offered_number first prev n after ≡ refused m
  unfolding offered_number
  refused_on first prev n x after e =
      refused_alike (first && eqb n 0) _ _ _
      (refused_alike (leb (2 ^ 63) n) _ _ _
      (refused_alike (leb (2 ^ 62) n) _ _ _ (refused_alike (leb n prev) _ _ _ (λ e. absurd (refused≢accepted (sym e)))))) e

-- ---- judged and measured from the middle

-- Numbers are left behind `prev`, 0 where none was accepted yet, and the forms before them take `len` bytes: what the whole is answered.
unfoldable pub offered_from : ℕ → ℕ → List ℕ → Answer ℕ
offered_from len prev ns = offered_list (eqb prev 0) prev ns (accepted (len + stream_len_from prev ns))

-- At the start the whole is left.
pub from_start : (ns : List ℕ) → offered_from 0 0 ns ≡ offered_list true 0 ns (accepted (stream_len ns))
unfolding offered_from
from_start ns = rw zero-add

-- At the end the length is answered.
pub from_end : (len prev : ℕ) → offered_from len prev [] ≡ accepted len
unfolding offered_from offered_list stream_len_from
from_end len prev = rw add-zero

-- A number that is accepted by itself adds its form.
pub from_more : (len prev n : ℕ) (ns : List ℕ) {more : ℕ}
    → offered_number (eqb prev 0) prev n (accepted (uleb_len (n - prev))) ≡ accepted more
    → offered_from len prev (n ∷ ns) ≡ offered_from (len + more) n ns
unfolding offered_from offered_list stream_len_from
from_more len prev n ns {more} e =
    let (rises, low, is) = offered_on (eqb prev 0) prev n (accepted (uleb_len (n - prev))) e in
    let same : uleb_len (n - prev) ≡ more = accepted_inj is in
    let sum : len + (uleb_len (n - prev) + stream_len_from n ns) ≡ len + more + stream_len_from n ns = omega arith in
    rising_on (eqb prev 0) prev n _ rises low ∙ rw (sum, ne_eqb n 0 (λ (z : n ≡ 0). omega arith))

-- A number that is refused decides.
pub from_refused : (len prev n : ℕ) (ns : List ℕ) {number : ℕ}
    → offered_number (eqb prev 0) prev n (accepted (uleb_len (n - prev))) ≡ refused number
    → offered_from len prev (n ∷ ns) ≡ refused number
unfolding offered_from offered_list
from_refused len prev n ns e = refused_on (eqb prev 0) prev n (uleb_len (n - prev)) _ e
