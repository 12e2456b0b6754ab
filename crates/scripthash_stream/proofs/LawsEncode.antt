-- Offered lists: judged number by number, and written where they fit. Assumes nothing.
use Prim.Native.Nat.{ℕ, ◌+◌, ◌-◌, ◌^◌, ◌≤◌, ◌<◌}
use mathlib.Core.Bool.{Bool, true, false, ◌&&◌}
use mathlib.Core.List.{List, [], ◌∷◌}
use mathlib.Core.Path.{◌≡◌, refl, sym, ap, ◌∙◌}
use native.Mathlib.Nat.{zero-add, add-zero}
use native.Mathlib.Omega.{arith}
use borrow.Author.Tests.{lt-leb, leb-false, ne_eqb, lt-ltb, le-ltb, ltb-false}
use lib.Dec.{leb, ltb, eqb}
use Rattle.error.specs.Refusal.{Answer, accepted, refused, does_not_fit}
use Rattle.error.proofs.LawsAnswer.{refused≢accepted, accepted_inj, passed, refuse_yes, refuse_no, refused_alike}
use Rattle.buffer.specs.Bytes.{overwrite}
use Rattle.compact.specs.Uleb128.{uleb_len}
use Rattle.scripthash_stream.specs.Stream.{Rising, stream_len_from, stream_len, stream, judged, encode_stream, after_encode}

-- a conjunction doesn't hold where its second part doesn't
pub and_no : (a b : Bool) → b ≡ false → a && b ≡ false
and_no true b e = e
and_no false b e = refl

module _ {A : Type 0} where
  -- a rising list is judged well, and what comes after decides
  pub judged_rising : (prev : ℕ) (ns : List ℕ) (after : Answer A) → Rising (2 ^ 63) prev ns → judged prev ns after ≡ after
  unfolding judged Rising
  judged_rising prev [] after h = refl
  judged_rising prev (n ∷ ns) after h =
      refuse_no (eqb prev 0 && eqb n 0) _ _ (and_no (eqb prev 0) (eqb n 0) (ne_eqb n 0 (λ (e : n ≡ 0). omega arith)))
      ∙ refuse_no (leb (2 ^ 63) n) _ _ (lt-leb (2 ^ 63) n h.1) ∙ refuse_no (leb n prev) _ _ (lt-leb n prev h.0)
      ∙ judged_rising n ns after h.2

  -- an accepted list rises, and what comes after was accepted
  pub judged_accepted : (prev : ℕ) (ns : List ℕ) (after : Answer A) {x : A} → judged prev ns after ≡ accepted x
      → Rising (2 ^ 63) prev ns × (after ≡ accepted x)
  unfolding judged Rising
  judged_accepted prev [] after e = (tt, e)
  judged_accepted prev (n ∷ ns) after e =
      let none = passed (eqb prev 0 && eqb n 0) _ _ e in
      let flag = passed (leb (2 ^ 63) n) _ _ none.1 in
      let rises = passed (leb n prev) _ _ flag.1 in
      let more = judged_accepted n ns after rises.1 in
      ((leb-false n prev rises.0, leb-false (2 ^ 63) n flag.0, more.0), more.1)

-- a list that is refused whatever comes after
pub judged_refused : {A B : Type 0} (prev : ℕ) (ns : List ℕ) (x : A) (after : Answer B) {m : ℕ}
    → judged prev ns (accepted x) ≡ refused m → judged prev ns after ≡ refused m
unfolding judged
judged_refused prev [] x after e = absurd (refused≢accepted (sym e))
judged_refused prev (n ∷ ns) x after e =
    refused_alike (eqb prev 0 && eqb n 0) _ _ _
    (refused_alike (leb (2 ^ 63) n) _ _ _ (refused_alike (leb n prev) _ _ _ (judged_refused n ns x after))) e

-- ---- judging and measuring from the middle

-- Numbers are left behind `prev`, and the forms before them take `len` bytes: what judging and measuring answers for the whole.
unfoldable pub measured_from : ℕ → ℕ → List ℕ → Answer ℕ
measured_from len prev ns = judged prev ns (accepted (len + stream_len_from prev ns))

pub measured_start : (ns : List ℕ) → measured_from 0 0 ns ≡ judged 0 ns (accepted (stream_len ns))
unfolding measured_from
measured_start ns = rw zero-add

pub measured_end : (len prev : ℕ) → measured_from len prev [] ≡ accepted len
unfolding measured_from judged stream_len_from
measured_end len prev = rw add-zero

-- a number that is accepted by itself
pub measured_more : (len prev n : ℕ) (ns : List ℕ) {more : ℕ} → judged prev (n ∷ []) (accepted (uleb_len (n - prev))) ≡ accepted more
    → measured_from len prev (n ∷ ns) ≡ measured_from (len + more) n ns
unfolding measured_from judged stream_len_from
measured_more len prev n ns {more} e =
    let h = judged_accepted prev (n ∷ []) (accepted (uleb_len (n - prev))) e in
    let same : uleb_len (n - prev) ≡ more = accepted_inj h.1 in
    let sum : len + (uleb_len (n - prev) + stream_len_from n ns) ≡ len + more + stream_len_from n ns = omega arith in
    judged_rising prev (n ∷ []) (judged n ns (accepted (len + (uleb_len (n - prev) + stream_len_from n ns)))) h.0
    ∙ ap (λ (total : ℕ). judged n ns (accepted total)) sum

-- and one that is refused
pub measured_refused : (len prev n : ℕ) (ns : List ℕ) {number : ℕ} → judged prev (n ∷ []) (accepted (uleb_len (n - prev))) ≡ refused number
    → measured_from len prev (n ∷ ns) ≡ refused number
unfolding measured_from judged
measured_refused len prev n ns e = judged_refused prev (n ∷ []) (uleb_len (n - prev))
    (judged n ns (accepted (len + stream_len_from prev (n ∷ ns)))) e

-- ---- writing a stream

-- a list that is judged badly is refused
pub encode_refused : (room : ℕ) (ns : List ℕ) {number : ℕ} → judged 0 ns (accepted (stream_len ns)) ≡ refused number
    → encode_stream room ns ≡ refused number
unfolding encode_stream
encode_refused room ns e = judged_refused 0 ns (stream_len ns) _ e

-- a rising list whose stream fits is written
pub encode_fits : (room : ℕ) (ns : List ℕ) → Rising (2 ^ 63) 0 ns → stream_len ns ≤ room → encode_stream room ns ≡ accepted (stream_len ns)
unfolding encode_stream
encode_fits room ns h k = judged_rising 0 ns _ h ∙ refuse_no (ltb room (stream_len ns)) _ _ (le-ltb room (stream_len ns) k)

-- one whose stream doesn't is refused
pub encode_short : (room : ℕ) (ns : List ℕ) → Rising (2 ^ 63) 0 ns → room < stream_len ns → encode_stream room ns ≡ refused does_not_fit
unfolding encode_stream
encode_short room ns h k = judged_rising 0 ns _ h ∙ refuse_yes (ltb room (stream_len ns)) _ _ (lt-ltb room (stream_len ns) k)

-- an accepted list rises, fits, and takes its stream's length
pub encode_accepted : (room : ℕ) (ns : List ℕ) {len : ℕ} → encode_stream room ns ≡ accepted len
    → Rising (2 ^ 63) 0 ns × (stream_len ns ≤ room) × (stream_len ns ≡ len)
unfolding encode_stream
encode_accepted room ns e =
    let rises = judged_accepted 0 ns _ e in
    let fits = passed (ltb room (stream_len ns)) _ _ rises.1 in
    (rises.0, ltb-false room (stream_len ns) fits.0, accepted_inj fits.1)

-- a refusal leaves the destination as it was
pub after_encode_no : (out ns : List ℕ) (a : Answer ℕ) {number : ℕ} → a ≡ refused number → after_encode out ns a ≡ out
unfolding after_encode
after_encode_no out ns a e = rw e

-- an acceptance writes the stream at its start
pub after_encode_yes : (out ns : List ℕ) (a : Answer ℕ) {len : ℕ} → a ≡ accepted len → after_encode out ns a ≡ overwrite out 0 (stream ns)
unfolding after_encode
after_encode_yes out ns a e = rw e
