-- Reading a stream into a lent list: the cases of the answer and of the list afterwards. Assumes nothing.
use Prim.Native.Nat.{ℕ, ◌≤◌, ◌<◌}
use mathlib.Core.List.{List}
use mathlib.Core.Path.{◌≡◌, ◌∙◌}
use native.Mathlib.Nat.{zero-add}
use borrow.Author.Tests.{lt-ltb, le-ltb, ltb-false}
use lib.Dec.{ltb}
use lib.ListN.{length, take, drop, take-append-drop}
use lib.Seq.{length-take-le}
use Rattle.error.specs.Refusal.{Answer, accepted, refused, list_too_short}
use Rattle.error.proofs.LawsAnswer.{went_on, passed, then_yes, then_no, refuse_yes, refuse_no}
use Rattle.buffer.specs.Bytes.{overwrite}
use Rattle.scripthash_stream.specs.Stream.{Scan, scan, decode_stream, after_decode}

-- a stream that doesn't scan is refused
pub decode_refused : (room n : ℕ) (bs : List ℕ) {number : ℕ} → scan n bs ≡ refused number → decode_stream room n bs ≡ refused number
unfolding decode_stream
decode_refused room n bs e = then_no (scan n bs) _ e

-- one that scans is refused where the list is too short
pub decode_short : (room n : ℕ) (bs : List ℕ) {s : Scan} → scan n bs ≡ accepted s → room < n → decode_stream room n bs ≡ refused list_too_short
unfolding decode_stream
decode_short room n bs e h = then_yes (scan n bs) _ e ∙ refuse_yes (ltb room n) _ _ (lt-ltb room n h)

-- and else accepted
pub decode_fits : (room n : ℕ) (bs : List ℕ) {s : Scan} → scan n bs ≡ accepted s → n ≤ room → decode_stream room n bs ≡ accepted s
unfolding decode_stream
decode_fits room n bs e h = then_yes (scan n bs) _ e ∙ refuse_no (ltb room n) _ _ (le-ltb room n h)

-- an accepted stream scans, and the list is long enough
pub decode_accepted : (room n : ℕ) (bs : List ℕ) {s : Scan} → decode_stream room n bs ≡ accepted s → (scan n bs ≡ accepted s) × (n ≤ room)
unfolding decode_stream
decode_accepted room n bs {s} e =
    let got = went_on (scan n bs) _ e in
    let fits = passed (ltb room n) _ _ got.2 in
    (got.1 ∙ fits.1, ltb-false room n fits.0)

-- a refusal leaves the list as it was
pub after_refused : (out : List ℕ) (d : Answer Scan) {number : ℕ} → d ≡ refused number → after_decode out d ≡ out
unfolding after_decode
after_refused out d e = rw e

-- an acceptance writes the numbers at its start
pub after_accepted : (out : List ℕ) (d : Answer Scan) {s : Scan} → d ≡ accepted s → after_decode out d ≡ overwrite out 0 s.numbers
unfolding after_decode
after_accepted out d e = rw e

-- a list that changed in its first n numbers alone holds a write of them
pub written : (out₀ out : List ℕ) (n : ℕ) → n ≤ length out → drop n out ≡ drop n out₀ → out ≡ overwrite out₀ 0 (take n out)
unfolding overwrite
written out₀ out n h e = rw (zero-add (length (take n out)), length-take-le n out h, ← e, take-append-drop n out)
