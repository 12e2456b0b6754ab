-- A stream written into the lent part of a buffer from an offset on: what the whole buffer holds afterwards. Assumes nothing.
use Prim.Native.Nat.{ℕ, ◌-◌, ◌≤◌}
use mathlib.Core.List.{List, ◌++◌}
use mathlib.Core.Path.{◌≡◌, ap, ◌∙◌}
use native.Mathlib.Nat.{add-zero}
use native.Mathlib.Omega.{arith}
use borrow.Rule.Slice.PartMut.{put_same}
use lib.ListN.{length, take, drop, length-take, length-drop}
use Rattle.error.specs.Refusal.{accepted, refused}
use Rattle.buffer.specs.Bytes.{overwrite}
use Rattle.buffer.proofs.LawsBytes.{overwrite_part}
use Rattle.scripthash_stream.specs.Stream.{stream, encode_stream, after_encode}
use Rattle.scripthash_stream.proofs.LawsStream.{length_stream}
use Rattle.scripthash_stream.proofs.LawsEncode.{encode_accepted, after_encode_no, after_encode_yes}

-- The part of a buffer from an offset to its end.
abbrev pub lent : List ℕ → ℕ → List ℕ
lent b o = take (length b - o) (drop o b)

-- The buffer with that part put back as it came out.
abbrev pub put_back : List ℕ → ℕ → List ℕ → List ℕ
put_back b o part = take o b ++ (part ++ drop (length b - o) (drop o b))

module _ (b : List ℕ) (o : ℕ) (inside : o ≤ length b) where
  pub length_lent : length (lent b o) ≡ length b - o
  length_lent = simp (length-take, length-drop) (omega arith)

  module _ (ns out : List ℕ) (is : out ≡ after_encode (lent b o) ns (encode_stream (length (lent b o)) ns)) where
    -- a refusal leaves the buffer
    pub lent_no : {number : ℕ} → encode_stream (length b - o) ns ≡ refused number → put_back b o out ≡ b
    lent_no e =
        ap (put_back b o)
        (is ∙ after_encode_no (lent b o) ns (encode_stream (length (lent b o)) ns) (ap (λ (r : ℕ). encode_stream r ns) length_lent ∙ e))
        ∙ put_same o (length b - o) b

    -- an acceptance writes the stream at the offset
    pub lent_yes : {len : ℕ} → encode_stream (length b - o) ns ≡ accepted len → put_back b o out ≡ overwrite b o (stream ns)
    lent_yes e =
        let h = encode_accepted (length b - o) ns e in
        let size = length_stream 0 ns in
        ap (put_back b o)
        (is ∙ after_encode_yes (lent b o) ns (encode_stream (length (lent b o)) ns) (ap (λ (r : ℕ). encode_stream r ns) length_lent ∙ e))
        ∙ overwrite_part b o (length b - o) 0 (stream ns) (omega arith) (omega (arith, h.1))
        ∙ ap (λ (p : ℕ). overwrite b p (stream ns)) (add-zero o)
