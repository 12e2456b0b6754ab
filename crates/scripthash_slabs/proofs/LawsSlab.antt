-- Slab payloads: the cases of writing one, the bytes that it is, and what it reads as. Assumes nothing.
use Prim.Native.Nat.{ℕ, ◌+◌, ◌-◌, ◌^◌, ◌≤◌, ◌<◌}
use mathlib.Core.List.{List, ◌++◌}
use mathlib.Core.Path.{◌≡◌, sym, ap, ◌∙◌}
use native.Mathlib.Omega.{arith}
use borrow.Author.Tests.{lt-ltb, le-ltb}
use lib.Dec.{ltb}
use lib.ListN.{length, drop}
use Rattle.error.specs.Refusal.{Answer, accepted, refused, answered, too_many_offered, slab_too_short}
use Rattle.error.proofs.LawsAnswer.{refuse_yes, refuse_no}
use Rattle.buffer.specs.Bytes.{part, overwrite}
use Rattle.buffer.specs.LittleEndian.{little_endian, bytes_of}
use Rattle.buffer.proofs.LawsApart.{overwrite_apart}
use Rattle.buffer.proofs.LawsOverwrite.{overwrite_adjoin}
use Rattle.buffer.proofs.LawsLittleEndian.{little_endian_bytes_of}
use Rattle.scripthash_stream.specs.Stream.{Rising, stream, stream_len, encode_stream, decode_stream}
use Rattle.scripthash_stream.specs.Stream.{max_offered}
use Rattle.scripthash_slabs.specs.Slab.{slab_payload, encode_slab, after_encode_slab, slab_used, decode_slab}
use Rattle.scripthash_stream.proofs.LawsStream.{scan_stream}
use Rattle.scripthash_stream.proofs.LawsDecode.{decode_fits}

-- ---- writing

-- more numbers than two bytes count
pub slab_many : (room : ℕ) (ns : List ℕ) → max_offered < length ns → encode_slab room ns ≡ refused too_many_offered
unfolding encode_slab
slab_many room ns h = refuse_yes (ltb max_offered (length ns)) _ _ (lt-ltb max_offered (length ns) h)

-- no room for the two bytes
pub slab_short : (room : ℕ) (ns : List ℕ) → length ns ≤ max_offered → room < 2 → encode_slab room ns ≡ refused slab_too_short
unfolding encode_slab
slab_short room ns h k =
    refuse_no (ltb max_offered (length ns)) _ _ (le-ltb max_offered (length ns) h) ∙ refuse_yes (ltb room 2) _ _ (lt-ltb room 2 k)

-- and else the stream decides
pub slab_as_stream : (room : ℕ) (ns : List ℕ) → length ns ≤ max_offered → 2 ≤ room
    → encode_slab room ns ≡ answered (λ len. 2 + len) (encode_stream (room - 2) ns)
unfolding encode_slab
slab_as_stream room ns h k =
    refuse_no (ltb max_offered (length ns)) _ _ (le-ltb max_offered (length ns) h) ∙ refuse_no (ltb room 2) _ _ (le-ltb room 2 k)

-- a refusal leaves the destination as it was
pub after_slab_no : (out ns : List ℕ) (a : Answer ℕ) {number : ℕ} → a ≡ refused number → after_encode_slab out ns a ≡ out
unfolding after_encode_slab
after_slab_no out ns a e = rw e

-- an acceptance writes the payload at its start
pub after_slab_yes : (out ns : List ℕ) (a : Answer ℕ) {len : ℕ} → a ≡ accepted len
    → after_encode_slab out ns a ≡ overwrite out 0 (slab_payload ns)
unfolding after_encode_slab
after_slab_yes out ns a e = rw e

-- the payload is written as the stream after two bytes, and then the count
pub payload_written : (out ns : List ℕ) → 2 ≤ length out
    → overwrite (overwrite out 2 (stream ns)) 0 (bytes_of 2 (length ns)) ≡ overwrite out 0 (slab_payload ns)
unfolding slab_payload
payload_written out ns h =
    sym (overwrite_apart out 0 (bytes_of 2 (length ns)) 2 (stream ns) (omega arith) h)
    ∙ overwrite_adjoin out 0 (bytes_of 2 (length ns)) (stream ns) (omega arith)

-- ---- reading

-- no room for the two bytes
pub unslab_short : (room : ℕ) (bs : List ℕ) → length bs < 2 → decode_slab room bs ≡ refused slab_too_short
unfolding decode_slab
unslab_short room bs h = refuse_yes (ltb (length bs) 2) _ _ (lt-ltb (length bs) 2 h)

-- and else the stream decides
pub unslab_as_stream : (room : ℕ) (bs : List ℕ) → 2 ≤ length bs → decode_slab room bs ≡ decode_stream room (slab_used bs) (drop 2 bs)
unfolding decode_slab
unslab_as_stream room bs h = refuse_no (ltb (length bs) 2) _ _ (le-ltb (length bs) 2 h)

-- a payload reads as its list, with its length, whatever follows
pub unslab_payload : (room : ℕ) (ns rest : List ℕ) → Rising (2 ^ 63) 0 ns → length ns ≤ max_offered → length ns ≤ room
    → decode_slab room (slab_payload ns ++ rest) ≡ accepted (record { numbers = ns; taken = stream_len ns })
unfolding slab_payload part
unslab_payload room ns rest h k l =
    let count : little_endian (bytes_of 2 (length ns)) ≡ length ns = little_endian_bytes_of 2 (length ns) (omega arith) in
    unslab_as_stream room (slab_payload ns ++ rest) (omega arith)
    ∙ ap (λ (n : ℕ). decode_stream room n (stream ns ++ rest)) count
    ∙ decode_fits room (length ns) (stream ns ++ rest) (scan_stream 0 ns rest h) l
