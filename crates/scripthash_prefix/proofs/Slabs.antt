-- Slab payloads cannot be mistaken, since streams cannot: equal used and equal payload bytes, whatever follows, give equal lists.
-- Assumes nothing.
use Prim.Native.Nat.{ℕ, ◌≤◌}
use mathlib.Core.List.{List, [], ◌++◌, append-nil, IsPrefix}
use mathlib.Core.Path.{◌≡◌, sym, ap, ◌∙◌}
use native.Mathlib.Omega.{arith}
use lib.Dec.{ltb}
use lib.ListN.{length, take, drop}
use Rattle.error.specs.Refusal.{accepted}
use Rattle.error.proofs.LawsAnswer.{passed}
use Rattle.buffer.specs.Bytes.{part}
use Rattle.buffer.specs.LittleEndian.{bytes_of}
use Rattle.buffer.proofs.LawsLittleEndian.{little_endian_bytes_of}
use Rattle.scripthash_stream.specs.Stream.{max_offered, stream, Scan, scan}
use Rattle.scripthash_prefix.specs.PrefixFree.{IsList, PrefixFree}
use Rattle.scripthash_stream.proofs.LawsDecode.{decode_accepted}
use Rattle.scripthash_prefix.proofs.Streams.{framed_prefix_free, scan_fixed}
use Rattle.scripthash_slabs.specs.Slab.{slab_payload, slab_used, decode_slab}

-- ---- written payloads

-- Payloads cannot be mistaken.
pub payload_prefix_free : PrefixFree slab_payload
unfolding slab_payload
payload_prefix_free =
    framed_prefix_free slab_payload (bytes_of 2) (λ ns. [])
    (λ ns. ap (λ (l : List ℕ). bytes_of 2 (length ns) ++ l) (sym (append-nil (stream ns))))

-- a payload tells how many numbers it has
used_payload : (ns rest : List ℕ) → length ns ≤ max_offered → slab_used (slab_payload ns ++ rest) ≡ length ns
unfolding slab_payload part
used_payload ns rest few = little_endian_bytes_of 2 (length ns) (omega arith)

-- A payload fixes its list by itself, and what is behind it: used stands in its first two bytes.
pub payload_fixed : (ms ns xs ys : List ℕ) → IsList ms → IsList ns → length ms ≤ max_offered → length ns ≤ max_offered
    → slab_payload ms ++ xs ≡ slab_payload ns ++ ys → (ms ≡ ns) × (xs ≡ ys)
payload_fixed ms ns xs ys h k few least e =
    let counts = sym (used_payload ms xs few) ∙ ap slab_used e ∙ used_payload ns ys least in
    payload_prefix_free.fixed ms ns xs ys (record { first = h; second = k; counts = counts }) e

-- ---- any slabs

-- what a slab reads as is the scan of its stream
slab_scanned : (room : ℕ) (bs : List ℕ) (s : Scan) → decode_slab room bs ≡ accepted s → scan (slab_used bs) (drop 2 bs) ≡ accepted s
unfolding decode_slab
slab_scanned room bs s e = (decode_accepted room (slab_used bs) (drop 2 bs) (passed (ltb (length bs) 2) _ _ e).1).0

-- Two slabs with equal used that read, padded or not: where the stream of one is the beginning of the other's bytes behind used, they hold
-- the same list.
pub slab_fixed : (room lent : ℕ) (bs cs : List ℕ) (s t : Scan) → decode_slab room bs ≡ accepted s → decode_slab lent cs ≡ accepted t
    → slab_used bs ≡ slab_used cs → IsPrefix (take s.taken (drop 2 bs)) (drop 2 cs) → s ≡ t
slab_fixed room lent bs cs s t e d used begins =
    scan_fixed 0 (slab_used bs) (drop 2 bs) (drop 2 cs) s t (slab_scanned room bs s e)
    (ap (λ (n : ℕ). scan n (drop 2 cs)) used ∙ slab_scanned lent cs t d) begins
