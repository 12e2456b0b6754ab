-- Slab payloads: how many numbers, in two bytes, and then their stream.
use Rattle.std.specs.Prelude.{ℕ, ◌+◌, ◌-◌, List, ◌++◌, ltb, length, drop}
use Rattle.error.specs.Refusal.{Answer, accepted, refused, refuse_if, answered, too_many_offered, slab_too_short}
use Rattle.buffer.specs.Bytes.{part, overwrite}
use Rattle.buffer.specs.LittleEndian.{little_endian, bytes_of}
use Rattle.scripthash_stream.specs.Stream.{max_offered, Scan, padded_in, stream, encode_stream, decode_stream}

-- The payload of a list.
unfoldable pub slab_payload : List ℕ → List ℕ
slab_payload ns = bytes_of 2 (length ns) ++ stream ns

-- Writing the payload of an offered list where there is room for some bytes: its length, or a refusal.
unfoldable pub encode_slab : ℕ → List ℕ → Answer ℕ
encode_slab room ns =
    refuse_if (ltb max_offered (length ns)) too_many_offered
    (refuse_if (ltb room 2) slab_too_short (answered (λ len. 2 + len) (encode_stream (room - 2) ns)))

-- What the destination holds after an answer: the payload at its start, or what it held.
unfoldable pub after_encode_slab : List ℕ → List ℕ → Answer ℕ → List ℕ
after_encode_slab out ns (accepted len) = overwrite out 0 (slab_payload ns)
after_encode_slab out ns (refused number) = out

-- How many numbers a slab says that it has.
abbrev pub slab_used : List ℕ → ℕ
slab_used bs = little_endian (part bs 0 2)

-- Reading a payload into a lent list with room for some numbers, or a refusal; bytes after the payload are ignored.
unfoldable pub decode_slab : ℕ → List ℕ → Answer Scan
decode_slab room bs = refuse_if (ltb (length bs) 2) slab_too_short (decode_stream room (slab_used bs) (drop 2 bs))

-- How many numbers of a slab are padded.
unfoldable pub slab_padded : List ℕ → ℕ
slab_padded bs = padded_in (slab_used bs) (drop 2 bs)

-- What reading a payload tells: how many numbers, how many bytes it takes, and how many of the numbers are padded.
pub record SlabList : Type 0 where
  pub used : ℕ
  pub len : ℕ
  pub padded : ℕ

-- The same of a slab whose stream was scanned.
abbrev pub slab_list_of : List ℕ → Scan → SlabList
slab_list_of bs s = record { used = length s.numbers; len = 2 + s.taken; padded = slab_padded bs }
