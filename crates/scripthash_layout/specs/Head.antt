-- The head word of a key (FORMAT, Head word): 64 bits, of which the top two, the mode, choose what the others are.
use Rattle.std.specs.Prelude.{ℕ, ◌+◌, ◌*◌, ◌/◌, ◌%◌, ◌^◌, ◌<◌, cond, not, ◌||◌, List, leb, eqb}
use Rattle.buffer.specs.LittleEndian.{bytes_of}
use Rattle.error.specs.Refusal.{Answer, accepted, refused, refuse_if, inline_used_not_one, inline_too_large, slab_field_too_large, extent_out_of_range}
use Rattle.error.specs.Refusal.{slab_used_too_small, mode_two, extent_payload_zero}
use Rattle.scripthash_layout.specs.declared.head.ShHeadValue.{ShHeadValue}
use Rattle.scripthash_layout.specs.declared.head.ShHeadValue.TheVariants.{Empty, Inline, Slab, Extent}

-- The mode of a word: its top two bits.
abbrev pub mode_of : ℕ → ℕ
mode_of w = w / 2 ^ 62

-- What is below the mode: 62 bits.
abbrev pub payload_of : ℕ → ℕ
payload_of w = w % 2 ^ 62

-- A slab's offset: bits 0 to 39.
abbrev pub offset_of : ℕ → ℕ
offset_of w = w % 2 ^ 40

-- How many numbers a slab holds: bits 40 to 55.
abbrev pub used_of : ℕ → ℕ
used_of w = w / 2 ^ 40 % 2 ^ 16

-- A slab's class: bits 56 to 61.
abbrev pub class_of : ℕ → ℕ
class_of w = w / 2 ^ 56 % 2 ^ 6

-- The word of a slab: mode 1 above its class, used and offset.
abbrev pub slab_word : ℕ → ℕ → ℕ → ℕ
slab_word class used off = off + used * 2 ^ 40 + class * 2 ^ 56 + 1 * 2 ^ 62

-- The word of pages: mode 3 above the last page's offset.
abbrev pub extent_word : ℕ → ℕ
extent_word last = last + 3 * 2 ^ 62

-- The word that stores a head value.
unfoldable pub pack_head : ShHeadValue → Answer ℕ
pack_head Empty = accepted 0
pack_head (Inline entry used) =
    refuse_if (not (eqb used 1)) inline_used_not_one
    (refuse_if (leb (2 ^ 62) entry) inline_too_large (accepted entry))
pack_head (Slab class used off) =
    refuse_if (leb (2 ^ 40) off || leb (2 ^ 6) class) slab_field_too_large (accepted (slab_word class used off))
pack_head (Extent last) =
    refuse_if (eqb last 0 || leb (2 ^ 62) last) extent_out_of_range (accepted (extent_word last))

-- What a word says: mode 0 a number, or none where the whole word is 0; mode 1 a slab; mode 2 nothing; mode 3 pages.
unfoldable pub unpack_head : ℕ → Answer ShHeadValue
unpack_head w =
    cond (eqb (mode_of w) 0) (accepted (cond (eqb w 0) Empty (Inline w 1)))
    (cond (eqb (mode_of w) 1)
    (refuse_if (leb (used_of w) 1) slab_used_too_small (accepted (Slab (class_of w) (used_of w) (offset_of w))))
    (refuse_if (eqb (mode_of w) 2) mode_two
    (refuse_if (eqb (payload_of w) 0) extent_payload_zero (accepted (Extent (payload_of w))))))

-- Each field of a head value is within its type.
abbrev pub InType : ShHeadValue → Type 0
InType Empty = Unit
InType (Inline entry used) = (entry < 2 ^ 64) × (used < 2 ^ 8)
InType (Slab class used off) = (class < 2 ^ 8) × ((used < 2 ^ 16) × (off < 2 ^ 64))
InType (Extent last) = last < 2 ^ 64

-- What a packed value is read back as: itself, but nothing for the inline number 0, and a refusal for a slab of none or one.
abbrev pub read_back : ShHeadValue → Answer ShHeadValue
read_back Empty = accepted Empty
read_back (Inline entry used) = accepted (cond (eqb entry 0) Empty (Inline entry used))
read_back (Slab class used off) = refuse_if (leb used 1) slab_used_too_small (accepted (Slab class used off))
read_back (Extent last) = accepted (Extent last)

-- The eight bytes of a word that was packed, and a buffer left as it was where packing is refused.
unfoldable pub head_bytes : Answer ℕ → List ℕ → List ℕ
head_bytes (accepted w) b = bytes_of 8 w
head_bytes (refused number) b = b

-- Lists stand in a file from this offset on.
abbrev pub payload_start : ℕ
payload_start = 4096
