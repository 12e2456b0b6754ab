-- A page: 4,096 bytes (FORMAT, Page). The version stands at byte 0, the count at 1 (2 bytes), the link at 3 (5 bytes: bit 0 LAST,
-- the rest a page's index). Version 2 adds the extent's base at 8 (8 bytes), its count at 16 and creates at 20 (4 bytes each). The stream
-- is the rest.
use Rattle.std.specs.Prelude.{ℕ, ◌+◌, ◌-◌, ◌*◌, ◌/◌, ◌%◌, ◌^◌, Bool, cond, not, ◌&&◌, ◌||◌, List, ◌++◌, leb, ltb, eqb, length, drop, replicate}
use Rattle.error.specs.Refusal.{Answer, accepted, refuse_if, page_length, link_unaligned, link_too_large, extent_count_zero, extent_base_bad}
use Rattle.error.specs.Refusal.{count_above_capacity, version_bad}
use Rattle.buffer.specs.Bytes.{part, overwrite}
use Rattle.buffer.specs.LittleEndian.{little_endian, bytes_of}
use Rattle.scripthash_layout.specs.Sizes.{page_size}

-- ---- fields

-- The number that k bytes of a page from offset o on hold.
unfoldable pub field : List ℕ → ℕ → ℕ → ℕ
field page o k = little_endian (part page o k)

-- A page with a number in k bytes from offset o on.
unfoldable pub set_field : List ℕ → ℕ → ℕ → ℕ → List ℕ
set_field page o k n = overwrite page o (bytes_of k n)

-- The version, as it stands.
abbrev pub version_of : List ℕ → ℕ
version_of page = field page 0 1

-- The count, as it stands.
abbrev pub count_of : List ℕ → ℕ
count_of page = field page 1 2

-- The link, as it stands.
abbrev pub link_of : List ℕ → ℕ
link_of page = field page 3 5

-- The extent's base, as it stands.
abbrev pub extent_base_of : List ℕ → ℕ
extent_base_of page = field page 8 8

-- The extent's count, as it stands.
abbrev pub extent_count_of : List ℕ → ℕ
extent_count_of page = field page 16 4

-- Creates, as it stands, whatever the version.
abbrev pub creates_field_of : List ℕ → ℕ
creates_field_of page = field page 20 4

-- The version of a page that names no extent.
abbrev pub delta_version : ℕ
delta_version = 1

-- The version of a page that names one.
abbrev pub extent_version : ℕ
extent_version = 2

-- A page names an extent.
abbrev pub names_extent : List ℕ → Bool
names_extent page = eqb (version_of page) extent_version

-- Where the stream starts.
abbrev pub stream_off : List ℕ → ℕ
stream_off page = cond (names_extent page) 24 8

-- The page's capacity: how many bytes its stream may take.
abbrev pub stream_cap : List ℕ → ℕ
stream_cap page = page_size - stream_off page

-- The part of a page from the stream's start on.
abbrev pub stream_of : List ℕ → List ℕ
stream_of page = drop (stream_off page) page

-- ---- links

-- A link is LAST.
abbrev pub is_last_link : ℕ → Bool
is_last_link link = eqb (link % 2) 1

-- The offset of the page that a link names.
abbrev pub link_offset : ℕ → ℕ
link_offset link = link / 2 * page_size

-- The offset of the page behind a page, 0 where the page is LAST.
unfoldable pub next_off : List ℕ → ℕ
next_off page = cond (is_last_link (link_of page)) 0 (link_offset (link_of page))

-- The link that names the page at an offset, LAST or not.
abbrev pub link_to : Bool → ℕ → ℕ
link_to last off = off / page_size * 2 + cond last 1 0

-- ---- tests

-- What is asked of a page, refused where the buffer isn't a page.
abbrev pub on_page : {A : Type 0} → List ℕ → Answer A → Answer A
on_page page after = refuse_if (not (eqb (length page) page_size)) page_length after

-- Whether a buffer has the length of a page.
abbrev pub page_whole : List ℕ → Answer (Unit {0})
page_whole page = on_page page (accepted tt)

-- An offset that a link can name, or its refusal.
abbrev pub on_link : {A : Type 0} → ℕ → Answer A → Answer A
on_link off after = refuse_if (not (eqb (off % page_size) 0)) link_unaligned (refuse_if (leb (2 ^ 39) (off / page_size)) link_too_large after)

-- An extent that a page can name, or its refusal.
abbrev pub on_extent : {A : Type 0} → ℕ → ℕ → Answer A → Answer A
on_extent base count after =
    refuse_if (eqb count 0) extent_count_zero (refuse_if (not (eqb (base % page_size) 0) || eqb base 0) extent_base_bad after)

-- Whether a link can name an offset.
abbrev pub link_named : ℕ → Answer (Unit {0})
link_named off = on_link off (accepted tt)

-- Whether a page can name an extent.
abbrev pub extent_named : ℕ → ℕ → Answer (Unit {0})
extent_named base count = on_extent base count (accepted tt)

-- A page whose count is within its capacity and whose version is known, version 0 only with count 0; or its refusal.
abbrev pub on_delta : {A : Type 0} → List ℕ → Answer A → Answer A
on_delta page after =
    refuse_if (ltb (stream_cap page) (count_of page)) count_above_capacity
    (refuse_if (not (eqb (version_of page) delta_version || names_extent page || (eqb (version_of page) 0 && eqb (count_of page) 0)))
    version_bad after)

-- ---- whole pages

-- The header of a page that names no extent.
unfoldable pub delta_header : ℕ → ℕ → List ℕ
delta_header count link = bytes_of 1 delta_version ++ (bytes_of 2 count ++ bytes_of 5 link)

-- The header of a page that names one.
unfoldable pub extent_header : ℕ → ℕ → ℕ → ℕ → ℕ → List ℕ
extent_header count link base extents creates =
    bytes_of 1 extent_version ++ (bytes_of 2 count ++ (bytes_of 5 link ++ (bytes_of 8 base ++ (bytes_of 4 extents ++ bytes_of 4 creates))))

-- A page of a header and a stream: the rest is 0.
unfoldable pub page_of : List ℕ → List ℕ → List ℕ
page_of header stream = header ++ (stream ++ replicate (page_size - (length header + length stream)) 0)
