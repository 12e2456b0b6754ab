-- Laws of a page's fields, each over offset and width. Assumes nothing.
use Prim.Native.Nat.{ℕ, ◌+◌, ◌-◌, ◌*◌, ◌/◌, ◌%◌, ◌^◌, ◌≤◌, ◌<◌}
use mathlib.Core.Bool.{Bool, true, false, cond, not}
use mathlib.Core.List.{List, ◌++◌}
use mathlib.Core.Logic.{◌⊎◌, inl, ⊎_elim}
use mathlib.Core.Path.{◌≡◌, refl, ap, sym, ◌∙◌}
use native.Mathlib.Omega.{arith}
use borrow.Author.Tests.{eq-eqb, ne_eqb}
use lib.Dec.{eqb}
use lib.ListN.{length, get_or, set, take, drop, replicate, length-append, length-replicate}
use Rattle.error.specs.Refusal.{Answer, refused, page_length}
use Rattle.error.proofs.LawsAnswer.{refuse_yes, refuse_no}
use Rattle.buffer.specs.Bytes.{part, overwrite}
use Rattle.buffer.specs.LittleEndian.{little_endian, bytes_of, AreBytes}
use Rattle.buffer.proofs.LawsBytes.{overwrite_one, length_overwrite, part_to_end}
use Rattle.buffer.proofs.LawsLittleEndian.{length_bytes_of, little_endian_bytes_of, little_endian_below, part_bytes}
use Rattle.buffer.proofs.LawsOverwrite.{part_listed, length_part, part_written, part_before, part_after}
use Rattle.scripthash_layout.specs.Sizes.{page_size}
use Rattle.scripthash_fields.specs.Page.{field, set_field, version_of, count_of, link_of, extent_base_of, extent_count_of, creates_field_of}
use Rattle.scripthash_fields.specs.Page.{stream_off, stream_of}
use Rattle.scripthash_fields.specs.Page.{is_last_link, link_offset, link_to, on_page, delta_header, extent_header, page_of}

-- ---- a buffer that isn't a page is refused, and one that is goes on

module _ {A : Type 0} where
  pub page_no_lem : (page : List ℕ) (after : Answer A) → (length page ≡ page_size → ⊥) → on_page page after ≡ refused page_length
  page_no_lem page after h = refuse_yes (not (eqb (length page) page_size)) page_length after (ap not (ne_eqb (length page) page_size h))

  pub page_yes : (page : List ℕ) (after : Answer A) → length page ≡ page_size → on_page page after ≡ after
  page_yes page after h = refuse_no (not (eqb (length page) page_size)) page_length after (ap not (eq-eqb (length page) page_size h))

-- ---- fields

-- a field of one byte is that byte
pub field_byte : (page : List ℕ) (o : ℕ) → o + 1 ≤ length page → field page o 1 ≡ get_or page o 0
unfolding field
field_byte page o h = omega (arith, ap little_endian (part_listed 1 page o h))

-- a field of one byte that is set is that byte set
pub set_byte : (page : List ℕ) (o n : ℕ) → o < length page → n < 256 → set_field page o 1 n ≡ set page o n
unfolding set_field
set_byte page o n h l = overwrite_one page o (n % 256) h ∙ ap (set page o) (omega arith)

-- a field of k bytes is below 256 ^ k
pub field_below : (page : List ℕ) (o k : ℕ) → AreBytes page → o + k ≤ length page → field page o k < 256 ^ k
unfolding field
field_below page o k b h = rw (length_part page o k h) at (little_endian_below (part page o k) (part_bytes page o k b))

-- a field of k bytes at o that is set to n
module _ (page : List ℕ) (o k n : ℕ) (inside : o + k ≤ length page) where
  fits : o + length (bytes_of k n) ≤ length page
  fits = omega (arith, length_bytes_of k n)

  -- the page is as long as before
  pub length_set_field : length (set_field page o k n) ≡ length page
  unfolding set_field
  length_set_field = length_overwrite page o (bytes_of k n) fits

  -- the field reads as n
  pub field_set : n < 256 ^ k → field (set_field page o k n) o k ≡ n
  unfolding field set_field
  field_set h =
      ap (λ (m : ℕ). little_endian (part (overwrite page o (bytes_of k n)) o m)) (sym (length_bytes_of k n))
      ∙ ap little_endian (part_written page o (bytes_of k n) fits) ∙ little_endian_bytes_of k n h

  -- a field apart from it, before or behind, reads as before
  pub field_apart : (p j : ℕ) → (p + j ≤ o) ⊎ (o + k ≤ p) → field (set_field page o k n) p j ≡ field page p j
  unfolding field set_field
  field_apart p j =
      ⊎_elim (λ (h : p + j ≤ o). ap little_endian (part_before page o (bytes_of k n) fits p j h))
      (λ (h : o + k ≤ p). ap little_endian (part_after page o (bytes_of k n) fits p j (omega (arith, length_bytes_of k n))))

  -- what stands behind it is as before
  pub drop_set_field : (s : ℕ) → o + k ≤ s → drop s (set_field page o k n) ≡ drop s page
  unfolding set_field part
  drop_set_field s h =
      sym (part_to_end (overwrite page o (bytes_of k n)) s)
      ∙ ap (λ (m : ℕ). take (m - s) (drop s (overwrite page o (bytes_of k n)))) (length_overwrite page o (bytes_of k n) fits)
      ∙ part_after page o (bytes_of k n) fits s (length page - s) (omega (arith, length_bytes_of k n)) ∙ part_to_end page s

  -- a field between the version and the stream leaves the stream
  pub stream_set_field : 1 ≤ o → o + k ≤ stream_off page → stream_of (set_field page o k n) ≡ stream_of page
  stream_set_field h l =
      ap (λ (v : ℕ). drop (cond (eqb v 2) 24 8) (set_field page o k n)) (field_apart 0 1 (inl (omega arith)))
      ∙ drop_set_field (stream_off page) l

-- ---- links

-- a link tells whether it is LAST
pub link_last : (last : Bool) (off : ℕ) → is_last_link (link_to last off) ≡ last
link_last true off = eq-eqb ((off / page_size * 2 + 1) % 2) 1 (omega arith)
link_last false off = ne_eqb ((off / page_size * 2 + 0) % 2) 1 (λ e. omega arith)

-- and an aligned offset
pub link_offset_lem : (last : Bool) (off : ℕ) → off % page_size ≡ 0 → link_offset (link_to last off) ≡ off
link_offset_lem true off h = omega arith
link_offset_lem false off h = omega arith

-- a link to one of 2^39 pages fits its field
pub link_fits : (last : Bool) (off : ℕ) → off / page_size < 2 ^ 39 → link_to last off < 256 ^ 5
link_fits true off h = omega arith
link_fits false off h = omega arith

-- ---- what a whole page reads as

-- a page that names no extent
module _ (count link : ℕ) (stream : List ℕ) where
  pub length_delta : 8 + length stream ≤ page_size → length (page_of (delta_header count link) stream) ≡ page_size
  unfolding page_of delta_header
  length_delta h = omega (
    arith,
    length-append stream (replicate (page_size - (8 + length stream)) 0),
    length-replicate {A = ℕ}
        (page_size - (8 + length stream)) 0,
  )

  pub delta_version_lem : version_of (page_of (delta_header count link) stream) ≡ 1
  unfolding field part page_of delta_header
  delta_version_lem = refl

  pub delta_count : count < 256 ^ 2 → count_of (page_of (delta_header count link) stream) ≡ count
  unfolding field part page_of delta_header
  delta_count h = little_endian_bytes_of 2 count h

  pub delta_link : link < 256 ^ 5 → link_of (page_of (delta_header count link) stream) ≡ link
  unfolding field part page_of delta_header
  delta_link h = little_endian_bytes_of 5 link h

  -- its stream, and 0 behind it
  pub delta_stream : stream_of (page_of (delta_header count link) stream) ≡ stream ++ replicate (page_size - (8 + length stream)) 0
  unfolding field part page_of delta_header
  delta_stream = refl

-- a page that names one
module _ (count link base extents creates : ℕ) (stream : List ℕ) where
  pub length_extent : 24 + length stream ≤ page_size → length (page_of (extent_header count link base extents creates) stream) ≡ page_size
  unfolding page_of extent_header
  length_extent h = omega (
    arith,
    length-append stream (replicate (page_size - (24 + length stream)) 0),
    length-replicate {A = ℕ}
        (page_size - (24 + length stream)) 0,
  )

  pub extent_version_lem : version_of (page_of (extent_header count link base extents creates) stream) ≡ 2
  unfolding field part page_of extent_header
  extent_version_lem = refl

  pub extent_count : count < 256 ^ 2 → count_of (page_of (extent_header count link base extents creates) stream) ≡ count
  unfolding field part page_of extent_header
  extent_count h = little_endian_bytes_of 2 count h

  pub extent_link : link < 256 ^ 5 → link_of (page_of (extent_header count link base extents creates) stream) ≡ link
  unfolding field part page_of extent_header
  extent_link h = little_endian_bytes_of 5 link h

  pub extent_base : base < 256 ^ 8 → extent_base_of (page_of (extent_header count link base extents creates) stream) ≡ base
  unfolding field part page_of extent_header
  extent_base h = little_endian_bytes_of 8 base h

  pub extent_pages : extents < 256 ^ 4 → extent_count_of (page_of (extent_header count link base extents creates) stream) ≡ extents
  unfolding field part page_of extent_header
  extent_pages h = little_endian_bytes_of 4 extents h

  pub extent_creates : creates < 256 ^ 4 → creates_field_of (page_of (extent_header count link base extents creates) stream) ≡ creates
  unfolding field part page_of extent_header
  extent_creates h = little_endian_bytes_of 4 creates h

  -- its stream, and 0 behind it
  pub extent_stream : stream_of (page_of (extent_header count link base extents creates) stream) ≡ stream
      ++ replicate (page_size - (24 + length stream)) 0
  unfolding field part page_of extent_header
  extent_stream = refl
