-- Packed pages: which lists are accepted, and what the page reads as and tells. Assumes nothing.
use Prim.Native.Nat.{ℕ, ◌+◌, ◌-◌, ◌/◌, ◌%◌, ◌^◌, ◌≤◌, ◌<◌}
use mathlib.Core.Bool.{Bool, true, false, cond}
use mathlib.Core.List.{List}
use mathlib.Core.Option.{none, some}
use mathlib.Core.Path.{◌≡◌, sym, ap, ◌∙◌}
use native.Mathlib.Omega.{arith}
use lib.Dec.{eqb}
use lib.ListN.{length, drop}
use Rattle.error.specs.Refusal.{accepted}
use Rattle.scripthash_layout.specs.Sizes.{page_size}
use Rattle.scripthash_stream.specs.Stream.{Rising, padded_in, stream, stream_len}
use Rattle.scripthash_stream.proofs.LawsStream.{length_stream}
use Rattle.scripthash_stream.proofs.LawsEncode.{encode_fits}
use Rattle.scripthash_stream.proofs.LawsPadded.{padded_written}
use Rattle.scripthash_fields.specs.Page.{stream_of, link_to, delta_header, extent_header, page_of}
use Rattle.scripthash_fields.specs.Fields.{read_link, first_off, next_off_of, extent_of, creates_of, n_fks}
use Rattle.scripthash_fields.proofs.LawsWhole.{whole_link, whole_first, whole_next, delta_n_fks, delta_link_is, delta_extent, delta_creates}
use Rattle.scripthash_fields.proofs.LawsWhole.{extent_n_fks, extent_link_is, extent_extent, extent_creates_is}
use Rattle.scripthash_fields.proofs.LawsPage.{page_yes}
use Rattle.scripthash_fields.proofs.LawsPage.{length_delta, delta_version_lem, delta_count, delta_stream, length_extent, extent_version_lem}
use Rattle.scripthash_fields.proofs.LawsPage.{extent_count, extent_stream}
use Rattle.scripthash_fields.proofs.LawsFields.{link_good, extent_good}
use Rattle.scripthash_pages.specs.Entries.{page_scan, page_padded}
use Rattle.scripthash_pages.specs.Pack.{packed, pack_page, linked, pack_extent}
use Rattle.scripthash_pages.proofs.LawsAppended.{count_least}
use Rattle.scripthash_pages.proofs.LawsPack.{packed_fits}
use Rattle.scripthash_pages.proofs.LawsHeld.{off_by_version, held_scan}

module _ (ns : List ℕ) (rises : Rising (2 ^ 63) 0 ns) where
  -- without an extent
  pub delta_scan : stream_len ns ≤ 4088 → (link : ℕ)
      → page_scan (page_of (delta_header (length ns) link) (stream ns)) ≡ accepted (record { numbers = ns; taken = stream_len ns })
  delta_scan fits link =
      let page = page_of (delta_header (length ns) link) (stream ns) in
      let size = length_stream 0 ns in
      let version = delta_version_lem (length ns) link (stream ns) in
      let start = off_by_version page false version in
      held_scan false page ns _ (length_delta (length ns) link (stream ns) (omega arith)) version
      (delta_count (length ns) link (stream ns) (omega (arith, count_least 0 ns)))
      (ap (λ (o : ℕ). drop o page) (sym start) ∙ delta_stream (length ns) link (stream ns)) rises fits

  -- and with one
  pub extent_scan : stream_len ns ≤ 4072 → (link base extents creates : ℕ)
      → page_scan (page_of (extent_header (length ns) link base extents creates) (stream ns))
      ≡ accepted (record { numbers = ns; taken = stream_len ns })
  extent_scan fits link base extents creates =
      let page = page_of (extent_header (length ns) link base extents creates) (stream ns) in
      let size = length_stream 0 ns in
      let version = extent_version_lem (length ns) link base extents creates (stream ns) in
      let start = off_by_version page true version in
      held_scan true page ns _ (length_extent (length ns) link base extents creates (stream ns) (omega arith)) version
      (extent_count (length ns) link base extents creates (stream ns) (omega (arith, count_least 0 ns)))
      (ap (λ (o : ℕ). drop o page) (sym start) ∙ extent_stream (length ns) link base extents creates (stream ns)) rises fits

  -- neither has a padded number
  pub delta_padded : stream_len ns ≤ 4088 → (link : ℕ) → page_padded (page_of (delta_header (length ns) link) (stream ns)) ≡ 0
  unfolding page_padded
  delta_padded fits link =
      let page = page_of (delta_header (length ns) link) (stream ns) in
      ap (λ (m : ℕ). padded_in m (stream_of page)) (delta_count (length ns) link (stream ns) (omega (arith, count_least 0 ns)))
      ∙ ap (padded_in (length ns)) (delta_stream (length ns) link (stream ns)) ∙ padded_written ns _ rises

  pub extent_padded : stream_len ns ≤ 4072 → (link base extents creates : ℕ)
      → page_padded (page_of (extent_header (length ns) link base extents creates) (stream ns)) ≡ 0
  unfolding page_padded
  extent_padded fits link base extents creates =
      let page = page_of (extent_header (length ns) link base extents creates) (stream ns) in
      ap (λ (m : ℕ). padded_in m (stream_of page))
      (extent_count (length ns) link base extents creates (stream ns) (omega (arith, count_least 0 ns)))
      ∙ ap (padded_in (length ns)) (extent_stream (length ns) link base extents creates (stream ns)) ∙ padded_written ns _ rises

  -- a list that fits behind a header is packed
  packed_behind : (header : List ℕ) → stream_len ns ≤ page_size - length header → packed header ns ≡ accepted (page_of header (stream ns))
  packed_behind header fits =
      packed_fits header ns (omega (arith, count_least 0 ns)) (encode_fits (page_size - length header) ns rises fits)

  -- with a link that can be named
  pub page_packed : (page : List ℕ) (next : ℕ) → length page ≡ page_size → next % page_size ≡ 0 → next / page_size < 2 ^ 39
      → stream_len ns ≤ 4088
      → pack_page page ns next ≡ accepted (page_of (delta_header (length ns) (link_to (eqb next 0) next)) (stream ns))
  unfolding pack_page delta_header
  page_packed page next long aligned small fits =
      page_yes page _ long ∙ link_good next _ aligned small ∙ packed_behind (delta_header (length ns) (link_to (eqb next 0) next)) fits

  -- and with a good extent
  pub extent_packed : (page : List ℕ) (base count next : ℕ) → length page ≡ page_size → linked base next % page_size ≡ 0
      → linked base next / page_size < 2 ^ 39
      → (count ≡ 0 → ⊥) → base % page_size ≡ 0 → (base ≡ 0 → ⊥) → stream_len ns ≤ 4072
      → pack_extent page ns base count next
      ≡ accepted (page_of (extent_header (length ns) (link_to (eqb next 0) (linked base next)) base count 0) (stream ns))
  unfolding pack_extent extent_header
  extent_packed page base count next long aligned small some-count base-aligned some-base fits =
      page_yes page _ long ∙ link_good (linked base next) _ aligned small ∙ extent_good base count _ some-count base-aligned some-base
      ∙ packed_behind (extent_header (length ns) (link_to (eqb next 0) (linked base next)) base count 0) fits

-- What a packed page tells: its count, its link, LAST or not, and its numbers.
pub record PackedAs (page ns : List ℕ) (last : Bool) (off : ℕ) : Type 0 where
  pub count : n_fks page ≡ accepted (length ns)
  pub link : read_link page ≡ accepted (record { last = last; off = off })
  pub first : last ≡ true → first_off page ≡ accepted off
  pub next : next_off_of page ≡ accepted (cond last 0 off)
  pub scan : page_scan page ≡ accepted (record { numbers = ns; taken = stream_len ns })

module _ (ns : List ℕ) (rises : Rising (2 ^ 63) 0 ns) (last : Bool) (off : ℕ) (aligned : off % page_size ≡ 0)
    (small : off / page_size < 2 ^ 39) where
  module _ (fits : stream_len ns ≤ 4088) where
    abbrev delta : List ℕ
    delta = page_of (delta_header (length ns) (link_to last off)) (stream ns)

    delta_fits : 8 + length (stream ns) ≤ page_size
    delta_fits = omega (arith, length_stream 0 ns)

    -- without an extent
    pub delta_told : PackedAs delta ns last off
    delta_told =
        let long = length_delta (length ns) (link_to last off) (stream ns) delta_fits in
        let link = delta_link_is (length ns) last off (stream ns) delta_fits small in
        record {
          count = delta_n_fks (length ns) last off (stream ns) delta_fits (omega (arith, count_least 0 ns));
          link = whole_link delta long last off aligned link;
          first = whole_first delta long last off aligned link;
          next = whole_next delta long last off aligned link;
          scan = delta_scan ns rises fits (link_to last off);
        }

    pub delta_plain : (extent_of delta ≡ accepted none) × (creates_of delta ≡ accepted 0)
    delta_plain = (delta_extent (length ns) last off (stream ns) delta_fits, delta_creates (length ns) last off (stream ns) delta_fits)

  module _ (base extents creates : ℕ) (fits : stream_len ns ≤ 4072) where
    abbrev named : List ℕ
    named = page_of (extent_header (length ns) (link_to last off) base extents creates) (stream ns)

    named_fits : 24 + length (stream ns) ≤ page_size
    named_fits = omega (arith, length_stream 0 ns)

    -- with one
    pub extent_told : PackedAs named ns last off
    extent_told =
        let long = length_extent (length ns) (link_to last off) base extents creates (stream ns) named_fits in
        let link = extent_link_is (length ns) last off base extents creates (stream ns) named_fits small in
        record {
          count = extent_n_fks (length ns) last off base extents creates (stream ns) named_fits (omega (arith, count_least 0 ns));
          link = whole_link named long last off aligned link;
          first = whole_first named long last off aligned link;
          next = whole_next named long last off aligned link;
          scan = extent_scan ns rises fits (link_to last off) base extents creates;
        }

    pub extent_named_lem : (extents ≡ 0 → ⊥) → base % page_size ≡ 0 → (base ≡ 0 → ⊥) → base < 256 ^ 8 → extents < 256 ^ 4 → creates < 256 ^ 4
        → (extent_of named ≡ accepted (some (record { base = base; count = extents }))) × (creates_of named ≡ accepted creates)
    extent_named_lem some_extents base-aligned some-base base-fits extents-fit creates-fit = (
      extent_extent (length ns) last off base extents creates (stream ns) named_fits some_extents base-aligned some-base base-fits
          extents-fit,
      extent_creates_is (length ns) last off base extents creates (stream ns) named_fits creates-fit,
    )
