-- What a whole page reads as once it is written: a last page, and a page before another. Assumes nothing.
use Prim.Native.Nat.{ℕ, ◌-◌, ◌/◌, ◌%◌, ◌^◌, ◌≤◌, ◌<◌}
use mathlib.Core.Bool.{Bool, true, false}
use mathlib.Core.List.{List}
use mathlib.Core.Path.{◌≡◌, ap, ◌∙◌}
use native.Mathlib.Omega.{arith}
use borrow.Author.Tests.{eq-eqb}
use lib.ListN.{length}
use Rattle.error.specs.Refusal.{accepted}
use Rattle.scripthash_layout.specs.Sizes.{page_size}
use Rattle.scripthash_stream.specs.Stream.{Rising, Scan, stream, stream_len}
use Rattle.scripthash_stream.proofs.LawsStream.{length_stream}
use Rattle.scripthash_fields.specs.Page.{version_of, link_of, extent_base_of, extent_count_of, creates_field_of, names_extent, stream_cap}
use Rattle.scripthash_fields.specs.Page.{is_last_link, link_offset, link_to, extent_named}
use Rattle.scripthash_fields.proofs.LawsPage.{link_last, link_offset_lem, link_fits}
use Rattle.scripthash_fields.proofs.LawsPage.{length_delta, delta_version_lem, delta_link, length_extent, extent_version_lem, extent_link}
use Rattle.scripthash_fields.proofs.LawsPage.{extent_base, extent_pages, extent_creates}
use Rattle.scripthash_fields.proofs.LawsFields.{extent_good, stream_off_extent, stream_off_other}
use Rattle.scripthash_pages.specs.Entries.{page_scan, page_padded}
use Rattle.scripthash_pages.proofs.LawsPacked.{delta_scan, extent_scan, delta_padded, extent_padded}
use Rattle.book_blocks.specs.Blocks.{last_page_of, page_to}

-- ---- links

-- a page whose link names an aligned offset, LAST or not, tells both
pub link_told : (page : List ℕ) (last : Bool) (off : ℕ) → off % page_size ≡ 0 → link_of page ≡ link_to last off
    → (is_last_link (link_of page) ≡ last) × (link_offset (link_of page) ≡ off)
link_told page last off aligned is = (ap is_last_link is ∙ link_last last off, ap link_offset is ∙ link_offset_lem last off aligned)

-- ---- whole pages

-- What a key's last page reads as: its stream, that it is the last, its first page's offset, a good extent and creates.
pub record LastReads (page : List ℕ) (s : Scan) (first creates : ℕ) : Type 0 where
  pub long : length page ≡ page_size
  pub scans : page_scan page ≡ accepted s
  pub names : names_extent page ≡ true
  pub last : is_last_link (link_of page) ≡ true
  pub from : link_offset (link_of page) ≡ first
  pub extent : extent_named (extent_base_of page) (extent_count_of page) ≡ accepted tt
  pub counts : creates_field_of page ≡ creates
  pub room : stream_cap page ≡ 4072

-- What a page before another reads as: its stream, and the offset of the page behind.
pub record LinkReads (page : List ℕ) (s : Scan) (next cap : ℕ) : Type 0 where
  pub long : length page ≡ page_size
  pub scans : page_scan page ≡ accepted s
  pub not_last : is_last_link (link_of page) ≡ false
  pub to : link_offset (link_of page) ≡ next
  pub room : stream_cap page ≡ cap

-- a page written as a key's last reads as its list
pub last_page_reads : (first base extents creates : ℕ) (ns : List ℕ) → Rising (2 ^ 63) 0 ns → stream_len ns ≤ 4072
    → first % page_size ≡ 0 → first / page_size < 2 ^ 39 → base < 2 ^ 64 → base % page_size ≡ 0 → (base ≡ 0 → ⊥)
    → 0 < extents → extents < 2 ^ 32 → creates < 2 ^ 32
    → LastReads (last_page_of first base extents creates ns) (record { numbers = ns; taken = stream_len ns }) first creates
last_page_reads first base extents creates ns rises fits aligned named base-fits base-aligned some-base some_extents extents-fit
    creates-fit =
    let link = link_to true first in
    let page = last_page_of first base extents creates ns in
    let version : version_of page ≡ 2 = extent_version_lem (length ns) link base extents creates (stream ns) in
    let told = link_told page true first aligned
    (extent_link (length ns) link base extents creates (stream ns) (link_fits true first named)) in
    let base-is : extent_base_of page ≡ base = extent_base (length ns) link base extents creates (stream ns) base-fits in
    let extents-are : extent_count_of page ≡ extents = extent_pages (length ns) link base extents creates (stream ns) extents-fit in
    record {
      long = length_extent (length ns) link base extents creates (stream ns) (omega (arith, length_stream 0 ns));
      scans = extent_scan ns rises fits link base extents creates;
      names = eq-eqb (version_of page) 2 version;
      last = told.0;
      from = told.1;
      extent = ap (λ (b : ℕ). extent_named b (extent_count_of page)) base-is ∙ ap (extent_named base) extents-are
          ∙ extent_good base extents (accepted tt) (λ (z : extents ≡ 0). omega arith) base-aligned some-base;
      counts = extent_creates (length ns) link base extents creates (stream ns) creates-fit;
      room = ap (λ (o : ℕ). page_size - o) (stream_off_extent page version);
    }

-- a page written before another reads as its list
pub page_to_reads : (next : ℕ) (ns : List ℕ) → Rising (2 ^ 63) 0 ns → stream_len ns ≤ 4088 → next % page_size ≡ 0 → next / page_size < 2 ^ 39
    → LinkReads (page_to next ns) (record { numbers = ns; taken = stream_len ns }) next 4088
page_to_reads next ns rises fits aligned named =
    let link = link_to false next in
    let page = page_to next ns in
    let version : version_of page ≡ 1 = delta_version_lem (length ns) link (stream ns) in
    let told = link_told page false next aligned (delta_link (length ns) link (stream ns) (link_fits false next named)) in
    record {
      long = length_delta (length ns) link (stream ns) (omega (arith, length_stream 0 ns));
      scans = delta_scan ns rises fits link;
      not_last = told.0;
      to = told.1;
      room = ap (λ (o : ℕ). page_size - o) (stream_off_other page (λ (e : version_of page ≡ 2). omega arith));
    }

-- neither has a padded number
pub last_page_padded : (first base extents creates : ℕ) (ns : List ℕ) → Rising (2 ^ 63) 0 ns → stream_len ns ≤ 4072
    → page_padded (last_page_of first base extents creates ns) ≡ 0
last_page_padded first base extents creates ns rises fits = extent_padded ns rises fits (link_to true first) base extents creates

pub page_to_padded : (next : ℕ) (ns : List ℕ) → Rising (2 ^ 63) 0 ns → stream_len ns ≤ 4088 → page_padded (page_to next ns) ≡ 0
page_to_padded next ns rises fits = delta_padded ns rises fits (link_to false next)
