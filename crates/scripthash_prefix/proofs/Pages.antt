-- Pages cannot be mistaken, since streams cannot: pages of version 1 and of version 2. Assumes nothing.
use Prim.Native.Nat.{ℕ, ◌+◌, ◌-◌, ◌^◌}
use mathlib.Core.List.{List, [], ◌++◌, IsPrefix}
use mathlib.Core.Path.{◌≡◌, refl, sym, ap, ◌∙◌}
use native.Mathlib.Omega.{arith}
use lib.ListN.{length, take, replicate}
use Rattle.error.specs.Refusal.{accepted}
use Rattle.scripthash_layout.specs.Sizes.{page_size}
use Rattle.scripthash_stream.specs.Stream.{stream, Scan, scan}
use Rattle.scripthash_prefix.specs.PrefixFree.{SameLength, PrefixFree}
use Rattle.scripthash_stream.proofs.LawsEncode.{encode_accepted}
use Rattle.scripthash_stream.proofs.LawsStream.{rising_below}
use Rattle.scripthash_prefix.proofs.Streams.{framed_prefix_free, scan_fixed}
use Rattle.scripthash_fields.specs.Page.{delta_header, extent_header, page_of, count_of, stream_of}
use Rattle.scripthash_pages.specs.Entries.{page_scan}
use Rattle.scripthash_pages.specs.Pack.{packed}
use Rattle.scripthash_pages.proofs.LawsEntries.{place_accepted, scan_placed}
use Rattle.scripthash_pages.proofs.LawsPack.{packed_accepted}

-- ---- written pages

-- a header that depends on the list's length alone, and the stream behind it
headed : (header : ℕ → List ℕ) → PrefixFree (λ ns. page_of (header (length ns)) (stream ns))
unfolding page_of
headed header =
    framed_prefix_free (λ ns. page_of (header (length ns)) (stream ns)) header
    (λ ns. replicate (page_size - (length (header (length ns)) + length (stream ns))) 0) (λ ns. refl)

-- Version 1, with any link.
pub delta_prefix_free : (link : ℕ) → PrefixFree (λ ns. page_of (delta_header (length ns) link) (stream ns))
delta_prefix_free link = headed (λ n. delta_header n link)

-- Version 2, with any link, extent and creates.
pub extent_prefix_free : (link base extents creates : ℕ)
    → PrefixFree (λ ns. page_of (extent_header (length ns) link base extents creates) (stream ns))
extent_prefix_free link base extents creates = headed (λ n. extent_header n link base extents creates)

-- Lists of the same length that are packed behind the same header into the same page are one list, whatever the version.
pub packed_fixed : (header ms ns page : List ℕ) → packed header ms ≡ accepted page → packed header ns ≡ accepted page
    → length ms ≡ length ns → ms ≡ ns
packed_fixed header ms ns page e d counts =
    let p = packed_accepted header ms page e in
    let q = packed_accepted header ns page d in
    let first = rising_below (2 ^ 63) (2 ^ 64) 0 ms (omega arith) (encode_accepted (page_size - length header) ms p.fits).0 in
    let second = rising_below (2 ^ 63) (2 ^ 64) 0 ns (omega arith) (encode_accepted (page_size - length header) ns q.fits).0 in
    let same : SameLength ms ns = record { first = first; second = second; counts = counts } in
    ((headed (λ n. header)).fixed ms ns [] [] same (ap (λ (l : List ℕ). l ++ []) (p.is ∙ sym q.is))).0

-- ---- any pages

-- what a page reads as is the scan of its stream
page_scanned : (page : List ℕ) (s : Scan) → page_scan page ≡ accepted s → scan (count_of page) (stream_of page) ≡ accepted s
page_scanned page s e =
    let (p, place, scanned) = scan_placed page s e in
    let placed = place_accepted page p place in
    rw (placed.off_is, placed.count_is) scanned

-- Two pages with equal counts that read, padded or not, of either version: where the stream of one is the beginning of the other's bytes
-- from its stream on, they hold the same list.
pub page_fixed : (page other : List ℕ) (s t : Scan) → page_scan page ≡ accepted s → page_scan other ≡ accepted t
    → count_of page ≡ count_of other → IsPrefix (take s.taken (stream_of page)) (stream_of other) → s ≡ t
page_fixed page other s t e d counts begins =
    scan_fixed 0 (count_of page) (stream_of page) (stream_of other) s t (page_scanned page s e)
    (ap (λ (n : ℕ). scan n (stream_of other)) counts ∙ page_scanned other t d) begins
