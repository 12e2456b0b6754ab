-- What differs in a slab or a page that an append changes. Assumes nothing.
use Prim.Native.Nat.{ℕ, ◌+◌, ◌-◌, ◌≤◌}
use mathlib.Core.Bool.{false}
use mathlib.Core.List.{List, [], ◌∷◌}
use mathlib.Core.Option.{some}
use mathlib.Core.Path.{◌≡◌, refl, sym, subst}
use native.Mathlib.Omega.{arith}
use lib.ListN.{length}
use Rattle.error.specs.Refusal.{accepted}
use Rattle.buffer.specs.Bytes.{overwrite}
use Rattle.buffer.specs.LittleEndian.{bytes_of}
use Rattle.compact.specs.Uleb128.{uleb_len, shortest}
use Rattle.compact.proofs.LawsLength.{length_shortest}
use Rattle.scripthash_layout.specs.Sizes.{page_size}
use Rattle.scripthash_stream.specs.Stream.{Scan}
use Rattle.scripthash_fields.specs.Page.{set_field, version_of, count_of, stream_off, link_to}
use Rattle.scripthash_fields.proofs.LawsFields.{stream_off_extent}
use Rattle.scripthash_pages.specs.Entries.{last_of, Spot, page_scan, spot_behind}
use Rattle.scripthash_pages.proofs.LawsAppend.{count_read, scan_ends}
use Rattle.book_blocks.specs.Blocks.{slab_with, total_with, page_with, page_before}
use Rattle.book_blocks.proofs.LawsWrites.{grown_written}
use Rattle.book_blocks.proofs.LawsReadsMore.{spot_is}
use Rattle.book_history.specs.Writes.{region, Only}
use Rattle.book_history.proofs.LawsOnly.{only_then, only_bytes}

-- A slab with one number more differs in its count and in the number's bytes.
pub only_slab : (block : List ℕ) (used taken difference : ℕ) → 2 + taken + uleb_len difference ≤ length block
    → Only (region 0 2 ∷ region (2 + taken) (uleb_len difference) ∷ []) block (slab_with block used taken difference)
unfolding slab_with
only_slab block used taken difference h =
    let counted = only_bytes block 0 2 (bytes_of 2 (used + 1)) refl (omega arith) in
    only_then counted
    (only_bytes (overwrite block 0 (bytes_of 2 (used + 1))) (2 + taken) (uleb_len difference) (shortest difference)
    (length_shortest difference) (omega (arith, counted.long)))

-- A last page that got a next page differs in its link and in creates.
pub only_before : (page : List ℕ) (next : ℕ) → length page ≡ page_size → Only (region 3 5 ∷ region 20 4 ∷ []) page (page_before page next)
unfolding page_before set_field
only_before page next long =
    let linked = only_bytes page 3 5 (bytes_of 5 (link_to false next)) refl (omega arith) in
    only_then linked (only_bytes (set_field page 3 5 (link_to false next)) 20 4 (bytes_of 4 0) refl (omega (arith, linked.long)))

-- A last page with one number more differs in its count, in the number's bytes and in creates.
pub only_joined : (page : List ℕ) (n creates : ℕ) (c : Scan) (w : Spot) → page_scan page ≡ accepted c → version_of page ≡ 2
    → spot_behind page n c ≡ some w
    → Only (region 1 2 ∷ region w.at (uleb_len w.difference) ∷ region 20 4 ∷ []) page (page_with page w creates)
only_joined page n creates c w scans version spot =
    let long = (scan_ends page c scans).long in
    let d = n - last_of c in
    let found = spot_is page n c w spot in
    let start = stream_off_extent page version in
    let spot_of : Spot = record { at = stream_off page + c.taken; difference = d } in
    let one = overwrite page 1 (bytes_of 2 (count_of page + 1)) in
    let two = overwrite one (24 + c.taken) (shortest d) in
    let o = only_bytes page 1 2 (bytes_of 2 (count_of page + 1)) refl (omega arith) in
    let p = only_bytes one (24 + c.taken) (uleb_len d) (shortest d) (length_shortest d) (omega (arith, o.long, found.0)) in
    let q = only_bytes two 20 4 (bytes_of 4 (total_with creates)) refl (omega (arith, o.long, p.long)) in
    let whole : Only (region 1 2 ∷ region (24 + c.taken) (uleb_len d) ∷ region 20 4 ∷ []) page (page_with page spot_of creates) =
    subst (λ (x : List ℕ). Only (region 1 2 ∷ region (24 + c.taken) (uleb_len d) ∷ region 20 4 ∷ []) page x)
    (grown_written page (count_of page) c.taken d creates (omega arith) version (count_read page)) (only_then o (only_then p q)) in
    subst (λ (v : Spot). Only (region 1 2 ∷ region v.at (uleb_len v.difference) ∷ region 20 4 ∷ []) page (page_with page v creates))
    (sym found.1)
    (subst (λ (k : ℕ). Only (region 1 2 ∷ region (k + c.taken) (uleb_len d) ∷ region 20 4 ∷ []) page (page_with page spot_of creates))
    (sym start) whole)
