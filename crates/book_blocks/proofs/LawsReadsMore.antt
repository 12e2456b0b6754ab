-- What a last page reads as once it is changed: one number more, or a next page behind it. Assumes nothing.
use Prim.Native.Nat.{ℕ, ◌+◌, ◌-◌, ◌/◌, ◌%◌, ◌^◌, ◌≤◌, ◌<◌}
use mathlib.Core.Bool.{Bool, true, false, cond}
use mathlib.Core.List.{List}
use mathlib.Core.Logic.{inl, ⊎_elim}
use mathlib.Core.Option.{none, some, some-injective}
use mathlib.Core.Path.{◌≡◌, refl, sym, ap, ◌∙◌}
use native.Mathlib.Omega.{arith}
use borrow.Author.Tests.{eq-eqb}
use lib.Dec.{eqb}
use lib.ListN.{length, drop}
use Rattle.error.specs.Refusal.{accepted}
use Rattle.buffer.specs.LittleEndian.{little_endian}
use Rattle.buffer.proofs.LawsOrder.{lt_or_ge}
use Rattle.compact.specs.Uleb128.{uleb_len}
use Rattle.scripthash_layout.specs.Sizes.{page_size}
use Rattle.scripthash_stream.specs.Stream.{Scan, scan, padded_in}
use Rattle.scripthash_fields.specs.Page.{field, set_field, version_of, link_of, extent_base_of, extent_count_of, creates_field_of, names_extent}
use Rattle.scripthash_fields.specs.Page.{count_of, stream_off, stream_cap}
use Rattle.scripthash_fields.specs.Page.{is_last_link, link_offset, link_to, extent_named}
use Rattle.scripthash_fields.proofs.LawsPage.{length_set_field, field_set, field_apart, drop_set_field, link_fits}
use Rattle.scripthash_fields.proofs.LawsFields.{stream_off_within}
use Rattle.scripthash_pages.specs.Entries.{stream_place, page_scan, page_padded, last_of, Spot, spot_behind, with_appended}
use Rattle.scripthash_pages.proofs.LawsEntries.{scan_placed, place_accepted, scan_yes}
use Rattle.scripthash_pages.proofs.LawsAppend.{Roomy, scan_ends, spot_full, spot_room}
use Rattle.scripthash_pages.proofs.LawsAppended.{with_last, appended_long, appended_version, appended_header, appended_scan}
use Rattle.scripthash_pages.proofs.LawsAppended.{appended_padded}
use Rattle.book_blocks.specs.Blocks.{total_with, page_with, page_before}
use Rattle.book_blocks.proofs.LawsTotals.{total_fits}
use Rattle.book_blocks.proofs.LawsReadsPage.{link_told, LastReads, LinkReads}

-- ---- a field of the header that is set

-- a field between the count and the stream leaves the stream's place
place_kept : (page : List ℕ) (o k n : ℕ) → 3 ≤ o → o + k ≤ length page → stream_place (set_field page o k n) ≡ stream_place page
unfolding stream_place
place_kept page o k n behind inside =
    rw (
      length_set_field page o k n inside,
      field_apart page o k n inside 0 1 (inl (omega arith)),
      field_apart page o k n inside 1 2 (inl (omega arith)),
    )

-- and the stream
pub scan_kept : (page : List ℕ) (o k n : ℕ) (s : Scan) → 3 ≤ o → o + k ≤ stream_off page → page_scan page ≡ accepted s
    → page_scan (set_field page o k n) ≡ accepted s
scan_kept page o k n s behind before scans =
    let found = scan_placed page s scans in
    let p = found.0 in
    let placed = place_accepted page p found.1 in
    let inside : o + k ≤ length page = omega (arith, placed.long, stream_off_within page) in
    scan_yes (set_field page o k n) p (place_kept page o k n behind inside ∙ found.1)
    ∙ ap (scan p.count) (drop_set_field page o k n inside p.off (omega (arith, placed.off_is))) ∙ found.2

-- and whether the page names an extent
names_kept : (page : List ℕ) (o k n : ℕ) → 3 ≤ o → o + k ≤ length page → names_extent (set_field page o k n) ≡ names_extent page
names_kept page o k n behind inside = ap (λ (v : ℕ). eqb v 2) (field_apart page o k n inside 0 1 (inl (omega arith)))

-- and how many numbers are padded
pub padded_kept : (page : List ℕ) (o k n : ℕ) → 3 ≤ o → o + k ≤ stream_off page → stream_off page ≤ length page
    → page_padded (set_field page o k n) ≡ page_padded page
unfolding page_padded
padded_kept page o k n behind before long =
    let after = set_field page o k n in
    let inside : o + k ≤ length page = omega arith in
    let off : stream_off after ≡ stream_off page = ap (λ (b : Bool). cond b 24 8) (names_kept page o k n behind inside) in
    ap (λ (m : ℕ). padded_in m (drop (stream_off after) after)) (field_apart page o k n inside 1 2 (inl (omega arith)))
    ∙ ap (λ (i : ℕ). padded_in (count_of page) (drop i after)) off
    ∙ ap (padded_in (count_of page)) (drop_set_field page o k n inside (stream_off page) (omega arith))

-- the stream of a page that names an extent starts at byte 24
pub extent_start : (page : List ℕ) → names_extent page ≡ true → stream_off page ≡ 24
extent_start page names = ap (λ (b : Bool). cond b 24 8) names

-- ---- one number more

module _ (page : List ℕ) (n : ℕ) (s : Scan) where
  abbrev d : ℕ
  d = n - last_of s

  -- a form that the page has room for has a spot behind the stream
  pub spot_fits : s.taken + uleb_len (n - last_of s) ≤ stream_cap page
      → spot_behind page n s ≡ some (record { at = stream_off page + s.taken; difference = n - last_of s })
  spot_fits h = spot_room page n s (stream_off page + s.taken) d refl refl (omega (arith, stream_off_within page))

  -- another has none
  pub spot_none : stream_cap page < s.taken + uleb_len (n - last_of s) → spot_behind page n s ≡ none
  spot_none h = spot_full page n s (stream_off page + s.taken) d refl refl (omega (arith, stream_off_within page))

  -- a spot stands behind the stream, and the page has room for its form
  pub spot_is : (w : Spot) → spot_behind page n s ≡ some w
      → (s.taken + uleb_len (n - last_of s) ≤ stream_cap page) × (w ≡ record { at = stream_off page + s.taken; difference = n - last_of s })
  spot_is w e =
      ⊎_elim (λ (h : stream_cap page < s.taken + uleb_len d). let none_is = spot_none h in let z : ◌≡◌ {A = ℕ} 0 1 = cc in
      absurd (omega arith))
      (λ (h : s.taken + uleb_len d ≤ stream_cap page).
      (h, some-injective w (record { at = stream_off page + s.taken; difference = d }) (sym e ∙ spot_fits h)))
      (lt_or_ge (stream_cap page) (s.taken + uleb_len d))

-- What a last page reads as with a number more: its stream has that number too, the header is as it was, and creates counts it
-- or is unknown.
pub record MoreReads (page after : List ℕ) (s : Scan) (creates : ℕ) : Type 0 where
  pub long : length after ≡ page_size
  pub scans : page_scan after ≡ accepted s
  pub names : names_extent after ≡ true
  pub link : link_of after ≡ link_of page
  pub base : extent_base_of after ≡ extent_base_of page
  pub extents : extent_count_of after ≡ extent_count_of page
  pub counts : creates_field_of after ≡ total_with creates
  pub room : stream_cap after ≡ stream_cap page
  pub padded : page_padded after ≡ page_padded page

module _ (page : List ℕ) (n creates : ℕ) (s : Scan) (w : Spot) (scans : page_scan page ≡ accepted s) (names : names_extent page ≡ true)
    (above : last_of s < n) (below : n < 2 ^ 63) (spot : spot_behind page n s ≡ some w) where
  -- the number can be appended there
  roomy : Roomy page n w
  roomy =
      let found = spot_is page n s w spot in
      let at_is = ap (λ (v : Spot). v.at) (sym found.1) in
      let difference_is = ap (λ (v : Spot). v.difference) (sym found.1) in
      record {
        scanned = s;
        is = scans;
        above = above;
        below = below;
        at_is = at_is;
        difference_is = difference_is;
        fits = omega (arith, found.0, ap uleb_len difference_is, stream_off_within page);
      }

  abbrev grown : List ℕ
  grown = with_appended page w

  -- with the form written the page is as long as before
  grown_long : length grown ≡ page_size
  grown_long = appended_long page n w roomy

  -- and names an extent as before
  grown_names : names_extent grown ≡ true
  grown_names = eq-eqb (version_of grown) 2 (appended_version page n w roomy ∙ ap (λ (b : Bool). cond b 2 1) names)

  -- a field of the header behind the count and before creates is as it was
  header : (o k : ℕ) → 3 ≤ o → o + k ≤ 20 → field (set_field grown 20 4 (total_with creates)) o k ≡ field page o k
  unfolding field
  header o k behind before =
      field_apart grown 20 4 (total_with creates) (omega (arith, grown_long)) o k (inl before)
      ∙ ap little_endian (appended_header page n w roomy o k behind (omega (arith, extent_start page names)))

  -- a last page with a number more
  pub page_more_lem : MoreReads page (page_with page w creates) (with_last 0 s n) creates
  unfolding page_with roomy
  page_more_lem =
      let inside : 20 + 4 ≤ length grown = omega (arith, grown_long) in
      let after-names : names_extent (page_with page w creates) ≡ true =
      names_kept grown 20 4 (total_with creates) (omega arith) inside ∙ grown_names in
      record {
        long = length_set_field grown 20 4 (total_with creates) inside ∙ grown_long;
        scans = scan_kept grown 20 4 (total_with creates) (with_last 0 s n) (omega arith) (omega (arith, extent_start grown grown_names))
            (appended_scan page n w roomy);
        names = after-names;
        link = header 3 5 (omega arith) (omega arith);
        base = header 8 8 (omega arith) (omega arith);
        extents = header 16 4 (omega arith) (omega arith);
        counts = field_set grown 20 4 (total_with creates) inside (total_fits creates);
        room = ap (λ (b : Bool). page_size - cond b 24 8) (after-names ∙ sym names);
        padded = padded_kept grown 20 4 (total_with creates) (omega arith) (omega (arith, extent_start grown grown_names))
            (omega (arith, stream_off_within grown, grown_long)) ∙ appended_padded page n w roomy;
      }

-- so a key's last page stays one
pub last_more : {page : List ℕ} {s : Scan} {first creates : ℕ} → LastReads page s first creates → (n : ℕ) (w : Spot) → last_of s < n
    → n < 2 ^ 63
    → spot_behind page n s ≡ some w → LastReads (page_with page w creates) (with_last 0 s n) first (total_with creates)
last_more {page} {s} {first} {creates} r n w above below spot =
    let m = page_more_lem page n creates s w r.scans r.names above below spot in
    let after = page_with page w creates in
    record {
      long = m.long;
      scans = m.scans;
      names = m.names;
      last = ap is_last_link m.link ∙ r.last;
      from = ap link_offset m.link ∙ r.from;
      extent = ap (λ (b : ℕ). extent_named b (extent_count_of after)) m.base ∙ ap (extent_named (extent_base_of page)) m.extents
          ∙ r.extent;
      counts = m.counts;
      room = m.room ∙ r.room;
    }

-- ---- a next page

module _ (page : List ℕ) (next : ℕ) (s : Scan) (scans : page_scan page ≡ accepted s) (names : names_extent page ≡ true) where
  abbrev tied : List ℕ
  tied = set_field page 3 5 (link_to false next)

  -- the page is one
  page_long : length page ≡ page_size
  page_long = (scan_ends page s scans).long

  -- with its link set it still is
  tied_long : length tied ≡ page_size
  tied_long = length_set_field page 3 5 (link_to false next) (omega (arith, page_long)) ∙ page_long

  -- and names an extent as before
  tied_names : names_extent tied ≡ true
  tied_names = names_kept page 3 5 (link_to false next) (omega arith) (omega (arith, page_long)) ∙ names

  -- it names an extent as before
  pub page_before_names : names_extent (page_before page next) ≡ true
  unfolding page_before
  page_before_names = names_kept tied 20 4 0 (omega arith) (omega (arith, tied_long)) ∙ tied_names

  -- a page that was the last reads as before, and is before the next
  pub page_before_lem : next % page_size ≡ 0 → next / page_size < 2 ^ 39 → LinkReads (page_before page next) s next 4072
  unfolding page_before
  page_before_lem aligned named =
      let inside : 3 + 5 ≤ length page = omega (arith, page_long) in
      let creates-inside : 20 + 4 ≤ length tied = omega (arith, tied_long) in
      let told =
      link_told (page_before page next) false next aligned
      (field_apart tied 20 4 0 creates-inside 3 5 (inl (omega arith)) ∙ field_set page 3 5 (link_to false next) inside
      (link_fits false next named)) in
      record {
        long = length_set_field tied 20 4 0 creates-inside ∙ tied_long;
        scans = scan_kept tied 20 4 0 s (omega arith) (omega (arith, extent_start tied tied_names))
            (scan_kept page 3 5 (link_to false next) s (omega arith) (omega (arith, extent_start page names)) scans);
        not_last = told.0;
        to = told.1;
        room = ap (λ (o : ℕ). page_size - o) (extent_start (page_before page next) page_before_names);
      }

  -- and has as many padded numbers
  pub page_before_padded : page_padded (page_before page next) ≡ page_padded page
  unfolding page_before
  page_before_padded =
      padded_kept tied 20 4 0 (omega arith) (omega (arith, extent_start tied tied_names))
      (omega (arith, extent_start tied tied_names, tied_long))
      ∙ padded_kept page 3 5 (link_to false next) (omega arith) (omega (arith, extent_start page names))
      (omega (arith, extent_start page names, page_long))
