-- What writes into a block of a body come to: a block that was lent and put back, and the bytes of slabs, pages and runs. Assumes nothing.
use Prim.Native.Nat.{ℕ, ◌+◌, ◌-◌, ◌*◌, ◌^◌, ◌≤◌, ◌<◌}
use mathlib.Core.Bool.{Bool, true, false}
use mathlib.Core.List.{List, [], ◌∷◌, ◌++◌, append-nil}
use mathlib.Core.Path.{◌≡◌, refl, sym, ap, ◌∙◌}
use native.Mathlib.Nat.{add-zero}
use native.Mathlib.Omega.{arith}
use borrow.Author.Tests.{ne_eqb}
use borrow.Rule.Slice.PartMut.{mid_of, put_mid}
use lib.Dec.{ltb}
use lib.ListN.{length, get_or, set, take, drop, length-append, length-drop, take-append-drop}
use lib.Seq.{drop-drop, set-get_or, get_or-drop, take-append_seam, drop-append_seam}
use Rattle.error.specs.Refusal.{accepted}
use Rattle.error.proofs.LawsAnswer.{accepted_inj, passed}
use Rattle.buffer.specs.Bytes.{part, overwrite}
use Rattle.buffer.specs.LittleEndian.{little_endian, bytes_of}
use Rattle.buffer.proofs.LawsBytes.{length_overwrite, overwrite_part}
use Rattle.buffer.proofs.LawsOverwrite.{length_part}
use Rattle.compact.specs.Uleb128.{uleb_len, shortest}
use Rattle.compact.proofs.LawsLength.{length_shortest}
use Rattle.scripthash_layout.specs.Sizes.{page_size}
use Rattle.scripthash_stream.specs.Stream.{Rising, stream, stream_len}
use Rattle.scripthash_stream.proofs.LawsStream.{length_stream, rising_below}
use Rattle.scripthash_stream.proofs.LawsLent.{lent, put_back}
use Rattle.scripthash_slabs.specs.Slab.{slab_payload}
use Rattle.scripthash_slabs.proofs.LawsSlab.{payload_written}
use Rattle.scripthash_fields.specs.Page.{set_field, version_of, stream_off, link_to, delta_header, extent_header, page_of}
use Rattle.scripthash_fields.specs.Fields.{after_set}
use Rattle.scripthash_fields.proofs.LawsPage.{length_set_field, length_delta, length_extent}
use Rattle.scripthash_fields.proofs.LawsFields.{stream_off_extent}
use Rattle.scripthash_cutting.specs.Cutting.{page_room, last_page_room, cutting, range_of, ranges_from, chunk_ranges, after_chunk_ranges, joined}
use Rattle.scripthash_cutting.specs.Cutting.{Fit, AllowedCutting}
use Rattle.scripthash_cutting.proofs.LawsPages.{pages_allowed}
use Rattle.scripthash_cutting.proofs.LawsRising.{rising_words, rising_left, rising_right}
use Rattle.scripthash_pages.specs.Pack.{pack_page, pack_extent}
use Rattle.scripthash_pages.specs.Entries.{Spot, one_more, with_appended}
use Rattle.scripthash_pages.proofs.LawsEntries.{version_byte}
use Rattle.scripthash_pages.proofs.LawsAppend.{kept_extent, one_more_is, length_one_more}
use Rattle.scripthash_pages.proofs.LawsPacked.{page_packed, extent_packed}
use Rattle.book_blocks.specs.Blocks.{slab_with, last_page_of, total_with, page_with, page_before, page_to, write_run}
use Rattle.book_blocks.specs.Steps.{PageNumbers, LastPage, LinkedPage, Run}

-- ---- a block of a body that is lent and put back

-- a block that was lent is that part of the body
pub lent_is : (b : List ℕ) (o k : ℕ) → mid_of o (o + k - o) b ≡ part b o k
unfolding part
lent_is b o k = let size : o + k - o ≡ k = omega arith in rw size

-- and it is as long as the block
pub length_lent_block : (b : List ℕ) (o k : ℕ) → o + k ≤ length b → length (mid_of o (o + k - o) b) ≡ k
length_lent_block b o k h = ap length (lent_is b o k) ∙ length_part b o k h

-- a block that comes back as another is a write of that one into the body
pub block_back : (b : List ℕ) (o k : ℕ) (out block : List ℕ) → length block ≡ k → out ≡ block
    → put_mid o (o + k - o) b out ≡ overwrite b o block
unfolding overwrite
block_back b o k out block long is = let size : o + k - o ≡ length block = omega arith in rw (is, size, drop-drop (length block) o b)

-- a write into a block at its start is a write into the body
pub start_back : (b : List ℕ) (o k : ℕ) (out ys : List ℕ) → o + k ≤ length b → length ys ≤ k → out ≡ overwrite (mid_of o (o + k - o) b) 0 ys
    → put_mid o (o + k - o) b out ≡ overwrite b o ys
start_back b o k out ys h l is =
    ap (put_mid o (o + k - o) b) is ∙ overwrite_part b o (o + k - o) 0 ys (omega arith) (omega arith)
    ∙ ap (λ (p : ℕ). overwrite b p ys) (add-zero o)

-- ---- slabs

-- a slab's payload is two bytes and the stream
pub length_payload : (ns : List ℕ) → length (slab_payload ns) ≡ 2 + stream_len ns
unfolding slab_payload
length_payload ns = omega (arith, length_stream 0 ns)

-- a stream written into the part of a block behind its first two bytes, and then the count, is the payload
pub payload_back : (block ns out : List ℕ) → 2 + stream_len ns ≤ length block → out ≡ overwrite (lent block 2) 0 (stream ns)
    → overwrite (put_back block 2 out) 0 (bytes_of 2 (length ns)) ≡ overwrite block 0 (slab_payload ns)
payload_back block ns out fits is =
    let size = length_stream 0 ns in
    ap (λ (b : List ℕ). overwrite b 0 (bytes_of 2 (length ns)))
    (ap (put_back block 2) is ∙ overwrite_part block 2 (length block - 2) 0 (stream ns) (omega arith) (omega arith))
    ∙ payload_written block ns (omega arith)

-- a slab with one number more is as long as before
pub length_slab_with : (block : List ℕ) (used taken difference : ℕ) → 2 + taken + uleb_len difference ≤ length block
    → length (slab_with block used taken difference) ≡ length block
unfolding slab_with
length_slab_with block used taken difference h =
    let counted = length_overwrite block 0 (bytes_of 2 (used + 1)) (omega arith) in
    let form = length_shortest difference in
    length_overwrite (overwrite block 0 (bytes_of 2 (used + 1))) (2 + taken) (shortest difference) (omega arith) ∙ counted

-- ---- pages

-- a page's link written again
pub link_again : (count link base extents creates : ℕ) (stream : List ℕ) (other : ℕ)
    → set_field (page_of (extent_header count link base extents creates) stream) 3 5 other
    ≡ page_of (extent_header count other base extents creates) stream
unfolding set_field overwrite page_of extent_header
link_again count link base extents creates stream other = refl

-- a page's creates written again
pub creates_again : (count link base extents creates : ℕ) (stream : List ℕ) (other : ℕ)
    → set_field (page_of (extent_header count link base extents creates) stream) 20 4 other
    ≡ page_of (extent_header count link base extents other) stream
unfolding set_field overwrite page_of extent_header
creates_again count link base extents creates stream other = refl

-- a last page is as long as a page
pub length_last_page : (first base extents creates : ℕ) (ns : List ℕ) → stream_len ns ≤ last_page_room
    → length (last_page_of first base extents creates ns) ≡ page_size
length_last_page first base extents creates ns fits =
    length_extent (length ns) (link_to true first) base extents creates (stream ns) (omega (arith, length_stream 0 ns))

-- and so is a page before another
pub length_page_to : (next : ℕ) (ns : List ℕ) → stream_len ns ≤ page_room → length (page_to next ns) ≡ page_size
length_page_to next ns fits = length_delta (length ns) (link_to false next) (stream ns) (omega (arith, length_stream 0 ns))

-- a page packed with its extent, with the first page's offset and creates written then, is the last page
pub last_written : (page ns packed linked out : List ℕ) (first base extents creates link : ℕ) → length page ≡ page_size
    → LastPage ns base extents
    → packed ≡ after_set page (pack_extent page ns base extents 0) → link ≡ link_to true first → linked ≡ overwrite packed 3 (bytes_of 5 link)
    → out ≡ overwrite linked 20 (bytes_of 4 creates) → out ≡ last_page_of first base extents creates ns
unfolding set_field
last_written page ns packed linked out first base extents creates link long l packs links writes ends =
    let named = l.base_named in
    let is =
    extent_packed ns (rising_below (2 ^ 62) (2 ^ 63) 0 ns (omega arith) l.numbers.rises) page base extents 0 long named.aligned
    named.small
    (λ (z : extents ≡ 0). omega (arith, l.some_extents)) named.aligned (λ (z : base ≡ 0). omega (arith, named.some)) l.numbers.fits
    in
    ends ∙ rw (writes, links, packs, is)
    (ap (λ (b : List ℕ). set_field b 20 4 creates) (link_again (length ns) (link_to true base) base extents 0 (stream ns) (link_to true first))
    ∙ creates_again (length ns) (link_to true first) base extents 0 (stream ns) creates)

-- a list that can be packed is packed as a page before another
pub page_written : (page ns : List ℕ) (next : ℕ) → length page ≡ page_size → LinkedPage ns next
    → after_set page (pack_page page ns next) ≡ page_to next ns
page_written page ns next long l =
    let named = l.next_named in
    ap (after_set page)
    (page_packed ns (rising_below (2 ^ 62) (2 ^ 63) 0 ns (omega arith) l.numbers.rises) page next long named.aligned named.small
    l.numbers.fits)
    ∙ ap (λ (last : Bool). page_of (delta_header (length ns) (link_to last next)) (stream ns))
    (ne_eqb next 0 (λ (z : next ≡ 0). omega (arith, named.some)))

-- a page that names an extent counts one number more without its version being written
counted : (page : List ℕ) (n : ℕ) → 3 ≤ length page → version_of page ≡ 2 → n ≡ little_endian (part page 1 2)
    → overwrite page 1 (bytes_of 2 (n + 1)) ≡ one_more page
counted page n h version is =
    let byte : get_or page 0 0 ≡ 2 = sym (version_byte page (omega arith)) ∙ version in
    let same : set page 0 2 ≡ page = ap (set page 0) (sym byte) ∙ set-get_or page 0 0 in
    ap (λ (b : List ℕ). overwrite b 1 (bytes_of 2 (n + 1))) (sym same) ∙ one_more_is page 2 n h (sym (kept_extent (get_or page 0 0) byte)) is

-- the count, the form and creates written into such a page
pub grown_written : (page : List ℕ) (n taken difference creates : ℕ) → 3 ≤ length page → version_of page ≡ 2
    → n ≡ little_endian (part page 1 2)
    → overwrite (overwrite (overwrite page 1 (bytes_of 2 (n + 1))) (24 + taken) (shortest difference)) 20 (bytes_of 4 (total_with creates))
    ≡ page_with page (record { at = stream_off page + taken; difference = difference }) creates
unfolding page_with with_appended set_field
grown_written page n taken difference creates h version is =
    rw (counted page n h version is, stream_off_extent page version)

-- a page with one number more is as long as a page
pub length_page_with : (page : List ℕ) (w : Spot) (creates : ℕ) → length page ≡ page_size → w.at + uleb_len w.difference ≤ page_size
    → length (page_with page w creates) ≡ page_size
unfolding page_with with_appended
length_page_with page w creates long fits =
    let one = length_one_more page (omega arith) in
    let form = length_shortest w.difference in
    let appended = length_overwrite (one_more page) w.at (shortest w.difference) (omega arith) in
    length_set_field (overwrite (one_more page) w.at (shortest w.difference)) 20 4 (total_with creates) (omega arith) ∙ appended ∙ one
    ∙ long

-- and so is one that got a next page
pub length_page_before : (page : List ℕ) (next : ℕ) → length page ≡ page_size → length (page_before page next) ≡ page_size
unfolding page_before
length_page_before page next long =
    let linked = length_set_field page 3 5 (link_to false next) (omega arith) in
    length_set_field (set_field page 3 5 (link_to false next)) 20 4 0 (omega arith) ∙ linked ∙ long

-- ---- runs

-- A list's numbers from an index up to another.
abbrev pub cut : List ℕ → ℕ → ℕ → List ℕ
cut fks from to = take (to - from) (drop from fks)

-- What is left of a run: some parts, which fit, hold the numbers from an index on, and have the ranges from index k on.
pub record RunLeft (fks : List ℕ) (ranges : List (List ℕ)) (k from : ℕ) (parts : List (List ℕ)) : Type 0 where
  pub rises : Rising (2 ^ 62) 0 fks
  pub numbers : joined parts ≡ drop from fks
  pub fit : Fit last_page_room page_room parts
  pub ranges_are : drop k ranges ≡ ranges_from from parts

-- What is known of the next part of a run, up to an index, where it isn't the last: it fits a page, and is written to one before the
-- others.
pub record RunTurn (fks : List ℕ) (ranges : List (List ℕ)) (k from to : ℕ) (parts : List (List ℕ)) : Type 0 where
  pub ranged : k < length ranges
  pub later : from ≤ to
  pub within : to ≤ length fks
  pub numbers : PageNumbers page_room (cut fks from to)
  pub writes : (start count creates : ℕ) (body : List ℕ) (off : ℕ)
      → write_run start count creates body off parts
      ≡ write_run start count creates (overwrite body off (page_to (off + page_size) (cut fks from to))) (off + page_size) (drop 1 parts)
  pub left : RunLeft fks ranges (k + 1) to (drop 1 parts)

-- What is known of the last part: it is what is left of the numbers, fits a last page and is written to one.
pub record RunEnd (fks : List ℕ) (from : ℕ) (parts : List (List ℕ)) : Type 0 where
  pub within : from ≤ length fks
  pub numbers : PageNumbers last_page_room (drop from fks)
  pub writes : (start count creates : ℕ) (body : List ℕ) (off : ℕ)
      → write_run start count creates body off parts ≡ overwrite body off (last_page_of start start count creates (drop from fks))

-- the numbers from an index on rise, as do those up to another
rising_cut : (fks : List ℕ) (from to : ℕ) → Rising (2 ^ 62) 0 fks → Rising (2 ^ 62) 0 (drop from fks) × Rising (2 ^ 62) 0 (cut fks from to)
rising_cut fks from to r =
    let behind : Rising (2 ^ 62) 0 (drop from fks) =
    rising_right (2 ^ 62) 0 (take from fks) (drop from fks) (rw (take-append-drop from fks) r) in (
      behind,
      rising_left (2 ^ 62) 0 (cut fks from to) (drop (to - from) (drop from fks))
          (rw (take-append-drop (to - from) (drop from fks)) behind),
    )

-- the next part of a run that isn't the last ends where its range says
pub run_turn : (fks : List ℕ) (ranges : List (List ℕ)) (k from : ℕ) (parts : List (List ℕ)) → 1 < length parts
    → RunLeft fks ranges k from parts
    → RunTurn fks ranges k from (get_or (get_or ranges k []) 1 0) parts
unfolding write_run joined Fit ranges_from
run_turn fks ranges k from [] h l = absurd (omega arith)
run_turn fks ranges k from (p ∷ []) h l = absurd (omega arith)
run_turn fks ranges k from (p ∷ q ∷ ps) h l =
    let e = from + length p in
    let range : get_or ranges k [] ≡ range_of from e =
    ap (λ (i : ℕ). get_or ranges i []) (sym (add-zero k)) ∙ sym (get_or-drop k ranges 0 []) ∙ ap (λ (rs : List (List ℕ)). get_or rs 0 [])
    l.ranges_are in
    let size : length p + length (joined (q ∷ ps)) ≡ length fks - from =
    sym (length-append p (joined (q ∷ ps))) ∙ ap length l.numbers ∙ length-drop from fks in
    let k-is : e - from ≡ length p = omega arith in
    let is : cut fks from e ≡ p = rw (k-is, ← l.numbers) (take-append_seam p (joined (q ∷ ps))) in
    let rest : joined (q ∷ ps) ≡ drop e fks =
    sym (drop-append_seam p (joined (q ∷ ps))) ∙ ap (drop (length p)) l.numbers ∙ drop-drop (length p) from fks in
    rw range record {
      ranged = omega (arith, ap length l.ranges_are, length-drop k ranges);
      later = omega arith;
      within = omega (arith, l.fit.0);
      numbers = record { rises = (rising_cut fks from e l.rises).1; fits = rw is l.fit.1 };
      writes = λ start count creates body off. rw is;
      left = record {
        rises = l.rises;
        numbers = rest;
        fit = l.fit.2;
        ranges_are = sym (drop-drop 1 k ranges) ∙ ap (drop 1) l.ranges_are;
      };
    }

-- the last part of a run
pub run_end : (fks : List ℕ) (ranges : List (List ℕ)) (k from : ℕ) (parts : List (List ℕ)) → length parts ≡ 1
    → RunLeft fks ranges k from parts
    → RunEnd fks from parts
unfolding write_run joined Fit
run_end fks ranges k from [] h l = absurd (omega arith)
run_end fks ranges k from (p ∷ q ∷ ps) h l = absurd (omega arith)
run_end fks ranges k from (p ∷ []) h l =
    let is : p ≡ drop from fks = sym (append-nil p) ∙ l.numbers in
    record {
      within = omega (arith, l.fit.0, ap length is, length-drop from fks);
      numbers = record { rises = (rising_cut fks from 0 l.rises).0; fits = rw is at l.fit.1 };
      writes = λ start count creates body off. rw is;
    }

-- numbers that are some have a part
some_parts : (parts : List (List ℕ)) → 0 < length (joined parts) → 0 < length parts
unfolding joined
some_parts [] h = h
some_parts (p ∷ ps) h = omega arith

-- rising numbers are cut into parts that are allowed, and some numbers into some parts
rising_cuts : (fks : List ℕ) → Rising (2 ^ 62) 0 fks → AllowedCutting fks (cutting fks)
rising_cuts fks rises = pages_allowed fks (rising_words 0 fks (rising_below (2 ^ 62) (2 ^ 63) 0 fks (omega arith) rises))

pub parts_some : (fks : List ℕ) → Rising (2 ^ 62) 0 fks → 0 < length fks → 0 < length (cutting fks)
parts_some fks rises some_fks =
    some_parts (cutting fks) (omega (arith, some_fks, ap length (rising_cuts fks rises).consecutive))

-- a run begins with all parts of its list, of which there are some
pub run_start : (size start : ℕ) (fks : List ℕ) (ranges : List (List ℕ)) (count : ℕ) → Run size start fks ranges count
    → (0 < count) × RunLeft fks (take count ranges) 0 0 (cutting fks)
run_start size start fks ranges count r =
    let allowed = rising_cuts fks r.rises in (
      omega (arith, r.parts, parts_some fks r.rises r.some_fks),
      record { rises = r.rises; numbers = allowed.consecutive; fit = allowed.fit; ranges_are = r.ranges_are },
    )

-- the ranges of some parts are the first of a list that begins with them
ranges_first : (start : ℕ) (parts rest : List (List ℕ)) → take (length parts) (ranges_from start parts ++ rest) ≡ ranges_from start parts
unfolding ranges_from
ranges_first start [] rest = refl
ranges_first start (p ∷ ps) rest = ap (λ (rs : List (List ℕ)). range_of start (start + length p) ∷ rs)
    (ranges_first (start + length p) ps rest)

-- a list that was cut has as many parts as was told, and their ranges stand first in the lent list
pub ranges_cut : (out : List (List ℕ)) (ns : List ℕ) (count : ℕ) → chunk_ranges (length out) ns ≡ accepted count
    → (count ≡ length (cutting ns)) × (take count (after_chunk_ranges out ns) ≡ ranges_from 0 (cutting ns))
unfolding chunk_ranges after_chunk_ranges overwrite
ranges_cut out ns count e =
    let fits = passed (ltb (length out) (length (cutting ns))) _ _ e in
    let is : length (cutting ns) ≡ count = accepted_inj fits.1 in
    (sym is, rw (fits.0, ← is) (ranges_first 0 (cutting ns) _))

-- a run that lies in a body leaves its length
pub length_write_run : (start count creates : ℕ) (body : List ℕ) (off : ℕ) (parts : List (List ℕ)) → Fit last_page_room page_room parts
    → off + length parts * page_size ≤ length body → length (write_run start count creates body off parts) ≡ length body
unfolding write_run Fit
length_write_run start count creates body off [] f h = refl
length_write_run start count creates body off (p ∷ []) f h =
    length_overwrite body off (last_page_of start start count creates p) (omega (arith, length_last_page start start count creates p f.1))
length_write_run start count creates body off (p ∷ q ∷ ps) f h =
    let page = length_page_to (off + page_size) p f.1 in
    let one = length_overwrite body off (page_to (off + page_size) p) (omega (arith, page)) in
    length_write_run start count creates (overwrite body off (page_to (off + page_size) p)) (off + page_size) (q ∷ ps) f.2
    (omega (arith, one)) ∙ one
