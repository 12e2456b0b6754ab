-- A key's last page that gets one number more has a tail again, with the number as its last. Assumes nothing.
use Prim.Native.Nat.{ℕ, ◌+◌, ◌-◌, ◌^◌, ◌≤◌, ◌<◌}
use mathlib.Core.Bool.{true}
use mathlib.Core.List.{List, [], ◌∷◌, ◌++◌}
use mathlib.Core.Path.{◌≡◌, sym, ap, subst, ◌∙◌}
use native.Mathlib.Omega.{arith}
use borrow.Author.Tests.{eq-eqb, eqb-true, lt-ltb}
use lib.ListN.{length}
use Rattle.error.specs.Refusal.{accepted}
use Rattle.error.proofs.LawsAnswer.{then_yes}
use Rattle.buffer.specs.Bytes.{part, overwrite}
use Rattle.buffer.proofs.LawsOverwrite.{part_written}
use Rattle.compact.specs.Uleb128.{uleb_len}
use Rattle.scripthash_layout.specs.Sizes.{page_class, page_size}
use Rattle.scripthash_stream.specs.Stream.{Scan, last_from}
use Rattle.scripthash_stream.proofs.LawsStream.{last_append}
use Rattle.scripthash_fields.specs.Page.{version_of, stream_off}
use Rattle.scripthash_fields.proofs.LawsFields.{stream_off_extent}
use Rattle.scripthash_pages.specs.Entries.{page_scan, last_of, Spot}
use Rattle.scripthash_pages.proofs.LawsAppended.{with_last}
use Rattle.scripthash_free.specs.FreeList.{is_block}
use Rattle.book_keys.specs.Keys.{Ground, body_ground, page_at, Last, Tail, tail_at}
use Rattle.book_keys.specs.Steps.{sound_last, last_of_page, last_read}
use Rattle.book_keys.proofs.LawsSound.{sure_yes, last_sound}
use Rattle.book_keys.proofs.LawsPages.{tail_sound, last_extent, tail_by_last, tail_on, page_inside}
use Rattle.book_blocks.specs.Blocks.{total_with, page_with}
use Rattle.book_blocks.proofs.LawsReadsPage.{LastReads}
use Rattle.book_blocks.proofs.LawsReadsMore.{spot_fits, last_more}

-- The last number of a stream with one more is that one.
pub last_snoc : (ns : List ℕ) (n : ℕ) → last_from 0 (ns ++ (n ∷ [])) ≡ n
unfolding last_from
last_snoc ns n = last_append 0 ns (n ∷ [])

-- A page with a tail reads as a last page.
tail_reads : (g : Ground) (last : ℕ) (t : Tail) → tail_at g last ≡ accepted t
    → LastReads (page_at g last) t.scan t.last.first t.last.creates
tail_reads g last t sound =
    let known = tail_sound g last t sound in
    let header = known.header in
    record {
      long = known.link.read.long;
      scans = known.link.scanned;
      names = eq-eqb (version_of (page_at g last)) 2 header.version;
      last = header.last;
      from = ap (λ (h : Last). h.first) header.header;
      extent = header.extent;
      counts = ap (λ (h : Last). h.creates) header.header;
      room = ap (λ (o : ℕ). page_size - o) (stream_off_extent (page_at g last) header.version);
    }

-- A page that stands and reads as a last page has a tail, where its last number can be one.
reads_tail : (g : Ground) (last : ℕ) (s : Scan) (first creates : ℕ) → is_block page_class last g.mark ≡ true
    → LastReads (page_at g last) s first creates → 0 < last_of s → last_of s < 2 ^ 62
    → tail_at g last ≡ accepted (record { scan = s; last = record { first = first; creates = creates } })
unfolding sound_last
reads_tail g last s first creates stands r above low =
    let page = page_at g last in
    let version : version_of page ≡ 2 = eqb-true (version_of page) 2 r.names in
    let header : last_read page ≡ accepted (last_of_page page) = last_extent page version r.last ∙ then_yes _ _ r.extent in
    let told : last_of_page page ≡ record { first = first; creates = creates } = (λ i. record { first = r.from i; creates = r.counts i }) in
    let scanned : last_sound (page_scan page) ≡ accepted s =
    then_yes (page_scan page) _ r.scans ∙ sure_yes _ _ (rw (lt-ltb 0 (last_of s) above, lt-ltb (last_of s) (2 ^ 62) low)) in
    tail_on g last stands ∙ tail_by_last page (last_of_page page) header ∙ then_yes (last_sound (page_scan page)) _ scanned
    ∙ ap (λ (h : Last). accepted (record { scan = s; last = h })) told

-- The end of a key's last page: the bytes that its stream takes, its last number, and creates.
pub record PageEnds (g : Ground) (last taken fk creates : ℕ) : Type 0 where
  pub tail : Tail
  pub sound : tail_at g last ≡ accepted tail
  pub taken_is : tail.scan.taken ≡ taken
  pub fk_is : last_of tail.scan ≡ fk
  pub creates_is : tail.last.creates ≡ creates

module _ (body : List ℕ) (mark last : ℕ) (within : mark ≤ length body) (t : Tail) (sound : tail_at (body_ground body mark) last ≡ accepted t)
    (n : ℕ) (above : last_of t.scan < n) (low : n < 2 ^ 62)
    (fits : 24 + t.scan.taken + uleb_len (n - last_of t.scan) ≤ page_size) where
  abbrev page : List ℕ
  page = page_at (body_ground body mark) last

  -- where the number goes
  abbrev spot : Spot
  spot = record { at = stream_off page + t.scan.taken; difference = n - last_of t.scan }

  abbrev after : List ℕ
  after = page_with page spot t.last.creates

  -- the page with the number reads as a last page
  more : LastReads after (with_last 0 t.scan n) t.last.first (total_with t.last.creates)
  more =
      let r = tail_reads (body_ground body mark) last t sound in
      last_more r n spot above (omega arith) (spot_fits page n t.scan (omega (arith, r.room)))

  -- the page stands within the body
  stands : is_block page_class last mark ≡ true
  stands = (tail_sound (body_ground body mark) last t sound).header.stands

  -- it is there once it is written
  there : page_at (body_ground (overwrite body last after) mark) last ≡ after
  there =
      let inside = page_inside (body_ground body mark) last stands body within in
      ap (λ (k : ℕ). part (overwrite body last after) last k) (sym more.long)
      ∙ part_written body last after (omega (arith, inside, more.long))

  -- it has a tail
  tail_more : tail_at (body_ground (overwrite body last after) mark) last
      ≡ accepted (record {
        scan = with_last 0 t.scan n;
        last = record { first = t.last.first; creates = total_with t.last.creates };
      })
  tail_more =
      let is = last_snoc t.scan.numbers n in
      reads_tail (body_ground (overwrite body last after) mark) last (with_last 0 t.scan n) t.last.first (total_with t.last.creates)
      stands
      (subst (λ (p : List ℕ). LastReads p (with_last 0 t.scan n) t.last.first (total_with t.last.creates)) (sym there) more)
      (omega (arith, is)) (omega (arith, is))

-- A last page that gets one number more ends behind it.
pub page_ends : (body : List ℕ) (mark last : ℕ) {taken fk creates : ℕ} → mark ≤ length body
    → (e : PageEnds (body_ground body mark) last taken fk creates) (n : ℕ) → fk < n → n < 2 ^ 62 → 24 + taken + uleb_len (n - fk) ≤ page_size
    → (written : List ℕ) → written ≡ overwrite body last
    (page_with (part body last page_size) (record { at = stream_off (part body last page_size) + taken; difference = n - fk }) creates)
    → PageEnds (body_ground written mark) last (taken + uleb_len (n - fk)) n (total_with creates)
page_ends body mark last {taken} {fk} {creates} within e n above low fits written w =
    let t = e.tail in
    let room : 24 + t.scan.taken + uleb_len (n - last_of t.scan) ≤ page_size = rw (e.taken_is, e.fk_is) fits in
    let over : last_of t.scan < n = omega (arith, e.fk_is) in
    let is : written ≡ overwrite body last (after body mark last within t e.sound n over low room)
    = w ∙ rw (e.taken_is, e.fk_is, e.creates_is) in
    record {
      tail = record { scan = with_last 0 t.scan n; last = record { first = t.last.first; creates = total_with t.last.creates } };
      sound = ap (λ (b : List ℕ). tail_at (body_ground b mark) last) is ∙ tail_more body mark last within t e.sound n over low room;
      taken_is = rw (e.taken_is, e.fk_is);
      fk_is = last_snoc t.scan.numbers n;
      creates_is = ap total_with e.creates_is;
    }
