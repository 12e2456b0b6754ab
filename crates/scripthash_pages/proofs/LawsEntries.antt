-- The stream of a page: where it stands, what it is scanned and read as, and the offset of the page behind. Assumes nothing.
use Prim.Native.Nat.{ℕ, ◌-◌, ◌^◌, ◌≤◌, ◌<◌}
use mathlib.Core.Bool.{true, false, cond, not, ◌&&◌, ◌||◌}
use mathlib.Core.List.{List}
use mathlib.Core.Path.{◌≡◌, refl, sym, ap, ◌∙◌}
use native.Mathlib.Omega.{arith}
use borrow.Author.Tests.{eqb-true, not-false, eq-eqb, ne_eqb, lt-ltb, le-ltb, ltb-false}
use lib.Dec.{ltb, eqb}
use lib.ListN.{length, drop, get_or}
use Rattle.error.specs.Refusal.{Answer, accepted, refused, refuse_if, and_then, page_length, count_above_capacity, version_bad, list_too_short}
use Rattle.error.proofs.LawsAnswer.{accepted_inj, passed, went_on, refuse_yes, refuse_no, then_yes, then_no}
use Rattle.buffer.specs.Bytes.{part}
use Rattle.buffer.specs.LittleEndian.{little_endian, AreBytes}
use Rattle.buffer.proofs.LawsOverwrite.{length_part}
use Rattle.buffer.proofs.LawsLittleEndian.{little_endian_below, part_bytes}
use Rattle.scripthash_layout.specs.Sizes.{page_size}
use Rattle.scripthash_stream.specs.Stream.{Scan, scan, padded_in, decode_stream}
use Rattle.scripthash_stream.proofs.LawsScan.{scan_accepted}
use Rattle.scripthash_fields.specs.Page.{field, version_of, count_of, link_of, next_off, names_extent, stream_off, stream_cap}
use Rattle.scripthash_fields.proofs.LawsPage.{field_byte}
use Rattle.scripthash_fields.proofs.LawsFields.{stream_off_within}
use Rattle.scripthash_pages.specs.Entries.{StreamAt, stream_place, page_scan, page_entries, page_padded, page_read_of}

-- ---- the stream's place

-- the version is the first byte
pub version_byte : (page : List ℕ) → 0 < length page → version_of page ≡ get_or page 0 0
version_byte page h = field_byte page 0 (omega arith)

-- The place of the stream of a page with a version and a count.
abbrev pub place_by : ℕ → ℕ → Answer StreamAt
place_by v n =
    refuse_if (ltb (page_size - cond (eqb v 2) 24 8) n) count_above_capacity
    (refuse_if (not (eqb v 1 || eqb v 2 || (eqb v 0 && eqb n 0))) version_bad (accepted (record { off = cond (eqb v 2) 24 8; count = n })))

-- a buffer of another length is refused
pub place_length : (page : List ℕ) → (length page ≡ page_size → ⊥) → stream_place page ≡ refused page_length
unfolding stream_place
place_length page h = refuse_yes (not (eqb (length page) page_size)) _ _ (ap not (ne_eqb (length page) page_size h))

-- and else version and count decide
pub place_by_lem : (page : List ℕ) (v n : ℕ) → length page ≡ page_size → get_or page 0 0 ≡ v → n ≡ little_endian (part page 1 2)
    → stream_place page ≡ place_by v n
unfolding stream_place field
place_by_lem page v n long ve ne =
    refuse_no (not (eqb (length page) page_size)) _ _ (ap not (eq-eqb (length page) page_size long))
    ∙ ap (λ (u : ℕ). place_by u (little_endian (part page 1 2))) (version_byte page (omega arith) ∙ ve) ∙ ap (place_by v) (sym ne)

-- the count is above the capacity of version 2, or within it
pub extent_many : (n : ℕ) → 4072 < n → place_by 2 n ≡ refused count_above_capacity
extent_many n h = refuse_yes (ltb 4072 n) _ _ (lt-ltb 4072 n h)

pub extent_place : (n : ℕ) → n ≤ 4072 → place_by 2 n ≡ accepted (record { off = 24; count = n })
extent_place n h = refuse_no (ltb 4072 n) _ _ (le-ltb 4072 n h) ∙ refuse_no false _ _ refl

-- the count is above the capacity of the other versions
pub delta_many : (v n : ℕ) → (v ≡ 2 → ⊥) → 4088 < n → place_by v n ≡ refused count_above_capacity
delta_many v n other h = rw (ne_eqb v 2 other) (refuse_yes (ltb 4088 n) _ _ (lt-ltb 4088 n h))

-- version 1
pub delta_place : (n : ℕ) → n ≤ 4088 → place_by 1 n ≡ accepted (record { off = 8; count = n })
delta_place n h = refuse_no (ltb 4088 n) _ _ (le-ltb 4088 n h) ∙ refuse_no false _ _ refl

-- version 0 with no count, and with one
pub zero_place : place_by 0 0 ≡ accepted (record { off = 8; count = 0 })
zero_place = refuse_no false _ _ refl ∙ refuse_no false _ _ refl

pub zero_counted : (n : ℕ) → n ≤ 4088 → (n ≡ 0 → ⊥) → place_by 0 n ≡ refused version_bad
zero_counted n h k = refuse_no (ltb 4088 n) _ _ (le-ltb 4088 n h) ∙ refuse_yes (not (eqb n 0)) _ _ (ap not (ne_eqb n 0 k))

-- another version
pub other_version : (v n : ℕ) → (v ≡ 0 → ⊥) → (v ≡ 1 → ⊥) → (v ≡ 2 → ⊥) → n ≤ 4088 → place_by v n ≡ refused version_bad
other_version v n h0 h1 h2 k =
    rw (ne_eqb v 0 h0, ne_eqb v 1 h1, ne_eqb v 2 h2) (refuse_no (ltb 4088 n) _ _ (le-ltb 4088 n k) ∙ refuse_yes true _ _ refl)

-- What is known of a stream's place.
pub record Placed (page : List ℕ) (p : StreamAt) : Type 0 where
  pub long : length page ≡ page_size
  pub off_is : stream_off page ≡ p.off
  pub count_is : count_of page ≡ p.count
  pub counted : p.count ≤ page_size - p.off
  pub early : p.off ≤ 24

pub place_accepted : (page : List ℕ) (p : StreamAt) → stream_place page ≡ accepted p → Placed page p
unfolding stream_place
place_accepted page p e =
    let l = passed (not (eqb (length page) page_size)) _ _ e in
    let m = passed (ltb (stream_cap page) (count_of page)) _ _ l.1 in
    let k = passed (not (eqb (version_of page) 1 || names_extent page || (eqb (version_of page) 0 && eqb (count_of page) 0))) _ _ m.1 in
    let is = accepted_inj k.1 in
    let off_is : stream_off page ≡ p.off = ap (λ (q : StreamAt). q.off) is in
    let count_is : count_of page ≡ p.count = ap (λ (q : StreamAt). q.count) is in
    let within : count_of page ≤ page_size - stream_off page = ltb-false (stream_cap page) (count_of page) m.0 in
    record {
      long = eqb-true (length page) page_size (not-false (eqb (length page) page_size) l.0);
      off_is = off_is;
      count_is = count_is;
      counted = rw (off_is, count_is) at within;
      early = rw off_is at (stream_off_within page);
    }

-- ---- scanned

-- a page without a place is refused
pub scan_no : (page : List ℕ) {number : ℕ} → stream_place page ≡ refused number → page_scan page ≡ refused number
unfolding page_scan
scan_no page e = then_no (stream_place page) _ e

-- and else the stream's scan decides
pub scan_yes : (page : List ℕ) (p : StreamAt) → stream_place page ≡ accepted p → page_scan page ≡ scan p.count (drop p.off page)
unfolding page_scan
scan_yes page p e = then_yes (stream_place page) _ e

-- a page that scans has a place
pub scan_placed : (page : List ℕ) (s : Scan) → page_scan page ≡ accepted s
    → (p : StreamAt) × (stream_place page ≡ accepted p) × (scan p.count (drop p.off page) ≡ accepted s)
unfolding page_scan
scan_placed page s e =
    let got = went_on (stream_place page) _ e in
    (got.0, got.1, sym (scan_yes page got.0 got.1) ∙ e)

-- ---- read

same_test : (room n : ℕ) (a : Answer Scan) → ((s : Scan) → a ≡ accepted s → length s.numbers ≡ n)
    → and_then a (λ s. refuse_if (ltb room (length s.numbers)) list_too_short (accepted s))
    ≡ and_then a (λ s. refuse_if (ltb room n) list_too_short (accepted s))
unfolding and_then
same_test room n (accepted s) h = ap (λ (m : ℕ). refuse_if (ltb room m) list_too_short (accepted s)) (h s refl)
same_test room n (refused number) h = refl

-- a page without a place is refused
pub entries_no : (room : ℕ) (page : List ℕ) {number : ℕ} → stream_place page ≡ refused number → page_entries room page ≡ refused number
unfolding page_entries
entries_no room page e = then_no (page_scan page) _ (scan_no page e)

-- and else the stream's reading decides
pub entries_yes : (room : ℕ) (page : List ℕ) (p : StreamAt) → stream_place page ≡ accepted p
    → page_entries room page ≡ decode_stream room p.count (drop p.off page)
unfolding page_entries decode_stream
entries_yes room page p e =
    ap (λ (a : Answer Scan). and_then a (λ s. refuse_if (ltb room (length s.numbers)) list_too_short (accepted s))) (scan_yes page p e)
    ∙ same_test room p.count (scan p.count (drop p.off page)) (λ s f. (scan_accepted 0 p.count (drop p.off page) s f).counted)

-- a page that is read has the length of one
pub entries_long : (room : ℕ) (page : List ℕ) (s : Scan) → page_entries room page ≡ accepted s → length page ≡ page_size
unfolding page_entries
entries_long room page s e =
    let got = went_on (page_scan page) _ e in
    let placed = scan_placed page got.0 got.1 in
    (place_accepted page placed.0 placed.1).long

-- ---- the page behind

-- a link has 40 bits
pub link_below : (page : List ℕ) → AreBytes page → length page ≡ page_size → little_endian (part page 3 5) < 2 ^ 40
link_below page h long =
    let below = little_endian_below (part page 3 5) (part_bytes page 3 5 h) in
    let size : length (part page 3 5) ≡ 5 = length_part page 3 5 (omega arith) in
    rw size at below

-- the link, as it is read
pub link_read_lem : (page : List ℕ) → link_of page ≡ little_endian (part page 3 5)
unfolding field
link_read_lem page = refl

-- what reading tells, from the count, the offset and the padded numbers
pub read_of : (page : List ℕ) (s : Scan) (count next padded : ℕ) → length s.numbers ≡ count → next_off page ≡ next
    → page_padded page ≡ padded → page_read_of page s ≡ record { count = count; next = next; padded = padded }
unfolding page_read_of
read_of page s count next padded e f g = rw (e, f, g)

-- padded numbers, from the stream's place
pub padded_at : (page : List ℕ) (p : StreamAt) → stream_place page ≡ accepted p → padded_in p.count (drop p.off page) ≡ page_padded page
unfolding page_padded
padded_at page p e = let placed = place_accepted page p e in rw (placed.off_is, placed.count_is)
