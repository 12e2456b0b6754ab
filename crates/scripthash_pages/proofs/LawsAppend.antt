-- Appending a number to a page: the cases of the answer, and what the header's writes come to. Assumes nothing.
use Prim.Native.Nat.{ℕ, ◌+◌, ◌-◌, ◌%◌, ◌^◌, ◌≤◌, ◌<◌}
use mathlib.Core.Bool.{Bool, true, false, cond, not}
use mathlib.Core.List.{List}
use mathlib.Core.Option.{Option, none, some, some-injective}
use mathlib.Core.Path.{◌≡◌, refl, sym, ap, ◌∙◌}
use native.Mathlib.Omega.{arith}
use borrow.Author.Tests.{eq-eqb, ne_eqb, lt-ltb, le-ltb, ltb-false, le-leb, lt-leb, leb-false}
use lib.Dec.{leb, ltb, eqb}
use lib.ListN.{length, drop, get_or, set, length-drop, length-set}
use Rattle.error.specs.Refusal.{Answer, accepted, refused, page_length, offered_first_zero, offered_bit63, offered_not_rising}
use Rattle.error.proofs.LawsAnswer.{accepted_inj, passed, went_on, refuse_yes, refuse_no, then_yes, then_no}
use Rattle.buffer.specs.Bytes.{part, overwrite}
use Rattle.buffer.specs.LittleEndian.{little_endian, bytes_of}
use Rattle.buffer.proofs.LawsBytes.{overwrite_one, length_overwrite}
use Rattle.compact.specs.Uleb128.{uleb_len}
use Rattle.scripthash_layout.specs.Sizes.{page_size}
use Rattle.scripthash_stream.specs.Stream.{Scan}
use Rattle.scripthash_stream.proofs.LawsScan.{scan_accepted}
use Rattle.scripthash_fields.specs.Page.{field, set_field, version_of, count_of, names_extent, stream_off, stream_cap}
use Rattle.scripthash_fields.proofs.LawsFields.{stream_off_within}
use Rattle.scripthash_pages.specs.Entries.{page_scan, last_of, Spot, spot_behind, append_spot, one_more, with_appended, after_append}
use Rattle.scripthash_pages.proofs.LawsEntries.{version_byte, place_accepted, scan_placed}

-- ---- the header

-- The version of a page that has a number.
abbrev pub kept_by : ℕ → ℕ
kept_by v = cond (eqb v 2) 2 1

abbrev pub either_of : ℕ → ℕ → Bool → ℕ
either_of x y b = cond b x y

-- in version 2, and in another
pub kept_extent : (v : ℕ) → v ≡ 2 → kept_by v ≡ 2
kept_extent v e = ap (either_of 2 1) (eq-eqb v 2 e)

pub kept_delta : (v : ℕ) → (v ≡ 2 → ⊥) → kept_by v ≡ 1
kept_delta v h = ap (either_of 2 1) (ne_eqb v 2 h)

-- the count, as it is read
pub count_read : (page : List ℕ) → count_of page ≡ little_endian (part page 1 2)
unfolding field
count_read page = refl

byte : (b : Bool) → either_of 2 1 b % 256 ≡ either_of 2 1 b
byte true = refl
byte false = refl

-- the header's two writes count one number more
pub one_more_is : (page : List ℕ) (v n : ℕ) → 3 ≤ length page → v ≡ kept_by (get_or page 0 0) → n ≡ little_endian (part page 1 2)
    → overwrite (set page 0 v) 1 (bytes_of 2 (n + 1)) ≡ one_more page
unfolding one_more set_field field
one_more_is page v n h ve ne =
    let w = kept_by (version_of page) in
    let kept : v ≡ w = ve ∙ ap kept_by (sym (version_byte page (omega arith))) in
    let first : overwrite page 0 (bytes_of 1 w) ≡ set page 0 v =
    overwrite_one page 0 (w % 256) (omega arith) ∙ ap (set page 0) (byte (names_extent page) ∙ sym kept) in
    ap (λ (m : ℕ). overwrite (set page 0 v) 1 (bytes_of 2 (m + 1))) ne
    ∙ ap (λ (b : List ℕ). overwrite b 1 (bytes_of 2 (little_endian (part page 1 2) + 1))) (sym first)

-- they keep the page's length
pub one_more_length : (page : List ℕ) (v n : ℕ) → 3 ≤ length page → length (overwrite (set page 0 v) 1 (bytes_of 2 n)) ≡ length page
one_more_length page v n h =
    let long = length-set page 0 v in
    length_overwrite (set page 0 v) 1 (bytes_of 2 n) (omega arith) ∙ long

-- and so does the page that counts one more
pub length_one_more : (page : List ℕ) → 3 ≤ length page → length (one_more page) ≡ length page
length_one_more page h =
    ap length (sym (one_more_is page (kept_by (get_or page 0 0)) (little_endian (part page 1 2)) h refl refl))
    ∙ one_more_length page (kept_by (get_or page 0 0)) (little_endian (part page 1 2) + 1) h

-- ---- the answer

module _ (page : List ℕ) (fk : ℕ) where
  -- a buffer of another length is refused
  pub spot_length : (length page ≡ page_size → ⊥) → append_spot page fk ≡ refused page_length
  unfolding append_spot
  spot_length h = refuse_yes (not (eqb (length page) page_size)) _ _ (ap not (ne_eqb (length page) page_size h))

  -- 0 is refused
  pub spot_zero : length page ≡ page_size → fk ≡ 0 → append_spot page fk ≡ refused offered_first_zero
  unfolding append_spot
  spot_zero long e =
      refuse_no (not (eqb (length page) page_size)) _ _ (ap not (eq-eqb (length page) page_size long))
      ∙ refuse_yes (eqb fk 0) _ _ (eq-eqb fk 0 e)

  -- and so is a number with bit 63
  pub spot_flag : length page ≡ page_size → (fk ≡ 0 → ⊥) → 2 ^ 63 ≤ fk → append_spot page fk ≡ refused offered_bit63
  unfolding append_spot
  spot_flag long some-fk h =
      refuse_no (not (eqb (length page) page_size)) _ _ (ap not (eq-eqb (length page) page_size long))
      ∙ refuse_no (eqb fk 0) _ _ (ne_eqb fk 0 some-fk)
      ∙ refuse_yes (leb (2 ^ 63) fk) _ _ (le-leb (2 ^ 63) fk h)

-- any other number is offered to the page's stream
module _ (page : List ℕ) (fk : ℕ) (long : length page ≡ page_size) (some-fk : fk ≡ 0 → ⊥) (small : fk < 2 ^ 63) where
  -- a page that doesn't scan is refused
  pub spot_stop : {number : ℕ} → page_scan page ≡ refused number → append_spot page fk ≡ refused number
  unfolding append_spot
  spot_stop e =
      refuse_no (not (eqb (length page) page_size)) _ _ (ap not (eq-eqb (length page) page_size long))
      ∙ refuse_no (eqb fk 0) _ _ (ne_eqb fk 0 some-fk)
      ∙ refuse_no (leb (2 ^ 63) fk) _ _ (lt-leb (2 ^ 63) fk small) ∙ then_no (page_scan page) _ e

  -- a number that isn't above the last is refused
  pub spot_low : (s : Scan) → page_scan page ≡ accepted s → fk ≤ last_of s → append_spot page fk ≡ refused offered_not_rising
  unfolding append_spot
  spot_low s e h =
      refuse_no (not (eqb (length page) page_size)) _ _ (ap not (eq-eqb (length page) page_size long))
      ∙ refuse_no (eqb fk 0) _ _ (ne_eqb fk 0 some-fk)
      ∙ refuse_no (leb (2 ^ 63) fk) _ _ (lt-leb (2 ^ 63) fk small) ∙ then_yes (page_scan page) _ e
      ∙ refuse_yes (leb fk (last_of s)) _ _ (le-leb fk (last_of s) h)

  -- and of one that is, the room decides
  pub spot_high : (s : Scan) → page_scan page ≡ accepted s → last_of s < fk → append_spot page fk ≡ accepted (spot_behind page fk s)
  unfolding append_spot
  spot_high s e h =
      refuse_no (not (eqb (length page) page_size)) _ _ (ap not (eq-eqb (length page) page_size long))
      ∙ refuse_no (eqb fk 0) _ _ (ne_eqb fk 0 some-fk)
      ∙ refuse_no (leb (2 ^ 63) fk) _ _ (lt-leb (2 ^ 63) fk small) ∙ then_yes (page_scan page) _ e
      ∙ refuse_no (leb fk (last_of s)) _ _ (lt-leb fk (last_of s) h)

-- What is known of a page that scans: its stream ends within it, and its count is small.
pub record Ends (page : List ℕ) (s : Scan) : Type 0 where
  pub long : length page ≡ page_size
  pub within : stream_off page + s.taken ≤ page_size
  pub few : count_of page ≤ page_size

pub scan_ends : (page : List ℕ) (s : Scan) → page_scan page ≡ accepted s → Ends page s
scan_ends page s e =
    let found = scan_placed page s e in
    let p = found.0 in
    let placed = place_accepted page p found.1 in
    let inside = (scan_accepted 0 p.count (drop p.off page) s found.2).within in
    record {
      long = placed.long;
      within = omega (arith, inside, length-drop p.off page, placed.long, placed.off_is, placed.early);
      few = omega (arith, placed.count_is, placed.counted);
    }

abbrev spot_if : Bool → ℕ → ℕ → Option Spot
spot_if b at d = cond b none (some (record { at = at; difference = d }))

-- a form behind the stream that passes the page's end, and one that doesn't
module _ (page : List ℕ) (fk : ℕ) (s : Scan) (at d : ℕ) (at_is : at ≡ stream_off page + s.taken) (d-is : d ≡ fk - last_of s) where
  pub spot_full : page_size < at + uleb_len d → spot_behind page fk s ≡ none
  unfolding spot_behind
  spot_full h =
      ap (λ (b : Bool). spot_if b (stream_off page + s.taken) (fk - last_of s))
      (lt-ltb (stream_cap page) (s.taken + uleb_len (fk - last_of s)) (omega (arith, ap uleb_len d-is, stream_off_within page)))

  pub spot_room : at + uleb_len d ≤ page_size → spot_behind page fk s ≡ some (record { at = at; difference = d })
  unfolding spot_behind
  spot_room h =
      ap (λ (b : Bool). spot_if b (stream_off page + s.taken) (fk - last_of s))
      (le-ltb (stream_cap page) (s.taken + uleb_len (fk - last_of s)) (omega (arith, ap uleb_len d-is, stream_off_within page)))
      ∙ ap (λ (x : ℕ). spot_if false x (fk - last_of s)) (sym at_is) ∙ ap (λ (x : ℕ). spot_if false at x) (sym d-is)

spot_if_lem : (b : Bool) (x d : ℕ) (w : Spot) → spot_if b x d ≡ some w → (b ≡ false) × (x ≡ w.at) × (d ≡ w.difference)
spot_if_lem true x d w e = let z : ◌≡◌ {A = ℕ} 0 1 = cc in absurd (omega arith)
spot_if_lem false x d w e =
    let v : Spot = record { at = x; difference = d } in
    let same : v ≡ w = some-injective v w e in
    (refl, ap (λ (u : Spot). u.at) same, ap (λ (u : Spot). u.difference) same)

-- What is known of the spot of a number that can be appended.
pub record Roomy (page : List ℕ) (fk : ℕ) (w : Spot) : Type 0 where
  pub scanned : Scan
  pub is : page_scan page ≡ accepted scanned
  pub above : last_of scanned < fk
  pub below : fk < 2 ^ 63
  pub at_is : stream_off page + scanned.taken ≡ w.at
  pub difference_is : fk - last_of scanned ≡ w.difference
  pub fits : w.at + uleb_len w.difference ≤ page_size

pub spot_accepted : (page : List ℕ) (fk : ℕ) (w : Spot) → append_spot page fk ≡ accepted (some w) → Roomy page fk w
unfolding append_spot spot_behind
spot_accepted page fk w e =
    let l = passed (not (eqb (length page) page_size)) _ _ e in
    let z = passed (eqb fk 0) _ _ l.1 in
    let f = passed (leb (2 ^ 63) fk) _ _ z.1 in
    let g = went_on (page_scan page) _ f.1 in
    let s = g.0 in
    let r = passed (leb fk (last_of s)) _ _ g.2 in
    let o = spot_if_lem (ltb (stream_cap page) (s.taken + uleb_len (fk - last_of s))) (stream_off page + s.taken) (fk - last_of s) w
    (accepted_inj r.1) in
    record {
      scanned = s;
      is = g.1;
      above = leb-false fk (last_of s) r.0;
      below = leb-false (2 ^ 63) fk f.0;
      at_is = o.1;
      difference_is = o.2;
      fits = omega (
        arith,
        ltb-false (stream_cap page) (s.taken + uleb_len (fk - last_of s)) o.0,
        ap uleb_len o.2,
        o.1,
        stream_off_within page,
      );
    }

-- ---- the page afterwards

pub after_append_no : (page : List ℕ) (a : Answer (Option Spot)) {number : ℕ} → a ≡ refused number → after_append page a ≡ page
unfolding after_append
after_append_no page a e = rw e

pub after_append_full : (page : List ℕ) (a : Answer (Option Spot)) → a ≡ accepted none → after_append page a ≡ page
unfolding after_append
after_append_full page a e = rw e

pub after_append_yes : (page : List ℕ) (a : Answer (Option Spot)) (w : Spot) → a ≡ accepted (some w)
    → after_append page a ≡ with_appended page w
unfolding after_append
after_append_yes page a w e = rw e
