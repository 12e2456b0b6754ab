-- What a page reads as once a number is appended: its numbers with the new one, one more, and the rest of its header as it was. Assumes
-- nothing.
use Prim.Native.Nat.{ℕ, zero, suc, ◌+◌, ◌-◌, ◌^◌, ◌≤◌, ◌<◌}
use mathlib.Core.Bool.{Bool, true, false}
use mathlib.Core.List.{List, [], ◌∷◌, ◌++◌, append_assoc, append-nil}
use mathlib.Core.Path.{◌≡◌, refl, sym, ap, ◌∙◌}
use native.Mathlib.Nat.{add-zero, zero-add}
use native.Mathlib.Numerals.{add-one}
use native.Mathlib.Omega.{arith}
use lib.ListN.{length, take, drop}
use lib.Seq.{take-add, drop_at, length-take-le}
use Rattle.error.specs.Refusal.{accepted}
use Rattle.error.proofs.LawsAnswer.{accepted_inj}
use Rattle.buffer.specs.Bytes.{part, overwrite}
use Rattle.buffer.specs.LittleEndian.{little_endian, bytes_of}
use Rattle.buffer.proofs.LawsBytes.{length_overwrite, part_to_end}
use Rattle.buffer.proofs.LawsOverwrite.{part_before, part_after, part_written}
use Rattle.buffer.proofs.LawsLittleEndian.{little_endian_bytes_of}
use Rattle.compact.specs.Uleb128.{Reading, uleb_len, shortest}
use Rattle.compact.proofs.LawsLength.{len_pos, length_shortest}
use Rattle.scripthash_layout.specs.Sizes.{page_size}
use Rattle.scripthash_stream.specs.Stream.{Rising, last_from, stream_from, stream_len_from, next_number, Scan, scan_from, scan}
use Rattle.scripthash_stream.proofs.LawsScan.{next_accepted, next_same, scan_step, scan_cons, scan_accepted}
use Rattle.scripthash_stream.proofs.LawsStream.{scan_stream}
use Rattle.scripthash_stream.proofs.LawsPadded.{padded_more}
use Rattle.scripthash_fields.specs.Page.{field, set_field, version_of, count_of, names_extent, stream_off}
use Rattle.scripthash_pages.specs.Entries.{StreamAt, stream_place, page_scan, page_padded, last_of, Spot, one_more, with_appended}
use Rattle.scripthash_pages.proofs.LawsEntries.{version_byte, place_by, place_by_lem, extent_place, delta_place, place_accepted}
use Rattle.scripthash_pages.proofs.LawsEntries.{scan_placed, scan_yes, padded_at}
use Rattle.scripthash_pages.proofs.LawsAppend.{either_of, count_read, length_one_more, Roomy, scan_ends}

-- ---- streams

-- each number takes a byte or more
pub count_least : (prev : ℕ) (ns : List ℕ) → length ns ≤ stream_len_from prev ns
unfolding stream_len_from
count_least prev [] = omega arith
count_least prev (n ∷ ns) = omega (arith, count_least n ns, len_pos (n - prev))

-- The bytes of a scanned stream with another number's form behind them, and the scan that has that number too.
abbrev grown : ℕ → List ℕ → Scan → ℕ → List ℕ → List ℕ
grown prev bs s n rest = take s.taken bs ++ (shortest (n - last_from prev s.numbers) ++ rest)

abbrev pub with_last : ℕ → Scan → ℕ → Scan
with_last prev s n = record { numbers = s.numbers ++ (n ∷ []); taken = s.taken + uleb_len (n - last_from prev s.numbers) }

snoc_none : (prev : ℕ) (bs rest : List ℕ) (n : ℕ) → prev < n → n < 2 ^ 63
    → scan_from prev 1 (shortest (n - prev) ++ rest) ≡ accepted (record { numbers = n ∷ []; taken = 0 + uleb_len (n - prev) })
unfolding Rising stream_from stream_len_from
snoc_none prev bs rest n h k =
    let from = scan_stream prev (n ∷ []) rest (h, k, tt) in
    rw zero-add (rw (append-nil (shortest (n - prev)), add-zero (uleb_len (n - prev))) at from)

snoc_step : (prev k : ℕ) (bs rest : List ℕ) (n : ℕ) (r : Reading) (t : Scan) → next_number prev bs ≡ accepted r
    → scan_from r.value (suc k) (grown r.value (drop r.len bs) t n rest) ≡ accepted (with_last r.value t n)
    → scan_from prev (suc (suc k)) (grown prev bs (record { numbers = r.value ∷ t.numbers; taken = r.len + t.taken }) n rest)
    ≡ accepted (with_last prev (record { numbers = r.value ∷ t.numbers; taken = r.len + t.taken }) n)
unfolding last_from
snoc_step prev k bs rest n r t next ih =
    let l = r.len in
    let tail = grown r.value (drop l bs) t n rest in
    let known = next_accepted prev bs r next in
    let split : take (l + t.taken) bs ++ (shortest (n - last_from r.value t.numbers) ++ rest) ≡ take l bs ++ tail =
    rw (take-add l t.taken bs, append_assoc) in
    let after : drop l (take l bs ++ tail) ≡ tail = drop_at (take l bs) tail l (length-take-le l bs known.len_within) in
    let sum : l + (t.taken + uleb_len (n - last_from r.value t.numbers))
    ≡ l + t.taken + uleb_len (n - last_from r.value t.numbers) = omega arith in
    ap (scan_from prev (suc (suc k))) split
    ∙ scan_cons prev (suc k) (take l bs ++ tail) r (with_last r.value t n) (next_same prev bs tail r next)
    (ap (scan_from r.value (suc k)) after ∙ ih)
    ∙ ap (λ (m : ℕ). accepted (record { numbers = r.value ∷ (t.numbers ++ (n ∷ [])); taken = m })) sum

-- a stream with another number's form behind it scans as its numbers and that one
pub scan_snoc : (prev k : ℕ) (bs rest : List ℕ) (s : Scan) (n : ℕ) → scan_from prev k bs ≡ accepted s → last_from prev s.numbers < n
    → n < 2 ^ 63
    → scan_from prev (suc k) (take s.taken bs ++ (shortest (n - last_from prev s.numbers) ++ rest)) ≡ accepted (with_last prev s n)
unfolding scan_from last_from
scan_snoc prev zero bs rest s n e h b =
    let is = sym (accepted_inj e) in
    let h0 : prev < n = rw is at h in
    rw is (snoc_none prev bs rest n h0 b)
scan_snoc prev (suc k) bs rest s n e h b =
    let w = scan_step prev k bs s e in
    let h0 : last_from w.first.value w.rest.numbers < n = rw w.whole at h in
    rw w.whole (snoc_step prev k bs rest n w.first w.rest w.next
    (scan_snoc w.first.value k (drop w.first.len bs) rest w.rest n w.more h0 b))

-- ---- pages

-- what follows a write stays
drop_past : (b : List ℕ) (o : ℕ) (ys : List ℕ) → o + length ys ≤ length b → (k : ℕ) → o + length ys ≤ k
    → drop k (overwrite b o ys) ≡ drop k b
unfolding part
drop_past b o ys fits k h =
    sym (part_to_end (overwrite b o ys) k)
    ∙ ap (λ (m : ℕ). take (m - k) (drop k (overwrite b o ys))) (length_overwrite b o ys fits) ∙ part_after b o ys fits k (length b - k) h
    ∙ part_to_end b k

pub kept_place : (b : Bool) (m : ℕ) → m ≤ page_size - either_of 24 8 b
    → place_by (either_of 2 1 b) m ≡ accepted (record { off = either_of 24 8 b; count = m })
kept_place true m h = extent_place m h
kept_place false m h = delta_place m h

kept_small : (b : Bool) → either_of 2 1 b < 256 ^ 1
kept_small true = omega arith
kept_small false = omega arith

pub off_late : (b : Bool) → 8 ≤ either_of 24 8 b
off_late true = omega arith
off_late false = omega arith

module _ (page : List ℕ) (fk : ℕ) (w : Spot) (r : Roomy page fk w) where
  abbrev s : Scan
  s = r.scanned

  abbrev version : ℕ
  version = either_of 2 1 (names_extent page)

  abbrev first : List ℕ
  first = overwrite page 0 (bytes_of 1 version)

  abbrev more : List ℕ
  more = bytes_of 2 (count_of page + 1)

  long : length page ≡ page_size
  long = (scan_ends page s r.is).long

  late : 8 ≤ w.at
  late = omega (arith, r.at_is, off_late (names_extent page))

  first_fits : 0 + length (bytes_of 1 version) ≤ length page
  first_fits = omega (arith, long)

  first_long : length first ≡ page_size
  first_long = length_overwrite page 0 (bytes_of 1 version) first_fits ∙ long

  more_fits : 1 + length more ≤ length first
  more_fits = omega (arith, first_long)

  counted : one_more page ≡ overwrite first 1 more
  unfolding one_more set_field
  counted = refl

  counted_long : length (one_more page) ≡ page_size
  counted_long = length_one_more page (omega (arith, long)) ∙ long

  form_fits : w.at + length (shortest w.difference) ≤ length (one_more page)
  form_fits = omega (arith, r.fits, length_shortest w.difference, counted_long)

  -- a part of the header stays as it is counted
  header : (o n : ℕ) → o + n ≤ 8 → part (with_appended page w) o n ≡ part (overwrite first 1 more) o n
  unfolding with_appended
  header o n h = part_before (one_more page) w.at (shortest w.difference) form_fits o n (omega (arith, late))
      ∙ ap (λ (b : List ℕ). part b o n) counted

  pub appended_long : length (with_appended page w) ≡ page_size
  unfolding with_appended
  appended_long = length_overwrite (one_more page) w.at (shortest w.difference) form_fits ∙ counted_long

  -- the count is one more
  pub appended_count : count_of (with_appended page w) ≡ count_of page + 1
  appended_count =
      let few = (scan_ends page s r.is).few in
      count_read (with_appended page w) ∙ ap little_endian (header 1 2 (omega arith) ∙ part_written first 1 more more_fits)
      ∙ little_endian_bytes_of 2 (count_of page + 1) (omega arith)

  -- the version is 2 as it was, or 1
  pub appended_version : version_of (with_appended page w) ≡ version
  unfolding field
  appended_version =
      ap little_endian (header 0 1 (omega arith) ∙ part_before first 1 more more_fits 0 1 (omega arith)
      ∙ part_written page 0 (bytes_of 1 version) first_fits)
      ∙ little_endian_bytes_of 1 version (kept_small (names_extent page))

  -- the header from the link on, with the extent where there is one, stays
  pub appended_header : (o n : ℕ) → 3 ≤ o → o + n ≤ stream_off page → part (with_appended page w) o n ≡ part page o n
  unfolding with_appended
  appended_header o n h k =
      part_before (one_more page) w.at (shortest w.difference) form_fits o n (omega (arith, r.at_is))
      ∙ ap (λ (b : List ℕ). part b o n) counted
      ∙ part_after first 1 more more_fits o n (omega arith) ∙ part_after page 0 (bytes_of 1 version) first_fits o n (omega arith)

  abbrev place : StreamAt
  place = record { off = stream_off page; count = count_of page + 1 }

  known : scan (count_of page) (drop (stream_off page) page) ≡ accepted s
  known =
      let found = scan_placed page s r.is in
      let p = found.0 in
      let placed = place_accepted page p found.1 in
      ap (λ (o : ℕ). scan (count_of page) (drop o page)) placed.off_is ∙ ap (λ (m : ℕ). scan m (drop p.off page)) placed.count_is
      ∙ found.2

  appended_place : stream_place (with_appended page w) ≡ accepted place
  appended_place =
      let scanned = scan_accepted 0 (count_of page) (drop (stream_off page) page) s known in
      let least = count_least 0 s.numbers in
      let room : count_of page + 1 ≤ page_size - either_of 24 8 (names_extent page) =
      omega (arith, scanned.counted, scanned.at_least, least, r.fits, r.at_is, len_pos w.difference) in
      place_by_lem (with_appended page w) (version_of (with_appended page w)) (count_of (with_appended page w)) appended_long
      (sym (version_byte (with_appended page w) (omega (arith, appended_long)))) (count_read (with_appended page w))
      ∙ ap (λ (v : ℕ). place_by v (count_of (with_appended page w))) appended_version ∙ ap (place_by version) appended_count
      ∙ kept_place (names_extent page) (count_of page + 1) room

  behind : drop (stream_off page) (one_more page) ≡ drop (stream_off page) page
  behind =
      let far = off_late (names_extent page) in
      ap (drop (stream_off page)) counted ∙ drop_past first 1 more more_fits (stream_off page) (omega arith)
      ∙ drop_past page 0 (bytes_of 1 version) first_fits (stream_off page) (omega arith)

  abbrev rest : List ℕ
  rest = drop (w.at + length (shortest w.difference)) (one_more page)

  appended_stream : drop (stream_off page) (with_appended page w) ≡ take s.taken (drop (stream_off page) page)
      ++ (shortest (fk - last_of s) ++ rest)
  unfolding with_appended overwrite
  appended_stream =
      let tail = shortest w.difference ++ rest in
      let front : take w.at (one_more page) ≡ take (stream_off page) (one_more page) ++ take s.taken (drop (stream_off page) page) =
      ap (λ (o : ℕ). take o (one_more page)) (sym r.at_is) ∙ take-add (stream_off page) s.taken (one_more page)
      ∙ ap (λ (b : List ℕ). take (stream_off page) (one_more page) ++ take s.taken b) behind in
      ap (λ (b : List ℕ). drop (stream_off page) (b ++ tail)) front
      ∙ ap (drop (stream_off page)) (append_assoc (take (stream_off page) (one_more page)) (take s.taken (drop (stream_off page) page)) tail)
      ∙ drop_at (take (stream_off page) (one_more page)) (take s.taken (drop (stream_off page) page) ++ tail) (stream_off page)
      (length-take-le (stream_off page) (one_more page) (omega (arith, counted_long, r.at_is, r.fits)))
      ∙ ap (λ (d : ℕ). take s.taken (drop (stream_off page) page) ++ (shortest d ++ rest)) (sym r.difference_is)

  -- the page reads as its numbers and the new one
  pub appended_scan : page_scan (with_appended page w) ≡ accepted (with_last 0 s fk)
  appended_scan =
      scan_yes (with_appended page w) place appended_place
      ∙ ap (λ (m : ℕ). scan m (drop (stream_off page) (with_appended page w))) (add-one (count_of page))
      ∙ ap (scan (suc (count_of page))) appended_stream
      ∙ scan_snoc 0 (count_of page) (drop (stream_off page) page) rest s fk known r.above r.below

  -- and the new one isn't padded
  pub appended_padded : page_padded (with_appended page w) ≡ page_padded page
  unfolding page_padded
  appended_padded =
      let after = with_appended page w in
      sym (padded_at after place appended_place)
      ∙ padded_more (count_of page) (count_of page + 1) (fk - last_of s) (drop (stream_off page) page) (drop (stream_off page) after) rest s
      (with_last 0 s fk) (omega (arith, r.above)) known (sym (scan_yes after place appended_place) ∙ appended_scan) refl appended_stream
