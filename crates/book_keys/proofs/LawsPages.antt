-- A key's pages, by their bytes: the header of the last, the streams, and where they stand. Assumes nothing.
use Prim.Native.Nat.{ℕ, zero, suc, ◌+◌, ◌-◌, ◌^◌, ◌≤◌, ◌<◌}
use mathlib.Core.Bool.{Bool, true, false, not, ◌&&◌}
use mathlib.Core.List.{List, [], ◌∷◌}
use mathlib.Core.Path.{◌≡◌, refl, sym, ap, ◌∙◌}
use native.Mathlib.Nat.{sub-zero}
use native.Mathlib.Omega.{arith}
use borrow.Author.Tests.{eqb-true, not-false, eq-eqb, ne_eqb, lt-ltb, le-ltb}
use lib.Dec.{ltb}
use lib.ListN.{length, drop, get_or, length-drop}
use Rattle.error.specs.Refusal.{Answer, accepted, refused, refuse_if, and_then, key_unsound}
use Rattle.error.proofs.LawsAnswer.{accepted_inj, refused≢accepted, passed, refuse_no, then_yes, then_no, went_on}
use Rattle.buffer.specs.Bytes.{part}
use Rattle.buffer.specs.LittleEndian.{little_endian}
use Rattle.compact.specs.Uleb128.{read_uleb}
use Rattle.scripthash_layout.specs.Sizes.{page_class, page_size}
use Rattle.scripthash_stream.specs.Stream.{Rising, Scan, scan_from, scan, padded_in, last_from}
use Rattle.scripthash_stream.proofs.LawsScan.{next_accepted, scan_step, scan_accepted}
use Rattle.scripthash_stream.proofs.LawsPadded.{padded_most}
use Rattle.scripthash_fields.specs.Page.{field, version_of, count_of, link_of, stream_off, stream_of, extent_base_of, extent_count_of, names_extent}
use Rattle.scripthash_fields.specs.Page.{is_last_link, link_offset, extent_named}
use Rattle.scripthash_fields.specs.Fields.{first_off}
use Rattle.scripthash_fields.proofs.LawsPage.{page_yes}
use Rattle.scripthash_pages.specs.Entries.{page_scan, page_entries, page_padded}
use Rattle.scripthash_pages.proofs.LawsEntries.{place_accepted, scan_placed}
use Rattle.scripthash_free.specs.FreeList.{is_block}
use Rattle.scripthash_free.proofs.LawsBlock.{both, block_stands}
use Rattle.book_keys.specs.Keys.{sure, go_on, good_extent, page_at, link_scan, Last, last_at, Tail, tail_at, Ground}
use Rattle.book_keys.specs.Steps.{sound_last, link_read, last_of_page, last_read, tail_read, page_into}
use Rattle.book_keys.proofs.LawsSound.{sure_yes, sure_no, was_sure, goes_on, Going, going, last_sound, first_by_last}

-- ---- the header of the last page

-- the number in some bytes of a page, as it is read
pub field_read : (page : List ℕ) (o k : ℕ) → little_endian (part page o k) ≡ field page o k
unfolding field
field_read page o k = refl

module _ (page : List ℕ) (long : length page ≡ page_size) where
  -- the first offset is told of a page with LAST, and of no other
  pub first_told : (off : ℕ) → first_off page ≡ accepted off → (is_last_link (link_of page) ≡ true) × (link_offset (link_of page) ≡ off)
  unfolding first_off
  first_told off e =
      let w = passed (not (is_last_link (link_of page))) _ _ (sym (page_yes page _ long) ∙ e) in
      (not-false _ w.0, accepted_inj w.1)

  pub first_untold : {number : ℕ} → first_off page ≡ refused number → is_last_link (link_of page) ≡ false
  unfolding first_off
  first_untold e = told (is_last_link (link_of page)) _ (sym (page_yes page _ long) ∙ e)
    where
      told : (t : Bool) (n : ℕ) {m : ℕ} → refuse_if (not t) n (accepted (link_offset (link_of page))) ≡ refused m → t ≡ false
      told true n e = absurd (refused≢accepted (sym (sym (refuse_no false n _ refl) ∙ e)))
      told false n e = refl

module _ (page : List ℕ) where
  -- another version than 2
  pub last_version : (version_of page ≡ 2 → ⊥) → last_read page ≡ refused key_unsound
  unfolding last_read
  last_version h = sure_no _ _ (rw (ne_eqb (version_of page) 2 h))

  module _ (extent : version_of page ≡ 2) where
    -- no LAST
    pub last_none : is_last_link (link_of page) ≡ false → last_read page ≡ refused key_unsound
    unfolding last_read
    last_none e = sure_no _ _ (rw (eq-eqb (version_of page) 2 extent, e))

    -- and else the extent decides
    pub last_extent : is_last_link (link_of page) ≡ true
        → last_read page ≡ and_then (extent_named (extent_base_of page) (extent_count_of page)) (λ e. accepted (last_of_page page))
    unfolding last_read good_extent
    last_extent e = sure_yes _ _ (rw (eq-eqb (version_of page) 2 extent, e))

-- ---- streams

-- What is known of a page that was scanned: its length, how many numbers its header counts, and the numbers.
pub record PageRead (page : List ℕ) (c : Scan) : Type 0 where
  pub long : length page ≡ page_size
  pub counted : length c.numbers ≡ count_of page
  pub count_fits : count_of page ≤ page_size
  pub rising : Rising (2 ^ 63) 0 c.numbers
  pub taken_fits : stream_off page + c.taken ≤ page_size
  pub scanned : scan (count_of page) (stream_of page) ≡ accepted c

pub page_read : (page : List ℕ) (c : Scan) → page_scan page ≡ accepted c → PageRead page c
page_read page c e =
    let w = scan_placed page c e in
    let p = place_accepted page w.0 w.1 in
    let k = scan_accepted 0 w.0.count (drop w.0.off page) c w.2 in
    record {
      long = p.long;
      counted = k.counted ∙ sym p.count_is;
      count_fits = omega (arith, p.counted, p.count_is);
      rising = k.rising;
      taken_fits = omega (arith, k.within, length-drop w.0.off page, p.off_is, p.early, p.long);
      scanned = rw (p.count_is, p.off_is) w.2;
    }

-- what is counted over the bytes that a page's stream takes
pub page_counted : (page bs : List ℕ) (n taken r : ℕ) → n ≡ count_of page → bs ≡ stream_of page
    → ((s : Scan) → scan n bs ≡ accepted s → s.taken ≡ taken → r ≡ padded_in n bs)
    → (c : Scan) → page_scan page ≡ accepted c → c.taken ≡ taken → r ≡ page_padded page
unfolding page_padded
page_counted page bs n taken r e f told c is t =
    told c (ap (λ (k : ℕ). scan k bs) e ∙ ap (scan (count_of page)) f ∙ (page_read page c is).scanned) t
    ∙ ap (λ (k : ℕ). padded_in k bs) e ∙ ap (padded_in (count_of page)) f

-- no more numbers of a page are padded than it counts
pub page_padded_most : (page : List ℕ) → page_padded page ≤ count_of page
unfolding page_padded
page_padded_most page = padded_most (count_of page) (stream_of page)

-- the first number of a stream is its first form
scan_first : (k : ℕ) (bs : List ℕ) (c : Scan) → scan k bs ≡ accepted c → 0 < length c.numbers
    → (len : ℕ) × (read_uleb bs ≡ accepted (record { value = get_or c.numbers 0 0; len = len }))
unfolding scan_from
scan_first zero bs c e h = let none : c ≡ record { numbers = []; taken = 0 } = sym (accepted_inj e) in
    absurd (omega (arith, ap (λ (x : Scan). length x.numbers) none))
scan_first (suc k) bs c e h =
    let w = scan_step 0 k bs c e in
    let n = next_accepted 0 bs w.first w.next in
    let value : w.first.value - 0 ≡ get_or c.numbers 0 0 =
    sub-zero w.first.value ∙ ap (λ (x : Scan). get_or x.numbers 0 0) (sym w.whole) in
    (w.first.len, n.read ∙ ap (λ (v : ℕ). accepted (record { value = v; len = w.first.len })) value)

pub page_first : (page : List ℕ) (c : Scan) → page_scan page ≡ accepted c → 0 < length c.numbers
    → (len : ℕ) × (read_uleb (stream_of page) ≡ accepted (record { value = get_or c.numbers 0 0; len = len }))
page_first page c e h = scan_first (count_of page) (stream_of page) c (page_read page c e).scanned h

-- a sound last number tells that there are some
pub some_last : (ns : List ℕ) → sound_last (last_from 0 ns) ≡ true → 0 < length ns
unfolding sound_last last_from
some_last [] e = let z : ◌≡◌ {A = ℕ} 0 1 = cc in absurd (omega arith)
some_last (n ∷ ns) e = omega arith

-- behind no number, the last number decides
pub link_by_last : (page : List ℕ) → link_read 0 page ≡ last_sound (page_scan page)
unfolding link_read
link_by_last page = first_by_last (page_scan page) (λ c e. (page_read page c e).rising)

module _ (page : List ℕ) (prev : ℕ) where
  -- a page that doesn't scan
  pub link_no : {number : ℕ} → page_scan page ≡ refused number → link_read prev page ≡ refused number
  unfolding link_read
  link_no e = then_no (page_scan page) _ e

  module _ (c : Scan) (is : page_scan page ≡ accepted c) where
    by_last : link_read prev page ≡ sure (sound_last (last_from 0 c.numbers) && ltb prev (get_or c.numbers 0 0)) (accepted c)
    unfolding link_read
    by_last = then_yes (page_scan page) _ is ∙ ap (λ (t : Bool). sure t (accepted c))
        (goes_on prev c.numbers (page_read page c is).rising)

    -- a last number that can't be
    pub link_unsound : sound_last (last_from 0 c.numbers) ≡ false → link_read prev page ≡ refused key_unsound
    link_unsound e = by_last ∙ sure_no _ _ (ap (λ (t : Bool). t && ltb prev (get_or c.numbers 0 0)) e)

    -- a first number that isn't above the one before
    pub link_low : sound_last (last_from 0 c.numbers) ≡ true → get_or c.numbers 0 0 ≤ prev → link_read prev page ≡ refused key_unsound
    link_low e h = by_last ∙ sure_no _ _ (rw (e, le-ltb prev (get_or c.numbers 0 0) h))

    -- and one that is
    pub link_yes : sound_last (last_from 0 c.numbers) ≡ true → prev < get_or c.numbers 0 0 → link_read prev page ≡ accepted c
    link_yes e h = by_last ∙ sure_yes _ _ (rw (e, lt-ltb prev (get_or c.numbers 0 0) h))

-- ---- the last page as an append looks at it

module _ (page : List ℕ) where
  -- no good header
  pub tail_no : {number : ℕ} → last_read page ≡ refused number → tail_read page ≡ refused number
  unfolding tail_read
  tail_no e = then_no (last_read page) _ e

  module _ (h : Last) (is : last_read page ≡ accepted h) where
    -- and else the stream decides
    pub tail_by_last : tail_read page ≡ and_then (last_sound (page_scan page)) (λ c. accepted (record { scan = c; last = h }))
    unfolding tail_read
    tail_by_last =
        then_yes (last_read page) _ is
        ∙ ap (λ (a : Answer Scan). and_then a (λ c. accepted (record { scan = c; last = h }))) (link_by_last page)

-- ---- where pages stand

module _ (s : Ground) (off : ℕ) where
  -- a page that can't stand
  pub last_off : is_block page_class off s.mark ≡ false → last_at s off ≡ refused key_unsound
  unfolding last_at
  last_off e = sure_no (is_block page_class off s.mark) _ e

  pub link_off : (prev : ℕ) → is_block page_class off s.mark ≡ false → link_scan s prev off ≡ refused key_unsound
  unfolding link_scan
  link_off prev e = sure_no (is_block page_class off s.mark) _ e

  pub tail_off : is_block page_class off s.mark ≡ false → tail_at s off ≡ refused key_unsound
  unfolding tail_at
  tail_off e = then_no (last_at s off) _ (last_off e)

  module _ (stands : is_block page_class off s.mark ≡ true) where
    -- and one that can is read by its bytes
    pub last_on : last_at s off ≡ last_read (page_at s off)
    unfolding last_at last_read
    last_on = sure_yes (is_block page_class off s.mark) _ stands

    pub link_on : (prev : ℕ) → link_scan s prev off ≡ link_read prev (page_at s off)
    unfolding link_scan link_read
    link_on prev = sure_yes (is_block page_class off s.mark) _ stands

    pub tail_on : tail_at s off ≡ tail_read (page_at s off)
    unfolding tail_at tail_read
    tail_on = rw (last_on, link_on 0)

    -- it lies in a body that the mark doesn't pass
    pub page_inside : (body : List ℕ) → s.mark ≤ length body → off + page_size ≤ length body
    page_inside body h = omega (arith, (block_stands page_class off s.mark stands).ends)

-- reading a page into a lent list: where it can't stand, and where it can
pub into_off : (room : ℕ) (s : Ground) (off : ℕ) → is_block page_class off s.mark ≡ false → page_into room s off ≡ refused key_unsound
unfolding page_into
into_off room s off e = sure_no (is_block page_class off s.mark) _ e

pub into_on : (room : ℕ) (s : Ground) (off : ℕ) → is_block page_class off s.mark ≡ true
    → page_into room s off ≡ page_entries room (page_at s off)
unfolding page_into
into_on room s off e = sure_yes (is_block page_class off s.mark) _ e

-- ---- what is known of sound ones

-- What is known of a page of a chain behind a number: where it stands, its bytes, and its numbers.
pub record SoundLink (s : Ground) (prev off : ℕ) (c : Scan) : Type 0 where
  pub stands : is_block page_class off s.mark ≡ true
  pub scanned : page_scan (page_at s off) ≡ accepted c
  pub read : PageRead (page_at s off) c
  pub going : Going prev c.numbers

pub link_sound : (s : Ground) (prev off : ℕ) (c : Scan) → link_scan s prev off ≡ accepted c → SoundLink s prev off c
unfolding link_scan
link_sound s prev off c e =
    let there = was_sure (is_block page_class off s.mark) _ e in
    let read = went_on (page_scan (page_at s off)) _ there.1 in
    let gone = was_sure (go_on prev read.0.numbers) _ read.2 in
    let same : read.0 ≡ c = accepted_inj gone.1 in
    let scanned : page_scan (page_at s off) ≡ accepted c = read.1 ∙ ap accepted same in
    let known = page_read (page_at s off) c scanned in
    let goes : go_on prev c.numbers ≡ true = ap (λ (x : Scan). go_on prev x.numbers) (sym same) ∙ gone.0 in
    record { stands = there.0; scanned = scanned; read = known; going = going prev c.numbers known.rising goes }

-- What is known of a key's last page by its header.
pub record SoundLast (s : Ground) (off : ℕ) (h : Last) : Type 0 where
  pub stands : is_block page_class off s.mark ≡ true
  pub version : version_of (page_at s off) ≡ 2
  pub last : is_last_link (link_of (page_at s off)) ≡ true
  pub extent : extent_named (extent_base_of (page_at s off)) (extent_count_of (page_at s off)) ≡ accepted tt
  pub header : last_of_page (page_at s off) ≡ h

pub last_sound_lem : (s : Ground) (off : ℕ) (h : Last) → last_at s off ≡ accepted h → SoundLast s off h
unfolding last_at good_extent
last_sound_lem s off h e =
    let page = page_at s off in
    let there = was_sure (is_block page_class off s.mark) _ e in
    let told = was_sure (names_extent page && is_last_link (link_of page)) _ there.1 in
    let tests = both (names_extent page) (is_last_link (link_of page)) told.0 in
    let good = went_on (extent_named (extent_base_of page) (extent_count_of page)) _ told.1 in
    record {
      stands = there.0;
      version = eqb-true (version_of page) 2 tests.0;
      last = tests.1;
      extent = good.1;
      header = accepted_inj good.2;
    }

-- What is known of a key's last page as an append looks at it.
pub record SoundTail (s : Ground) (off : ℕ) (t : Tail) : Type 0 where
  pub header : SoundLast s off t.last
  pub link : SoundLink s 0 off t.scan

pub tail_sound : (s : Ground) (off : ℕ) (t : Tail) → tail_at s off ≡ accepted t → SoundTail s off t
unfolding tail_at
tail_sound s off t e =
    let head = went_on (last_at s off) _ e in
    let read = went_on (link_scan s 0 off) _ head.2 in
    let same : record { scan = read.0; last = head.0 } ≡ t = accepted_inj read.2 in
    let last_is : head.0 ≡ t.last = ap (λ (x : Tail). x.last) same in
    let scan-is : read.0 ≡ t.scan = ap (λ (x : Tail). x.scan) same in
    record {
      header = last_sound_lem s off t.last (head.1 ∙ ap accepted last_is);
      link = link_sound s 0 off t.scan (read.1 ∙ ap accepted scan-is);
    }
