-- What a key over bytes reads as, where the book stands for a good plain book: its head word, its slab, its last page, and its whole
-- content. Assumes nothing.
use Prim.Native.Nat.{ℕ, zero, suc, ◌+◌, ◌-◌, ◌/◌, ◌^◌, ◌≤◌, ◌<◌}
use native.Mathlib.Nat.{add-zero}
use mathlib.Core.Bool.{Bool, true, false, cond, not, ◌||◌}
use mathlib.Core.List.{List, [], ◌∷◌, append-nil, ◌++◌}
use mathlib.Core.Logic.{⊎_elim, ◌≢◌}
use mathlib.Core.Option.{none, some}
use mathlib.Core.Path.{◌≡◌, refl, sym, ap, subst, ◌∙◌}
use native.Mathlib.Omega.{arith}
use lib.Dec.{leb, eqb}
use lib.ListN.{length, length-append}
use borrow.Author.Tests.{eqb-true, eqb-false, lt-ltb, le-leb, eq-eqb, ne_eqb, leb-false, lt-leb}
use Rattle.error.specs.Refusal.{Answer, accepted, refuse_if, and_then, key_unsound, offered_not_rising}
use Rattle.error.proofs.LawsAnswer.{refuse_no, then_yes}
use Rattle.scripthash_layout.specs.Sizes.{max_slab_class, max_slab_count, page_class, page_size}
use Rattle.scripthash_layout.specs.Head.{unpack_head}
use Rattle.scripthash_layout.specs.declared.head.ShHeadValue.{ShHeadValue}
use Rattle.scripthash_stream.specs.Stream.{stream_len, Rising, last_from}
use Rattle.scripthash_stream.proofs.LawsStream.{last_below, rising_below}
use Rattle.scripthash_cutting.specs.Cutting.{last_page_room}
use Rattle.scripthash_free.specs.FreeList.{Block, is_block}
use Rattle.scripthash_free.proofs.LawsBlock.{block_stands}
use Rattle.book_rules.specs.Outcomes.{appended_to, Appended}
use Rattle.book_rules.specs.Offered.{offered_number}
use Rattle.book_limits.specs.Limits.{out_of_shape, most_body, most_counted, total_told}
use Rattle.plain_book.specs.Space.{Space as PlainSpace}
use Rattle.plain_book.specs.Key.{Kept, written, Page, Place, empty, inline, slab, pages, last_page, no_page, total_of, head_of, pages_of}
use Rattle.plain_book.specs.Key.{padded_pages, padded_of, counted_after, key_in}
use Rattle.plain_book.specs.Key.{Placed, append_place}
use Rattle.plain_book.specs.Book.{Book as PlainBook, Outcome as PlainOutcome, key_of, with_key, desk_in, leave_of, extended}
use Rattle.plain_book.specs.Book.{appends as plain_appends}
use Rattle.plain_book.specs.Book.{reads as plain_reads}
use Rattle.plain_book.specs.Sound.{held, FitsPage, FitPages, RisesFrom, Fits}
use Rattle.plain_book.specs.Owners.{page_of, slab_of, slab_at, page_no, page_in, has, places}
use Rattle.plain_book.specs.Good.{GoodPlain}
use Rattle.plain_book.proofs.LawsHeads.{head_told}
use Rattle.plain_book.proofs.LawsOwners.{depth_of, at_key}
use Rattle.plain_book.proofs.LawsChain.{pages_few, mark_most, last_any, part_rises, chain}
use Rattle.book_space.specs.Space.{Space}
use Rattle.book_keys.specs.Keys.{soundly, sure, go_on, good_extent, block_at, slab_scan, link_scan, last_at, page_then, walk, total_good, chain_at}
use Rattle.book_keys.specs.Keys.{page_blocks, content_at, content, tail_at}
use Rattle.book_keys.specs.Keys.{page_at as page_bytes}
use Rattle.book_blocks.specs.Blocks.{last_page_of, total_with}
use Rattle.book_blocks.proofs.LawsTotals.{total_unknown, total_known}
use Rattle.book_blocks.proofs.LawsReadsPage.{last_page_reads, last_page_padded}
use Rattle.book.specs.Book.{Book, word_of, seen}
use Rattle.book_append.specs.Appends.{appending, append_at, appends, appends_with}
use Rattle.book_read.specs.Reads.{reads, reads_with}
use Rattle.book_history.specs.Agrees.{scan_of, SlabIn, PageIn, SlabReads, PageReads, LastReads, ChainReads, first_page_off, AgreesSpace}
use Rattle.book_history.specs.Agrees.{AgreesCounts, AgreesInside, Agrees}
use Rattle.book_history.proofs.LawsWords.{stored_told}
use Rattle.book_history.proofs.LawsStep.{same_on_key, Alike, told_alike, alike_on_key, alike_offered, placed_contents, agrees_placed}

-- ---- what is asked of a sound key

-- An answer that a sound key gives.
pub soundly_yes : {A : Type 0} (a : Answer A) {x : A} → a ≡ accepted x → soundly a ≡ accepted x
unfolding soundly
soundly_yes a e = rw e

-- A test that a sound key passes.
pub sure_yes : {A : Type 0} (test : Bool) (after : Answer A) → test ≡ true → sure test after ≡ after
unfolding sure
sure_yes test after e = refuse_no (not test) key_unsound after (ap not e)

-- Numbers that rise behind another, below 2^62, go on behind it.
pub rising_goes_on : (prev : ℕ) (ns : List ℕ) → Rising (2 ^ 62) prev ns → 0 < length ns → go_on prev ns ≡ true
unfolding go_on Rising
rising_goes_on prev [] r l = absurd (omega arith)
rising_goes_on prev (n ∷ ns) (a, b, r) l = rw (lt-ltb prev n a, lt-ltb (last_from n ns) (2 ^ 62) (last_below (2 ^ 62) n ns b r))

-- A slab that stands below the mark and reads as a kept stream gives it.
slab_scans : (s : Space) (class off : ℕ) (kept : Kept) → class ≤ max_slab_class → is_block class off s.mark ≡ true
    → length kept.numbers ≤ max_slab_count
    → SlabReads kept (block_at (seen s) class off) → go_on 0 kept.numbers ≡ true → slab_scan (seen s) class (length kept.numbers) off
    ≡ accepted (scan_of kept)
unfolding slab_scan
slab_scans s class off kept c stands few r go =
    sure_yes _ _ (rw (le-leb class max_slab_class c, stands))
    ∙ sure_yes _ _ (rw (le-leb (length kept.numbers) max_slab_count few, eq-eqb _ _ r.used))
    ∙ then_yes _ _ r.reads ∙ sure_yes _ _ go

-- A page that stands below the mark and reads as a part of a list gives it, behind a number from which it goes on.
link_scans : (s : Space) (prev off : ℕ) (p : Page) → is_block page_class off s.mark ≡ true → PageReads p (page_bytes (seen s) off)
    → Rising (2 ^ 62) prev p.part.numbers → 0 < length p.part.numbers → link_scan (seen s) prev off ≡ accepted (scan_of p.part)
unfolding link_scan
link_scans s prev off p stands r rises l =
    sure_yes _ _ stands ∙ then_yes _ _ r.reads ∙ sure_yes _ _ (rising_goes_on prev p.part.numbers rises l)

-- A last page's header.
last_header : (s : Space) (off first creates : ℕ) → is_block page_class off s.mark ≡ true
    → LastReads first creates (page_bytes (seen s) off)
    → last_at (seen s) off ≡ accepted (record { first = first; creates = creates })
unfolding last_at
last_header s off first creates stands r =
    sure_yes _ _ stands ∙ sure_yes _ _ (rw (r.extent, r.last)) ∙ then_yes _ _ r.good ∙ rw (r.first, r.creates)

-- ---- a chain of pages

-- The offsets of some pages, the first first.
unfoldable pub offs_of : List Page → List ℕ
offs_of [] = []
offs_of (p ∷ ps) = p.off ∷ offs_of ps

-- What is known of the page at an index of some pages, by its offset: it stands below the mark, it reads as it should, and only the last
-- page is where the last one is.
pub record Stands (s : Space) (first creates last i : ℕ) (ps : List Page) (off : ℕ) : Type 0 where
  pub block : is_block page_class off s.mark ≡ true
  pub reads : ChainReads first creates i ps (page_bytes (seen s) off)
  pub only : off ≡ last → i + 1 ≡ length ps

-- A walk over pages that stand as they should gives their numbers and offsets.
walks : (k : ℕ) (s : Space) (first creates last prev : ℕ) (page : Page) (ps : List Page) → length ps ≤ k → (last_page page ps).off ≡ last
    → FitPages ps
    → RisesFrom prev ps
    → ((i off : ℕ) → page_no i ps ≡ some (record { class = page_class; off = off }) → Stands s first creates last i ps off)
    → walk k (seen s) last prev (first_page_off ps) ≡ accepted (record { numbers = held ps; offs = offs_of ps; padded = padded_pages ps })
unfolding walk FitPages RisesFrom held offs_of padded_pages page_no ChainReads last_page page_then
walks k s first creates last prev page [] few is fit rises at = absurd fit
walks zero s first creates last prev page (p ∷ ps) few is fit rises at = absurd (omega arith)
walks (suc k) s first creates last prev page (p ∷ []) few is fit (some', rises, rest) at =
    let h = at 0 p.off refl in
    then_yes _ _ (link_scans s prev p.off p h.block h.reads.0 rises some')
    ∙ rw (eq-eqb p.off last is, append-nil p.part.numbers, h.reads.0.padded, add-zero p.part.padded)
walks (suc k) s first creates last prev page (p ∷ q ∷ ps) few is (fit, fits) (some', rises, rest) at =
    let h = at 0 p.off refl in
    let others = walks k s first creates last (last_from prev p.part.numbers) p (q ∷ ps) (omega arith) is fits
    (rw (last_any prev 0 p.part.numbers some') rest)
    (λ i off e. let z = at (suc i) off e in record { block = z.block; reads = z.reads; only = λ w. (let v = z.only w in omega arith) })
    in
    then_yes _ _ (link_scans s prev p.off p h.block h.reads.0 rises some')
    ∙ rw (ne_eqb p.off last (λ e. let z = h.only e in omega arith))
    (sure_yes _ _ (ap not h.reads.1.more) ∙ then_yes _ _ (rw h.reads.1.next others)
    ∙ ap (λ (m : ℕ). accepted (record {
      numbers = p.part.numbers ++ held (q ∷ ps);
      offs = p.off ∷ offs_of (q ∷ ps);
      padded = m + padded_pages (q ∷ ps);
    })) h.reads.0.padded)

-- There are as many offsets as pages.
offs_many : (ps : List Page) → length (offs_of ps) ≡ length ps
unfolding offs_of
offs_many [] = refl
offs_many (p ∷ ps) = ap suc (offs_many ps)

-- Pages that fit are some.
pub some_pages : (ps : List Page) → FitPages ps → 0 < length ps
unfolding FitPages
some_pages [] f = absurd f
some_pages (p ∷ ps) f = omega arith

-- The last of some pages is at the last index.
pub last_page_at : (i : ℕ) (page : Page) (ps : List Page) → i + 1 ≡ length ps
    → page_no i ps ≡ some (record { class = page_class; off = (last_page page ps).off })
unfolding page_no last_page
last_page_at i page [] e = absurd (omega arith)
last_page_at zero page (p ∷ []) e = refl
last_page_at zero page (p ∷ q ∷ ps) e = absurd (omega arith)
last_page_at (suc i) page (p ∷ []) e = absurd (omega arith)
last_page_at (suc i) page (p ∷ q ∷ ps) e = last_page_at i p (q ∷ ps) (omega arith)

-- It reads as a last page.
pub last_reads : (first creates i : ℕ) (page : Page) (ps : List Page) (block : List ℕ) → i + 1 ≡ length ps
    → ChainReads first creates i ps block
    → PageReads (last_page page ps) block × LastReads first creates block
unfolding ChainReads last_page
last_reads first creates i page [] block e r = absurd (omega arith)
last_reads first creates zero page (p ∷ []) block e r = r
last_reads first creates zero page (p ∷ q ∷ ps) block e r = absurd (omega arith)
last_reads first creates (suc i) page (p ∷ []) block e r = absurd (omega arith)
last_reads first creates (suc i) page (p ∷ q ∷ ps) block e r = last_reads first creates i p (q ∷ ps) block (omega arith) r

-- It fits its room, which is a last page's.
pub last_fits : (page : Page) (ps : List Page) → FitPages ps → FitsPage (last_page page ps) × ((last_page page ps).room ≡ last_page_room)
unfolding FitPages last_page
last_fits page [] f = absurd f
last_fits page (p ∷ []) f = f
last_fits page (p ∷ q ∷ ps) (f, fs) = last_fits p (q ∷ ps) fs

-- Its part of the list rises.
pub last_rises : (prev : ℕ) (page : Page) (ps : List Page) → FitPages ps → RisesFrom prev ps
    → Rising (2 ^ 62) 0 (last_page page ps).part.numbers
unfolding FitPages RisesFrom last_page
last_rises prev page [] f r = absurd f
last_rises prev page (p ∷ []) f (some', rises, rest) = part_rises prev p.part.numbers rises
last_rises prev page (p ∷ q ∷ ps) (f, fs) (some', rises, rest) = last_rises (last_from 0 p.part.numbers) p (q ∷ ps) fs rest

-- ---- totals

-- A last page that tells the length of the list, as it can be told, or that it was never counted, is as it may be.
total_good_lem : (counted : Bool) (n : ℕ) → total_good (cond counted (total_told n) 0) n ≡ true
unfolding total_good
total_good_lem true n = rw (eq-eqb (total_told n) (total_told n) refl) (go (eqb (total_told n) 0))
  where
    go : (t : Bool) → t || true ≡ true
    go true = refl
    go false = refl
total_good_lem false n = refl

-- A total that is told is that of the longer list once a number is appended, and one that isn't stays unknown.
pub total_more : (counted : Bool) (more held : ℕ) → more ≡ held + 1 → 0 < held
    → cond counted (total_told more) 0 ≡ total_with (cond counted (total_told held) 0)
total_more true more held is some' = go (leb held most_counted) refl
  where
    go : (t : Bool) → leb held most_counted ≡ t → total_told more ≡ total_with (cond t held 0)
    go true e = ap total_told is ∙ sym (total_known held (λ (z : held ≡ 0). omega arith))
    go false e =
        let past = leb-false held most_counted e in
        ap (λ (t : Bool). cond t more 0) (lt-leb more most_counted (omega arith)) ∙ sym (total_unknown 0 refl)
total_more false more held is some' = sym (total_unknown 0 refl)

-- ---- a key

-- The blocks of a place, in the order in which a drop pushes them.
abbrev pub blocks_of : Place → List Block
blocks_of empty = []
blocks_of inline = []
blocks_of (slab class off kept) = record { class = class; off = off } ∷ []
blocks_of (pages ps) = page_blocks (offs_of ps)

-- A list of no number, and one of one.
pub none_listed : (list : List ℕ) → length list ≡ 0 → [] ≡ list
none_listed [] e = refl
none_listed (n ∷ ns) e = absurd (omega arith)

pub one_listed : (list : List ℕ) → length list ≡ 1 → last_from 0 list ∷ [] ≡ list
unfolding last_from
one_listed [] e = absurd (omega arith)
one_listed (n ∷ []) e = refl
one_listed (n ∷ m ∷ ns) e = absurd (omega arith)

module _ (plain : PlainBook) (b : Book) (g : GoodPlain plain) (shape : out_of_shape plain.size (length plain.keys) ≡ false)
    (h : AgreesInside plain b) (key : ℕ) where
  -- A key's head word tells its place.
  pub head_agrees : unpack_head (word_of key b) ≡ accepted (head_of (key_of key plain).list (key_of key plain).place)
  head_agrees = h.heads key ∙ stored_told (head_told key g (omega (arith, mark_most g shape)))

  -- A key's slab reads as what it keeps.
  slab_reads : (class off : ℕ) (kept : Kept) → (key_of key plain).place ≡ slab class off kept
      → SlabReads kept (block_at (seen b.space) class off)
  unfolding has
  slab_reads class off kept is =
      subst (λ (p : Place). SlabIn p (block_at (seen b.space) class off)) is
      (h.space.stored (slab_of key) (record { class = class; off = off }) (ap slab_at is))

  -- So it scans.
  slab_read_lem : (class off : ℕ) (kept : Kept) → (key_of key plain).place ≡ slab class off kept
      → slab_scan (seen b.space) class (length (key_of key plain).list) off ≡ accepted (scan_of kept)
  unfolding has Fits
  slab_read_lem class off kept is =
      let (same, shortest, c, two, few, bytes, below) = rw is at (g.keys key).fits in
      rw (← same)
      (slab_scans b.space class off kept c (rw h.space.mark
      (g.space.apart.stands (slab_of key) (record { class = class; off = off }) (ap slab_at is)))
      (rw same few) (slab_reads class off kept is)
      (rising_goes_on 0 kept.numbers (rw same (g.keys key).rises) (rw same (omega arith))))

  -- What is known of the pages of a key.
  pub chain_page : (ps : List Page) → (key_of key plain).place ≡ pages ps → (i off : ℕ)
      → page_no i ps ≡ some (record { class = page_class; off = off })
      → Stands b.space (first_page_off ps) (total_of (key_of key plain)) (last_page no_page ps).off i ps off
  unfolding has
  chain_page ps is i off e =
      record {
        block = rw h.space.mark (g.space.apart.stands (page_of key i) (record { class = page_class; off = off }) (mine i off e));
        reads = subst (λ (p : Place). PageIn (total_of (key_of key plain)) i p (page_bytes (seen b.space) off)) is
            (h.space.stored (page_of key i) (record { class = page_class; off = off }) (mine i off e));
        only = only (eqb (i + 1) (length ps)) refl;
      }
    where
      mine : (j o : ℕ) → page_no j ps ≡ some (record { class = page_class; off = o })
          → has plain.space (places plain) none (page_of key j) ≡ some (record { class = page_class; off = o })
      mine j o e = ap (page_in j) is ∙ e

      only : (t : Bool) → eqb (i + 1) (length ps) ≡ t → off ≡ (last_page no_page ps).off → i + 1 ≡ length ps
      only true q same = eqb-true (i + 1) (length ps) q
      only false q same =
          let one = some_pages ps (chain key ps g is).fit in
          let other : i + 1 ≢ length ps = eqb-false (i + 1) (length ps) q in
          let at_last = last_page_at (length ps - 1) no_page ps (omega arith) in
          absurd
          (⊎_elim (λ d. omega arith) (λ d. omega arith)
          (g.space.apart.apart (page_of key i) (page_of key (length ps - 1)) _ _
          (λ (z : page_of key i ≡ page_of key (length ps - 1)). other (let y = ap depth_of z in omega arith)) (mine i off e)
          (mine (length ps - 1) (last_page no_page ps).off at_last)))

  -- As an append looks at it, a key's slab reads as what it keeps.
  pub slab_agrees : (class off : ℕ) (kept : Kept) → (key_of key plain).place ≡ slab class off kept
      → soundly (slab_scan (seen b.space) class (length (key_of key plain).list) off) ≡ accepted (scan_of kept)
  slab_agrees class off kept is = soundly_yes _ (slab_read_lem class off kept is)

  -- A key in pages has a number.
  pub pages_listed : (ps : List Page) → (key_of key plain).place ≡ pages ps → 0 < length (key_of key plain).list
  unfolding FitPages held
  pages_listed ps is = let c = chain key ps g is in rw (← c.holds) (go ps c.fit)
    where
      go : (qs : List Page) → FitPages qs → 0 < length (held qs)
      go [] f = absurd f
      go (p ∷ []) (f, r) = rw (length-append p.part.numbers []) (omega (arith, f.0))
      go (p ∷ q ∷ qs) (f, fs) = rw (length-append p.part.numbers (held (q ∷ qs))) (omega (arith, f.0))

  -- The header of a key's last page.
  last_told : (ps : List Page) → (key_of key plain).place ≡ pages ps
      → last_at (seen b.space) (last_page no_page ps).off
      ≡ accepted (record { first = first_page_off ps; creates = total_of (key_of key plain) })
  last_told ps is =
      let one = some_pages ps (chain key ps g is).fit in
      let k = chain_page ps is (length ps - 1) (last_page no_page ps).off (last_page_at (length ps - 1) no_page ps (omega arith)) in
      last_header b.space (last_page no_page ps).off (first_page_off ps) (total_of (key_of key plain)) k.block
      (last_reads (first_page_off ps) (total_of (key_of key plain)) (length ps - 1) no_page ps _ (omega arith) k.reads).1

  -- As an append looks at it, a key's last page reads as its part of the list, with the first page's offset and the key's total.
  pub tail_agrees : (ps : List Page) → (key_of key plain).place ≡ pages ps
      → soundly (tail_at (seen b.space) (last_page no_page ps).off)
      ≡ accepted (record {
        scan = scan_of (last_page no_page ps).part;
        last =
            record { first = first_page_off ps; creates = total_of (key_of key plain) };
      })
  unfolding tail_at
  tail_agrees ps is =
      let c = chain key ps g is in
      let one = some_pages ps c.fit in
      let fit = (last_fits no_page ps c.fit).0 in
      let k = chain_page ps is (length ps - 1) (last_page no_page ps).off (last_page_at (length ps - 1) no_page ps (omega arith)) in
      let r = (last_reads (first_page_off ps) (total_of (key_of key plain)) (length ps - 1) no_page ps _ (omega arith) k.reads).0 in
      soundly_yes _
      (then_yes _ _ (last_told ps is)
      ∙ then_yes _ _ (link_scans b.space 0 (last_page no_page ps).off (last_page no_page ps) k.block r
      (last_rises 0 no_page ps c.fit c.rises) fit.0))

  -- A key's chain gives its list, and its pages' offsets.
  chain_agrees : (ps : List Page) → (key_of key plain).place ≡ pages ps
      → chain_at (seen b.space) (last_page no_page ps).off
      ≡ accepted (record { numbers = (key_of key plain).list; offs = offs_of ps; padded = padded_pages ps })
  unfolding chain_at
  chain_agrees ps is =
      let c = chain key ps g is in
      then_yes _ _ (last_told ps is)
      ∙ then_yes _ _ (walks (b.space.mark / page_size) b.space (first_page_off ps) (total_of (key_of key plain)) (last_page no_page ps).off
      0 no_page ps
      (rw h.space.mark (pages_few key ps g is)) refl c.fit c.rises (chain_page ps is))
      ∙ rw c.holds (sure_yes _ _ (total_good_lem (key_of key plain).counted (length (key_of key plain).list)))

  -- What the place that a key's head word tells holds.
  place_agrees : (place : Place) → (key_of key plain).place ≡ place
      → content_at (seen b.space) (head_of (key_of key plain).list place)
      ≡ accepted (record { numbers = (key_of key plain).list; blocks = blocks_of place; pages = pages_of place; padded = padded_of place })
  unfolding content_at head_of Fits
  place_agrees empty is =
      let e : length (key_of key plain).list ≡ 0 = rw is at (g.keys key).fits in
      ap (λ (l : List ℕ). accepted (record { numbers = l; blocks = []; pages = 0; padded = 0 })) (none_listed (key_of key plain).list e)
  place_agrees inline is =
      let e : length (key_of key plain).list ≡ 1 = rw is at (g.keys key).fits in
      ap (λ (l : List ℕ). accepted (record { numbers = l; blocks = []; pages = 0; padded = 0 })) (one_listed (key_of key plain).list e)
  place_agrees (slab class off kept) is =
      let f : Fits (key_of key plain).list (slab class off kept) = rw is at (g.keys key).fits in
      then_yes _ _ (slab_read_lem class off kept is) ∙ rw (f.0, (slab_reads class off kept is).padded)
  place_agrees (pages ps) is = then_yes _ _ (chain_agrees ps is) ∙ rw (offs_many ps)

  -- A key holds its list, in its place's blocks.
  pub content_agrees : content (seen b.space) (word_of key b)
      ≡ accepted (record {
        numbers = (key_of key plain).list;
        blocks = blocks_of (key_of key plain).place;
        pages = pages_of (key_of key plain).place;
        padded = padded_of (key_of key plain).place;
      })
  unfolding content
  content_agrees = soundly_yes _ (then_yes _ _ head_agrees ∙ place_agrees (key_of key plain).place refl)

-- ---- a read

-- The two books give a read the same answer.
pub read_step : (plain : PlainBook) (b : Book) (key room : ℕ) → GoodPlain plain → Agrees plain b
    → reads_with plain.desks b key room ≡ plain_reads plain key room
unfolding plain_reads reads
read_step plain b key room g a =
    same_on_key plain b key _ _ g a (λ shape h low. then_yes _ _ (content_agrees plain b g shape h key))

-- ---- a last page that is written

-- A last page as it is written, with a first page and an extent base that stand below the mark, is a whole page, and reads as a last page.
pub last_written : (mark off first base extents creates : ℕ) (ns : List ℕ) → mark ≤ most_body → is_block page_class first mark ≡ true
    → is_block page_class base mark ≡ true
    → 0 < extents → extents < 2 ^ 32 → creates < 2 ^ 32 → Rising (2 ^ 62) 0 ns → stream_len ns ≤ last_page_room → let page =
    last_page_of first base extents creates ns in
    (length page ≡ page_size) × (PageReads (record { off = off; room = last_page_room; part = written ns }) page
    × LastReads first creates page)
unfolding written good_extent
last_written mark off first base extents creates ns high f b some' few low rises fits =
    let s = block_stands page_class first mark f in
    let t = block_stands page_class base mark b in
    let sa = s.aligned in
    let se = s.ends in
    let ta = t.aligned in
    let te = t.ends in
    let tb = t.begins in
    let below = rising_below (2 ^ 62) (2 ^ 63) 0 ns (omega arith) rises in
    let r = last_page_reads first base extents creates ns below fits sa (omega arith)
    (omega arith) ta
    (λ (z : base ≡ 0). omega arith) some' few low in (
      r.long,
      (
        record { reads = r.scans; room = r.room; padded = last_page_padded first base extents creates ns below fits },
        record {
          extent = r.names;
          last = r.last;
          first = r.from;
          good =
              r.extent;
          creates = r.counts;
        },
      ),
    )

-- ---- an append, up to where the key's place decides

-- What a plain book's append leaves, once the key's new place is known, and whether its last page tells a total.
abbrev pub append_leaves : PlainBook → ℕ → ℕ → Bool → Placed → Answer (PlainOutcome Appended)
append_leaves plain key n counted p =
    let list = extended (key_of key plain).list n in
    accepted (record {
      told = appended_to (head_of list p.place) p.rewritten;
      book = with_key key (key_in list p.place counted) p.space plain;
    })

-- What a plain book's append does once the number is known to be above the key's last.
abbrev pub plain_appending : PlainBook → ℕ → ℕ → Bool → Answer (PlainOutcome Appended)
plain_appending plain key n counted =
    and_then (append_place plain.size (leave_of plain key) (length (key_of key plain).list) (extended (key_of key plain).list n) n
    (key_of key plain).place plain.space)
    (append_leaves plain key n counted)

-- The two books answer an append alike, where they do so once the key's place is known.
pub append_begins : (plain : PlainBook) (b : Book) (key n : ℕ) → GoodPlain plain → Agrees plain b
    → (out_of_shape plain.size (length plain.keys) ≡ false → AgreesInside plain b → key < length plain.keys → 0 < n → n < 2 ^ 62
    → Alike (refuse_if (leb n (last_from 0 (key_of key plain).list)) offered_not_rising
    (plain_appending plain key n (counted_after (key_of key plain).place (key_of key plain).counted)))
    (append_at (desk_in plain key) b key n (head_of (key_of key plain).list (key_of key plain).place)))
    → Alike (plain_appends plain key n) (appends_with plain.desks b key n)
unfolding plain_appends appends
append_begins plain b key n g a go =
    alike_on_key plain b key _ (λ desk. offered_number true 0 n (and_then (soundly (unpack_head (word_of key b))) (append_at desk b key n))) g a
    (λ shape h low.
    alike_offered (last_from 0 (key_of key plain).list) n _ _
    (λ some' small. rw (then_yes _ (append_at (desk_in plain key) b key n) (soundly_yes _ (head_agrees plain b g shape h key)))
    (go shape h low some' small)))

-- The two books end an append alike: the key gets its longer list and its place in both, and the spaces agree.
pub append_ends : (plain : PlainBook) (b : Book) (key : ℕ) (list : List ℕ) (place : Place) (counted : Bool) (total : ℕ)
    (value : ShHeadValue) (rewritten : ℕ) (inside : PlainSpace)
    (s : Space) (counts : List ℕ) → Agrees plain b
    → out_of_shape plain.size (length plain.keys) ≡ false → key < length plain.keys → head_of list place ≡ value
    → total_of (key_in list place counted) ≡ total → length s.body ≡ length b.space.body
    → AgreesSpace inside s (at_key key place (places plain)) none (placed_contents plain key total place)
    → AgreesCounts (with_key key (key_in list place counted) inside plain) counts
    → Alike (accepted (record {
      told = appended_to (head_of list place) rewritten;
      book =
          with_key key (key_in list place counted) inside plain;
    }))
    (accepted (appending key value rewritten s counts b))
append_ends plain b key list place counted total value rewritten inside s counts a shape low is told long h desks =
    let placed : AgreesSpace inside s (at_key key place (places plain)) none
    (placed_contents plain key (total_of (key_in list place counted)) place) = rw told h in
    rw (← is) (told_alike refl (agrees_placed plain key list place counted inside low b s counts a shape long placed desks))
