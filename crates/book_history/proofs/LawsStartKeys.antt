-- A sound key, as the plain book of a start holds it: its list rises and fits its place, its head word tells the place, and its blocks read
-- as they should. Assumes nothing.
use Prim.Native.Nat.{ℕ, zero, suc, ◌/◌, ◌^◌, ◌≤◌, ◌<◌}
use mathlib.Core.Bool.{Bool, true, false, cond, not, ◌||◌}
use mathlib.Core.List.{List, [], ◌∷◌}
use mathlib.Core.Option.{some}
use mathlib.Core.Path.{◌≡◌, refl, sym, ap, subst, ◌∙◌}
use native.Mathlib.Nat.{le_refl}
use native.Mathlib.Omega.{arith}
use lib.Dec.{eqb}
use lib.ListN.{length, drop}
use borrow.Author.Tests.{eqb-true, eq-eqb}
use Rattle.book_limits.specs.Limits.{slabs_end, total_told}
use Rattle.error.specs.Refusal.{accepted}
use Rattle.error.proofs.LawsAnswer.{accepted_inj}
use Rattle.scripthash_layout.specs.Sizes.{page_size}
use Rattle.scripthash_layout.specs.Head.{unpack_head}
use Rattle.scripthash_layout.specs.declared.head.ShHeadValue.{ShHeadValue}
use Rattle.scripthash_layout.specs.declared.head.ShHeadValue.TheVariants.{Empty, Inline, Slab, Extent}
use Rattle.scripthash_stream.specs.Stream.{Rising, Scan, last_from}
use Rattle.scripthash_stream.proofs.LawsScan.{scan_accepted}
use Rattle.scripthash_slabs.specs.Slab.{slab_used, slab_padded}
use Rattle.scripthash_fields.specs.Page.{creates_field_of}
use Rattle.scripthash_pages.proofs.LawsAppended.{count_least}
use Rattle.scripthash_free.specs.FreeList.{Block}
use Rattle.plain_book.specs.Key.{Kept, slab, Key, total_of, no_page, head_of, kept_as, pages_of}
use Rattle.plain_book.specs.Sound.{Fits, SoundKey}
use Rattle.plain_book.specs.Owners.{page_no, slab_at, page_in}
use Rattle.plain_book.proofs.LawsOwners.{some_inj, none_some}
use Rattle.book_space.specs.Space.{Space}
use Rattle.book_keys.specs.Keys.{good_extent, block_at, slab_scan, Last, last_at, Chain, total_good, chain_at, Content, page_blocks, content_at}
use Rattle.book_keys.specs.Keys.{content}
use Rattle.book_keys.specs.Keys.{page_at as page_bytes}
use Rattle.book_keys.proofs.LawsSlab.{slab_sound}
use Rattle.book_keys.proofs.LawsPages.{last_sound_lem}
use Rattle.book_keys.proofs.LawsChain.{chain_sound}
use Rattle.book_keys.proofs.LawsContent.{was_slab, was_pages, was_content, slab_from_two, slab_below}
use Rattle.book_history.specs.Agrees.{first_page_off, SlabReads, LastReads, SlabIn, PageIn}
use Rattle.book_history.specs.PlainOf.{kept_by, page_from, pages_from, place_from, counted_from, list_from, key_from}
use Rattle.book_history.proofs.LawsWords.{inline_told}
use Rattle.book_history.proofs.LawsStartApart.{block_no}
use Rattle.book_history.proofs.LawsStartPages.{BlockAs, walk_offs, pages_read}
use Rattle.book.specs.Book.{seen}

-- ---- what is known of a key

-- What is known of a key that holds some blocks: it is sound, its head value tells its place, and its slab and each of its pages is one of
-- those blocks, stands below the mark, and reads as it should.
pub record KeyRead (s : Space) (k : Key) (v : ShHeadValue) (blocks : List Block) : Type 0 where
  pub sound : SoundKey k
  pub head : head_of k.list k.place ≡ v
  pub slabs : (x : Block) → slab_at k.place ≡ some x → (block_no 0 blocks ≡ some x) × BlockAs s (SlabIn k.place) x
  pub pages : (i : ℕ) (x : Block) → page_in i k.place ≡ some x
      → (block_no i blocks ≡ some x) × BlockAs s (PageIn (total_of k) i k.place) x

module _ (s : Space) where
  -- The key of a head value that holds some numbers.
  abbrev key_at : ShHeadValue → List ℕ → Key
  key_at v numbers = record { list = numbers; place = place_from s v; counted = counted_from s v }

  -- An empty key, and one with a number in its head word.
  empty_read : KeyRead s (key_at Empty []) Empty []
  unfolding place_from counted_from Rising Fits head_of
  empty_read =
      record {
        sound = record { rises = tt; fits = refl; known = refl };
        head = refl;
        slabs = λ x e. absurd (none_some e);
        pages = λ i x e. absurd (none_some e);
      }

  inline_read : (entry used : ℕ) → used ≡ 1 → 0 < entry → entry < 2 ^ 62
      → KeyRead s (key_at (Inline entry used) (entry ∷ [])) (Inline entry used) []
  unfolding place_from counted_from Rising Fits head_of last_from
  inline_read entry used one some' low =
      record {
        sound = record { rises = (some', low, tt); fits = refl; known = refl };
        head = rw one;
        slabs = λ x e. absurd (none_some e);
        pages = λ i x e. absurd (none_some e);
      }

  -- A key in a slab.
  slab_read_lem : (class used off : ℕ) (c : Scan) → slab_scan (seen s) class used off ≡ accepted c → 2 ≤ used → off < slabs_end
      → KeyRead s (key_at (Slab class used off) c.numbers) (Slab class used off) (record { class = class; off = off } ∷ [])
  unfolding place_from counted_from Fits head_of kept_by block_no
  slab_read_lem class used off c is two low =
      let k = slab_sound (seen s) class used off c is in
      let n = k.counted in
      let few = k.used_to_256 in
      let fits = k.taken_fits in
      let each =
      (scan_accepted 0 (slab_used (block_at (seen s) class off)) (drop 2 (block_at (seen s) class off)) c k.payload.scanned).at_least in
      let least = count_least 0 c.numbers in
      let kept : Kept = kept_as c.numbers c.taken (slab_padded (block_at (seen s) class off)) in
      let reads : SlabReads kept (block_at (seen s) class off) =
      record {
        used = k.stored ∙ sym n;
        reads = k.payload.into (length c.numbers) (le_refl (length c.numbers));
        padded = refl;
      } in
      let fit : Fits c.numbers (slab class off kept) = (refl, omega arith, k.class_to_7, omega arith, omega arith, omega arith, low) in
      rw is
      (record {
        sound = record { rises = k.rising; fits = fit; known = refl };
        head = rw n;
        slabs = λ x e. (e, subst (BlockAs s (SlabReads kept)) (some_inj e) (k.stands, reads));
        pages = λ i x e. absurd (none_some e);
      })

  -- The pages at some offsets are these offsets' blocks.
  pages_blocks : (i : ℕ) (os : List ℕ) → page_no i (pages_from s os) ≡ block_no i (page_blocks os)
  unfolding page_no pages_from page_from block_no page_blocks
  pages_blocks i [] = refl
  pages_blocks zero (o ∷ os) = refl
  pages_blocks (suc i) (o ∷ os) = pages_blocks i os

  -- A total that creates tells: 0 is unknown.
  total_told_lem : (creates n : ℕ) → total_good creates n ≡ true → creates ≡ cond (not (eqb creates 0)) (total_told n) 0
  unfolding total_good
  total_told_lem creates n e = go (eqb creates 0) refl e
    where
      go : (t : Bool) → eqb creates 0 ≡ t → t || eqb creates (total_told n) ≡ true → creates ≡ cond (not t) (total_told n) 0
      go true z f = eqb-true creates 0 z
      go false z f = eqb-true creates (total_told n) f

  -- The header of a key's last page.
  last_reads : (last : ℕ) (h : Last) (n : ℕ) → last_at (seen s) last ≡ accepted h → total_good h.creates n ≡ true
      → LastReads h.first (cond (not (eqb (creates_field_of (page_bytes (seen s) last)) 0)) (total_told n) 0) (page_bytes (seen s) last)
  unfolding good_extent
  last_reads last h n is creates =
      let k = last_sound_lem (seen s) last h is in
      let made : creates_field_of (page_bytes (seen s) last) ≡ h.creates = ap (λ (x : Last). x.creates) k.header in
      record {
        extent = eq-eqb _ 2 k.version;
        last = k.last;
        first = ap (λ (x : Last). x.first) k.header;
        good = k.extent;
        creates = total_told_lem (creates_field_of (page_bytes (seen s) last)) n (rw made creates);
      }

  -- A key in pages.
  pages_key : (last : ℕ) (c : Chain) → chain_at (seen s) last ≡ accepted c
      → KeyRead s (key_at (Extent last) c.numbers) (Extent last) (page_blocks c.offs)
  unfolding place_from counted_from Fits head_of page_from pages_from
  pages_key last c is =
      let k = chain_sound (seen s) last c is in
      let first = k.header.first in
      let total = cond (not (eqb (creates_field_of (page_bytes (seen s) last)) 0)) (total_told (length c.numbers)) 0 in
      let (os, offs) = walk_offs (s.mark / page_size) s last 0 first c k.walks in
      let header = last_reads last k.header (length c.numbers) k.header_is k.creates in
      let p = pages_read (s.mark / page_size) s first total last header 0 first c k.walks in
      let begins : first_page_off (pages_from s c.offs) ≡ first = ap (λ (xs : List ℕ). first_page_off (pages_from s xs)) offs in
      rw is
      (record {
        sound = record { rises = p.rises; fits = (p.holds, p.fit); known = tt };
        head = ap Extent (p.ends no_page);
        slabs = λ x e. absurd (none_some e);
        pages = λ i x e. (sym (pages_blocks i c.offs) ∙ e, rw begins (p.each i x e));
      })

  -- What is known of the key of a word whose place holds something.
  place_read : (word : ℕ) (v : ShHeadValue) (c : Content) → unpack_head word ≡ accepted v → content_at (seen s) v ≡ accepted c
      → KeyRead s (key_at v c.numbers) v c.blocks
  unfolding content_at
  place_read word Empty c told e = rw (← accepted_inj e) empty_read
  place_read word (Inline entry used) c told e =
      let (one, some', low) = inline_told word entry used told in
      rw (← accepted_inj e) (inline_read entry used one some' low)
  place_read word (Slab class used off) c told e =
      let (got, is, same) = was_slab (seen s) class used off c e in
      rw (← same) (slab_read_lem class used off got is (slab_from_two word class used off told) (slab_below word class used off told))
  place_read word (Extent last) c told e =
      let (got, is, same) = was_pages (seen s) last c e in
      rw (← same) (pages_key last got is)

  -- What is known of the key of a sound head word.
  pub key_read : (word : ℕ) (c : Content) → content (seen s) word ≡ accepted c
      → (v : ShHeadValue) × (unpack_head word ≡ accepted v) × KeyRead s (key_from s word) v c.blocks
  unfolding key_from list_from
  key_read word c e = let (v, told, at) = was_content (seen s) word c e in (v, told, rw (e, told) (place_read word v c told at))

  -- As many pages are at some offsets as there are offsets.
  pages_many : (os : List ℕ) → length (pages_from s os) ≡ length os
  unfolding pages_from
  pages_many [] = refl
  pages_many (o ∷ os) = ap suc (pages_many os)

  -- A key of a sound head word has as many pages as it holds.
  pub key_pages : (word : ℕ) (c : Content) → content (seen s) word ≡ accepted c → pages_of (key_from s word).place ≡ c.pages
  unfolding key_from place_from content_at
  key_pages word c e = let (v, told, at) = was_content (seen s) word c e in rw told (go v at)
    where
      go : (v : ShHeadValue) → content_at (seen s) v ≡ accepted c → pages_of (place_from s v) ≡ c.pages
      go Empty at = ap (λ (x : Content). x.pages) (accepted_inj at)
      go (Inline entry used) at = ap (λ (x : Content). x.pages) (accepted_inj at)
      go (Slab class used off) at = ap (λ (x : Content). x.pages) (was_slab (seen s) class used off c at).2
      go (Extent last) at =
          let (got, is, same) = was_pages (seen s) last c at in rw is (pages_many got.offs ∙ ap (λ (x : Content). x.pages) same)
