-- An append changes what it names only. Assumes nothing.
use Prim.Native.Nat.{ℕ, ◌+◌, ◌-◌, ◌^◌, ◌≤◌, ◌<◌}
use mathlib.Core.Bool.{Bool, true, false}
use mathlib.Core.List.{List, [], ◌∷◌, ◌++◌}
use mathlib.Core.Option.{Option, none, some}
use mathlib.Core.Path.{◌≡◌, refl, subst}
use native.Mathlib.Nat.{add-zero}
use native.Mathlib.Omega.{arith}
use borrow.Author.Tests.{leb-false}
use lib.ListN.{length}
use Rattle.error.specs.Refusal.{accepted}
use Rattle.error.proofs.LawsAnswer.{accepted_inj, passed, went_on}
use Rattle.buffer.specs.Bytes.{overwrite}
use Rattle.buffer.proofs.LawsOverwrite.{length_part}
use Rattle.compact.specs.Uleb128.{uleb_len}
use Rattle.compact.proofs.LawsLength.{len_at_most}
use Rattle.scripthash_layout.specs.Sizes.{slab_bytes, page_class, page_size}
use Rattle.scripthash_layout.specs.declared.head.ShHeadValue.{ShHeadValue}
use Rattle.scripthash_layout.specs.declared.head.ShHeadValue.TheVariants.{Empty, Inline, Slab, Extent}
use Rattle.scripthash_stream.specs.Stream.{Scan, stream_len, stream_len_from}
use Rattle.scripthash_stream.proofs.LawsStream.{stream_len_append}
use Rattle.scripthash_stream.proofs.LawsScan.{scan_accepted}
use Rattle.scripthash_slabs.specs.Slab.{slab_payload}
use Rattle.scripthash_pages.specs.Entries.{last_of, Spot, spot_behind}
use Rattle.scripthash_cutting.specs.Cutting.{last_page_room}
use Rattle.scripthash_free.specs.FreeList.{Block, Each, Within}
use Rattle.scripthash_free.proofs.LawsBlock.{block_stands}
use Rattle.book_statements.specs.Calls.{append}
use Rattle.book_rules.specs.Places.{payload_len, stays, moves_to}
use Rattle.book_rules.proofs.LawsOffered.{offered_on}
use Rattle.book_rules.proofs.LawsRules.{stays_holds, moves_to_lem, bytes_mono}
use Rattle.book_rules.specs.Outcomes.{Appended}
use Rattle.book_desks.specs.Desks.{desk_of}
use Rattle.book_space.specs.Space.{Space, space, InShape, take_block, release}
use Rattle.book_space.specs.Desks.{TakenFor, slab_for, page_for}
use Rattle.book_space.proofs.LawsDesks.{taken, took_is, slab_for_lem, page_for_lem}
use Rattle.book_space.proofs.LawsLists.{each_one}
use Rattle.book_space.proofs.LawsTake.{take_took}
use Rattle.book_keys.specs.Keys.{block_at, page_at, slab_scan, Tail, tail_at}
use Rattle.book_keys.proofs.LawsSound.{was_sound}
use Rattle.book_keys.proofs.LawsSlab.{SoundSlab, slab_sound}
use Rattle.book_keys.proofs.LawsPages.{SoundTail, tail_sound}
use Rattle.book_blocks.specs.Blocks.{slab_with, last_page_of, total_with, page_with, page_before}
use Rattle.book_blocks.proofs.LawsWrites.{length_payload, length_last_page}
use Rattle.book.specs.Book.{Book, Outcome, filled, seen}
use Rattle.book_append.specs.Appends.{moves_into, moves, append_slab, grow_chain, append_page, append_at, appends}
use Rattle.book_history.specs.Writes.{region, nothing, bytes_at, word_and, both, freeing_all, filling, writing, moving, growing_slab}
use Rattle.book_history.specs.Writes.{growing_page, append_writes, page_counts, moving_counts, slab_counts, chain_counts, append_counts}
use Rattle.book_history.specs.Writes.{writes, Wrote, Differs, Changes}
use Rattle.book_history.proofs.LawsOnly.{only_same, shifted}
use Rattle.book_history.proofs.LawsWritesBlocks.{only_slab, only_before, only_joined}
use Rattle.book_history.proofs.LawsWritesSpace.{wrote_between, wrote_same, wrote_then, wrote_bytes, wrote_part, wrote_released}
use Rattle.book_history.proofs.LawsWritesSpace.{wrote_took, wrote_filled}
use Rattle.book_history.proofs.LawsWritesDesks.{slab_counts_lem, page_counts_lem, by_desk_lem}
use Rattle.book_history.proofs.LawsWritesLoad.{differs_placed}

-- ---- moving

-- A list moves, with the blocks that it had within the body: by the class of the slab that it moves to.
module _ (desk : ℕ) (b : Book) (key : ℕ) (ns : List ℕ) (n : ℕ) (old : List Block) (i : InShape b.space)
    (here : Each (Within 0 (length b.space.body)) old) where
  -- The list with its new number.
  abbrev list : List ℕ
  list = ns ++ (n ∷ [])

  -- The list is written to a taken block, then the old blocks are freed.
  moved_wrote : (class len : ℕ) (ys : List ℕ) (t : TakenFor) → class ≤ page_class → length ys ≡ len → len ≤ slab_bytes class
      → take_block class b.space ≡ accepted (taken t)
      → Wrote (both (filling class len b.space) (freeing_all old)) b.space (release old (filled t ys))
  moved_wrote class len ys t small long fits e =
      let w = wrote_filled class b.space small i len ys t long fits e in
      wrote_then w (wrote_released old (filled t ys) (rw w.body.long here))

  -- It moves.
  into_only : (to : Option ℕ) {o : Outcome Appended} → moves_to (length list) (stream_len list) ≡ to → stream_len list ≤ last_page_room
      → moves_into desk b key ns n old to ≡ accepted o
      → Differs (word_and key (both (writing list to b.space) (freeing_all old)) (moving_counts desk to b.space)) b o.book
  unfolding moves_into writing moving_counts
  into_only (some class) is fits e =
      let m = moves_to_lem (length list) (stream_len list) is in
      let (t, took, out) = went_on (slab_for desk class b.space b.counts) _ e in
      subst (λ (o : Outcome Appended). Differs (word_and key (both (writing list (some class) b.space) (freeing_all old)) []) b o.book)
      (accepted_inj out)
      (differs_placed key _ _ t.counts b
      (moved_wrote class (payload_len (stream_len list)) (slab_payload list) t (omega (arith, m.slab)) (length_payload list) m.fits
      (took_is (slab_for_lem desk b.space b.counts class took)).0)
      (slab_counts_lem desk b.counts class b.space took))
  into_only none is fits e =
      let (t, took, out) = went_on (page_for desk b.space b.counts) _ e in
      let off = t.off in
      subst (λ (o : Outcome Appended). Differs
      (word_and key (both (writing list none b.space) (freeing_all old)) (page_counts desk b.space)) b o.book)
      (accepted_inj out)
      (differs_placed key _ _ t.counts b
      (moved_wrote page_class page_size (last_page_of off off 1 (length list) list) t (omega arith)
      (length_last_page off off 1 (length list) list fits) (omega arith) (took_is (page_for_lem desk b.space b.counts took)).0)
      (page_counts_lem desk b.counts b.space took))

  -- It moves to the class for it.
  moves_only : {o : Outcome Appended} → stream_len list ≤ last_page_room → moves desk b key ns n old ≡ accepted o
      → Differs (word_and key (moving list old b.space) (moving_counts desk (moves_to (length list) (stream_len list)) b.space)) b
      o.book
  unfolding moves moving
  moves_only fits e = into_only (moves_to (length list) (stream_len list)) refl fits e

-- ---- a slab

-- A number behind the stream of a sound slab.
module _ (desk : ℕ) (b : Book) (key n class used off : ℕ) (c : Scan) (i : InShape b.space)
    (known : SoundSlab (seen b.space) class used off c) (small : n < 2 ^ 62) where
  -- The space.
  abbrev s : Space
  s = b.space

  -- What the number adds to the last one.
  abbrev difference : ℕ
  difference = n - last_of c

  -- The slab ends within the body.
  slab_ends : off + slab_bytes class ≤ length s.body
  slab_ends = let ends = (block_stands class off s.mark known.stands).ends in let within = i.within in omega arith

  -- Where it stays, the count and the number's bytes are written.
  stays_wrote : stays class (length c.numbers + 1) (c.taken + uleb_len difference) ≡ true
      → Wrote (both (bytes_at off 2) (bytes_at (off + (2 + c.taken)) (uleb_len difference))) s
      (space (overwrite s.body off (slab_with (block_at (seen s) class off) (length c.numbers) c.taken difference)) s.mark
      s.free)
  unfolding both shifted
  stays_wrote e =
      let held = stays_holds class (length c.numbers + 1) (c.taken + uleb_len difference) e in
      let block = block_at (seen s) class off in
      let fits : 2 + c.taken + uleb_len difference ≤ length block =
      omega (arith, held.2, length_part s.body off (slab_bytes class) slab_ends) in
      rw (add-zero off) at
      (wrote_part s off (slab_bytes class) (slab_with block (length c.numbers) c.taken difference)
      (region 0 2 ∷ region (2 + c.taken) (uleb_len difference) ∷ []) slab_ends
      (only_slab block (length c.numbers) c.taken difference fits))

  -- Written anew, the list with the number fits a page.
  slab_fits_page : stream_len (c.numbers ++ (n ∷ [])) ≤ last_page_room
  unfolding stream_len_from
  slab_fits_page =
      let shorter = (scan_accepted 0 _ _ c known.payload.scanned).at_least in
      let bytes = bytes_mono known.class_to_7 in
      let taken = known.taken_fits in
      rw (stream_len_append 0 c.numbers (n ∷ [])) (omega (arith, len_at_most difference (omega arith)))

  -- It stays there, or moves.
  grown_only : (there : Bool) {o : Outcome Appended} → stays class (length c.numbers + 1) (c.taken + uleb_len difference) ≡ there
      → append_slab desk b key n class off c ≡ accepted o
      → Differs (word_and key (growing_slab n class off c s) (slab_counts desk n class c s)) b o.book
  unfolding append_slab growing_slab slab_counts
  grown_only true t e =
      rw t
      (subst (λ (o : Outcome Appended). Differs
      (word_and key (both (bytes_at off 2) (bytes_at (off + (2 + c.taken)) (uleb_len difference))) []) b o.book)
      (accepted_inj (rw t at e)) (differs_placed key _ _ b.counts b (stays_wrote t) (only_same [] b.counts)))
  grown_only false t e =
      let block : Block = record { class = class; off = off } in
      rw t
      (moves_only desk b key c.numbers n (block ∷ []) i (each_one (Within 0 (length s.body)) block (omega arith, slab_ends))
      slab_fits_page (rw t at e))

-- ---- pages

-- A number behind the stream of a sound key's last page.
module _ (desk : ℕ) (b : Book) (key n last : ℕ) (t : Tail) (i : InShape b.space) (known : SoundTail (seen b.space) last t)
    (small : n < 2 ^ 62) where
  -- The space.
  abbrev room : Space
  room = b.space

  -- The page ends at or below the mark.
  page_ends : last + page_size ≤ room.mark
  page_ends = (block_stands page_class last room.mark known.header.stands).ends

  -- Where it has a spot, the count, the number's bytes and creates are written.
  joined_wrote : (w : Spot) → spot_behind (page_at (seen room) last) n t.scan ≡ some w
      → Wrote (growing_page last (some w) room) room
      (space (overwrite room.body last (page_with (page_at (seen room) last) w t.last.creates)) room.mark room.free)
  unfolding growing_page both shifted
  joined_wrote w e =
      let within = i.within in
      wrote_part room last page_size (page_with (page_at (seen room) last) w t.last.creates)
      (region 1 2 ∷ region w.at (uleb_len w.difference) ∷ region 20 4 ∷ [])
      (omega (arith, page_ends)) (only_joined (page_at (seen room) last) n t.last.creates t.scan w known.link.scanned
      known.header.version e)

  -- The link and creates of the page are written.
  old_wrote : (p : TakenFor) → last + page_size ≤ length p.space.body
      → Wrote (both (bytes_at (last + 3) 5) (bytes_at (last + 20) 4)) p.space
      (space (overwrite p.space.body last (page_before (page_at (seen p.space) last) p.off)) p.space.mark p.space.free)
  unfolding both shifted
  old_wrote p fits =
      let page = page_at (seen p.space) last in
      wrote_part p.space last page_size (page_before page p.off) (region 3 5 ∷ region 20 4 ∷ []) fits
      (only_before page p.off (length_part p.space.body last page_size fits))

  -- A page has room for the number alone.
  one_fits : stream_len (n ∷ []) ≤ last_page_room
  unfolding stream_len_from
  one_fits = omega (arith, len_at_most (n - 0) (omega arith))

  -- Otherwise a page is taken and filled, and of the old one the link and creates are written.
  chain_wrote : (p : TakenFor) → take_block page_class room ≡ accepted (taken p)
      → let body = overwrite p.space.body last (page_before (page_at (seen p.space) last) p.off) in
      Wrote (growing_page last none room) room
      (space (overwrite body p.off (last_page_of t.last.first p.off 1 (total_with t.last.creates) (n ∷ []))) p.space.mark
      p.space.free)
  unfolding growing_page filling
  chain_wrote p e =
      let took = take_took page_class room (omega arith) i e in
      let within = took.kept.shape.within in
      let rises = took.kept.rises in
      let ends = (block_stands page_class p.off p.space.mark took.stands).ends in
      let old = old_wrote p (omega (arith, page_ends)) in
      let page = last_page_of t.last.first p.off 1 (total_with t.last.creates) (n ∷ []) in
      rw e
      (wrote_between (wrote_took page_class room (omega arith) i e) old
      (wrote_bytes _ p.off page_size page (length_last_page t.last.first p.off 1 (total_with t.last.creates) (n ∷ []) one_fits)
      (omega (arith, old.body.long))))

  -- A number in the page, or in a page more.
  page_only : (spot : Option Spot) {o : Outcome Appended} → spot_behind (page_at (seen room) last) n t.scan ≡ spot
      → append_page desk b key n last t spot ≡ accepted o
      → Differs (word_and key (growing_page last spot room) (chain_counts desk spot room)) b o.book
  unfolding append_page grow_chain chain_counts
  page_only (some w) is e =
      subst (λ (o : Outcome Appended). Differs (word_and key (growing_page last (some w) room) []) b o.book) (accepted_inj e)
      (differs_placed key _ _ b.counts b (joined_wrote w is) (only_same [] b.counts))
  page_only none is e =
      let (p, took, out) = went_on (page_for desk room b.counts) _ e in
      subst (λ (o : Outcome Appended). Differs (word_and key (growing_page last none room) (page_counts desk room)) b o.book)
      (accepted_inj out)
      (differs_placed key _ _ p.counts b (chain_wrote p (took_is (page_for_lem desk room b.counts took)).0)
      (page_counts_lem desk b.counts room took))

-- ---- an append

-- An append to a key that stands where its head word tells.
at_only : (desk : ℕ) (b : Book) (key n : ℕ) (place : ShHeadValue) {o : Outcome Appended} → InShape b.space → n < 2 ^ 62
    → append_at desk b key n place ≡ accepted o
    → Differs (word_and key (append_writes n b.space place) (append_counts desk n b.space place)) b o.book
unfolding append_at append_writes append_counts stream_len_from Each
at_only desk b key n Empty i small e =
    subst (λ (o : Outcome Appended). Differs (word_and key nothing []) b o.book) (accepted_inj e)
    (differs_placed key _ b.space b.counts b (wrote_same nothing b.space) (only_same [] b.counts))
at_only desk b key n (Inline entry used) i small e =
    let p = passed _ _ _ e in
    let less = leb-false n entry p.0 in
    moves_only desk b key (entry ∷ []) n [] i tt
    (omega (arith, len_at_most (entry - 0) (omega arith), len_at_most (n - entry) (omega arith))) p.1
at_only desk b key n (Slab class used off) i small e =
    let g = went_on _ _ e in
    let scanned = was_sound (slab_scan (seen b.space) class used off) g.1 in
    let p = passed _ _ _ g.2 in
    rw scanned
    (grown_only desk b key n class used off g.0 i (slab_sound (seen b.space) class used off g.0 scanned) small (stays _ _ _) refl
    p.1)
at_only desk b key n (Extent last) i small e =
    let g = went_on _ _ e in
    let tail = was_sound (tail_at (seen b.space) last) g.1 in
    let p = passed _ _ _ g.2 in
    rw tail
    (page_only desk b key n last g.0 i (tail_sound (seen b.space) last g.0 tail) small
    (spot_behind (page_at (seen b.space) last) n g.0.scan) refl p.1)

-- An append by a key's desk.
pub append_only : (ds : List ℕ) (b : Book) (key n : ℕ) {o : Outcome Appended} → appends (desk_of ds key) b key n ≡ accepted o
    → Changes ds b o.book (append key n)
unfolding appends writes
append_only ds b key n e =
    let k = by_desk_lem (desk_of ds key) b key _ e in
    let p = offered_on true 0 n _ k.2 in
    let g = went_on _ _ p.2 in
    rw (was_sound _ g.1) (at_only (desk_of ds key) b key n g.0 k.0 p.1 g.2)
