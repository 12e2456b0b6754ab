-- The two books answer an append alike, where the key has pages: the number joins the last page, or begins a taken page. Assumes nothing.
use Prim.Native.Nat.{ℕ, zero, suc, ◌+◌, ◌-◌, ◌^◌, ◌≤◌, ◌<◌}
use mathlib.Core.Bool.{Bool, true, false, cond}
use mathlib.Core.List.{List, [], ◌∷◌, ◌++◌}
use mathlib.Core.Logic.{◌⊎◌, inl, inr, ⊎_elim, ◌≢◌}
use mathlib.Core.Option.{Option, none, some}
use mathlib.Core.Path.{◌≡◌, refl, sym, ap, subst, ◌∙◌}
use native.Mathlib.Omega.{arith}
use lib.Dec.{leb, eqb}
use lib.ListN.{length, length-append}
use borrow.Author.Tests.{eqb-true, eqb-false, eq-eqb, leb-true, leb-false}
use Rattle.error.specs.Refusal.{Answer, accepted, refuse_if, and_then, offered_not_rising}
use Rattle.error.proofs.LawsAnswer.{then_yes}
use Rattle.buffer.specs.Bytes.{overwrite}
use Rattle.buffer.proofs.LawsBytes.{length_overwrite}
use Rattle.compact.proofs.LawsLength.{len_at_most}
use Rattle.scripthash_layout.specs.Sizes.{slab_bytes, page_class, page_size}
use Rattle.scripthash_layout.specs.declared.head.ShHeadValue.TheVariants.{Extent}
use Rattle.scripthash_stream.specs.Stream.{Rising, last_from, stream_len, stream_len_from}
use Rattle.scripthash_cutting.specs.Cutting.{last_page_room, replace_last}
use Rattle.scripthash_fields.specs.Page.{stream_cap}
use Rattle.scripthash_pages.specs.Entries.{last_of, Spot, spot_behind}
use Rattle.scripthash_free.specs.FreeList.{Block, is_block}
use Rattle.scripthash_free.proofs.LawsBlock.{block_stands}
use Rattle.book_limits.specs.Limits.{out_of_shape, most_body}
use Rattle.book_desks.specs.Desks.{desks}
use Rattle.book_desks.specs.Counts.{held_count, counted}
use Rattle.plain_book.specs.Space.{Space as PlainSpace, Taken as PlainTaken, take_block as plain_take}
use Rattle.plain_book.specs.Key.{written, longer, Page, Place, pages, last_page, no_page, total_of, head_of, Placed, longer_page, joins}
use Rattle.plain_book.specs.Key.{joined_to, begun_at, begin_page, append_pages, append_place, pages_of, key_in}
use Rattle.plain_book.specs.Book.{Book as PlainBook, Outcome as PlainOutcome, key_of, with_key, desk_in, freed_in, leave_of, extended}
use Rattle.plain_book.specs.Book.{appends as plain_appends}
use Rattle.plain_book.specs.Owners.{Owner, hand, stack, slab_of, page_of, page_no, page_in, has, places}
use Rattle.plain_book.specs.Good.{Good, GoodPlain}
use Rattle.plain_book.proofs.LawsOwners.{some_inj, none_some, kind_of, depth_of, at_key, key_slab, key_page}
use Rattle.plain_book.proofs.LawsHistory.{leave_refuses}
use Rattle.plain_book.proofs.LawsTaking.{good_taken}
use Rattle.plain_book.proofs.LawsBlocks.{joined_at}
use Rattle.plain_book.proofs.LawsChain.{chain}
use Rattle.book_space.specs.Space.{Space, space}
use Rattle.book_space.specs.Desks.{TakenFor}
use Rattle.book_keys.specs.Keys.{good_extent, Tail}
use Rattle.book_keys.specs.Keys.{page_at as page_bytes}
use Rattle.book_blocks.specs.Blocks.{last_page_of, total_with, page_with, page_before}
use Rattle.book_blocks.proofs.LawsTotals.{total_fits}
use Rattle.book_blocks.proofs.LawsReadsMore.{spot_fits, spot_none, page_more_lem, page_before_lem, page_before_padded}
use Rattle.book.specs.Book.{Book, seen}
use Rattle.book_append.specs.Appends.{appending, grow_chain, append_page, append_at, appends_with}
use Rattle.book_history.specs.Agrees.{scan_of, PageReads, LastReads, NextReads, ChainReads, first_page_off, SlabIn, PageIn, BlockReads}
use Rattle.book_history.specs.Agrees.{contents_of, AgreesSpace, AgreesCounts, Agrees}
use Rattle.book_history.proofs.LawsFrame.{block_ends}
use Rattle.book_history.proofs.LawsStep.{Alike, refused_alike, alike_both, placed_contents}
use Rattle.book_history.proofs.LawsTake.{in_hand_of}
use Rattle.book_history.proofs.LawsDesks.{key_desk, held_same, counts_placed, counts_stay, for_then, page_for_alike}
use Rattle.book_history.proofs.LawsHand.{agrees_same, agrees_written, Filled, filled_whole, fill_agrees, fill_long, Meanwhile}
use Rattle.book_history.proofs.LawsHand.{meanwhile_placed, with_hand, placed_page}
use Rattle.book_history.proofs.LawsContent.{last_written, some_pages, last_page_at, last_reads, last_fits, tail_agrees}
use Rattle.book_history.proofs.LawsContent.{total_more, pages_listed, append_leaves, append_begins, append_ends}
use Rattle.book_rules.specs.Outcomes.{Appended}

-- ---- a chain of pages with a number joined to the last

-- The pages of a list whose last one has a number more.
abbrev pub joined_pages : ℕ → List Page → List Page
joined_pages n ps = replace_last (λ p. longer_page n p ∷ []) ps

-- A page at the last index reads as a last page.
reads_last : (first creates i : ℕ) (page : Page) (ps : List Page) (block : List ℕ) → i + 1 ≡ length ps → PageReads (last_page page ps) block
    → LastReads first creates block → ChainReads first creates i ps block
unfolding ChainReads last_page
reads_last first creates i page [] block e r l = tt
reads_last first creates zero page (p ∷ []) block e r l = (r, l)
reads_last first creates zero page (p ∷ q ∷ ps) block e r l = absurd (omega arith)
reads_last first creates (suc i) page (p ∷ []) block e r l = tt
reads_last first creates (suc i) page (p ∷ q ∷ ps) block e r l = reads_last first creates i p (q ∷ ps) block (omega arith) r l

-- There are as many pages then.
joined_long : (n : ℕ) (ps : List Page) → length (joined_pages n ps) ≡ length ps
unfolding replace_last
joined_long n [] = refl
joined_long n (p ∷ []) = refl
joined_long n (p ∷ q ∷ ps) = ap suc (joined_long n (q ∷ ps))

-- The last of them has the number.
joined_last : (n : ℕ) (page : Page) (ps : List Page) → 0 < length ps → last_page page (joined_pages n ps) ≡ longer_page n (last_page page ps)
unfolding replace_last last_page
joined_last n page [] l = absurd (omega arith)
joined_last n page (p ∷ []) l = refl
joined_last n page (p ∷ q ∷ ps) l = joined_last n p (q ∷ ps) (omega arith)

-- The first of them is where it was.
joined_first : (n : ℕ) (ps : List Page) → first_page_off (joined_pages n ps) ≡ first_page_off ps
unfolding replace_last
joined_first n [] = refl
joined_first n (p ∷ []) = refl
joined_first n (p ∷ q ∷ ps) = refl

-- The pages before the last read as they did.
joined_before : (first creates total i n : ℕ) (ps : List Page) (block : List ℕ) → i + 1 ≢ length ps → ChainReads first creates i ps block
    → ChainReads first total i (joined_pages n ps) block
unfolding ChainReads replace_last
joined_before first creates total i n [] block e r = tt
joined_before first creates total zero n (p ∷ []) block e r = absurd (e refl)
joined_before first creates total zero n (p ∷ q ∷ []) block e r = r
joined_before first creates total zero n (p ∷ q ∷ q' ∷ ps) block e r = r
joined_before first creates total (suc i) n (p ∷ []) block e r = tt
joined_before first creates total (suc i) n (p ∷ q ∷ ps) block e r =
    joined_before first creates total i n (q ∷ ps) block (λ (z : i + 1 ≡ length (q ∷ ps)). e (omega arith)) r

-- ---- a chain of pages with one page more

-- The page more is the last.
begun_last : (page : Page) (ps : List Page) (p : Page) → last_page page (ps ++ (p ∷ [])) ≡ p
unfolding last_page
begun_last page [] p = refl
begun_last page (q ∷ ps) p = begun_last q ps p

-- The first of some pages is the first with one more.
begun_first : (ps : List Page) (p : Page) → 0 < length ps → first_page_off (ps ++ (p ∷ [])) ≡ first_page_off ps
begun_first [] p l = absurd (omega arith)
begun_first (q ∷ ps) p l = refl

-- The page that was the last reads as it did, and names the page more.
begun_next : (first creates i : ℕ) (page : Page) (ps : List Page) (p : Page) (block : List ℕ) → i + 1 ≡ length ps
    → PageReads (last_page page ps) block
    → NextReads p.off block → ChainReads first creates i (ps ++ (p ∷ [])) block
unfolding ChainReads last_page
begun_next first creates i page [] p block e r l = absurd (omega arith)
begun_next first creates zero page (q ∷ []) p block e r l = (r, l)
begun_next first creates zero page (q ∷ q' ∷ ps) p block e r l = absurd (omega arith)
begun_next first creates (suc i) page (q ∷ []) p block e r l = absurd (omega arith)
begun_next first creates (suc i) page (q ∷ q' ∷ ps) p block e r l = begun_next first creates i q (q' ∷ ps) p block (omega arith) r l

-- The pages before it read as they did.
begun_before : (first creates total i : ℕ) (ps : List Page) (p : Page) (x : Block) (block : List ℕ) → i + 1 ≢ length ps
    → page_no i ps ≡ some x
    → ChainReads first creates i ps block → ChainReads first total i (ps ++ (p ∷ [])) block
unfolding ChainReads page_no
begun_before first creates total i [] p x block e at r = absurd (none_some at)
begun_before first creates total zero (q ∷ []) p x block e at r = absurd (e refl)
begun_before first creates total zero (q ∷ q' ∷ ps) p x block e at r = r
begun_before first creates total (suc i) (q ∷ ps) p x block e at r =
    begun_before first creates total i ps p x block (λ (z : i + 1 ≡ length ps). e (omega arith)) at r

-- ---- the last page is written

-- The last page of a key's chain is written, and all its pages read as those of another chain: the spaces agree, nobody has another block.
chain_written : (plain : PlainBook) (inside : PlainSpace) (s : Space) (held : Option Block) (key total : ℕ) (ps qs : List Page)
    (ys : List ℕ)
    → (key_of key plain).place ≡ pages ps → 0 < length ps → Good inside (places plain) held → length ys ≡ page_size
    → ((i : ℕ) → i + 1 ≡ length ps → ChainReads (first_page_off qs) total i qs ys)
    → ((i : ℕ) (x : Block) (block : List ℕ) → i + 1 ≢ length ps → page_no i ps ≡ some x
    → ChainReads (first_page_off ps) (total_of (key_of key plain)) i ps block
    → ChainReads (first_page_off qs) total i qs block)
    → AgreesSpace inside s (places plain) held (contents_of plain)
    → AgreesSpace inside (space (overwrite s.body (last_page no_page ps).off ys) s.mark s.free) (places plain) held
    (placed_contents plain key total (pages qs))
unfolding has
chain_written plain inside s held key total ps qs ys is one g long mine others a =
    agrees_written inside s (places plain) (places plain) held held (contents_of plain) (placed_contents plain key total (pages qs))
    (page_of key (length ps - 1))
    (record { class = page_class; off = (last_page no_page ps).off }) ys g (ap (page_in (length ps - 1)) is ∙ at_last) long to a
  where
    at_last : page_no (length ps - 1) ps ≡ some (record { class = page_class; off = (last_page no_page ps).off })
    at_last = last_page_at (length ps - 1) no_page ps (omega arith)

    to : (v : Owner) (x : Block) → has inside (places plain) held v ≡ some x
        → ((x ≡ record { class = page_class; off = (last_page no_page ps).off }) × BlockReads inside (placed_contents plain key total (pages qs))
        v ys)
        ⊎ ((u : Owner) × (u ≢ page_of key (length ps - 1)) × (has inside (places plain) held u ≡ some x)
        × ((block : List ℕ) → BlockReads inside (contents_of plain) u block
        → BlockReads inside (placed_contents plain key total (pages qs)) v block))
    to hand x e = inr (hand, λ q. (let z = ap kind_of q in omega arith), e, λ block r. r)
    to (stack k d) x e = inr (stack k d, λ q. (let z = ap kind_of q in omega arith), e, λ block r. r)
    to (slab_of j) x e = inr (slab_of j, λ q. (let z = ap kind_of q in omega arith), e, λ block r. keep (eqb j key) block r)
      where
        keep : (t : Bool) (block : List ℕ) → SlabIn (places plain j) block → SlabIn (cond t (pages qs) (places plain j)) block
        keep true block r = tt
        keep false block r = r
    to (page_of j i) x e = go (eqb j key) refl
      where
        go : (t : Bool) → eqb j key ≡ t
            → ((x ≡ record { class = page_class; off = (last_page no_page ps).off }) × PageIn (cond t total (total_of (key_of j plain))) i
            (cond t (pages qs) (places plain j)) ys)
            ⊎ ((u : Owner) × (u ≢ page_of key (length ps - 1)) × (has inside (places plain) held u ≡ some x)
            × ((block : List ℕ) → BlockReads inside (contents_of plain) u block
            → PageIn (cond t total (total_of (key_of j plain))) i (cond t (pages qs) (places plain j)) block))
        go false q = inr (page_of j i, λ z. (eqb-false j key q (cc)), e, λ block r. r)
        go true q = at_index (eqb (i + 1) (length ps)) refl
          where
            same : j ≡ key
            same = eqb-true j key q

            at_key_lem : page_no i ps ≡ some x
            at_key_lem = sym (ap (page_in i) (ap (places plain) same ∙ is)) ∙ e

            at_index : (t : Bool) → eqb (i + 1) (length ps) ≡ t
                → ((x ≡ record { class = page_class; off = (last_page no_page ps).off }) × ChainReads (first_page_off qs) total i qs ys)
                ⊎ ((u : Owner) × (u ≢ page_of key (length ps - 1)) × (has inside (places plain) held u ≡ some x)
                × ((block : List ℕ) → BlockReads inside (contents_of plain) u block → ChainReads (first_page_off qs) total i qs block))
            at_index true w =
                let e' = eqb-true (i + 1) (length ps) w in
                inl (some_inj (sym at_key_lem ∙ last_page_at i no_page ps e'), mine i e')
            at_index false w =
                let n = eqb-false (i + 1) (length ps) w in
                inr (
                  page_of j i,
                  λ z. (let y = ap depth_of z in n (omega arith)),
                  e,
                  λ block r.
                      others i x block n at_key_lem
                      (subst (λ (p : Place). PageIn (total_of (key_of key plain)) i p block) is
                      (subst (λ (k : ℕ). PageIn (total_of (key_of k plain)) i (places plain k) block) same r)),
                )

-- ---- what a last page reads as once it is changed

-- A last page with a number more is a whole page, reads so, and is the last of one number more.
more_reads : (p : Page) (page : List ℕ) (first creates n : ℕ) (w : Spot) → PageReads p page → LastReads first creates page
    → last_from 0 p.part.numbers < n
    → n < 2 ^ 62 → spot_behind page n (scan_of p.part) ≡ some w → let after = page_with page w creates in
    (length after ≡ page_size) × (PageReads (longer_page n p) after × LastReads first (total_with creates) after)
unfolding longer good_extent
more_reads p page first creates n w r l above low spot =
    let m = page_more_lem page n creates (scan_of p.part) w r.reads l.extent above (omega arith) spot in (
      m.long,
      (
        record { reads = m.scans; room = m.room ∙ r.room; padded = m.padded ∙ r.padded },
        record {
          extent = m.names;
          last = rw m.link l.last;
          first = rw m.link l.first;
          good =
              rw (m.base, m.extents) l.good;
          creates = m.counts;
        },
      ),
    )

-- A last page that gets a next one is a whole page, reads as it did, and names the next one.
next_reads : (p : Page) (page : List ℕ) (first creates mark next : ℕ) → PageReads p page → LastReads first creates page
    → p.room ≡ last_page_room
    → mark ≤ most_body → is_block page_class next mark ≡ true → let after = page_before page next in
    (length after ≡ page_size) × (PageReads p after × NextReads next after)
next_reads p page first creates mark next r l room high stands =
    let s = block_stands page_class next mark stands in
    let se = s.ends in
    let m = page_before_lem page next (scan_of p.part) r.reads l.extent s.aligned (omega arith) in
    let same = page_before_padded page next (scan_of p.part) r.reads l.extent in (
      m.long,
      (
        record { reads = m.scans; room = m.room ∙ sym room; padded = same ∙ r.padded },
        record { more = m.not_last; next = m.to },
      ),
    )

-- ---- a number behind a key's pages

-- The first of some pages is at index 0.
first_page_at : (ps : List Page) → 0 < length ps → page_no 0 ps ≡ some (record { class = page_class; off = first_page_off ps })
unfolding page_no
first_page_at [] l = absurd (omega arith)
first_page_at (p ∷ ps) l = refl

-- One number above 0, below 2^62, rises, and its stream fits a last page.
one_rises : (n : ℕ) → 0 < n → n < 2 ^ 62 → Rising (2 ^ 62) 0 (n ∷ [])
unfolding Rising
one_rises n positive small = (positive, small, tt)

one_fits : (n : ℕ) → n < 2 ^ 62 → stream_len (n ∷ []) ≤ last_page_room
unfolding stream_len_from
one_fits n small = omega (arith, len_at_most (n - 0) (omega arith))

module _ (plain : PlainBook) (b : Book) (g : GoodPlain plain) (a : Agrees plain b) (shape : out_of_shape plain.size (length plain.keys)
    ≡ false)
    (key n : ℕ) (ps : List Page) (is : (key_of key plain).place ≡ pages ps) (low : key < length plain.keys) (positive : 0 < n)
    (small : n < 2 ^ 62)
    (above : last_from 0 (last_page no_page ps).part.numbers < n) where
  -- the key's list before, and after
  abbrev list : List ℕ
  list = (key_of key plain).list

  abbrev more : List ℕ
  more = extended list n

  -- the offset of the last page
  abbrev last : ℕ
  last = (last_page no_page ps).off

  -- the total that it tells, and what the append is told of it
  abbrev total : ℕ
  total = total_of (key_of key plain)

  abbrev tail : Tail
  tail = record { scan = scan_of (last_page no_page ps).part; last = record { first = first_page_off ps; creates = total } }

  -- there is a page, and the list is one number longer
  one : 0 < length ps
  one = some_pages ps (chain key ps g is).fit

  more_long : length more ≡ length list + 1
  more_long = length-append list (n ∷ [])

  -- the total with the number
  total_is : (place : Place) → total_of (record { list = more; place = place; counted = (key_of key plain).counted }) ≡ total_with total
  total_is place =
      total_more (key_of key plain).counted (length more) (length list) more_long (pages_listed plain b g shape (a.inside shape) key ps is)

  -- the key has the last page, at the last index
  last_owned : (inside : PlainSpace) (held : Option Block)
      → has inside (places plain) held (page_of key (length ps - 1)) ≡ some (record { class = page_class; off = last })
  unfolding has
  last_owned inside held = let l = one in ap (page_in (length ps - 1)) is ∙ last_page_at (length ps - 1) no_page ps (omega arith)

  -- What the last page reads as, in any space that agrees.
  last_known : (inside : PlainSpace) (s : Space) (held : Option Block) → AgreesSpace inside s (places plain) held (contents_of plain)
      → PageReads (last_page no_page ps) (page_bytes (seen s) last) × LastReads (first_page_off ps) total (page_bytes (seen s) last)
  last_known inside s held h =
      let l = one in
      last_reads (first_page_off ps) total (length ps - 1) no_page ps (page_bytes (seen s) last) (omega arith)
      (subst (λ (p : Place). PageIn total (length ps - 1) p (page_bytes (seen s) last)) is
      (h.stored (page_of key (length ps - 1)) (record { class = page_class; off = last }) (last_owned inside held)))

  -- A body is as long after the last page is written.
  last_long : (inside : PlainSpace) (s : Space) (held : Option Block) (ys : List ℕ) → Good inside (places plain) held
      → AgreesSpace inside s (places plain) held (contents_of plain) → length ys ≡ page_size → length (overwrite s.body last ys)
      ≡ length s.body
  last_long inside s held ys good h long =
      let y : Block = record { class = page_class; off = last } in
      let ends = block_ends y inside.mark (good.apart.stands (page_of key (length ps - 1)) y (last_owned inside held)) in
      length_overwrite s.body last ys (rw long (omega (arith, h.within)))

  -- What the last page reads as with the number joined.
  joined_reads : (w : Spot) → spot_behind (page_bytes (seen b.space) last) n tail.scan ≡ some w
      → let ys = page_with (page_bytes (seen b.space) last) w total in
      (length ys ≡ page_size) × (PageReads (longer_page n (last_page no_page ps)) ys × LastReads (first_page_off ps) (total_with total) ys)
  joined_reads w spot =
      let (r, l) = last_known plain.space b.space none (a.inside shape).space in
      more_reads (last_page no_page ps) (page_bytes (seen b.space) last) (first_page_off ps) total n w r l above small spot

  -- The number joins the last page: the spaces agree.
  joined_agrees : (w : Spot) → spot_behind (page_bytes (seen b.space) last) n tail.scan ≡ some w
      → AgreesSpace plain.space (space (overwrite b.space.body last (page_with (page_bytes (seen b.space) last) w total))
      b.space.mark
      b.space.free)
      (at_key key (joined_to n ps) (places plain)) none (placed_contents plain key (total_with total) (joined_to n ps))
  unfolding has
  joined_agrees w spot =
      agrees_same plain.space _ (places plain) (at_key key (joined_to n ps) (places plain)) none none
      (placed_contents plain key (total_with total) (joined_to n ps))
      (placed_contents plain key (total_with total) (joined_to n ps)) to
      (chain_written plain plain.space b.space none key (total_with total) ps (joined_pages n ps) ys is one g.space
      (joined_reads w spot).0 mine others (a.inside shape).space)
    where
      ys : List ℕ
      ys = page_with (page_bytes (seen b.space) last) w total

      mine : (i : ℕ) → i + 1 ≡ length ps → ChainReads (first_page_off (joined_pages n ps)) (total_with total) i (joined_pages n ps) ys
      mine i e =
          let (long, (reads, ends)) = joined_reads w spot in
          rw (joined_first n ps)
          (reads_last (first_page_off ps) (total_with total) i no_page (joined_pages n ps) ys (rw (joined_long n ps) e)
          (rw (joined_last n no_page ps one) reads) ends)

      others : (i : ℕ) (x : Block) (block : List ℕ) → i + 1 ≢ length ps → page_no i ps ≡ some x
          → ChainReads (first_page_off ps) total i ps block
          → ChainReads (first_page_off (joined_pages n ps)) (total_with total) i (joined_pages n ps) block
      others i x block e at r = rw (joined_first n ps) (joined_before (first_page_off ps) total (total_with total) i n ps block e r)

      to : (v : Owner) (x : Block) → has plain.space (at_key key (joined_to n ps) (places plain)) none v ≡ some x
          → (u : Owner) × (has plain.space (places plain) none u ≡ some x)
          × ((block : List ℕ) → BlockReads plain.space (placed_contents plain key (total_with total) (joined_to n ps)) u block
          → BlockReads plain.space (placed_contents plain key (total_with total) (joined_to n ps)) v block)
      to hand x e = absurd (none_some e)
      to (stack k d) x e = (stack k d, e, λ block r. r)
      to (slab_of j) x e = ⊎_elim (λ (same, f). absurd (none_some f)) (λ (other, f). (slab_of j, f, λ block r. r))
          (key_slab key (joined_to n ps) (places plain) j x e)
      to (page_of j i) x e =
          ⊎_elim (λ (same, f). (page_of j i, ap (page_in i) (ap (places plain) same ∙ is) ∙ sym (joined_at i n ps) ∙ f, λ block r. r))
          (λ (other, f). (page_of j i, f, λ block r. r))
          (key_page key (joined_to n ps) (places plain) j i x e)

  -- the key's desk
  abbrev own : ℕ
  own = desk_in plain key

  known : own < desks
  known = key_desk plain key g.desks

  -- What the plain book tells and leaves, once the key's new place is known.
  abbrev placing : Placed → Answer (PlainOutcome Appended)
  placing = append_leaves plain key n (key_of key plain).counted

  -- Both books answer alike where the number joins the last page.
  joined_alike : (w : Spot) → spot_behind (page_bytes (seen b.space) last) n tail.scan ≡ some w
      → Alike (placing (record { place = joined_to n ps; space = plain.space; rewritten = 0 })) (append_page own b key n last tail (some w))
  unfolding append_page head_of
  joined_alike w spot =
      append_ends plain b key more (joined_to n ps) (key_of key plain).counted (total_with total) (Extent last) 0 plain.space _
      b.counts a
      shape low
      (ap (λ (p : Page). Extent p.off) (joined_last n no_page ps one)) (total_is (joined_to n ps))
      (last_long plain.space b.space none (page_with (page_bytes (seen b.space) last) w total) g.space (a.inside shape).space
      (joined_reads w spot).0)
      (joined_agrees w spot)
      (counts_stay plain b.counts key known (a.inside shape).counts (key_in more (joined_to n ps) (key_of key plain).counted)
      plain.space
      refl (joined_long n ps ∙ sym (ap (λ (p : Place). pages_of p) is)))

  -- The number begins a page in hand, and the old last page names it: the spaces agree, and the body is as long.
  begun_agrees : (inside : PlainSpace) (s : Space) (off : ℕ) → Good inside (places plain) (some (record { class = page_class; off = off }))
      → AgreesSpace inside s (places plain) (some (record { class = page_class; off = off })) (contents_of plain)
      → let body = overwrite (overwrite s.body last (page_before (page_bytes (seen s) last) off)) off
      (last_page_of (first_page_off ps) off 1 (total_with total) (n ∷ [])) in
      AgreesSpace inside (space body s.mark s.free) (at_key key (begun_at off n ps) (places plain)) none
      (placed_contents plain key (total_with total) (begun_at off n ps))
      × (length body ≡ length s.body)
  unfolding has
  begun_agrees inside s off good h = (
    placed_page plain key (total_with total) inside _ (places plain) ps new
        (with_hand (Filled page_class ys) (placed_contents plain key (total_with total) (begun_at off n ps))) meanwhile
        (λ i x e. ap (page_in i) is ∙ e) (λ i block l r. rw (eq-eqb key key refl) at r) mine
        (fill_agrees inside named (places plain) page_class off (placed_contents plain key (total_with total) (begun_at off n ps))
        ys whole good linked),
    fill_long inside named (places plain) page_class off (placed_contents plain key (total_with total) (begun_at off n ps)) ys whole good linked
        ∙ as_long,
  )
    where
      -- the page in hand, and how high it can be
      new : Page
      new = record { off = off; room = last_page_room; part = written (n ∷ []) }

      high : inside.mark ≤ most_body
      high = omega (arith, h.within, h.small)

      stands : is_block page_class off inside.mark ≡ true
      stands = good.apart.stands hand (record { class = page_class; off = off }) refl

      -- the old last page, and what it reads as with the next one
      old : List ℕ
      old = page_before (page_bytes (seen s) last) off

      next : (length old ≡ page_size) × (PageReads (last_page no_page ps) old × NextReads off old)
      next =
          let (r, l) = last_known inside s (some (record { class = page_class; off = off })) h in
          next_reads (last_page no_page ps) (page_bytes (seen s) last) (first_page_off ps) total inside.mark off r l
          (last_fits no_page ps (chain key ps g is).fit).1 high stands

      named : Space
      named = space (overwrite s.body last old) s.mark s.free

      as_long : length named.body ≡ length s.body
      as_long = last_long inside s (some (record { class = page_class; off = off })) old good h next.0

      linked : AgreesSpace inside named (places plain) (some (record { class = page_class; off = off }))
          (placed_contents plain key (total_with total) (begun_at off n ps))
      linked =
          chain_written plain inside s (some (record { class = page_class; off = off })) key (total_with total) ps (ps ++ (new ∷ []))
          old is one good next.0
          (λ i e. begun_next (first_page_off (ps ++ (new ∷ []))) (total_with total) i no_page ps new old e next.1.0 next.1.1)
          (λ i x block e at r. rw (begun_first ps new one) (begun_before (first_page_off ps) total (total_with total) i ps new x block e at r))
          h

      -- the page more, and what it reads as
      ys : List ℕ
      ys = last_page_of (first_page_off ps) off 1 (total_with total) (n ∷ [])

      reads : (length ys ≡ page_size) × (PageReads new ys × LastReads (first_page_off ps) (total_with total) ys)
      reads =
          last_written inside.mark off (first_page_off ps) off 1 (total_with total) (n ∷ []) high
          (good.apart.stands (page_of key 0) (record { class = page_class; off = first_page_off ps })
          (ap (page_in 0) is ∙ first_page_at ps one))
          stands (omega arith) (omega arith) (total_fits total)
          (one_rises n positive small) (one_fits n small)

      whole : length ys ≤ slab_bytes page_class
      whole = omega (arith, reads.0)

      mine : (block : List ℕ) → Filled page_class ys block
          → ChainReads (first_page_off (ps ++ (new ∷ []))) (total_with total) (length ps) (ps ++ (new ∷ [])) block
      mine block f =
          rw (filled_whole page_class ys block reads.0 f, begun_first ps new one)
          (reads_last (first_page_off ps) (total_with total) (length ps) no_page (ps ++ (new ∷ [])) ys (sym (length-append ps (new ∷ [])))
          (rw (begun_last no_page ps new) reads.1.0) reads.1.1)

      meanwhile : Meanwhile plain key (places plain)
          (with_hand (Filled page_class ys) (placed_contents plain key (total_with total) (begun_at off n ps)))
      meanwhile =
          let m = meanwhile_placed plain key (total_with total) (begun_at off n ps) (Filled page_class ys) in
          record { stand = λ j other. refl; slabs = m.slabs; pages = m.pages }

  -- The counts tell of the page more.
  begun_counts : (t : PlainTaken) (u : TakenFor)
      → u.counts ≡ counted (freed_in t.space) own (held_count own b.counts + 1) b.counts
      → AgreesCounts (with_key key (key_in more (begun_at t.off n ps) (key_of key plain).counted) t.space plain) u.counts
  begun_counts t u left =
      let held = held_same plain b.counts key known (a.inside shape).counts in
      let was : pages_of (key_of key plain).place ≡ length ps = ap (λ (p : Place). pages_of p) is in
      let long : pages_of (begun_at t.off n ps) ≡ length ps + 1 = length-append ps _ in
      subst (AgreesCounts (with_key key (key_in more (begun_at t.off n ps) (key_of key plain).counted) t.space plain)) (sym left)
      (counts_placed plain b.counts key known (a.inside shape).counts
      (key_in more (begun_at t.off n ps) (key_of key plain).counted) t.space (freed_in t.space) _ refl (omega arith))

  -- Both books answer alike where the number begins a taken page.
  begun_alike : Alike (and_then (begin_page plain.size (leave_of plain key) ps n plain.space) placing) (grow_chain own b key n last tail)
  unfolding begin_page grow_chain and_then head_of
  begun_alike =
      for_then (λ x y. Alike (and_then x placing) y) (places plain) (in_hand_of page_class) (contents_of plain) plain.size own 1 b.counts
      _ _ _ _ (λ number. refused_alike) go
      (page_for_alike plain b.space b.counts key (places plain) (contents_of plain) g.space g.desks (a.inside shape).counts
      a.size (a.inside shape).space)
    where
      go : (t : PlainTaken) (u : TakenFor) → leave_of plain key 1 (plain_take plain.size page_class plain.space) ≡ accepted t
          → u.off ≡ t.off → length u.space.body ≡ plain.size
          → AgreesSpace t.space u.space (places plain) (some (record { class = page_class; off = t.off })) (contents_of plain)
          → u.counts ≡ counted (freed_in t.space) own (held_count own b.counts + 1) b.counts
          → Alike (placing (record { place = begun_at t.off n ps; space = t.space; rewritten = 0 }))
          (accepted (appending key (Extent u.off) 0
          (space (overwrite (overwrite u.space.body last (page_before (page_bytes (seen u.space) last) u.off)) u.off
          (last_page_of (first_page_off ps) u.off 1 (total_with total) (n ∷ [])))
          u.space.mark u.space.free) u.counts b))
      go t u took same long h left =
          let good = good_taken plain.size page_class plain.space (places plain) (omega arith) (leave_refuses plain key 1 _ t took)
          g.space in
          let (all, kept) = begun_agrees t.space u.space t.off good h in
          rw same
          (append_ends plain b key more (begun_at t.off n ps) (key_of key plain).counted (total_with total) (Extent t.off) 0 t.space
          _ u.counts a shape low
          (ap (λ (p : Page). Extent p.off) (begun_last no_page ps
          (record { off = t.off; room = last_page_room; part = written (n ∷ []) }))) (total_is (begun_at t.off n ps))
          (kept ∙ long ∙ sym a.size) all (begun_counts t u left))

  -- Both books answer alike: they judge by one test whether the number joins the last page.
  behind_alike : Alike (and_then (append_pages plain.size (leave_of plain key) ps n plain.space) placing)
      (append_page own b key n last tail (spot_behind (page_bytes (seen b.space) last) n tail.scan))
  unfolding append_pages append_page joins longer and_then
  behind_alike = go (joins n ps) refl
    where
      room : stream_cap (page_bytes (seen b.space) last) ≡ (last_page no_page ps).room
      room = (last_known plain.space b.space none (a.inside shape).space).0.room

      go : (t : Bool) → joins n ps ≡ t
          → Alike (and_then (cond t (accepted (record { place = joined_to n ps; space = plain.space; rewritten = 0 }))
          (begin_page plain.size (leave_of plain key) ps n plain.space)) placing)
          (append_page own b key n last tail (spot_behind (page_bytes (seen b.space) last) n tail.scan))
      go true e =
          let fits = leb-true (longer n (last_page no_page ps).part).bytes (last_page no_page ps).room e in
          let spot = spot_fits (page_bytes (seen b.space) last) n tail.scan (rw room fits) in
          rw spot (joined_alike _ spot)
      go false e =
          let full = leb-false (longer n (last_page no_page ps).part).bytes (last_page no_page ps).room e in
          rw (spot_none (page_bytes (seen b.space) last) n tail.scan (rw room full)) begun_alike

-- The two books answer an append alike, where the key has pages.
pub append_pages_lem : (plain : PlainBook) (b : Book) (key n : ℕ) (ps : List Page) → GoodPlain plain → Agrees plain b
    → (key_of key plain).place ≡ pages ps
    → Alike (plain_appends plain key n) (appends_with plain.desks b key n)
unfolding append_place append_at head_of
append_pages_lem plain b key n ps g a is =
    append_begins plain b key n g a
    (λ shape h low positive small.
    rw (
      is,
      then_yes _ (λ (t : Tail). refuse_if (leb n (last_of t.scan)) offered_not_rising
          (append_page (desk_in plain key) b key n (last_page no_page ps).off t
          (spot_behind (page_bytes (seen b.space) (last_page no_page ps).off) n t.scan)))
          (tail_agrees plain b g shape h key ps is),
    )
    (alike_both _ _ _ _ _ (ap (leb n) (chain key ps g is).last)
    (λ e. behind_alike plain b g a shape key n ps is low positive small
    (rw (chain key ps g is).last at (leb-false n (last_from 0 (key_of key plain).list) e)))))
