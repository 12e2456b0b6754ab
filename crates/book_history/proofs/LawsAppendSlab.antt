-- The two books answer an append alike, where the key is empty, inline or in a slab: it stays, or moves to a slab or a page. Assumes
-- nothing.
use Prim.Native.Nat.{ℕ, ◌+◌, ◌-◌, ◌^◌, ◌≤◌, ◌<◌}
use mathlib.Core.Bool.{Bool, true, false, cond, true≢false}
use mathlib.Core.List.{List, [], ◌∷◌, ◌++◌}
use mathlib.Core.Logic.{◌⊎◌, inl, inr, ⊎_elim, ◌≢◌}
use mathlib.Core.Option.{Option, none, some}
use mathlib.Core.Path.{◌≡◌, refl, sym, ap, subst, ◌∙◌}
use native.Mathlib.Omega.{arith}
use lib.Dec.{leb}
use lib.ListN.{length, length-append}
use borrow.Author.Tests.{eq-eqb, leb-false, lt-leb}
use Rattle.plain_book.proofs.LawsTotals.{total_exact}
use Rattle.scripthash_pages.proofs.LawsAppended.{count_least}
use Rattle.error.specs.Refusal.{Answer, refuse_if, and_then, offered_not_rising}
use Rattle.error.proofs.LawsAnswer.{refuse_no, then_yes}
use Rattle.buffer.specs.Bytes.{overwrite}
use Rattle.buffer.proofs.LawsBytes.{length_overwrite}
use Rattle.buffer.proofs.LawsOverwrite.{length_part}
use Rattle.compact.specs.Uleb128.{uleb_len}
use Rattle.scripthash_layout.specs.Sizes.{slab_bytes, page_class, page_size}
use Rattle.scripthash_layout.specs.declared.head.ShHeadValue.TheVariants.{Inline, Slab, Extent}
use Rattle.scripthash_stream.specs.Stream.{Rising, last_from, stream_len}
use Rattle.scripthash_slabs.specs.Slab.{slab_payload}
use Rattle.scripthash_cutting.specs.Cutting.{last_page_room}
use Rattle.scripthash_free.specs.FreeList.{Block, is_block}
use Rattle.book_limits.specs.Limits.{out_of_shape, most_body, total_told}
use Rattle.book_rules.specs.Places.{stays, moves_to}
use Rattle.book_rules.proofs.LawsRules.{stays_holds, moves_to_lem}
use Rattle.book_rules.specs.Outcomes.{Appended}
use Rattle.book_desks.specs.Counts.{held_count, counted}
use Rattle.plain_book.specs.Space.{Taken as PlainTaken}
use Rattle.plain_book.specs.Key.{Kept, written, longer, Page, Place, empty, inline, slab, pages, last_page, head_of, freed_place, counted_after}
use Rattle.plain_book.specs.Key.{key_in}
use Rattle.plain_book.specs.Key.{one_page, pages_of, Placed, moved, append_place}
use Rattle.plain_book.specs.Book.{Book as PlainBook, Outcome as PlainOutcome, key_of, with_key, desk_in, freed_in, leave_of, extended}
use Rattle.plain_book.specs.Book.{appends as plain_appends}
use Rattle.plain_book.specs.Sound.{Fits}
use Rattle.plain_book.specs.Owners.{Owner, hand, stack, slab_of, page_of, slab_at, has, places}
use Rattle.plain_book.specs.Good.{Good, GoodPlain}
use Rattle.plain_book.proofs.LawsOwners.{some_inj, none_some, kind_of, depth_of, at_key, key_slab, key_page}
use Rattle.plain_book.proofs.LawsTaking.{good_taken}
use Rattle.plain_book.proofs.LawsHistory.{leave_refuses}
use Rattle.plain_book.proofs.LawsDesks.{place_back}
use Rattle.plain_book.proofs.LawsSound.{rises_snoc, moved_small}
use Rattle.book_space.specs.Space.{space, release}
use Rattle.book_space.specs.Desks.{TakenFor}
use Rattle.book_keys.specs.Keys.{block_at}
use Rattle.book_blocks.specs.Blocks.{last_page_of, slab_with}
use Rattle.book_blocks.proofs.LawsReadsSlab.{SlabReads as StoredReads, slab_with_long, slab_more, slab_more_padded}
use Rattle.book.specs.Book.{Book, Outcome, filled, seen}
use Rattle.book_append.specs.Appends.{moves_into, moves, append_slab, append_at, appends_with}
use Rattle.book_history.specs.Agrees.{scan_of, SlabReads, PageReads, LastReads, SlabIn, BlockReads, contents_of, AgreesSpace}
use Rattle.book_history.specs.Agrees.{AgreesCounts, AgreesInside}
use Rattle.book_history.specs.Agrees.{Agrees}
use Rattle.book_history.proofs.LawsFrame.{block_ends}
use Rattle.book_history.proofs.LawsStep.{Alike, refused_alike, alike_both, placed_contents}
use Rattle.book_history.proofs.LawsTake.{in_hand_of}
use Rattle.book_history.proofs.LawsDesks.{key_desk, held_same, counts_placed, counts_stay, for_then, slab_for_alike, page_for_alike}
use Rattle.book_history.proofs.LawsContent.{blocks_of, none_listed, one_listed, slab_agrees, last_written, append_leaves}
use Rattle.book_history.proofs.LawsContent.{plain_appending}
use Rattle.book_history.proofs.LawsContent.{append_begins, append_ends}
use Rattle.book_history.proofs.LawsHand.{agrees_written, with_hand, Filled, filled_whole, fill_long, fill_agrees, payload_long}
use Rattle.book_history.proofs.LawsHand.{filled_slab}
use Rattle.book_history.proofs.LawsHand.{meanwhile_first, meanwhile_placed, OthersKept, others_kept, placed_bare, placed_slab}
use Rattle.book_history.proofs.LawsHand.{placed_one}
use Rattle.book_history.proofs.LawsDrop.{Given, place_gone, gone_placed}

-- Both books branch by one test, and then the plain one goes on.
alike_cond_then : (t t' : Bool) (x y : Answer Placed) (go : Placed → Answer (PlainOutcome Appended)) (u v : Answer (Outcome Appended))
    → t ≡ t'
    → (t ≡ true → Alike (and_then x go) u)
    → (t ≡ false → Alike (and_then y go) v) → Alike (and_then (cond t x y) go) (cond t' u v)
alike_cond_then true true x y go u v e yes' no' = yes' refl
alike_cond_then true false x y go u v e yes' no' = absurd (true≢false e)
alike_cond_then false true x y go u v e yes' no' = absurd (true≢false (sym e))
alike_cond_then false false x y go u v e yes' no' = no' refl

module _ (plain : PlainBook) (b : Book) (key n : ℕ) (g : GoodPlain plain) (a : Agrees plain b)
    (shape : out_of_shape plain.size (length plain.keys) ≡ false)
    (h : AgreesInside plain b) (low : key < length plain.keys) (small : n < 2 ^ 62) where
  -- the key's list, before and after
  abbrev list : List ℕ
  list = (key_of key plain).list

  abbrev grown : List ℕ
  grown = extended (key_of key plain).list n

  -- what the plain book does with the new place
  abbrev leaves : Placed → Answer (PlainOutcome Appended)
  leaves = append_leaves plain key n true

  -- the list has one number more
  one_more : length grown ≡ length list + 1
  one_more = length-append list (n ∷ [])

  -- ---- moving

  -- What was taken is filled, and the old place given up.
  moved_space : (old : Place) (class : ℕ) (t : PlainTaken) (u : TakenFor) (ys : List ℕ) → length ys ≤ slab_bytes class
      → places plain key ≡ old
      → u.off ≡ t.off
      → length u.space.body ≡ plain.size → Good t.space (places plain) (in_hand_of class t.off)
      → AgreesSpace t.space u.space (places plain) (in_hand_of class t.off) (contents_of plain)
      → Given (freed_place old t.space) (release (blocks_of old) (filled u ys)) (at_key key empty (places plain)) (in_hand_of class t.off)
      (with_hand (Filled class ys) (placed_contents plain key 0 empty)) (length b.space.body)
  moved_space old class t u ys fits is same long good agrees =
      let f = fill_agrees t.space u.space (places plain) class t.off (contents_of plain) ys fits good agrees in
      let k = place_gone key (in_hand_of class t.off) old t.space
      (space (overwrite u.space.body t.off ys) u.space.mark u.space.free) (places plain)
      (with_hand (Filled class ys) (contents_of plain)) (with_hand (Filled class ys) (placed_contents plain key 0 empty)) is
      (gone_placed plain key (Filled class ys)) good f in
      rw same
      (record {
        agrees = k.agrees;
        size = k.size ∙ fill_long t.space u.space (places plain) class t.off (contents_of plain) ys fits good agrees ∙ long
            ∙ sym a.size;
      })

  -- The counts tell what was taken for a new place, where the old one has no pages.
  moved_counts : (old new : Place) (t : PlainTaken) (u : TakenFor) (k : ℕ) → places plain key ≡ old → pages_of old ≡ 0 → pages_of new ≡ k
      → length t.space.stacks ≡ 9
      → u.counts ≡ counted (freed_in t.space) (desk_in plain key) (held_count (desk_in plain key) b.counts + k) b.counts
      → AgreesCounts (with_key key (key_in grown new true) (freed_place old t.space) plain) u.counts
  moved_counts old new t u k is none' some' nine left =
      let known = key_desk plain key g.desks in
      let back = (place_back list old t.space (subst (Fits list) is (g.keys key).fits) nine).more in
      let held = held_same plain b.counts key known h.counts in
      let was : pages_of (key_of key plain).place ≡ pages_of old = ap (λ (p : Place). pages_of p) is in
      subst (AgreesCounts (with_key key (key_in grown new true) (freed_place old t.space) plain)) (sym left)
      (counts_placed plain b.counts key known h.counts (key_in grown new true) (freed_place old t.space) (freed_in t.space) _
      (omega arith) (omega arith))

  -- The counts stay where the key takes nothing.
  kept_counts : (new : Place) → pages_of new ≡ pages_of (places plain key)
      → AgreesCounts (with_key key (key_in grown new true) plain.space plain) b.counts
  kept_counts new same = counts_stay plain b.counts key (key_desk plain key g.desks) h.counts (key_in grown new true)
      plain.space refl same

  -- a taken page as it is filled
  abbrev only_page : TakenFor → List ℕ
  only_page u = last_page_of u.off u.off 1 (length grown) grown

  -- It has a page's bytes, and reads as the key's only page.
  page_reads : (t : PlainTaken) (u : TakenFor) → u.off ≡ t.off → Good t.space (places plain) (in_hand_of page_class t.off)
      → t.space.mark ≤ most_body
      → Rising (2 ^ 62) 0 grown → stream_len grown ≤ last_page_room
      → (length (only_page u) ≡ page_size)
      × ((block : List ℕ) → Filled page_class (only_page u) block
      → PageReads (record { off = t.off; room = last_page_room; part = written grown }) block × LastReads t.off (length grown) block)
  unfolding has
  page_reads t u same good most rises fits =
      let stands : is_block page_class u.off t.space.mark ≡ true =
      rw same (good.apart.stands hand (record { class = page_class; off = t.off }) refl) in
      let few = count_least 0 grown in
      let (long, (p, l)) = last_written t.space.mark t.off u.off u.off 1 (length grown) grown most stands stands (omega arith)
      (omega arith)
      (omega (arith, one_more)) rises fits in (
        long,
        λ block f.
            subst (λ (page : List ℕ). PageReads (record { off = t.off; room = last_page_room; part = written grown }) page
            × LastReads t.off (length grown) page)
            (sym (filled_whole page_class (only_page u) block long f)) (p, subst (λ (o : ℕ). LastReads o (length grown) (only_page u)) same l),
      )

  -- The list moves out of its old place in both books.
  move_alike : (old : Place) (o : Option ℕ) → places plain key ≡ old → Rising (2 ^ 62) 0 grown → stream_len grown ≤ last_page_room
      → moves_to (length grown) (stream_len grown) ≡ o → pages_of old ≡ 0
      → Alike (and_then (moved plain.size (leave_of plain key) o (length list) grown old plain.space) leaves)
      (moves_into (desk_in plain key) b key list n (blocks_of old) o)
  unfolding moved moves_into and_then head_of last_page
  move_alike old (some class) is rises fits q none' =
      let m = moves_to_lem (length grown) (stream_len grown) q in
      let payload : length (slab_payload grown) ≤ slab_bytes class = omega (arith, payload_long grown, m.fits) in
      for_then (λ x y. Alike (and_then x leaves) y) (places plain) (in_hand_of class) (contents_of plain) plain.size (desk_in plain key) 0
      b.counts _ _ _ _ (λ number. refused_alike)
      (λ t u took same long agrees left.
      let good = good_taken plain.size class plain.space (places plain) (omega (arith, m.slab)) (leave_refuses plain key 0 _ t took)
      g.space in
      let k = moved_space old class t u (slab_payload grown) payload is same long good agrees in
      append_ends plain b key grown (slab class t.off (written grown)) true (total_told (length grown))
      (Slab class (length grown) u.off)
      (length list) (freed_place old t.space)
      (release (blocks_of old) (filled u (slab_payload grown))) u.counts a shape low (ap (Slab class (length grown)) (sym same)) refl
      k.size
      (placed_slab plain key (total_told (length grown)) (freed_place old t.space) (release (blocks_of old) (filled u (slab_payload grown)))
      (at_key key empty (places plain)) class t.off (written grown)
      (with_hand (Filled class (slab_payload grown)) (placed_contents plain key 0 empty))
      (meanwhile_placed plain key 0 empty (Filled class (slab_payload grown)))
      (λ block f. filled_slab class grown block rises (omega (arith, m.few)) f) k.agrees)
      (moved_counts old (slab class t.off (written grown)) t u 0 is none' refl good.nine left))
      (slab_for_alike plain b.space b.counts key (places plain) (contents_of plain) g.space g.desks h.counts a.size
      h.space class m.slab)
  move_alike old none is rises fits q none' =
      for_then (λ x y. Alike (and_then x leaves) y) (places plain) (in_hand_of page_class) (contents_of plain) plain.size (desk_in plain key) 1
      b.counts _ _ _ _ (λ number. refused_alike)
      (λ t u took same long agrees left.
      let good = good_taken plain.size page_class plain.space (places plain) (omega arith) (leave_refuses plain key 1 _ t took)
      g.space in
      let (full, reads) = page_reads t u same good (omega (arith, agrees.within, agrees.small)) rises fits in
      let k = moved_space old page_class t u (only_page u) (omega (arith, full)) is same long good agrees in
      append_ends plain b key grown (pages (one_page t.off grown)) true (length grown) (Extent u.off) (length list)
      (freed_place old t.space) (release (blocks_of old) (filled u (only_page u))) u.counts a shape low
      (ap Extent (sym same)) (total_exact (key_in grown (pages (one_page t.off grown)) true) refl (omega (arith, count_least 0 grown)))
      k.size
      (placed_one plain key (length grown) (freed_place old t.space) (release (blocks_of old) (filled u (only_page u)))
      (at_key key empty (places plain))
      (record { off = t.off; room = last_page_room; part = written grown })
      (with_hand (Filled page_class (only_page u)) (placed_contents plain key 0 empty))
      (meanwhile_placed plain key 0 empty (Filled page_class (only_page u))) reads k.agrees)
      (moved_counts old (pages (one_page t.off grown)) t u 1 is none' refl good.nine left))
      (page_for_alike plain b.space b.counts key (places plain) (contents_of plain) g.space g.desks h.counts a.size
      h.space)

  -- It moves to the class for it, where the bytes hold the list.
  moves_alike : (old : Place) (ns : List ℕ) → ns ≡ list → places plain key ≡ old → last_from 0 list < n → stream_len grown ≤ last_page_room
      → pages_of old ≡ 0
      → Alike (and_then (moved plain.size (leave_of plain key) (moves_to (length grown) (stream_len grown)) (length list) grown old
      plain.space)
      leaves) (moves (desk_in plain key) b key ns n (blocks_of old))
  unfolding moves
  moves_alike old ns same is above fits none' =
      subst (λ (l : List ℕ). Alike
      (and_then (moved plain.size (leave_of plain key) (moves_to (length grown) (stream_len grown)) (length list)
      grown old plain.space) leaves) (moves (desk_in plain key) b key l n (blocks_of old)))
      (sym same)
      (move_alike old (moves_to (length grown) (stream_len grown)) is (rises_snoc (2 ^ 62) list n (g.keys key).rises above small) fits refl
      none')

  -- ---- a slab

  module _ (class off : ℕ) (kept : Kept) (is : places plain key ≡ slab class off kept) (above : last_from 0 list < n) where
    -- the slab, what it holds, and what it holds then
    abbrev y : Block
    y = record { class = class; off = off }

    abbrev before : List ℕ
    before = block_at (seen b.space) class off

    abbrev after : List ℕ
    after = slab_with before (length kept.numbers) kept.bytes (n - last_from 0 kept.numbers)

    -- it keeps the list
    keeps : kept.numbers ≡ list
    unfolding Fits
    keeps = let f : Fits list (slab class off kept) = subst (Fits list) is (g.keys key).fits in f.0

    -- which fits a page with the number
    fits_page : stream_len grown ≤ last_page_room
    unfolding Fits
    fits_page =
        let (same, each, c, two, few, bytes, below) : Fits list (slab class off kept) = subst (Fits list) is (g.keys key).fits in
        moved_small list n (g.keys key).rises small few

    -- it is the key's
    mine : has plain.space (places plain) none (slab_of key) ≡ some (record { class = class; off = off })
    unfolding has
    mine = ap slab_at is

    -- it lies in the body
    ends : off + slab_bytes class ≤ length b.space.body
    ends = omega (arith, block_ends y plain.space.mark (g.space.apart.stands (slab_of key) y mine), h.space.within)

    -- it has its class's bytes
    before_long : length before ≡ slab_bytes class
    before_long = length_part b.space.body off (slab_bytes class) ends

    -- with one number more it has as many as the list then
    numbers_more : length kept.numbers + 1 ≡ length grown
    numbers_more = ap (λ (l : List ℕ). length l + 1) keeps ∙ sym one_more

    module _ (stay : stays class (length grown) (longer n kept).bytes ≡ true) where
      -- the number has room
      room : 2 + kept.bytes + uleb_len (n - last_from 0 kept.numbers) ≤ slab_bytes class
      unfolding longer
      room = let (few, slots, fits) = stays_holds class (length grown) (longer n kept).bytes stay in omega arith

      -- the slab has as many bytes then
      after_long : length after ≡ slab_bytes class
      after_long = slab_with_long before (length kept.numbers) kept.bytes (n - last_from 0 kept.numbers) (rw before_long room)
          ∙ before_long

      -- The slab reads as what it kept, with the number behind.
      after_reads : SlabReads (longer n kept) after
      unfolding longer has
      after_reads =
          let r : SlabReads kept before = subst (λ (p : Place). SlabIn p before) is (h.space.stored (slab_of key) y mine) in
          let over : last_from 0 kept.numbers < n = rw keeps above in
          let few = (stays_holds class (length grown) (longer n kept).bytes stay).0 in
          let stored : StoredReads before (length kept.numbers) (scan_of kept) = record { counts = r.used; reads = r.reads } in
          let m = slab_more before (length kept.numbers) n (scan_of kept) stored over (omega arith) (rw before_long room)
          (omega (arith, numbers_more)) in
          let same = slab_more_padded before (length kept.numbers) n (scan_of kept) stored over (omega arith) (rw before_long room)
          (omega (arith, numbers_more)) in
          let count : length (kept.numbers ++ (n ∷ [])) ≡ length kept.numbers + 1 = length-append kept.numbers (n ∷ []) in
          record { used = rw count m.counts; reads = rw count m.reads; padded = same ∙ r.padded }

      -- The spaces agree once it is written.
      stay_space : AgreesSpace plain.space (space (overwrite b.space.body off after) b.space.mark b.space.free)
          (at_key key (slab class off (longer n kept)) (places plain)) none
          (placed_contents plain key (total_told (length grown)) (slab class off (longer n kept)))
      unfolding has
      stay_space =
          agrees_written plain.space b.space (places plain) (at_key key (slab class off (longer n kept)) (places plain)) none none
          (contents_of plain)
          (placed_contents plain key (total_told (length grown)) (slab class off (longer n kept))) (slab_of key) y after
          g.space mine after_long to
          h.space
        where
          others : OthersKept key (contents_of plain) (placed_contents plain key (total_told (length grown)) (slab class off (longer n kept)))
          others = others_kept plain key (places plain) (contents_of plain) (meanwhile_first plain key (λ block. Unit {0}))
              (total_told (length grown))
              (slab class off (longer n kept))

          to : (v : Owner) (x : Block) → has plain.space (at_key key (slab class off (longer n kept)) (places plain)) none v ≡ some x
              → ((x ≡ y) × BlockReads plain.space (placed_contents plain key (total_told (length grown)) (slab class off (longer n kept)))
              v after)
              ⊎ ((u : Owner) × (u ≢ slab_of key) × (has plain.space (places plain) none u ≡ some x)
              × ((block : List ℕ) → BlockReads plain.space (contents_of plain) u block
              → BlockReads plain.space (placed_contents plain key (total_told (length grown)) (slab class off (longer n kept))) v block))
          to hand x e = absurd (none_some e)
          to (stack k d) x e = inr (stack k d, λ q. (let z = ap kind_of q in omega arith), e, λ block r. r)
          to (slab_of j) x e =
              ⊎_elim
              (λ (same, f). inl (sym (some_inj f), rw (eq-eqb j key same) after_reads))
              (λ (o, f). inr (slab_of j, λ q. o (ap depth_of q), f, λ block r. others.slabs j block o r))
              (key_slab key (slab class off (longer n kept)) (places plain) j x e)
          to (page_of j i) x e =
              ⊎_elim
              (λ (same, f). absurd (none_some f))
              (λ (o, f). inr (page_of j i, λ q. (let z = ap kind_of q in omega arith), f, λ block r. others.pages j i block o r))
              (key_page key (slab class off (longer n kept)) (places plain) j i x e)

    -- The list stays in its slab, or moves out of it, in both books.
    slab_alike : Alike (and_then (append_place plain.size (leave_of plain key) (length list) grown n (slab class off kept) plain.space)
        leaves)
        (append_slab (desk_in plain key) b key n class off (scan_of kept))
    unfolding append_place append_slab and_then head_of longer
    slab_alike =
        alike_cond_then _ _ _ _ leaves _ _ (ap (λ (m : ℕ). stays class m (longer n kept).bytes) (sym numbers_more))
        (λ e.
        append_ends plain b key grown (slab class off (longer n kept)) true (total_told (length grown))
        (Slab class (length kept.numbers + 1) off) 0
        plain.space
        (space (overwrite b.space.body off after) b.space.mark b.space.free) b.counts a shape low
        (ap (λ (m : ℕ). Slab class m off) (sym numbers_more)) refl
        (length_overwrite b.space.body off after (rw (after_long e) ends)) (stay_space e)
        (kept_counts (slab class off (longer n kept)) (sym (ap (λ (p : Place). pages_of p) is))))
        (λ e. moves_alike (slab class off kept) kept.numbers keeps is above fits_page refl)

  -- ---- where the key stands

  -- Once the number is known to be above the key's last, the two books go on alike, by the key's place.
  place_alike : (place : Place) → places plain key ≡ place → ((ps : List Page) → place ≢ pages ps) → 0 < n
      → Alike (refuse_if (leb n (last_from 0 list)) offered_not_rising
      (and_then (append_place plain.size (leave_of plain key) (length list) grown n place plain.space) leaves))
      (append_at (desk_in plain key) b key n (head_of list place))
  unfolding append_place append_at head_of and_then Fits last_from
  place_alike empty is other some' =
      let none' : [] ≡ list = none_listed list (subst (Fits list) is (g.keys key).fits) in
      rw (refuse_no _ offered_not_rising _ (ap (λ (l : List ℕ). leb n (last_from 0 l)) (sym none') ∙ lt-leb n 0 some'))
      (append_ends plain b key grown inline true (total_told (length grown)) (Inline n 1) 0 plain.space b.space b.counts a shape low
      (ap (λ (l : List ℕ). Inline (last_from 0 (l ++ (n ∷ []))) 1) (sym none')) refl refl
      (placed_bare plain key (total_told (length grown)) plain.space b.space (places plain) inline (contents_of plain) refl (λ i. refl)
      (meanwhile_first plain key (λ block. Unit {0})) h.space)
      (kept_counts inline (sym (ap (λ (p : Place). pages_of p) is))))
  place_alike inline is other some' =
      let one : length list ≡ 1 = subst (Fits list) is (g.keys key).fits in
      alike_both _ _ _ _ _ refl
      (λ e.
      moves_alike inline (last_from 0 list ∷ []) (one_listed list one) is (leb-false n (last_from 0 list) e)
      (moved_small list n (g.keys key).rises small (omega arith)) refl)
  place_alike (slab class off kept) is other some' =
      let same : kept.numbers ≡ list = (subst (Fits list) is (g.keys key).fits).0 in
      rw (then_yes _ _ (slab_agrees plain b g shape h key class off kept is))
      (alike_both _ _ _ _ _ (ap (λ (l : List ℕ). leb n (last_from 0 l)) (sym same))
      (λ e. slab_alike class off kept is (leb-false n (last_from 0 list) e)))
  place_alike (pages ps) is other some' = absurd (other ps refl)

-- A key without pages is counted after an append.
counted_unpaged : (place : Place) (counted : Bool) → ((ps : List Page) → place ≢ pages ps) → counted_after place counted ≡ true
counted_unpaged empty counted other = refl
counted_unpaged inline counted other = refl
counted_unpaged (slab class off kept) counted other = refl
counted_unpaged (pages ps) counted other = absurd (other ps refl)

-- The two books answer an append alike, where they do so for a key in pages.
pub append_step : (plain : PlainBook) (b : Book) (key n : ℕ) → GoodPlain plain → Agrees plain b
    → ((ps : List Page) → (key_of key plain).place ≡ pages ps → Alike (plain_appends plain key n) (appends_with plain.desks b key n))
    → Alike (plain_appends plain key n) (appends_with plain.desks b key n)
append_step plain b key n g a in-pages = go (key_of key plain).place refl
  where
    begun : (place : Place) → (key_of key plain).place ≡ place → ((ps : List Page) → place ≢ pages ps)
        → Alike (plain_appends plain key n) (appends_with plain.desks b key n)
    begun place is other =
        append_begins plain b key n g a
        (λ shape h low some' small.
        subst
        (λ (t : Bool). Alike (refuse_if (leb n (last_from 0 (key_of key plain).list)) offered_not_rising (plain_appending plain key n t))
        (append_at (desk_in plain key) b key n (head_of (key_of key plain).list (key_of key plain).place)))
        (sym (ap (λ (p : Place). counted_after p (key_of key plain).counted) is ∙ counted_unpaged place (key_of key plain).counted other))
        (place_alike plain b key n g a shape h low small (key_of key plain).place refl (λ ps q. other ps (sym is ∙ q)) some'))

    go : (place : Place) → (key_of key plain).place ≡ place → Alike (plain_appends plain key n) (appends_with plain.desks b key n)
    go empty is = begun empty is (λ ps q. (let z : ◌≡◌ {A = ℕ} 0 1 = cc in omega arith))
    go inline is = begun inline is (λ ps q. (let z : ◌≡◌ {A = ℕ} 0 1 = cc in omega arith))
    go (slab class off kept) is = begun (slab class off kept) is (λ ps q. (let z : ◌≡◌ {A = ℕ} 0 1 = cc in omega arith))
    go (pages ps) is = in-pages ps is
