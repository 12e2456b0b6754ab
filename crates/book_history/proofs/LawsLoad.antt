-- The two books answer a load alike: of no number, of one, of a list for a slab, and of one for a run of pages. Assumes nothing.
use Prim.Native.Nat.{ℕ, zero, suc, ◌+◌, ◌-◌, ◌*◌, ◌%◌, ◌^◌, ◌≤◌, ◌<◌}
use mathlib.Core.Bool.{Bool, true, false, not, true≢false}
use mathlib.Core.List.{List, [], ◌∷◌}
use mathlib.Core.Logic.{◌⊎◌, ⊎_elim, ◌≢◌}
use mathlib.Core.Option.{Option, none, some}
use mathlib.Core.Path.{◌≡◌, refl, sym, ap, subst, ◌∙◌}
use native.Mathlib.Omega.{arith}
use lib.Dec.{ltb, eqb}
use lib.ListN.{length, set, length-append}
use lib.Seq.{set-get_or}
use borrow.Author.Tests.{leb-false, ltb-false, eq-eqb, ne_eqb, le-leb}
use Rattle.error.specs.Refusal.{Answer, accepted, refuse_if, and_then, key_in_use, too_many_offered}
use Rattle.error.proofs.LawsAnswer.{accepted_inj}
use Rattle.buffer.specs.Bytes.{part, overwrite}
use Rattle.buffer.specs.LittleEndian.{bytes_of}
use Rattle.buffer.proofs.LawsBytes.{length_overwrite}
use Rattle.buffer.proofs.LawsOverwrite.{part_before, part_after}
use Rattle.buffer.proofs.LawsLittleEndian.{length_bytes_of}
use Rattle.scripthash_layout.specs.Sizes.{slab_bytes, page_class, page_size}
use Rattle.scripthash_layout.specs.Head.{unpack_head}
use Rattle.scripthash_layout.specs.declared.head.ShHeadValue.{ShHeadValue}
use Rattle.scripthash_layout.specs.declared.head.ShHeadValue.TheVariants.{Empty, Slab, Extent}
use Rattle.scripthash_layout.proofs.LawsWords.{empty_word}
use Rattle.scripthash_stream.specs.Stream.{max_offered, Rising, last_from, stream, stream_len}
use Rattle.scripthash_stream.proofs.LawsStream.{length_stream, rising_below}
use Rattle.scripthash_slabs.specs.Slab.{slab_payload}
use Rattle.scripthash_cutting.specs.Cutting.{page_room, last_page_room, cutting, joined, Fit, AllowedCutting}
use Rattle.scripthash_cutting.proofs.LawsPages.{pages_allowed}
use Rattle.scripthash_cutting.proofs.LawsRising.{rising_words, rising_left, rising_right}
use Rattle.scripthash_free.specs.FreeList.{Block}
use Rattle.book_rules.specs.declared.places.SlabFit.{SlabFit}
use Rattle.book_statements.specs.Calls.{load}
use Rattle.book_rules.specs.Outcomes.{loaded_in, Loaded}
use Rattle.book_rules.specs.Offered.{offered_number, offered_list}
use Rattle.book_limits.specs.Limits.{out_of_shape, most_body, most_counted, total_told}
use Rattle.book_rules.specs.Places.{loads_to}
use Rattle.book_rules.proofs.LawsRules.{loads_to_lem}
use Rattle.book_desks.specs.Desks.{desk_count}
use Rattle.book_desks.specs.Counts.{held_count, counted}
use Rattle.plain_book.specs.Space.{Space as PlainSpace, Taken as PlainTaken, take_block as plain_take}
use Rattle.plain_book.specs.Key.{Page, Place, empty, inline, slab, pages, written, last_page, no_page, head_of, Key, empty_key, pages_of, Placed}
use Rattle.plain_book.specs.Key.{key_in}
use Rattle.plain_book.specs.Key.{run_pages, load_into as plain_load_into, load_place}
use Rattle.plain_book.specs.Book.{Book as PlainBook, Outcome as PlainOutcome, key_of, with_key, desk_in, freed_in, leave_of, in_use}
use Rattle.plain_book.specs.Book.{loads as plain_loads}
use Rattle.plain_book.specs.Book.{does as plain_does}
use Rattle.plain_book.specs.Sound.{Fits, SoundKey}
use Rattle.plain_book.specs.Owners.{Owner, hand, stack, slab_of, page_of, RunClear, slab_at, page_no, page_in, has, places}
use Rattle.plain_book.specs.Good.{GoodPlain}
use Rattle.plain_book.proofs.LawsOwners.{some_inj, none_some, at_key, key_slab, key_page}
use Rattle.plain_book.proofs.LawsCeilings.{run_length}
use Rattle.plain_book.proofs.LawsSound.{some_parts}
use Rattle.plain_book.proofs.LawsHistory.{leave_refuses}
use Rattle.plain_book.proofs.LawsTaking.{good_taken}
use Rattle.plain_book.proofs.LawsRunFreed.{run_clear}
use Rattle.book_space.specs.Space.{Space, space}
use Rattle.book_space.specs.Desks.{TakenFor}
use Rattle.book_keys.specs.Keys.{good_extent}
use Rattle.book_blocks.specs.Blocks.{last_page_of, page_to, write_run}
use Rattle.book_blocks.proofs.LawsReadsSlab.{slab_written, slab_written_padded}
use Rattle.book_blocks.proofs.LawsReadsPage.{last_page_reads, page_to_reads, last_page_padded, page_to_padded}
use Rattle.book.specs.Book.{Book, Outcome, word_of, filled}
use Rattle.book_load.specs.Loads.{loading, last_of_run, load_into, load_at, loads}
use Rattle.book_history.specs.Calls.{does}
use Rattle.book_history.specs.Agrees.{SlabReads, PageReads, LastReads, NextReads, ChainReads, first_page_off, SlabIn, PageIn, Contents}
use Rattle.book_history.specs.Agrees.{BlockReads, contents_of, AgreesSpace, AgreesCounts, AgreesInside, Agrees}
use Rattle.book_history.proofs.LawsFrame.{block_of, block_written}
use Rattle.book_history.proofs.LawsWords.{empty_told}
use Rattle.book_history.proofs.LawsStep.{Alike, told_alike, refused_alike, alike_both, alike_on_key, placed_contents, agrees_placed}
use Rattle.book_history.proofs.LawsContent.{head_agrees}
use Rattle.book_history.proofs.LawsHand.{Filled, fill_long, fill_agrees, Meanwhile, meanwhile_first, OthersKept, others_kept}
use Rattle.book_history.proofs.LawsHand.{placed_slab}
use Rattle.book_history.proofs.LawsTake.{any_hand, in_hand_of}
use Rattle.book_history.proofs.LawsDesks.{key_desk, held_same, counts_placed, counts_stay, for_then, slab_for_alike, run_for_alike}

-- ---- a run of pages is written

-- What a run's pages are: the body stays as long as it was, what is before and behind the run stays, and each page reads as it should.
record RunWritten (body after : List ℕ) (off first creates : ℕ) (ps : List Page) : Type 0 where
  long : length after ≡ length body
  before : (p n : ℕ) → p + n ≤ off → part after p n ≡ part body p n
  behind : (p n : ℕ) → off + length ps * page_size ≤ p → part after p n ≡ part body p n
  reads : (i : ℕ) (x : Block) → page_no i ps ≡ some x → ChainReads first creates i ps (block_of after x)

-- No page is written.
run_none : (body : List ℕ) (off first creates : ℕ) → RunWritten body body off first creates []
unfolding page_no
run_none body off first creates =
    record { long = refl; before = λ p n l. refl; behind = λ p n l. refl; reads = λ i x e. absurd (none_some e) }

-- A page is written, and then those behind it.
run_more : (body page after : List ℕ) (off first creates : ℕ) (p : Page) (qs : List Page) → p.off ≡ off → length page ≡ slab_bytes page_class
    → off + slab_bytes page_class ≤ length body → ChainReads first creates 0 (p ∷ qs) page
    → RunWritten (overwrite body off page) after (off + page_size) first creates qs
    → RunWritten body after off first creates (p ∷ qs)
unfolding page_no ChainReads
run_more body page after off first creates p qs is size fits r w =
    record {
      long = w.long ∙ length_overwrite body off page (rw size fits);
      before = λ q n l. w.before q n (omega arith) ∙ part_before body off page (rw size fits) q n l;
      behind = λ q n l. w.behind q n (omega arith) ∙ part_after body off page (rw size fits) q n (rw size (omega arith));
      reads = reads;
    }
  where
    held : block_of after (record { class = page_class; off = off }) ≡ page
    held = w.before off (slab_bytes page_class) (omega arith) ∙ block_written body (record { class = page_class; off = off }) page size fits

    reads : (i : ℕ) (x : Block) → page_no i (p ∷ qs) ≡ some x → ChainReads first creates i (p ∷ qs) (block_of after x)
    reads zero x e =
        let here : page ≡ block_of after x = sym held ∙ ap (λ (o : ℕ). block_of after (record { class = page_class; off = o })) (sym is)
        ∙ ap (block_of after) (some_inj e) in
        subst (ChainReads first creates 0 (p ∷ qs)) here r
    reads (suc i) x e = w.reads i x e

-- A page before the others of a run.
run_next : (first creates off : ℕ) (p : Page) (q : List ℕ) (ps : List (List ℕ)) (block : List ℕ) → PageReads p block → NextReads off block
    → ChainReads first creates 0 (p ∷ run_pages off (q ∷ ps)) block
unfolding ChainReads run_pages
run_next first creates off p q [] block r n = (r, n)
run_next first creates off p q (s ∷ ps) block r n = (r, n)

module _ (start count creates : ℕ) (aligned : start % 4096 ≡ 0) (from : 4096 ≤ start) (low : start ≤ most_body) (some' : 0 < count)
    (few : count < 2 ^ 32)
    (fits : creates < 2 ^ 32) where
  -- the last page of a run reads as its part
  last_of_run_lem : (off : ℕ) (ns : List ℕ) → Rising (2 ^ 63) 0 ns → stream_len ns ≤ last_page_room
      → (length (last_page_of start start count creates ns) ≡ slab_bytes page_class)
      × PageReads (record { off = off; room = last_page_room; part = written ns }) (last_page_of start start count creates ns)
      × LastReads start creates (last_page_of start start count creates ns)
  unfolding written good_extent
  last_of_run_lem off ns rises room =
      let r = last_page_reads start start count creates ns rises room aligned (omega arith) (omega arith) aligned (λ z. omega arith)
      some' few fits in (
        r.long,
        record { reads = r.scans; room = r.room; padded = last_page_padded start start count creates ns rises room },
        record { extent = r.names; last = r.last; first = r.from; good = r.extent; creates = r.counts },
      )

  -- a page before another reads as its part
  next_of_run : (off next : ℕ) (ns : List ℕ) → Rising (2 ^ 63) 0 ns → stream_len ns ≤ page_room → next % 4096 ≡ 0 → next ≤ most_body
      → (length (page_to next ns) ≡ slab_bytes page_class) × PageReads (record { off = off; room = page_room; part = written ns })
      (page_to next ns) × NextReads next (page_to next ns)
  unfolding written
  next_of_run off next ns rises room at_page in_Body =
      let r = page_to_reads next ns rises room at_page (omega arith) in (
        r.long,
        record { reads = r.scans; room = r.room; padded = page_to_padded next ns rises room },
        record { more = r.not_last; next = r.to },
      )

  -- Parts that fit their pages are written from an offset on.
  run_written : (parts : List (List ℕ)) (body : List ℕ) (off : ℕ) → off % 4096 ≡ 0 → off + length parts * page_size ≤ length body
      → length body ≤ most_body
      → Rising (2 ^ 63) 0 (joined parts) → Fit last_page_room page_room parts
      → RunWritten body (write_run start count creates body off parts) off start creates (run_pages off parts)
  unfolding joined Fit run_pages write_run ChainReads
  run_written [] body off at_page in_Body small rises fit = run_none body off start creates
  run_written (ns ∷ []) body off at_page in_Body small rises (one, room) =
      let (size, r, last) = last_of_run_lem off ns (rising_left (2 ^ 63) 0 ns [] rises) room in
      run_more body (last_page_of start start count creates ns) _ off start creates _ [] refl size (omega arith) (r, last)
      (run_none _ (off + page_size) start creates)
  run_written (ns ∷ ms ∷ ps) body off at_page in_Body small rises (one, room, fit) =
      let (size, r, next) = next_of_run off (off + page_size) ns (rising_left (2 ^ 63) 0 ns (joined (ms ∷ ps)) rises) room (omega arith)
      (omega arith) in
      let inside : off + slab_bytes page_class ≤ length body = omega arith in
      let long = length_overwrite body off (page_to (off + page_size) ns) (rw size inside) in
      run_more body (page_to (off + page_size) ns) (write_run start count creates (overwrite body off (page_to (off + page_size) ns))
      (off + page_size) (ms ∷ ps)) off start creates
      (record { off = off; room = page_room; part = written ns }) (run_pages (off + page_size) (ms ∷ ps)) refl size inside
      (run_next start creates (off + page_size) (record { off = off; room = page_room; part = written ns }) ms ps _ r next)
      (run_written (ms ∷ ps) (overwrite body off (page_to (off + page_size) ns)) (off + page_size) (omega arith) (rw long (omega arith))
      (rw long small)
      (rising_right (2 ^ 63) 0 ns (joined (ms ∷ ps)) rises) fit)

-- Where the last page of a run is.
run_last : (off : ℕ) (page : Page) (parts : List (List ℕ)) → 0 < length parts
    → (last_page page (run_pages off parts)).off ≡ off + (length parts - 1) * page_size
unfolding run_pages last_page
run_last off page [] l = absurd (omega arith)
run_last off page (p ∷ []) l = omega arith
run_last off page (p ∷ q ∷ ps) l = run_last (off + page_size) (record { off = off; room = page_room; part = written p }) (q ∷ ps)
    (omega arith) ∙ omega arith

-- Where the first is.
run_first : (off : ℕ) (parts : List (List ℕ)) → 0 < length parts → first_page_off (run_pages off parts) ≡ off
unfolding run_pages
run_first off [] l = absurd (omega arith)
run_first off (p ∷ []) l = refl
run_first off (p ∷ q ∷ ps) l = refl

-- ---- spaces that agree

-- Something is written where no byte is anybody's.
written_clear : (plain : PlainSpace) (s : Space) (at : ℕ → Place) (held : Option Block) (c : Contents) (mark off count : ℕ) (after : List ℕ)
    → RunClear mark off count (has plain at held) → length after ≡ length s.body
    → ((p n : ℕ) → (p + n ≤ off) ⊎ (off + count * page_size ≤ p) → part after p n ≡ part s.body p n) → AgreesSpace plain s at held c
    → AgreesSpace plain (space after s.mark s.free) at held c
written_clear plain s at held c mark off count after clear long same a =
    record {
      mark = a.mark;
      nine = a.nine;
      tops = a.tops;
      within = rw long a.within;
      small = rw long a.small;
      stored = λ w x e.
          subst (BlockReads plain c w) (sym (same x.off (slab_bytes x.class) (clear.clear w x e))) (a.stored w x e);
    }

-- A key gets a place whose blocks, which nobody has, read as they should.
pub placed_stored : (plain : PlainBook) (key total : ℕ) (place : Place) (inside : PlainSpace) (s : Space) (c : Contents)
    → Meanwhile plain key (places plain) c
    → ((x : Block) → slab_at place ≡ some x → SlabIn place (block_of s.body x))
    → ((i : ℕ) (x : Block) → page_in i place ≡ some x → PageIn total i place (block_of s.body x))
    → AgreesSpace inside s (places plain) none c
    → AgreesSpace inside s (at_key key place (places plain)) none (placed_contents plain key total place)
unfolding has
placed_stored plain key total place inside s c m slabs pgs a =
    record { mark = a.mark; nine = a.nine; tops = a.tops; within = a.within; small = a.small; stored = stored }
  where
    others : OthersKept key c (placed_contents plain key total place)
    others = others_kept plain key (places plain) c m total place

    stored : (w : Owner) (x : Block) → has inside (at_key key place (places plain)) none w ≡ some x
        → BlockReads inside (placed_contents plain key total place) w (block_of s.body x)
    stored hand x e = absurd (none_some e)
    stored (stack k d) x e = a.stored (stack k d) x e
    stored (slab_of j) x e =
        ⊎_elim (λ (is, f). rw (eq-eqb j key is) (slabs x f)) (λ (n, f). others.slabs j (block_of s.body x) n (a.stored (slab_of j) x f))
        (key_slab key place (places plain) j x e)
    stored (page_of j i) x e =
        ⊎_elim (λ (is, f). rw (eq-eqb j key is) (pgs i x f))
        (λ (n, f). others.pages j i (block_of s.body x) n (a.stored (page_of j i) x f))
        (key_page key place (places plain) j i x e)

-- ---- what is offered

-- Both books judge the offered numbers alike, and go on where they rise.
alike_offered_list : (first : Bool) (prev : ℕ) (ns : List ℕ) (x : Answer (PlainOutcome Loaded)) (y : Answer (Outcome Loaded))
    → (Rising (2 ^ 62) prev ns → Alike x y)
    → Alike (offered_list first prev ns x) (offered_list first prev ns y)
unfolding offered_list offered_number Rising
alike_offered_list first prev [] x y go = go tt
alike_offered_list first prev (n ∷ ns) x y go =
    alike_both _ _ _ _ _ refl
    (λ z. alike_both _ _ _ _ _ refl
    (λ bit. alike_both _ _ _ _ _ refl
    (λ large. alike_both _ _ _ _ _ refl
    (λ low. alike_offered_list false n ns x y (λ r. go (leb-false n prev low, leb-false (2 ^ 62) n large, r))))))

-- ---- whether the key is in use

-- A word that tells something is not 0.
word_some : (word : ℕ) (v : ShHeadValue) → unpack_head word ≡ accepted v → (v ≡ Empty → ⊥) → word ≢ 0
word_some word v e n z = n (accepted_inj (sym e ∙ ap unpack_head z ∙ empty_word.unpacks))

-- Both books find a key in use, or neither does.
in_use_alike : (plain : PlainBook) (b : Book) (key : ℕ) → GoodPlain plain → out_of_shape plain.size (length plain.keys) ≡ false
    → AgreesInside plain b
    → in_use (key_of key plain).place ≡ not (eqb (word_of key b) 0)
unfolding head_of
in_use_alike plain b key g shape h = go (key_of key plain).place refl
  where
    tells : (place : Place) → (key_of key plain).place ≡ place → unpack_head (word_of key b) ≡ accepted (head_of (key_of key plain).list place)
    tells place is = head_agrees plain b g shape h key ∙ ap (λ (p : Place). accepted (head_of (key_of key plain).list p)) is

    used : (place : Place) → (key_of key plain).place ≡ place → (head_of (key_of key plain).list place ≡ Empty → ⊥)
        → true ≡ not (eqb (word_of key b) 0)
    used place is n = sym (ap not (ne_eqb (word_of key b) 0 (word_some (word_of key b) _ (tells place is) n)))

    go : (place : Place) → (key_of key plain).place ≡ place → in_use place ≡ not (eqb (word_of key b) 0)
    go empty is = sym (ap not (eq-eqb (word_of key b) 0 (empty_told (word_of key b) (tells empty is))))
    go inline is = used inline is (λ e. (let z : ◌≡◌ {A = ℕ} 0 1 = cc in omega arith))
    go (slab class off kept) is = used (slab class off kept) is (λ e. (let z : ◌≡◌ {A = ℕ} 0 1 = cc in omega arith))
    go (pages ps) is = used (pages ps) is (λ e. (let z : ◌≡◌ {A = ℕ} 0 1 = cc in omega arith))

-- ---- where a loaded list goes

-- A list that rises is cut as pages allow.
cut_allowed : (ns : List ℕ) → Rising (2 ^ 62) 0 ns → AllowedCutting ns (cutting ns)
cut_allowed ns rises = pages_allowed ns (rising_words 0 ns (rising_below (2 ^ 62) (2 ^ 63) 0 ns (omega arith) rises))

-- A sound key with no place holds nothing.
empty_key_lem : (k : Key) → SoundKey k → k.place ≡ empty → k ≡ empty_key
unfolding Fits
empty_key_lem k sound is = λ i. record { list = nothing k.list (rw is at sound.fits) i; place = is i; counted = known i }
  where
    known : k.counted ≡ true
    known = rw is at sound.known

    nothing : (list : List ℕ) → length list ≡ 0 → list ≡ []
    nothing [] e = refl
    nothing (n ∷ ns) e = absurd (omega arith)

-- The payload of a list has two bytes more than its stream.
pub payload_long : (ns : List ℕ) → length (slab_payload ns) ≡ 2 + stream_len ns
unfolding slab_payload
payload_long ns = length-append (bytes_of 2 (length ns)) (stream ns) ∙ omega (arith, length_bytes_of 2 (length ns), length_stream 0 ns)

-- A block that begins with the payload of a list reads as the list.
pub payload_reads : (class : ℕ) (ns block : List ℕ) → Rising (2 ^ 62) 0 ns → length ns ≤ max_offered → Filled class (slab_payload ns) block
    → SlabReads (written ns) block
unfolding written
payload_reads class ns block rises few f =
    let starts : part block 0 (2 + stream_len ns) ≡ slab_payload ns = ap (part block 0) (sym (payload_long ns)) ∙ f.begins in
    let below = rising_below (2 ^ 62) (2 ^ 63) 0 ns (omega arith) rises in
    let r = slab_written block ns starts below few in
    record { used = r.counts; reads = r.reads; padded = slab_written_padded block ns starts below few }

module _ (plain : PlainBook) (b : Book) (key : ℕ) (ns : List ℕ) (g : GoodPlain plain) (a : Agrees plain b)
    (shape : out_of_shape plain.size (length plain.keys) ≡ false)
    (h : AgreesInside plain b) (l : key < length plain.keys) (rises : Rising (2 ^ 62) 0 ns) (few : length ns ≤ max_offered)
    (vacant : (key_of key plain).place ≡ empty) where
  -- the key's desk
  abbrev own : ℕ
  own = desk_in plain key

  -- The counts tell what was taken for the list.
  load_counts_lem : (place : Place) (inside : PlainSpace) (n : ℕ) (counts : List ℕ) → pages_of place ≡ n
      → counts ≡ counted (freed_in inside) own (held_count own b.counts + n) b.counts
      → AgreesCounts (with_key key (key_in ns place true) inside plain) counts
  load_counts_lem place inside n counts many left =
      let known = key_desk plain key g.desks in
      let held = held_same plain b.counts key known h.counts in
      let was : pages_of (key_of key plain).place ≡ 0 = ap (λ (p : Place). pages_of p) vacant in
      subst (AgreesCounts (with_key key (key_in ns place true) inside plain)) (sym left)
      (counts_placed plain b.counts key known h.counts (key_in ns place true) inside (freed_in inside) _ refl (omega arith))

  -- what the plain book answers, once the list has a place
  abbrev loaded_to : Placed → Answer (PlainOutcome Loaded)
  loaded_to p = accepted (record {
    told = loaded_in (pages_of p.place);
    book =
        with_key key (key_in ns p.place true) p.space plain;
  })

  -- a slab is taken and filled
  load_slab : (fit : SlabFit) (class : ℕ) → loads_to fit (length ns) (stream_len ns) ≡ some class
      → Alike (and_then (plain_load_into plain.size (leave_of plain key) (some class) ns plain.space) loaded_to)
      (load_into own b key ns (some class))
  unfolding plain_load_into load_into head_of and_then
  load_slab fit class is =
      for_then (λ x y. Alike (and_then x loaded_to) y) (places plain) (in_hand_of class) (any_hand (contents_of plain)) plain.size own 0
      b.counts
      _ _ _ _ (λ number. refused_alike) go
      (slab_for_alike plain b.space b.counts key (places plain) (contents_of plain) g.space g.desks h.counts a.size
      h.space class (let (many, to-7, fits) = loads_to_lem fit (length ns) (stream_len ns) is in to-7))
    where
      to_8 : class ≤ 8
      to_8 = let (many, to-7, fits) = loads_to_lem fit (length ns) (stream_len ns) is in omega arith

      go : (t : PlainTaken) (u : TakenFor) → leave_of plain key 0 (plain_take plain.size class plain.space) ≡ accepted t
          → u.off ≡ t.off
          → length u.space.body ≡ plain.size → AgreesSpace t.space u.space (places plain) (in_hand_of class t.off)
          (any_hand (contents_of plain))
          → u.counts ≡ counted (freed_in t.space) own (held_count own b.counts + 0) b.counts
          → Alike (loaded_to (record { place = slab class t.off (written ns); space = t.space; rewritten = 0 }))
          (accepted (loading key (Slab class (length ns) u.off) 0 (filled u (slab_payload ns)) u.counts b))
      go t u took off long agrees left =
          let (many, to-7, fits) = loads_to_lem fit (length ns) (stream_len ns) is in
          let short : length (slab_payload ns) ≤ slab_bytes class = omega (arith, payload_long ns) in
          let good = good_taken plain.size class plain.space (places plain) to_8 (leave_refuses plain key 0 _ t took) g.space in
          let c = any_hand (contents_of plain) in
          let bytes = fill_long t.space u.space (places plain) class t.off c (slab_payload ns) short good agrees in
          let placed =
          placed_slab plain key (total_told (length ns)) t.space _ (places plain) class t.off (written ns) _
          (meanwhile_first plain key (Filled class (slab_payload ns)))
          (λ block f. payload_reads class ns block rises few f)
          (fill_agrees t.space u.space (places plain) class t.off c (slab_payload ns) short good agrees) in
          subst
          (λ (o : ℕ). Alike (loaded_to (record { place = slab class t.off (written ns); space = t.space; rewritten = 0 }))
          (accepted (loading key (Slab class (length ns) o) 0
          (space (overwrite u.space.body o (slab_payload ns)) u.space.mark u.space.free) u.counts b)))
          (sym off)
          (told_alike refl (agrees_placed plain key ns (slab class t.off (written ns)) true t.space l b _ u.counts a shape
          (bytes ∙ long ∙ sym a.size) placed (load_counts_lem (slab class t.off (written ns)) t.space 0 u.counts refl left)))

  -- a run is written where no byte is anybody's, and becomes the key's pages
  run_placed : (inside : PlainSpace) (s : Space) (start : ℕ) (parts : List (List ℕ)) → 0 < length parts → joined parts ≡ ns
      → Fit last_page_room page_room parts → RunClear inside.mark start (length parts) (has inside (places plain) none)
      → AgreesSpace inside s (places plain) none (contents_of plain)
      → (length (write_run start (length parts) (length ns) s.body start parts) ≡ length s.body)
      × AgreesSpace inside (space (write_run start (length parts) (length ns) s.body start parts) s.mark s.free)
      (at_key key (pages (run_pages start parts)) (places plain)) none
      (placed_contents plain key (length ns) (pages (run_pages start parts)))
  run_placed inside s start parts some' same fit clear agrees =
      let in_Body = agrees.within in
      let small = agrees.small in
      let below = clear.below in
      let w =
      run_written start (length parts) (length ns) clear.aligned clear.from (omega arith) some' (omega arith) (omega arith) parts
      s.body start clear.aligned (omega arith) small
      (rising_below (2 ^ 62) (2 ^ 63) 0 (joined parts) (omega arith) (rw same rises)) fit in
      let many = run_length start parts in (
        w.long,
        placed_stored plain key (length ns) (pages (run_pages start parts)) inside _ (contents_of plain)
            (meanwhile_first plain key (λ block. Unit {0})) (λ x e. absurd (none_some e))
            (λ i x e. subst (λ (first : ℕ). ChainReads first (length ns) i (run_pages start parts)
            (block_of (write_run start (length parts) (length ns) s.body start parts) x))
            (sym (run_first start parts some')) (w.reads i x e))
            (written_clear inside s (places plain) none (contents_of plain) inside.mark start (length parts) _ clear w.long
            (λ p n. ⊎_elim (λ (l : p + n ≤ start). w.before p n l)
            (λ (l : start + length parts * page_size ≤ p). w.behind p n (rw many l))) agrees),
      )

  -- a run is taken and written
  load_run : 0 < length (cutting ns)
      → Alike (and_then (plain_load_into plain.size (leave_of plain key) none ns plain.space) loaded_to) (load_into own b key ns none)
  unfolding plain_load_into load_into head_of and_then
  load_run some' =
      for_then (λ x y. Alike (and_then x loaded_to) y) (places plain) (λ off. none) (contents_of plain) plain.size own (length parts)
      b.counts
      _ _ _ _ (λ number. refused_alike)
      (λ t u took off long agrees left.
      placed t u
      (run_clear plain.size (length parts) plain.space (places plain) some'
      (leave_refuses plain key (length parts) _ t took) g.space).1
      off long agrees left)
      (run_for_alike plain b.space b.counts key (places plain) (contents_of plain) g.space g.desks h.counts a.size
      h.space (length parts) some')
    where
      parts : List (List ℕ)
      parts = cutting ns

      placed_at : PlainTaken → Placed
      placed_at t = record { place = pages (run_pages t.off parts); space = t.space; rewritten = 0 }

      written_at : TakenFor → Answer (Outcome Loaded)
      written_at u =
          accepted (loading key (Extent (last_of_run u.off (length parts))) (length parts)
          (space (write_run u.off (length parts) (length ns) u.space.body u.off parts) u.space.mark u.space.free)
          u.counts b)

      placed : (t : PlainTaken) (u : TakenFor) → RunClear t.space.mark t.off (length parts) (has t.space (places plain) none)
          → u.off ≡ t.off → length u.space.body ≡ plain.size
          → AgreesSpace t.space u.space (places plain) none (contents_of plain)
          → u.counts ≡ counted (freed_in t.space) own (held_count own b.counts + length parts) b.counts
          → Alike (loaded_to (placed_at t)) (written_at u)
      placed t u clear off long agrees left =
          let ok = cut_allowed ns rises in
          let exact : total_told (length ns) ≡ length ns = rw (le-leb (length ns) most_counted (omega arith)) refl in
          let (bytes, run) = run_placed t.space u.space t.off parts some' ok.consecutive ok.fit clear agrees in
          subst (λ (o : ℕ). Alike (loaded_to (placed_at t)) (written_at (record { off = o; space = u.space; counts = u.counts }))) (sym off)
          (subst
          (λ (last : ℕ). Alike (loaded_to (placed_at t))
          (accepted (loading key (Extent last) (length parts)
          (space (write_run t.off (length parts) (length ns) u.space.body t.off parts) u.space.mark u.space.free)
          u.counts b)))
          (run_last t.off no_page parts some')
          (told_alike (ap (λ (n : ℕ). loaded_in n) (run_length t.off parts))
          (agrees_placed plain key ns (pages (run_pages t.off parts)) true t.space l b _ u.counts a shape
          (bytes ∙ long ∙ sym a.size) (rw exact run)
          (load_counts_lem (pages (run_pages t.off parts)) t.space (length parts) u.counts (run_length t.off parts) left))))

-- ---- a load

-- A list that rises is loaded alike onto an empty key.
load_alike : (fit : SlabFit) (plain : PlainBook) (b : Book) (key : ℕ) (ns : List ℕ) → GoodPlain plain → Agrees plain b
    → out_of_shape plain.size (length plain.keys) ≡ false
    → AgreesInside plain b → key < length plain.keys → (key_of key plain).place ≡ empty → Rising (2 ^ 62) 0 ns → length ns ≤ max_offered
    → Alike
    (and_then (load_place fit plain.size (leave_of plain key) ns plain.space)
    (λ p. accepted (record {
      told = loaded_in (pages_of p.place);
      book =
          with_key key (key_in ns p.place true) p.space plain;
    })))
    (load_at fit (desk_in plain key) b key ns)
unfolding load_place load_at and_then head_of last_from
load_alike fit plain b key [] g a shape h l is rises few = told_alike refl (subst (λ (p : PlainBook). Agrees p b) (sym same) a)
  where
    same : with_key key empty_key plain.space plain ≡ plain
    same =
        let was : pages_of (key_of key plain).place ≡ 0 = ap (λ (p : Place). pages_of p) is in
        let none' : desk_count (desk_in plain key) plain.held + 0 - pages_of (key_of key plain).place
        ≡ desk_count (desk_in plain key) plain.held
        = omega arith in
        let keys : set plain.keys key empty_key ≡ plain.keys
        = ap (set plain.keys key) (sym (empty_key_lem (key_of key plain) (g.keys key) is)) ∙ set-get_or plain.keys key empty_key in
        let held : set plain.held (desk_in plain key) (desk_count (desk_in plain key) plain.held + 0 - pages_of (key_of key plain).place)
        ≡ plain.held
        = ap (set plain.held (desk_in plain key)) none' ∙ set-get_or plain.held (desk_in plain key) 0 in
        λ i. record {
          size = plain.size;
          keys = keys i;
          space = plain.space;
          desks = plain.desks;
          held = held i;
          limits = plain.limits;
        }
load_alike fit plain b key (n ∷ []) g a shape h l is rises few =
    told_alike refl
    (agrees_placed plain key (n ∷ []) inline true plain.space l b b.space b.counts a shape refl
    (placed_stored plain key 1 inline plain.space b.space (contents_of plain) (meanwhile_first plain key (λ block. Unit {0}))
    (λ x e. absurd (none_some e))
    (λ i x e. absurd (none_some e)) h.space)
    (counts_stay plain b.counts key (key_desk plain key g.desks) h.counts (key_in (n ∷ []) inline true) plain.space refl
    (sym (ap (λ (p : Place). pages_of p) is))))
load_alike fit plain b key (n ∷ m ∷ ns) g a shape h l is rises few = go (loads_to fit (length (n ∷ m ∷ ns)) (stream_len (n ∷ m ∷ ns))) refl
  where
    go : (to : Option ℕ) → loads_to fit (length (n ∷ m ∷ ns)) (stream_len (n ∷ m ∷ ns)) ≡ to
        → Alike (and_then (plain_load_into plain.size (leave_of plain key) to (n ∷ m ∷ ns) plain.space)
        (loaded_to plain b key (n ∷ m ∷ ns) g a shape h l rises few is)) (load_into (desk_in plain key) b key (n ∷ m ∷ ns) to)
    go (some class) e = load_slab plain b key (n ∷ m ∷ ns) g a shape h l rises few is fit class e
    go none e =
        load_run plain b key (n ∷ m ∷ ns) g a shape h l rises few is
        (some_parts n (m ∷ ns) (cutting (n ∷ m ∷ ns)) (cut_allowed (n ∷ m ∷ ns) rises).consecutive)

-- A place that isn't in use is none.
unused : (place : Place) → in_use place ≡ false → place ≡ empty
unused empty e = refl
unused inline e = absurd (true≢false e)
unused (slab class off kept) e = absurd (true≢false e)
unused (pages ps) e = absurd (true≢false e)

-- The two books answer a load alike.
pub load_step : (fit : SlabFit) (plain : PlainBook) (b : Book) (key : ℕ) (ns : List ℕ) → GoodPlain plain → Agrees plain b
    → Alike (plain_does plain (load fit key ns)) (does plain.desks b (load fit key ns))
unfolding plain_does does plain_loads loads
load_step fit plain b key ns g a =
    alike_on_key plain b key _
    (λ desk. refuse_if (not (eqb (word_of key b) 0)) key_in_use
    (refuse_if (ltb max_offered (length ns)) too_many_offered (offered_list true 0 ns (load_at fit desk b key ns)))) g a
    (λ shape h l.
    alike_both _ _ _ _ _ (in_use_alike plain b key g shape h)
    (λ free. alike_both _ _ _ _ _ refl
    (λ many. alike_offered_list true 0 ns _ _
    (λ rises. load_alike fit plain b key ns g a shape h l (unused (key_of key plain).place free) rises
    (ltb-false max_offered (length ns) many)))))
