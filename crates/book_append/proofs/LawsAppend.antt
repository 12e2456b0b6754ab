-- An append over bytes, test by test: what was told of a key, what is known of it then, and what the append answers. Assumes nothing.
use Prim.Native.Nat.{ℕ, ◌+◌, ◌-◌, ◌^◌, ◌≤◌, ◌<◌}
use mathlib.Core.Bool.{Bool, true, false, cond, ◌&&◌}
use mathlib.Core.List.{List, [], ◌∷◌, ◌++◌}
use mathlib.Core.Option.{Option, none, some}
use mathlib.Core.Path.{◌≡◌, refl, sym, ap, ◌∙◌}
use native.Mathlib.Omega.{arith}
use borrow.Author.Tests.{le-leb, lt-leb, leb-false, eqb-false}
use lib.Dec.{leb, eqb}
use lib.ListN.{length, set, take as firsts, length-append}
use Rattle.error.specs.Refusal.{Answer, accepted, refused, refuse_if, and_then, answered, refusal_of, shape_bad, key_beyond, desks_bad}
use Rattle.error.specs.Refusal.{offered_not_rising}
use Rattle.error.specs.Refusal.{key_unsound}
use Rattle.error.specs.Refusal.{slab_used_too_small, mode_two, extent_payload_zero}
use Rattle.error.proofs.LawsAnswer.{accepted_inj, passed, went_on, refuse_yes, refuse_no, then_yes, then_no, was_accepted, was_refused}
use Rattle.buffer.specs.Bytes.{part, overwrite}
use Rattle.buffer.proofs.LawsOverwrite.{part_written, overwrite_next}
use Rattle.compact.specs.Uleb128.{uleb_len}
use Rattle.scripthash_layout.specs.Sizes.{slab_bytes, page_class, page_size}
use Rattle.scripthash_layout.specs.Head.{unpack_head, mode_of, used_of, class_of, offset_of, payload_of}
use Rattle.scripthash_layout.specs.declared.head.ShHeadValue.{ShHeadValue}
use Rattle.scripthash_layout.specs.declared.head.ShHeadValue.TheVariants.{Empty, Inline, Slab, Extent}
use Rattle.scripthash_stream.specs.Stream.{Scan, End, end_from, Rising, last_from, stream_len}
use Rattle.scripthash_stream.proofs.LawsStream.{rising_append}
use Rattle.scripthash_cutting.specs.Cutting.{last_page_room}
use Rattle.scripthash_fields.specs.Page.{count_of, link_of, names_extent, is_last_link, stream_off}
use Rattle.scripthash_pages.specs.Entries.{page_scan, last_of, spot_behind}
use Rattle.scripthash_free.specs.FreeList.{Block, is_block}
use Rattle.scripthash_free.proofs.LawsBlock.{both}
use Rattle.book_rules.specs.Offered.{offered_number}
use Rattle.book_rules.specs.Places.{stays, moves_to}
use Rattle.book_rules.proofs.LawsOffered.{rising_on, refused_on}
use Rattle.book_rules.specs.Outcomes.{Appended}
use Rattle.book_desks.specs.Desks.{desks}
use Rattle.book_space.specs.Space.{Space, space, release, shape_broken}
use Rattle.book_space.specs.Desks.{slab_for, page_for}
use Rattle.book_space.proofs.LawsTake.{release_none}
use Rattle.book_keys.specs.Keys.{soundly, page_at, slab_scan, link_scan, last_at, Tail, tail_at, body_ground}
use Rattle.book_keys.specs.Steps.{TailEndOf, tail_end_of}
use Rattle.book_keys.proofs.LawsSound.{soundly_yes, soundly_no, was_sound, was_unsound, was_sure}
use Rattle.book_keys.proofs.LawsSlab.{slab_sound}
use Rattle.book_keys.proofs.LawsPages.{page_read}
use Rattle.book_blocks.specs.Blocks.{slab_with, last_page_of, total_with, page_with, page_before}
use Rattle.book_blocks.specs.Steps.{PageNumbers}
use Rattle.book_blocks.proofs.LawsReadsMore.{extent_start, spot_fits, spot_none}
use Rattle.book.specs.Book.{Book, Outcome, word_of, seen}
use Rattle.book_append.specs.Appends.{appending, moves_into, moves, append_slab, grow_chain, append_page, append_at, appends}
use Rattle.book.specs.Steps.{Placed, places_into, Does}
use Rattle.book_append.specs.Steps.{ToAppend, SlabMoves, ChainGrows}
use Rattle.book.proofs.LawsKey.{does_no, desk_broken, desk_none, desk_beyond, desk_there}
use Rattle.book.proofs.LawsPlace.{stream_at_most}

-- ---- what an append does

-- What an append does by one answer, it does by another that is the same.
pub does_as : {a same : Answer (Outcome Appended)} {before after : Book} {tells : Answer Appended} → a ≡ same → Does same before after tells
    → Does a before after tells
does_as e d = rw e d

-- A refused append tells its number and leaves the book.
pub does_none : (b : Book) {a : Answer (Outcome Appended)} {number : ℕ} → a ≡ refused number → Does a b b (refused number)
does_none b {a} {number} e = does_no b b (refused number) a e refl refl

-- One number fits a last page.
pub one_fits : (n : ℕ) → 0 < n → n < 2 ^ 62 → PageNumbers last_page_room (n ∷ [])
unfolding Rising
one_fits n above low = record { rises = (above, low, tt); fits = omega (arith, stream_at_most 0 (n ∷ []) (above, low, tt)) }

-- ---- what was told of a key

-- A key's slab is sound, and its stream takes some bytes up to its last number.
pub record SlabTold (s : Space) (class used off taken last : ℕ) : Type 0 where
  pub scan : Scan
  pub sound : slab_scan (seen s) class used off ≡ accepted scan
  pub taken_is : scan.taken ≡ taken
  pub last_is : last_of scan ≡ last

-- A key's last page is sound, its stream takes some bytes up to its last number, and its header names the first page and creates.
pub record TailTold (s : Space) (last taken fk first creates : ℕ) : Type 0 where
  pub tail : Tail
  pub sound : tail_at (seen s) last ≡ accepted tail
  pub taken_is : tail.scan.taken ≡ taken
  pub fk_is : last_of tail.scan ≡ fk
  pub first_is : tail.last.first ≡ first
  pub creates_is : tail.last.creates ≡ creates

module _ (body : List ℕ) (mark : ℕ) (free : List ℕ) where
  -- A key's slab is read without the free heads.
  pub slab_free : (class used off : ℕ) → slab_scan (body_ground body mark) class used off ≡ slab_scan (seen (space body mark free)) class used off
  unfolding slab_scan
  slab_free class used off = refl

  -- So is its last page.
  tail_free : (last : ℕ) → tail_at (body_ground body mark) last ≡ tail_at (seen (space body mark free)) last
  unfolding tail_at last_at link_scan
  tail_free last = refl

  -- A slab's end was told: the slab is sound, with a scan of that end.
  pub slab_told : (class used off : ℕ) {taken last : ℕ} {told : Answer End}
      → told ≡ answered (end_from 0) (soundly (slab_scan (body_ground body mark) class used off))
      → told ≡ accepted (record { taken = taken; last = last }) → SlabTold (space body mark free) class used off taken last
  slab_told class used off e t =
      let (c, is, ends) = was_accepted (end_from 0) _ (sym e ∙ t) in
      record {
        scan = c;
        sound = sym (slab_free class used off) ∙ was_sound _ is;
        taken_is = ap (λ (x : End). x.taken) ends;
        last_is = ap (λ (x : End). x.last) ends;
      }

  -- A refusal was told: the slab isn't sound.
  pub slab_untold : (class used off : ℕ) {number : ℕ} {told : Answer End}
      → told ≡ answered (end_from 0) (soundly (slab_scan (body_ground body mark) class used off))
      → told ≡ refused number → (m : ℕ) × (slab_scan (seen (space body mark free)) class used off ≡ refused m)
  slab_untold class used off e t =
      let (m, is) = was_unsound _ (was_refused (end_from 0) _ (sym e ∙ t)) in
      (m, sym (slab_free class used off) ∙ is)

  -- A last page's end was told: the page is sound, with a tail of that end.
  pub tail_told : (last : ℕ) {end : TailEndOf} {told : Answer TailEndOf}
      → told ≡ answered tail_end_of (soundly (tail_at (body_ground body mark) last))
      → told ≡ accepted end → TailTold (space body mark free) last end.taken end.fk end.first end.creates
  tail_told last e t =
      let (tail, is, ends) = was_accepted tail_end_of _ (sym e ∙ t) in
      record {
        tail = tail;
        sound = sym (tail_free last) ∙ was_sound _ is;
        taken_is = ap (λ (x : TailEndOf). x.taken) ends;
        fk_is = ap (λ (x : TailEndOf). x.fk) ends;
        first_is = ap (λ (x : TailEndOf). x.first) ends;
        creates_is = ap (λ (x : TailEndOf). x.creates) ends;
      }

  -- A refusal was told: the page isn't sound.
  pub tail_untold : (last : ℕ) {number : ℕ} {told : Answer TailEndOf}
      → told ≡ answered tail_end_of (soundly (tail_at (body_ground body mark) last))
      → told ≡ refused number → (m : ℕ) × (tail_at (seen (space body mark free)) last ≡ refused m)
  tail_untold last e t =
      let (m, is) = was_unsound _ (was_refused tail_end_of _ (sym e ∙ t)) in
      (m, sym (tail_free last) ∙ is)

-- What is known of a sound last page: where it stands, that it is version 2, that it counts few numbers, and that its stream ends within
-- it.
pub record SoundTail (s : Space) (last : ℕ) (t : Tail) : Type 0 where
  pub stands : is_block page_class last s.mark ≡ true
  pub names : names_extent (page_at (seen s) last) ≡ true
  pub few : count_of (page_at (seen s) last) ≤ page_size
  pub taken_fits : 24 + t.scan.taken ≤ page_size

-- That is known of one that passed its tests.
pub tail_sound : (s : Space) (last : ℕ) (t : Tail) → tail_at (seen s) last ≡ accepted t → SoundTail s last t
unfolding tail_at last_at link_scan
tail_sound s last t e =
    let page = page_at (seen s) last in
    let (h, header, e1) = went_on (last_at (seen s) last) _ e in
    let (c, linked, e3) = went_on (link_scan (seen s) 0 last) _ e1 in
    let same = accepted_inj e3 in
    let (stands, e4) = was_sure (is_block page_class last s.mark) _ header in
    let (tests, e5) = was_sure (names_extent page && is_last_link (link_of page)) _ e4 in
    let names = (both (names_extent page) (is_last_link (link_of page)) tests).0 in
    let (e6, scanned) = was_sure (is_block page_class last s.mark) _ linked in
    let (read, scans, e7) = went_on (page_scan page) _ scanned in
    let known = page_read page read scans in
    let (goes, e8) = was_sure _ _ e7 in
    let same-scan : read ≡ t.scan = accepted_inj e8 ∙ ap (λ (x : Tail). x.scan) same in
    record {
      stands = stands;
      names = names;
      few = known.count_fits;
      taken_fits = omega (arith, known.taken_fits, extent_start page names, ap (λ (x : Scan). x.taken) same-scan);
    }

-- ---- moving

-- What comes after a part that comes after another.
then_then : {A B C : Type 0} (a : Answer A) (f : A → B) (g : B → C)
    → and_then a (λ x. accepted (g (f x))) ≡ and_then (and_then a (λ x. accepted (f x))) (λ y. accepted (g y))
unfolding and_then
then_then (accepted x) f g = refl
then_then (refused number) f g = refl

-- A list with one number more moves as it is placed: then the old blocks are pushed.
moves_as_placed : (desk : ℕ) (b : Book) (key : ℕ) (ns : List ℕ) (n : ℕ) (old : List Block) (o : Option ℕ)
    → moves_into desk b key ns n old o
    ≡ and_then (places_into desk b.space b.counts (ns ++ (n ∷ [])) o)
    (λ p. accepted (appending key p.place (length ns) (release old p.space) p.counts b))
unfolding moves_into places_into
moves_as_placed desk b key ns n old (some class) = then_then (slab_for desk class b.space b.counts) _ _
moves_as_placed desk b key ns n old none = then_then (page_for desk b.space b.counts) _ _

-- Where a list is placed by its length and its stream's.
abbrev pub places_for : ℕ → Space → List ℕ → List ℕ → Answer Placed
places_for desk s counts list = places_into desk s counts list (moves_to (length list) (stream_len list))

-- A list and one number more, as it is placed.
module _ (desk : ℕ) (b : Book) (key : ℕ) (ns : List ℕ) (n : ℕ) (old : List Block) (list : List ℕ) (is : list ≡ ns ++ (n ∷ [])) where
  -- It moves to where it was placed, and the old blocks are pushed.
  moves_yes : {p : Placed} → places_for desk b.space b.counts list ≡ accepted p
      → moves desk b key ns n old ≡ accepted (appending key p.place (length ns) (release old p.space) p.counts b)
  unfolding moves
  moves_yes e = moves_as_placed desk b key ns n old _ ∙ then_yes (places_for desk b.space b.counts (ns ++ (n ∷ []))) _
      (ap (places_for desk b.space b.counts) (sym is) ∙ e)

  -- A refusal to place it is the move's.
  moves_no : {number : ℕ} → places_for desk b.space b.counts list ≡ refused number → moves desk b key ns n old ≡ refused number
  unfolding moves
  moves_no e = moves_as_placed desk b key ns n old _ ∙ then_no (places_for desk b.space b.counts (ns ++ (n ∷ []))) _
      (ap (places_for desk b.space b.counts) (sym is) ∙ e)

-- Numbers read into a lent list, and one more stored behind them, are the list up to there.
pub list_behind : (out read ns : List ℕ) (n used : ℕ) → length ns ≡ used → used < length out → read ≡ overwrite out 0 ns
    → firsts (used + 1 - 0) (set read used n) ≡ ns ++ (n ∷ [])
unfolding part
list_behind out read ns n used counted fits is =
    let behind : set (overwrite out 0 ns) (0 + length ns) n ≡ overwrite out 0 (ns ++ (n ∷ [])) = overwrite_next out 0 ns n (omega arith) in
    let at : 0 + length ns ≡ used = omega arith in
    let long : used + 1 - 0 ≡ length (ns ++ (n ∷ [])) = simp length-append (omega arith) in
    ap (λ (l : List ℕ). firsts (used + 1 - 0) (set l used n)) is ∙ ap (λ (i : ℕ). firsts (used + 1 - 0) (set (overwrite out 0 ns) i n))
    (sym at)
    ∙ ap (firsts (used + 1 - 0)) behind ∙ ap (λ (k : ℕ). firsts k (overwrite out 0 (ns ++ (n ∷ [])))) long
    ∙ part_written out 0 (ns ++ (n ∷ [])) (simp length-append (omega arith))

-- Numbers that rise, with one more above their last, rise.
pub rises_behind : (ns : List ℕ) (n : ℕ) → Rising (2 ^ 62) 0 ns → last_from 0 ns < n → n < 2 ^ 62 → Rising (2 ^ 62) 0 (ns ++ (n ∷ []))
unfolding Rising
rises_behind ns n rises above low = rising_append (2 ^ 62) 0 ns (n ∷ []) rises (above, low, tt)

-- ---- where a key stands

module _ (desk : ℕ) (b : Book) (key n : ℕ) where
  -- An empty key gets the number inline.
  pub at_empty : append_at desk b key n Empty ≡ accepted (appending key (Inline n 1) 0 b.space b.counts b)
  unfolding append_at
  at_empty = refl

  module _ (entry used : ℕ) where
    -- A number that isn't above an inline one is refused.
    pub inline_low : n ≤ entry → append_at desk b key n (Inline entry used) ≡ refused offered_not_rising
    unfolding append_at
    inline_low h = refuse_yes (leb n entry) _ _ (le-leb n entry h)

    -- One above it moves with it.
    inline_moves : entry < n → append_at desk b key n (Inline entry used) ≡ moves desk b key (entry ∷ []) n []
    unfolding append_at
    inline_moves h = refuse_no (leb n entry) _ _ (lt-leb n entry h)

    -- It moves to where both are placed.
    pub inline_yes : entry < n → {place : ShHeadValue} {after : Space} {left : List ℕ}
        → places_for desk b.space b.counts (entry ∷ n ∷ []) ≡ accepted (record { place = place; space = after; counts = left })
        → append_at desk b key n (Inline entry used) ≡ accepted (appending key place 1 after left b)
    inline_yes h {place} {after} {left} e =
        inline_moves h ∙ moves_yes desk b key (entry ∷ []) n [] (entry ∷ n ∷ []) refl e
        ∙ ap (λ (s : Space). accepted (appending key place 1 s left b)) (release_none after)

    -- It is refused where both can't be placed.
    pub inline_no : entry < n → {number : ℕ} → places_for desk b.space b.counts (entry ∷ n ∷ []) ≡ refused number
        → append_at desk b key n (Inline entry used) ≡ refused number
    inline_no h e = inline_moves h ∙ moves_no desk b key (entry ∷ []) n [] (entry ∷ n ∷ []) refl e

  module _ (class used off : ℕ) where
    -- A slab that isn't sound.
    pub slab_unsound : {number : ℕ} → slab_scan (seen b.space) class used off ≡ refused number
        → append_at desk b key n (Slab class used off) ≡ refused key_unsound
    unfolding append_at
    slab_unsound e = then_no _ _ (soundly_no _ e)

    -- A number above the last of a sound slab goes on.
    slab_above : (c : Scan) → slab_scan (seen b.space) class used off ≡ accepted c → last_of c < n
        → append_at desk b key n (Slab class used off) ≡ append_slab desk b key n class off c
    unfolding append_at
    slab_above c sound h = then_yes _ _ (soundly_yes _ sound) ∙ refuse_no (leb n (last_of c)) _ _ (lt-leb n (last_of c) h)

    -- A number that moves with the slab's list, as it is placed.
    module _ (m : SlabMoves desk b key n class used off) (list : List ℕ) (is : list ≡ m.scan.numbers ++ (n ∷ [])) where
      -- It moves.
      slab_moves : append_at desk b key n (Slab class used off)
          ≡ moves desk b key m.scan.numbers n (record { class = class; off = off } ∷ [])
      unfolding append_slab
      slab_moves =
          let counted = (slab_sound (seen b.space) class used off m.scan m.sound).counted in
          slab_above m.scan m.sound m.above ∙ rw (counted, m.leaves)

      -- It moves to where the list is placed, and the slab is given back.
      pub slab_moved : {place : ShHeadValue} {after : Space} {left : List ℕ} (freed : Space)
          → places_for desk b.space b.counts list ≡ accepted (record { place = place; space = after; counts = left })
          → freed ≡ release (record { class = class; off = off } ∷ []) after → append_at desk b key n (Slab class used off)
          ≡ accepted (appending key place used freed left b)
      slab_moved freed e given =
          let counted = (slab_sound (seen b.space) class used off m.scan m.sound).counted in
          slab_moves ∙ moves_yes desk b key m.scan.numbers n (record { class = class; off = off } ∷ []) list is e ∙ rw (counted, given)

      -- It is refused where the list can't be placed.
      pub slab_unmoved : {number : ℕ} → places_for desk b.space b.counts list ≡ refused number
          → append_at desk b key n (Slab class used off) ≡ refused number
      slab_unmoved e = slab_moves ∙ moves_no desk b key m.scan.numbers n (record { class = class; off = off } ∷ []) list is e

    module _ {taken last : ℕ} (t : SlabTold b.space class used off taken last) where
      -- A number that isn't above the slab's last is refused.
      pub slab_low : n ≤ last → append_at desk b key n (Slab class used off) ≡ refused offered_not_rising
      unfolding append_at
      slab_low h =
          let low : n ≤ last_of t.scan = omega (arith, t.last_is) in
          then_yes _ _ (soundly_yes _ t.sound) ∙ refuse_yes (leb n (last_of t.scan)) _ _ (le-leb n (last_of t.scan) low)

      module _ (above : last < n) where
        -- One that stays in the slab is written there.
        pub slab_stays : stays class (used + 1) (taken + uleb_len (n - last)) ≡ true → (size : ℕ) → size ≡ slab_bytes class
            → (written : List ℕ) → written ≡ overwrite b.space.body off
            (slab_with (part b.space.body off size) used taken (n - last))
            → append_at desk b key n (Slab class used off) ≡ accepted
            (appending key (Slab class (used + 1) off) 0 (space written b.space.mark b.space.free) b.counts b)
        unfolding append_slab
        slab_stays e size is written w =
            let counted = (slab_sound (seen b.space) class used off t.scan t.sound).counted in
            slab_above t.scan t.sound (omega (arith, t.last_is)) ∙ rw (counted, t.last_is, t.taken_is, e, w, is)

        -- One that doesn't stay moves.
        pub slab_leaves : ToAppend desk b key n → stays class (used + 1) (taken + uleb_len (n - last)) ≡ false
            → SlabMoves desk b key n class used off
        slab_leaves p e = record {
          to_append = p;
          scan = t.scan;
          sound = t.sound;
          above = omega (arith, t.last_is);
          leaves =
              rw (t.taken_is, t.last_is) e;
        }

  module _ (last : ℕ) where
    -- A last page that isn't sound.
    pub page_unsound : {number : ℕ} → tail_at (seen b.space) last ≡ refused number
        → append_at desk b key n (Extent last) ≡ refused key_unsound
    unfolding append_at
    page_unsound e = then_no _ _ (soundly_no _ e)

    -- A number above the last of a sound last page goes on.
    page_above : (t : Tail) → tail_at (seen b.space) last ≡ accepted t → last_of t.scan < n
        → append_at desk b key n (Extent last) ≡ append_page desk b key n last t (spot_behind (page_at (seen b.space) last) n t.scan)
    unfolding append_at
    page_above t sound h = then_yes _ _ (soundly_yes _ sound) ∙ refuse_no (leb n (last_of t.scan)) _ _ (lt-leb n (last_of t.scan) h)

    module _ {taken fk first creates : ℕ} (t : TailTold b.space last taken fk first creates) where
      -- A number that isn't above the page's last is refused.
      pub page_low : n ≤ fk → append_at desk b key n (Extent last) ≡ refused offered_not_rising
      unfolding append_at
      page_low h =
          let low : n ≤ last_of t.tail.scan = omega (arith, t.fk_is) in
          then_yes _ _ (soundly_yes _ t.sound) ∙ refuse_yes (leb n (last_of t.tail.scan)) _ _ (le-leb n (last_of t.tail.scan) low)

      -- its stream starts at byte 24
      starts : stream_off (page_at (seen b.space) last) ≡ 24
      starts = extent_start (page_at (seen b.space) last) (tail_sound b.space last t.tail t.sound).names

      module _ (above : fk < n) where
        -- One that the page has room for is written there.
        pub page_stays : 24 + taken + uleb_len (n - fk) ≤ page_size → (written : List ℕ)
            → written ≡ overwrite b.space.body last
            (page_with (part b.space.body last page_size)
            (record { at = stream_off (part b.space.body last page_size) + taken; difference = n - fk }) creates)
            → append_at desk b key n (Extent last) ≡ accepted
            (appending key (Extent last) 0 (space written b.space.mark b.space.free) b.counts b)
        unfolding append_page
        page_stays fits written w =
            let spot = spot_fits (page_at (seen b.space) last) n t.tail.scan (rw (t.taken_is, t.fk_is) (omega (arith, starts))) in
            page_above t.tail t.sound (omega (arith, t.fk_is)) ∙ rw (spot, t.taken_is, t.fk_is, t.creates_is, w)

        -- One that it has no room for goes to a page more.
        pub page_full : ToAppend desk b key n → page_size < 24 + taken + uleb_len (n - fk) → ChainGrows desk b key n last first creates
        page_full p over = record {
          to_append = p;
          tail = t.tail;
          sound = t.sound;
          above = omega (arith, t.fk_is);
          full = spot_none (page_at (seen b.space) last) n t.tail.scan (rw (t.taken_is, t.fk_is) (omega (arith, starts)));
          first_is = t.first_is;
          creates_is = t.creates_is;
        }

  module _ (last first creates : ℕ) (g : ChainGrows desk b key n last first creates) where
    -- A chain grows.
    growing : append_at desk b key n (Extent last) ≡ grow_chain desk b key n last g.tail
    unfolding append_page
    growing = page_above last g.tail g.sound g.above ∙ rw g.full

    -- It does so, and no page is left.
    pub chain_no : {number : ℕ} → page_for desk b.space b.counts ≡ refused number
        → append_at desk b key n (Extent last) ≡ refused number
    unfolding grow_chain
    chain_no e = growing ∙ then_no (page_for desk b.space b.counts) _ e

    -- It does so by a taken page: the old last page is linked to it, and it is written.
    pub chain_yes : {off : ℕ} {after : Space} {left : List ℕ} (linked written : List ℕ)
        → page_for desk b.space b.counts ≡ accepted (record { off = off; space = after; counts = left })
        → linked ≡ overwrite after.body last (page_before (part after.body last page_size) off)
        → written ≡ overwrite linked off (last_page_of first off 1 (total_with creates) (n ∷ []))
        → append_at desk b key n (Extent last) ≡ accepted (appending key (Extent off) 0 (space written after.mark after.free) left b)
    unfolding grow_chain
    chain_yes linked written e links writes = growing ∙ then_yes (page_for desk b.space b.counts) _ e
        ∙ rw (writes, links, g.first_is, g.creates_is)

-- ---- a number by itself

-- A test that refuses by a number other than 0 didn't hold where the refusal is 0.
not_refused : (test : Bool) (number : ℕ) (after : Answer ℕ) → (number ≡ 0 → ⊥) → refusal_of (refuse_if test number after) ≡ 0
    → (test ≡ false) × (refusal_of after ≡ 0)
unfolding refuse_if
not_refused true number after other e = absurd (other e)
not_refused false number after other e = (refl, e)

-- A number that wasn't refused by itself is above 0 and below 2^62.
pub judged_yes : (n r : ℕ) → r ≡ refusal_of {A = ℕ} (offered_number true 0 n (accepted 0)) → r ≡ 0 → (0 < n) × (n < 2 ^ 62)
unfolding offered_number
judged_yes n r e zero_is =
    let (above, e1) = not_refused (eqb n 0) _ _ (λ z. omega arith) (sym e ∙ zero_is) in
    let (low, e2) = not_refused (leb (2 ^ 63) n) _ _ (λ z. omega arith) e1 in
    let (lower, e3) = not_refused (leb (2 ^ 62) n) _ _ (λ z. omega arith) e2 in
    (omega (arith, eqb-false n 0 above), leb-false (2 ^ 62) n lower)

-- One that was is refused by that number.
pub judged_no : (a : Answer ℕ) (r : ℕ) → r ≡ refusal_of a → (r ≡ 0 → ⊥) → a ≡ refused r
judged_no (accepted x) r e other = absurd (other e)
judged_no (refused number) r e other = ap refused (sym e)

-- ---- a head word

-- The word of a number that stands inline isn't 0.
pub inline_above : (w entry used : ℕ) → unpack_head w ≡ accepted (Inline entry used) → 0 < entry
unfolding unpack_head
inline_above w entry used e = by_mode (eqb (mode_of w) 0) _ (by_kind (eqb (mode_of w) 1)) e
  where
    by_word : (empty : Bool) → eqb w 0 ≡ empty → accepted (cond empty Empty (Inline w 1)) ≡ accepted (Inline entry used) → 0 < entry
    by_word true z e = let x : ◌≡◌ {A = ℕ} 0 1 = cc in absurd (omega arith)
    by_word false z e = let x : w ≡ entry = cc in omega (arith, eqb-false w 0 z)

    by_kind : (slab : Bool)
        → cond slab (refuse_if (leb (used_of w) 1) slab_used_too_small (accepted (Slab (class_of w) (used_of w) (offset_of w))))
        (refuse_if (eqb (mode_of w) 2) mode_two (refuse_if (eqb (payload_of w) 0) extent_payload_zero (accepted (Extent (payload_of w)))))
        ≡ accepted (Inline entry used) → ⊥
    by_kind true e = let p = (passed (leb (used_of w) 1) _ _ e).1 in let x : ◌≡◌ {A = ℕ} 0 1 = cc in omega arith
    by_kind false e =
        let p = (passed (eqb (payload_of w) 0) _ _ (passed (eqb (mode_of w) 2) _ _ e).1).1 in
        let x : ◌≡◌ {A = ℕ} 0 1 = cc in
        omega arith

    by_mode : (inline : Bool) (rest : Answer ShHeadValue) → (rest ≡ accepted (Inline entry used) → ⊥)
        → cond inline (accepted (cond (eqb w 0) Empty (Inline w 1))) rest ≡ accepted (Inline entry used) → 0 < entry
    by_mode true rest other e = by_word (eqb w 0) refl e
    by_mode false rest other e = absurd (other e)

-- ---- an append

module _ (desk : ℕ) (b : Book) (key n : ℕ) where
  -- A book out of shape.
  pub append_shape : shape_broken b.space (length b.heads) ≡ true → appends desk b key n ≡ refused shape_bad
  unfolding appends
  append_shape e = desk_broken desk b key _ e

  module _ (shape : shape_broken b.space (length b.heads) ≡ false) where
    -- No such desk.
    pub append_none : desks ≤ desk → appends desk b key n ≡ refused desks_bad
    unfolding appends
    append_none d = desk_none desk b key _ shape d

    module _ (known : desk < desks) where
      -- A key beyond the heads.
      pub append_beyond : length b.heads ≤ key → appends desk b key n ≡ refused key_beyond
      unfolding appends
      append_beyond h = desk_beyond desk b key _ shape known h

      module _ (within : key < length b.heads) where
        -- A key within them: the number is judged by itself.
        append_within : appends desk b key n
            ≡ offered_number true 0 n (and_then (soundly (unpack_head (word_of key b))) (append_at desk b key n))
        unfolding appends
        append_within = desk_there desk b key _ shape known within

        -- A number that is refused by itself.
        pub append_number : (x : ℕ) {number : ℕ} → offered_number true 0 n (accepted x) ≡ refused number
            → appends desk b key n ≡ refused number
        append_number x e = append_within ∙ refused_on true 0 n x _ e

        module _ (above : 0 < n) (low : n < 2 ^ 62) where
          -- A number that isn't refused: the head word decides.
          append_on : appends desk b key n ≡ and_then (soundly (unpack_head (word_of key b))) (append_at desk b key n)
          append_on = append_within ∙ rising_on true 0 n _ above low

          -- A head word that tells no place.
          pub append_unsound : {number : ℕ} → unpack_head (word_of key b) ≡ refused number → appends desk b key n ≡ refused key_unsound
          append_unsound e = append_on ∙ then_no _ _ (soundly_no _ e)

          -- A key's place decides.
          pub append_at_lem : {place : ShHeadValue} → unpack_head (word_of key b) ≡ accepted place
              → appends desk b key n ≡ append_at desk b key n place
          append_at_lem e = append_on ∙ then_yes _ _ (soundly_yes _ e)
