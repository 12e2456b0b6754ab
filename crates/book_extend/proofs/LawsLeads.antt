-- What an accepted append gives: the key's word tells the place that was told, and records are rewritten only where the place then tells of
-- more numbers. So few records are rewritten while one key is extended. Assumes nothing.
use Prim.Native.Nat.{ℕ, ◌+◌, ◌-◌, ◌*◌, ◌^◌, ◌≤◌, ◌<◌}
use mathlib.Core.Bool.{Bool, true, false, cond}
use mathlib.Core.List.{List, [], ◌∷◌, ◌++◌}
use mathlib.Core.Option.{Option, none, some}
use mathlib.Core.Path.{◌≡◌, refl, sym, subst, ◌∙◌}
use native.Mathlib.Omega.{arith}
use borrow.Author.Tests.{leb-false}
use lib.Dec.{leb}
use lib.ListN.{length, length-append}
use Rattle.error.specs.Refusal.{Answer, accepted}
use Rattle.error.proofs.LawsAnswer.{accepted_inj, passed, went_on, then_yes}
use Rattle.buffer.specs.Bytes.{overwrite}
use Rattle.compact.specs.Uleb128.{uleb_len}
use Rattle.scripthash_layout.specs.Sizes.{page_class}
use Rattle.scripthash_layout.specs.Head.{unpack_head}
use Rattle.scripthash_layout.specs.declared.head.ShHeadValue.{ShHeadValue}
use Rattle.scripthash_layout.specs.declared.head.ShHeadValue.TheVariants.{Empty, Inline, Slab, Extent}
use Rattle.scripthash_layout.proofs.LawsWords.{HeadWord, inline_word, slab_word_lem, extent_word_lem}
use Rattle.scripthash_stream.specs.Stream.{Scan, stream_len}
use Rattle.scripthash_pages.specs.Entries.{last_of, Spot}
use Rattle.scripthash_free.specs.FreeList.{Block}
use Rattle.scripthash_free.proofs.LawsBlock.{block_stands, bytes_from_16}
use Rattle.book_rules.specs.Outcomes.{Appended}
use Rattle.book_rules.specs.Places.{stays, moves_to}
use Rattle.book_rules.proofs.LawsOffered.{offered_on}
use Rattle.book_rules.proofs.LawsRules.{stays_holds, moves_to_lem}
use Rattle.book_desks.specs.Desks.{desks}
use Rattle.book_space.specs.Space.{Space, space, InShape, shape_broken}
use Rattle.book_space.specs.Desks.{slab_for, page_for}
use Rattle.book_space.proofs.LawsShape.{shape_holds}
use Rattle.book_space.proofs.LawsDesks.{slab_for_lem, page_for_lem, took_is}
use Rattle.book_keys.specs.Keys.{soundly, block_at, slab_scan, Tail, tail_at}
use Rattle.book_blocks.specs.Blocks.{slab_with}
use Rattle.book_keys.proofs.LawsSound.{soundly_yes, was_sound}
use Rattle.book_keys.proofs.LawsSlab.{SoundSlab, slab_sound}
use Rattle.book_keys.proofs.LawsPages.{tail_sound}
use Rattle.book.specs.Book.{Book, Outcome, word_of, by_desk, seen}
use Rattle.book.proofs.LawsPlace.{block_lies}
use Rattle.book_append.specs.Appends.{appending, moves_into, moves, append_slab, grow_chain, append_page, append_at, appends}
use Rattle.book_append.specs.Steps.{KeyKnown}
use Rattle.book_extend.specs.Steps.{held}
use Rattle.book_extend.proofs.LawsWords.{put_told, slab_low}
use Rattle.book_extend.proofs.LawsLow.{taken_low}

-- What an accepted append to a key gives that stood at a place.
pub record Leads (key : ℕ) (before : ShHeadValue) (o : Outcome Appended) : Type 0 where
  pub stands : unpack_head (word_of key o.book) ≡ accepted o.told.place
  pub grows : o.told.rewritten + 256 * held before ≤ 256 * held o.told.place
  pub most : held o.told.place ≤ 257

module _ (desk : ℕ) (b : Book) (key n : ℕ) (shape : InShape b.space) (keyed : key < length b.heads) where
  -- It gives that where its place has a word, and tells of enough numbers.
  leading : (before place : ShHeadValue) (rewritten w : ℕ) (s : Space) (counts : List ℕ) → HeadWord place w
      → rewritten + 256 * held before ≤ 256 * held place → held place ≤ 257
      → Leads key before (appending key place rewritten s counts b)
  leading before place rewritten w s counts word grows most =
      record { stands = put_told b.heads key keyed word; grows = grows; most = most }

  -- A list that moves, with one number more.
  moves_lead : (before : ShHeadValue) (ns : List ℕ) (old : List Block) (class : Option ℕ) {o : Outcome Appended} → length ns ≡ held before
      → 1 ≤ length ns → length ns ≤ 256 → moves_to (length (ns ++ (n ∷ []))) (stream_len (ns ++ (n ∷ []))) ≡ class
      → moves_into desk b key ns n old class ≡ accepted o → Leads key before o
  unfolding moves_into
  moves_lead before ns old (some class) {o} same one few to e =
      let list = ns ++ (n ∷ []) in
      let long : length list ≡ length ns + 1 = length-append ns (n ∷ []) in
      let m = moves_to_lem (length list) (stream_len list) to in
      let (t, took, is) = went_on (slab_for desk class b.space b.counts) _ e in
      let low = taken_low class b.space m.slab (took_is (slab_for_lem desk b.space b.counts class took)).0 in
      subst (λ (x : Outcome Appended). Leads key before x) (accepted_inj is)
      (leading before (Slab class (length list) t.off) (length ns) _ _ _
      (slab_word_lem class (length list) t.off (omega (arith, m.slab)) (omega arith) (omega (arith, m.few))
      (omega (arith, low, bytes_from_16 class)))
      (omega (arith, same, long)) (omega (arith, m.few)))
  moves_lead before ns old none {o} same one few to e =
      let (t, took, is) = went_on (page_for desk b.space b.counts) _ e in
      let lies = block_lies page_class b.space t shape (omega arith) (page_for_lem desk b.space b.counts took) in
      subst (λ (x : Outcome Appended). Leads key before x) (accepted_inj is)
      (leading before (Extent t.off) (length ns) _ _ _
      (extent_word_lem t.off (omega (arith, lies.begins)) (omega (arith, lies.ends, lies.small)))
      (omega (arith, same)) (omega arith))

  -- A number behind a slab's list.
  slab_leads : (class used off : ℕ) (c : Scan) {o : Outcome Appended} → off < 2 ^ 40
      → slab_scan (seen b.space) class used off ≡ accepted c
      → append_slab desk b key n class off c ≡ accepted o → Leads key (Slab class used off) o
  unfolding append_slab moves
  slab_leads class used off c {o} low sound e =
      let known = slab_sound (seen b.space) class used off c sound in
      let bytes = c.taken + uleb_len (n - last_of c) in
      by_room known bytes (stays class (length c.numbers + 1) bytes) refl e
    where
      by_room : (known : SoundSlab (seen b.space) class used off c) (bytes : ℕ) (stay : Bool)
          → stays class (length c.numbers + 1) bytes ≡ stay
          → cond stay
          (accepted (appending key (Slab class (length c.numbers + 1) off) 0
          (space (overwrite b.space.body off
          (slab_with (block_at (seen b.space) class off) (length c.numbers) c.taken (n - last_of c)))
          b.space.mark b.space.free) b.counts b))
          (moves_into desk b key c.numbers n (record { class = class; off = off } ∷ [])
          (moves_to (length (c.numbers ++ (n ∷ []))) (stream_len (c.numbers ++ (n ∷ [])))))
          ≡ accepted o → Leads key (Slab class used off) o
      by_room known bytes true is f =
          let few = (stays_holds class (length c.numbers + 1) bytes is).0 in
          subst (λ (x : Outcome Appended). Leads key (Slab class used off) x) (accepted_inj f)
          (leading (Slab class used off) (Slab class (length c.numbers + 1) off) 0 _ _ _
          (slab_word_lem class (length c.numbers + 1) off (omega (arith, known.class_to_7)) (omega (arith, known.counted, known.some))
          (omega (arith, few)) low)
          (omega (arith, known.counted)) (omega (arith, few)))
      by_room known bytes false is f =
          moves_lead (Slab class used off) c.numbers (record { class = class; off = off } ∷ []) _ known.counted
          (omega (arith, known.counted, known.some)) (omega (arith, known.counted, known.used_to_256)) refl f

  -- A number behind a last page.
  page_leads : (last : ℕ) (t : Tail) (spot : Option Spot) {o : Outcome Appended} → tail_at (seen b.space) last ≡ accepted t
      → append_page desk b key n last t spot ≡ accepted o → Leads key (Extent last) o
  unfolding append_page grow_chain
  page_leads last t (some w) {o} sound e =
      let stands = block_stands page_class last b.space.mark (tail_sound (seen b.space) last t sound).header.stands in
      subst (λ (x : Outcome Appended). Leads key (Extent last) x) (accepted_inj e)
      (leading (Extent last) (Extent last) 0 _ _ _
      (extent_word_lem last (omega (arith, stands.begins)) (omega (arith, stands.ends, shape.within, shape.most)))
      (omega arith) (omega arith))
  page_leads last t none {o} sound e =
      let (p, took, is) = went_on (page_for desk b.space b.counts) _ e in
      let lies = block_lies page_class b.space p shape (omega arith) (page_for_lem desk b.space b.counts took) in
      subst (λ (x : Outcome Appended). Leads key (Extent last) x) (accepted_inj is)
      (leading (Extent last) (Extent p.off) 0 _ _ _
      (extent_word_lem p.off (omega (arith, lies.begins)) (omega (arith, lies.ends, lies.small)))
      (omega arith) (omega arith))

  -- A number behind the list of a key that stands at a place.
  at_leads : (place : ShHeadValue) {o : Outcome Appended} → 0 < n → n < 2 ^ 62 → unpack_head (word_of key b) ≡ accepted place
      → append_at desk b key n place ≡ accepted o → Leads key place o
  unfolding append_at moves
  at_leads Empty {o} above low stands e =
      subst (λ (x : Outcome Appended). Leads key Empty x) (accepted_inj e)
      (leading Empty (Inline n 1) 0 n _ _ (inline_word n above low) (omega arith) (omega arith))
  at_leads (Inline entry used) {o} above low stands e =
      moves_lead (Inline entry used) (entry ∷ []) [] _ refl (omega arith) (omega arith) refl (passed (leb n entry) _ _ e).1
  at_leads (Slab class used off) {o} above low stands e =
      let (c, sound, e1) = went_on (soundly (slab_scan (seen b.space) class used off)) _ e in
      slab_leads class used off c (slab_low (word_of key b) class used off stands) (was_sound _ sound)
      (passed (leb n (last_of c)) _ _ e1).1
  at_leads (Extent last) {o} above low stands e =
      let (t, sound, e1) = went_on (soundly (tail_at (seen b.space) last)) _ e in
      page_leads last t _ (was_sound _ sound) (passed (leb n (last_of t.scan)) _ _ e1).1

-- What was passed by a change by a desk that is accepted.
pub desk_passed : {A : Type 0} (desk : ℕ) (b : Book) (key : ℕ) (after : Answer A) {x : A} → by_desk desk b key after ≡ accepted x
    → KeyKnown desk b key × (after ≡ accepted x)
unfolding by_desk
desk_passed desk b key after e =
    let (shape, e1) = passed (shape_broken b.space (length b.heads)) _ _ e in
    let (known, e2) = passed (leb desks desk) _ _ e1 in
    let (keyed, is) = passed (leb (length b.heads) key) _ _ e2 in
    (record { shape = shape; known = leb-false desks desk known; keyed = leb-false (length b.heads) key keyed }, is)

-- An accepted append to a key whose word tells a place.
pub append_leads : (desk : ℕ) (b : Book) (key n : ℕ) (place : ShHeadValue) {o : Outcome Appended}
    → unpack_head (word_of key b) ≡ accepted place → appends desk b key n ≡ accepted o → Leads key place o
unfolding appends
append_leads desk b key n place stands e =
    let (known, e1) = desk_passed desk b key _ e in
    let (above, low, e2) = offered_on true 0 n _ e1 in
    at_leads desk b key n (shape_holds b.space (length b.heads) known.shape).0 known.keyed place above low stands
    (sym (then_yes (soundly (unpack_head (word_of key b))) _ (soundly_yes _ stands)) ∙ e2)
