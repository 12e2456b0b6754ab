-- An extend, append by append: what is left gives the whole, in place and by appends of their own; and the key's tests before. Assumes
-- nothing.
use Prim.Native.Nat.{ℕ, ◌+◌, ◌-◌, ◌≤◌, ◌<◌}
use mathlib.Core.Bool.{Bool, true, false, cond}
use mathlib.Core.List.{List, [], ◌∷◌}
use mathlib.Core.Path.{◌≡◌, refl, sym, ap, subst, ◌∙◌}
use native.Mathlib.Omega.{arith}
use lib.Dec.{eqb}
use lib.ListN.{length, get_or, drop, drop_of_length-le}
use Rattle.error.specs.Refusal.{Answer, accepted, refused, shape_bad, key_beyond, desks_bad, key_unsound}
use Rattle.error.proofs.LawsAnswer.{accepted_inj, went_on, then_yes, then_no, was_accepted, was_refused}
use Rattle.buffer.specs.Bytes.{part, overwrite}
use Rattle.scripthash_layout.specs.Sizes.{slab_bytes, page_size}
use Rattle.scripthash_layout.specs.Head.{unpack_head}
use Rattle.scripthash_layout.specs.declared.head.ShHeadValue.{ShHeadValue}
use Rattle.scripthash_layout.specs.declared.head.ShHeadValue.TheVariants.{Empty, Inline, Slab, Extent}
use Rattle.scripthash_stream.proofs.LawsStream.{front}
use Rattle.scripthash_fields.specs.Page.{stream_off}
use Rattle.book_rules.specs.Outcomes.{Appended, book_after, answer_of}
use Rattle.book_desks.specs.Desks.{desks}
use Rattle.book_space.specs.Space.{space, shape_broken}
use Rattle.book_keys.specs.Keys.{slab_scan, tail_at}
use Rattle.book_keys.proofs.LawsSound.{soundly_yes, soundly_no, was_sound}
use Rattle.book_blocks.specs.Blocks.{slab_with, page_with}
use Rattle.book.specs.Book.{Book, Outcome, word_of, seen}
use Rattle.book.proofs.LawsKey.{desk_broken, desk_none, desk_beyond, desk_there}
use Rattle.book_append.specs.Appends.{appending, appends}
use Rattle.book_append.specs.Steps.{KeyKnown}
use Rattle.book_append.proofs.LawsAppend.{SlabTold, TailTold, append_at_lem, slab_stays, page_stays}
use Rattle.book_extend.specs.Extends.{Extended, extended, moved, with_append, stopped_by, after_one, extend_from, judged_at, standing}
use Rattle.book_extend.specs.Extends.{extends}
use Rattle.book_extend.specs.Steps.{PageTakes, SlabTakes, Extending, EndsAs}
use Rattle.book_extend.proofs.LawsLeads.{Leads, append_leads}
use Rattle.book_extend.proofs.LawsPage.{PageEnds}
use Rattle.book_extend.proofs.LawsSlab.{SlabEnds}

-- ---- one append

module _ (desk key n : ℕ) (ns : List ℕ) (b : Book) (x : Extended) where
  -- An append that is accepted, before others.
  extend_yes : {o : Outcome Appended} → appends desk b key n ≡ accepted o
      → extend_from desk key (n ∷ ns) b x ≡ extend_from desk key ns o.book (with_append x o.told)
  unfolding extend_from after_one
  extend_yes e = ap (after_one b x (extend_from desk key ns)) e

  -- One that is refused.
  extend_no : {number : ℕ} → appends desk b key n ≡ refused number
      → extend_from desk key (n ∷ ns) b x ≡ record { told = stopped_by number x; book = b }
  unfolding extend_from after_one
  extend_no e = ap (after_one b x (extend_from desk key ns)) e

-- An append counts as at most one move.
moved_one : (rewritten : ℕ) → moved rewritten ≤ 1
unfolding moved
moved_one rewritten = go (eqb rewritten 0)
  where
    go : (t : Bool) → cond t 0 1 ≤ 1
    go true = omega arith
    go false = omega arith

module _ {desk key : ℕ} {ns : List ℕ} {whole : Outcome Extended} {b : Book} {i moves rewritten : ℕ}
    (x : Extending desk key ns whole b i moves rewritten) where
  -- Behind the last number the whole is what was told, and the book.
  pub extend_ends : length ns ≤ i → (tells : Extended) → tells ≡ extended i 0 x.place moves rewritten → EndsAs whole b tells
  unfolding extend_from
  extend_ends past tells is =
      let end : drop i ns ≡ [] = drop_of_length-le ns {i = i} past in
      let all : record { told = extended i 0 x.place moves rewritten; book = b } ≡ whole =
      sym (ap (λ (l : List ℕ). extend_from desk key l b (extended i 0 x.place moves rewritten)) end) ∙ x.rest in
      record {
        told = is ∙ ap (λ (o : Outcome Extended). o.told) all;
        left = ap (λ (o : Outcome Extended). o.book) all;
      }

  module _ (more : i < length ns) where
    -- The number that comes.
    abbrev next : ℕ
    next = get_or ns i 0

    -- A refused one ends the extend.
    pub extend_stops : {number : ℕ} → appends desk b key next ≡ refused number → (tells : Extended)
        → tells ≡ extended i number x.place moves rewritten → EndsAs whole b tells
    extend_stops {number} e tells is =
        let so_far = extended i 0 x.place moves rewritten in
        let all : record { told = extended i number x.place moves rewritten; book = b } ≡ whole =
        sym (ap (λ (l : List ℕ). extend_from desk key l b so_far) (front ns i more)
        ∙ extend_no desk key next (drop (i + 1) ns) b so_far e) ∙ x.rest in
        record {
          told = is ∙ ap (λ (o : Outcome Extended). o.told) all;
          left = ap (λ (o : Outcome Extended). o.book) all;
        }

    module _ {o : Outcome Appended} (e : appends desk b key next ≡ accepted o) where
      -- An accepted one leads on.
      leads : Leads key x.place o
      leads = append_leads desk b key next x.place x.stands e

      -- Few records were rewritten with it.
      pub extend_few : rewritten + o.told.rewritten ≤ 65792
      extend_few = omega (arith, x.few, leads.grows, leads.most)

      -- Few moves were made.
      pub extend_moves : moves + moved o.told.rewritten ≤ i + 1
      extend_moves = omega (arith, x.few_moves, moved_one o.told.rewritten)

      -- The extend goes on behind it.
      pub extend_on : (moves' rewritten' : ℕ) → moves' ≡ moves + moved o.told.rewritten → rewritten' ≡ rewritten + o.told.rewritten
          → Extending desk key ns whole o.book (i + 1) moves' rewritten'
      extend_on moves' rewritten' m r =
          let so_far = extended i 0 x.place moves rewritten in
          record {
            place = o.told.place;
            stands = leads.stands;
            few_moves = omega (arith, m, extend_moves);
            few = omega (arith, r, x.few, leads.grows);
            rest =
                ap (λ (k : ℕ). extend_from desk key (drop (i + 1) ns) o.book (extended (i + 1) 0 o.told.place k rewritten')) m
                ∙ ap (λ (k : ℕ). extend_from desk key (drop (i + 1) ns) o.book
                (extended (i + 1) 0 o.told.place (moves + moved o.told.rewritten) k)) r
                ∙ sym (ap (λ (l : List ℕ). extend_from desk key l b so_far) (front ns i more)
                ∙ extend_yes desk key next (drop (i + 1) ns) b so_far e) ∙ x.rest;
          }

-- ---- what an append told

module _ (desk : ℕ) (b : Book) (key n : ℕ) (after : Book) {tells : Answer Appended} (told : tells ≡ answer_of (appends desk b key n))
    (left : after ≡ book_after b (appends desk b key n)) where
  -- It told an outcome: it was accepted, and left that book.
  told_yes : {to : Appended} → tells ≡ accepted to
      → (o : Outcome Appended) × (appends desk b key n ≡ accepted o) × (o.told ≡ to) × (after ≡ o.book)
  unfolding book_after
  told_yes is =
      let (o, e, same) = was_accepted (λ (x : Outcome Appended). x.told) _ (sym told ∙ is) in
      (o, e, same, left ∙ ap (book_after b) e)

  -- It told a refusal: it was refused, and left the book.
  told_no : {number : ℕ} → tells ≡ refused number → (appends desk b key n ≡ refused number) × (after ≡ b)
  unfolding book_after
  told_no is =
      let e = was_refused (λ (x : Outcome Appended). x.told) _ (sym told ∙ is) in
      (e, left ∙ ap (book_after b) e)

module _ {desk key : ℕ} {ns : List ℕ} {whole : Outcome Extended} {b : Book} {i moves rewritten : ℕ}
    (x : Extending desk key ns whole b i moves rewritten) (more : i < length ns) (after : Book) {tells : Answer Appended}
    (told : tells ≡ answer_of (appends desk b key (get_or ns i 0))) (left : after ≡ book_after b (appends desk b key (get_or ns i 0))) where
  -- The next number was refused: the extend ends with what was told before.
  pub step_stops : {number : ℕ} → tells ≡ refused number → (by : Extended)
      → ((place : ShHeadValue) → unpack_head (word_of key after) ≡ accepted place → by ≡ extended i number place moves rewritten)
      → EndsAs whole after by
  step_stops is by by-is =
      let (e, same) = told_no desk b key (get_or ns i 0) after told left is in
      let ends = extend_stops x more e by (by-is x.place (ap (λ (c : Book). unpack_head (word_of key c)) same ∙ x.stands)) in
      record { told = ends.told; left = same ∙ ends.left }

  module _ {to : Appended} (is : tells ≡ accepted to) where
    -- It was accepted: few records were rewritten, and few moves made.
    pub step_few : (rewritten + to.rewritten ≤ 65792) × (moves + moved to.rewritten ≤ i + 1)
    step_few =
        let (o, e, same, book) = told_yes desk b key (get_or ns i 0) after told left is in
        let r : o.told.rewritten ≡ to.rewritten = ap (λ (a : Appended). a.rewritten) same in
        (omega (arith, extend_few x more e, r), rw r at (extend_moves x more e))

    -- The extend goes on behind it.
    pub step_on : (moves' rewritten' : ℕ) → moves' ≡ moves + moved to.rewritten → rewritten' ≡ rewritten + to.rewritten
        → Extending desk key ns whole after (i + 1) moves' rewritten'
    step_on moves' rewritten' m r =
        let (o, e, same, book) = told_yes desk b key (get_or ns i 0) after told left is in
        subst (λ (c : Book). Extending desk key ns whole c (i + 1) moves' rewritten') (sym book)
        (extend_on x more e moves' rewritten' (m ∙ ap (λ (a : Appended). moves + moved a.rewritten) (sym same))
        (r ∙ ap (λ (a : Appended). rewritten + a.rewritten) (sym same)))

-- An append that rewrites nothing goes on with the same moves and records.
pub still : {desk key : ℕ} {ns : List ℕ} {whole : Outcome Extended} {b : Book} {i moves rewritten : ℕ}
    → Extending desk key ns whole b i moves rewritten → i < length ns → {o : Outcome Appended}
    → appends desk b key (get_or ns i 0) ≡ accepted o → o.told.rewritten ≡ 0
    → Extending desk key ns whole o.book (i + 1) moves rewritten
unfolding moved
still {moves = moves} {rewritten = rewritten} x more {o} e none =
    extend_on x more e moves rewritten (rw none (omega arith)) (omega (arith, none))

-- ---- in place

module _ (desk : ℕ) (b : Book) (key : ℕ) (known : KeyKnown desk b key) (n : ℕ) where
  -- A number that the last page takes is appended there.
  pub page_appends : (last : ℕ) {taken fk creates len : ℕ} → unpack_head (word_of key b) ≡ accepted (Extent last)
      → PageEnds (seen b.space) last taken fk creates → PageTakes n fk taken len
      → (written : List ℕ) → written ≡ overwrite b.space.body last
      (page_with (part b.space.body last page_size)
      (record { at = stream_off (part b.space.body last page_size) + taken; difference = n - fk }) creates)
      → appends desk b key n ≡ accepted
      (appending key (Extent last) 0 (space written b.space.mark b.space.free) b.counts b)
  page_appends last {taken} {fk} {creates} stands e t written w =
      let told : TailTold b.space last taken fk e.tail.last.first creates = record {
        tail = e.tail;
        sound = e.sound;
        taken_is = e.taken_is;
        fk_is = e.fk_is;
        first_is = refl;
        creates_is = e.creates_is;
      } in
      append_at_lem desk b key n known.shape known.known known.keyed (omega (arith, t.above)) t.low stands
      ∙ page_stays desk b key n last told t.above (omega (arith, t.form, t.room)) written w

  -- A number that stays in its slab is appended there.
  pub slab_appends : (class used off : ℕ) {taken fk len : ℕ} → unpack_head (word_of key b) ≡ accepted (Slab class used off)
      → SlabEnds (seen b.space) class used off taken fk → SlabTakes class used n fk taken len
      → (size : ℕ) → size ≡ slab_bytes class → (written : List ℕ)
      → written ≡ overwrite b.space.body off (slab_with (part b.space.body off size) used taken (n - fk))
      → appends desk b key n ≡ accepted
      (appending key (Slab class (used + 1) off) 0 (space written b.space.mark b.space.free) b.counts b)
  slab_appends class used off {taken} {fk} stands e t size size_is written w =
      let told : SlabTold b.space class used off taken fk =
      record { scan = e.scan; sound = e.sound; taken_is = e.taken_is; last_is = e.fk_is } in
      append_at_lem desk b key n known.shape known.known known.keyed (omega (arith, t.above)) t.low stands
      ∙ slab_stays desk b key n class used off told t.above (rw t.form at t.holds) size size_is written w

-- ---- the key

-- What is judged of a place is that place.
judged_same : (b : Book) (place : ShHeadValue) {told : ShHeadValue} → judged_at (seen b.space) place ≡ accepted told → place ≡ told
unfolding judged_at
judged_same b Empty e = accepted_inj e
judged_same b (Inline entry used) e = accepted_inj e
judged_same b (Slab class used off) e = accepted_inj (went_on (slab_scan (seen b.space) class used off) _ e).2
judged_same b (Extent last) e = accepted_inj (went_on (tail_at (seen b.space) last) _ e).2

module _ (b : Book) (key : ℕ) where
  -- A key that is sound stands where its word tells.
  pub standing_told : {place : ShHeadValue} → standing b key ≡ accepted place → unpack_head (word_of key b) ≡ accepted place
  unfolding standing
  standing_told e =
      let (told, is, judged) = went_on (unpack_head (word_of key b)) _ (was_sound _ e) in
      is ∙ ap accepted (judged_same b told judged)

  -- A word that tells no place.
  pub standing_none : {number : ℕ} → unpack_head (word_of key b) ≡ refused number → standing b key ≡ refused key_unsound
  unfolding standing
  standing_none e = soundly_no _ (then_no _ _ e)

  -- A word that tells one: it is judged.
  standing_at : {place : ShHeadValue} → unpack_head (word_of key b) ≡ accepted place → {told : ShHeadValue}
      → judged_at (seen b.space) place ≡ accepted told → standing b key ≡ accepted told
  unfolding standing
  standing_at e judged = soundly_yes _ (then_yes _ _ e ∙ judged)

  standing_not : {place : ShHeadValue} → unpack_head (word_of key b) ≡ accepted place → {number : ℕ}
      → judged_at (seen b.space) place ≡ refused number → standing b key ≡ refused key_unsound
  unfolding standing
  standing_not e judged = soundly_no _ (then_yes _ _ e ∙ judged)

  -- Nothing, or a number in the word.
  pub standing_empty : unpack_head (word_of key b) ≡ accepted Empty → standing b key ≡ accepted Empty
  unfolding judged_at
  standing_empty e = standing_at e refl

  pub standing_inline : (entry used : ℕ) → unpack_head (word_of key b) ≡ accepted (Inline entry used)
      → standing b key ≡ accepted (Inline entry used)
  unfolding judged_at
  standing_inline entry used e = standing_at e refl

  -- A slab, sound or not.
  module _ (class used off : ℕ) (e : unpack_head (word_of key b) ≡ accepted (Slab class used off)) where
    pub standing_slab : {taken fk : ℕ} → SlabEnds (seen b.space) class used off taken fk
        → standing b key ≡ accepted (Slab class used off)
    unfolding judged_at
    standing_slab s = standing_at e (then_yes _ _ s.sound)

    pub unsound_slab : {number : ℕ} → slab_scan (seen b.space) class used off ≡ refused number → standing b key ≡ refused key_unsound
    unfolding judged_at
    unsound_slab s = standing_not e (then_no _ _ s)

  -- Pages, sound or not.
  module _ (last : ℕ) (e : unpack_head (word_of key b) ≡ accepted (Extent last)) where
    pub standing_page : {taken fk creates : ℕ} → PageEnds (seen b.space) last taken fk creates → standing b key ≡ accepted (Extent last)
    unfolding judged_at
    standing_page p = standing_at e (then_yes _ _ p.sound)

    pub unsound_page : {number : ℕ} → tail_at (seen b.space) last ≡ refused number → standing b key ≡ refused key_unsound
    unfolding judged_at
    unsound_page p = standing_not e (then_no _ _ p)

-- ---- an extend

module _ (desk : ℕ) (b : Book) (key : ℕ) (ns : List ℕ) where
  -- A book out of shape.
  pub extends_shape : shape_broken b.space (length b.heads) ≡ true → extends desk b key ns ≡ refused shape_bad
  unfolding extends
  extends_shape e = desk_broken desk b key _ e

  -- No such desk.
  pub extends_none : shape_broken b.space (length b.heads) ≡ false → desks ≤ desk → extends desk b key ns ≡ refused desks_bad
  unfolding extends
  extends_none e d = desk_none desk b key _ e d

  -- A key beyond the heads.
  pub extends_beyond : shape_broken b.space (length b.heads) ≡ false → desk < desks → length b.heads ≤ key
      → extends desk b key ns ≡ refused key_beyond
  unfolding extends
  extends_beyond e d h = desk_beyond desk b key _ e d h

  module _ (known : KeyKnown desk b key) where
    -- A key that isn't sound.
    pub extends_unsound : standing b key ≡ refused key_unsound → extends desk b key ns ≡ refused key_unsound
    unfolding extends
    extends_unsound e = desk_there desk b key _ known.shape known.known known.keyed ∙ then_no _ _ e

    -- One that is: the numbers are appended.
    pub extends_on : {place : ShHeadValue} → standing b key ≡ accepted place
        → extends desk b key ns ≡ accepted (extend_from desk key ns b (extended 0 0 place 0 0))
    unfolding extends
    extends_on e = desk_there desk b key _ known.shape known.known known.keyed ∙ then_yes _ _ e

  -- At first all numbers are left.
  pub extend_begins : {place : ShHeadValue} → standing b key ≡ accepted place
      → Extending desk key ns (extend_from desk key ns b (extended 0 0 place 0 0)) b 0 0 0
  extend_begins {place} e =
      record { place = place; stands = standing_told b key e; few_moves = omega arith; few = omega arith; rest = refl }
