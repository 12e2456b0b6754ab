-- A drop: what its definition says of a key at its place, by what giving back its pages tells, and the pages of a sound chain given back
-- one after the other. Assumes nothing.
use Prim.Native.Nat.{ℕ, zero, suc, ◌+◌, ◌-◌, ◌%◌, ◌≤◌, ◌<◌}
use mathlib.Core.Bool.{Bool, true, false}
use mathlib.Core.List.{List, [], ◌∷◌}
use mathlib.Core.Logic.{◌≢◌, ◌⊎◌, inl, inr, ⊎_elim}
use mathlib.Core.Path.{◌≡◌, refl, sym, ap, ◌∙◌}
use native.Mathlib.Nat.{eq-or-lt_of_le}
use native.Mathlib.Omega.{arith}
use borrow.Author.Tests.{ltb-true, ltb-false}
use lib.Dec.{ltb}
use lib.ListN.{length}
use Rattle.error.specs.Refusal.{Answer, accepted, refused, and_then, shape_bad, key_beyond, key_unsound, desks_bad}
use Rattle.error.proofs.LawsAnswer.{refused≢accepted, then_yes, then_no}
use Rattle.error.proofs.LawsOut.{value_refused}
use Rattle.scripthash_layout.specs.Sizes.{page_class}
use Rattle.scripthash_layout.specs.Head.{unpack_head, pack_head}
use Rattle.scripthash_layout.specs.declared.head.ShHeadValue.{ShHeadValue}
use Rattle.scripthash_layout.specs.declared.head.ShHeadValue.TheVariants.{Empty}
use Rattle.scripthash_stream.specs.Stream.{Scan, last_from}
use Rattle.scripthash_fields.specs.Page.{link_of, link_offset}
use Rattle.scripthash_free.specs.FreeList.{is_block, Within}
use Rattle.scripthash_free.proofs.LawsBlock.{block_stands}
use Rattle.book_rules.specs.Outcomes.{dropped_of, Dropped}
use Rattle.book_desks.specs.Desks.{desks}
use Rattle.book_space.specs.Space.{Space, shape_broken, release}
use Rattle.book_space.specs.Desks.{given_back}
use Rattle.book_space.specs.Steps.{GivesBack}
use Rattle.book_space.proofs.LawsLists.{stands_further, each_one}
use Rattle.book_space.proofs.LawsTake.{InBody, release_none, release_first, release_mark, release_size, release_outside}
use Rattle.book_space.proofs.LawsDesks.{back_yes, back_no}
use Rattle.book_keys.specs.Keys.{soundly, page_at, link_scan, page_then, Chain, walk, Content, page_blocks, content_at, content}
use Rattle.book_keys.proofs.LawsSound.{soundly_yes, soundly_no}
use Rattle.book_keys.proofs.LawsPages.{link_sound}
use Rattle.book_keys.proofs.LawsWalk.{Ends, GoesOn, walk_step}
use Rattle.book_keys.proofs.LawsContent.{content_at_lem, content_nowhere}
use Rattle.book_keys.proofs.LawsDistinct.{page_once, SameBehind, walk_same}
use Rattle.book.specs.Book.{Book, Outcome, word_of, head_word, placing, seen}
use Rattle.book_drop.specs.Drops.{dropped, drops}
use Rattle.book_drop.specs.Steps.{drops_at}
use Rattle.book_keys.specs.Steps.{PagesLeft}
use Rattle.book.specs.Steps.{Does}
use Rattle.book.proofs.LawsKey.{desk_broken, desk_none, desk_beyond, desk_there, does_no}

-- ---- a key's drop

-- A drop that is refused and leaves the book.
pub ends_refused : (b : Book) (outcome : Answer (Outcome Dropped)) {number : ℕ} → outcome ≡ refused number
    → Does outcome b b (refused number)
ends_refused b outcome e = does_no b b _ outcome e refl refl

-- The word of an empty key.
pub empty_word : head_word Empty ≡ 0
unfolding head_word pack_head
empty_word = refl

-- Where no pages are given back a call goes on with the counts as they are.
none_given : {A : Type 0} (end desk : ℕ) {pages : ℕ} (counts : List ℕ) (call : List ℕ → Answer A) → pages ≡ 0
    → given_back end desk pages counts call ≡ call counts
unfolding given_back
none_given end desk counts call z = rw z

-- A drop by a desk of a key at a place.
module _ (desk : ℕ) (b : Book) (key : ℕ) (place : ShHeadValue) where
  -- One that isn't sound is refused.
  pub drop_no : {number : ℕ} → content_at (seen b.space) place ≡ refused number → drops_at desk b key place ≡ refused key_unsound
  unfolding drops_at
  drop_no e = then_no (soundly (content_at (seen b.space) place)) _ (soundly_no (content_at (seen b.space) place) e)

  -- What a sound one leaves with some counts: an empty key, in the space with its blocks given back.
  module _ (c : Content) where
    abbrev emptied : List ℕ → Answer (Outcome Dropped)
    emptied counts = accepted (placing (dropped_of (length c.numbers)) key Empty (release c.blocks b.space) counts b)

    -- It says so in other words.
    same_emptied : (count : ℕ) (s : Space) (counts : List ℕ) → length c.numbers ≡ count → s ≡ release c.blocks b.space
        → accepted (placing (dropped_of count) key Empty s counts b) ≡ emptied counts
    same_emptied count s counts n r = rw (r, ← n)

    -- Its pages decide.
    by_pages : content_at (seen b.space) place ≡ accepted c
        → drops_at desk b key place ≡ given_back (length b.space.body) desk c.pages b.counts emptied
    unfolding drops_at dropped
    by_pages is = then_yes (soundly (content_at (seen b.space) place)) _ (soundly_yes (content_at (seen b.space) place) is)

    -- Without pages no count changes.
    pub drop_yes : (count : ℕ) (s : Space) → content_at (seen b.space) place ≡ accepted c → c.pages ≡ 0
        → length c.numbers ≡ count → s ≡ release c.blocks b.space
        → accepted (placing (dropped_of count) key Empty s b.counts b) ≡ drops_at desk b key place
    drop_yes count s is z n r =
        same_emptied count s b.counts n r ∙ sym (by_pages is ∙ none_given (length b.space.body) desk b.counts emptied z)

  -- One in pages, by what giving them back told and left.
  module _ (c : Content) (pages : ℕ) (is : content_at (seen b.space) place ≡ accepted c) (all : c.pages ≡ pages) (some : 0 < pages)
      {after : List ℕ} {number : ℕ} (gives : GivesBack (length b.space.body) desk pages b.counts after number) where
    abbrev size : ℕ
    size = length b.space.body

    -- With another number than 0 it is refused, and the counts are left.
    pub drop_turned : number ≢ 0
        → Does (drops_at desk b key place) b (record { heads = b.heads; space = b.space; counts = after }) (refused number)
    drop_turned h =
        let stop : drops_at desk b key place ≡ refused number
        = by_pages c is ∙ rw all (back_no size desk pages b.counts some gives (emptied c) h) in
        let kept : after ≡ b.counts
        = gives.left ∙ sym (value_refused (λ (x : List ℕ). x) b.counts (back_no size desk pages b.counts some gives accepted h)) in
        does_no b _ _ _ stop refl (ap (λ (counts : List ℕ). record { heads = b.heads; space = b.space; counts = counts }) kept)

    -- With 0 it is emptied, with the counts as they are left.
    pub drop_given : number ≡ 0 → (count : ℕ) (s : Space) → length c.numbers ≡ count → s ≡ release c.blocks b.space
        → accepted (placing (dropped_of count) key Empty s after b) ≡ drops_at desk b key place
    drop_given z count s n r =
        same_emptied c count s after n r ∙ sym (by_pages c is ∙ rw all (back_yes size desk pages b.counts some gives (emptied c) z))

-- A drop by a desk of a key of a book.
module _ (desk : ℕ) (b : Book) (key : ℕ) where
  -- The shape breaks the limits.
  pub drop_broken : shape_broken b.space (length b.heads) ≡ true → drops desk b key ≡ refused shape_bad
  unfolding drops
  drop_broken e = desk_broken desk b key _ e

  module _ (whole : shape_broken b.space (length b.heads) ≡ false) where
    -- There is no such desk.
    pub drop_desk : desks ≤ desk → drops desk b key ≡ refused desks_bad
    unfolding drops
    drop_desk h = desk_none desk b key _ whole h

    module _ (known : desk < desks) where
      -- The key is beyond the heads.
      pub drop_beyond : length b.heads ≤ key → drops desk b key ≡ refused key_beyond
      unfolding drops
      drop_beyond h = desk_beyond desk b key _ whole known h

      module _ (h : key < length b.heads) where
        -- Its word tells no place.
        pub drop_nowhere : {number : ℕ} → unpack_head (word_of key b) ≡ refused number → drops desk b key ≡ refused key_unsound
        unfolding drops
        drop_nowhere e = desk_there desk b key _ whole known h
            ∙ then_no (content (seen b.space) (word_of key b)) _ (content_nowhere (seen b.space) (word_of key b) e)

        -- Its place decides.
        pub drop_there : (place : ShHeadValue) → unpack_head (word_of key b) ≡ accepted place → drops desk b key ≡ drops_at desk b key place
        unfolding drops drops_at
        drop_there place e =
            desk_there desk b key _ whole known h
            ∙ ap (λ (a : Answer Content). and_then a (dropped desk b key)) (content_at_lem (seen b.space) (word_of key b) place e)

-- ---- pages given back

-- A page given back.
abbrev pub given : ℕ → Space → Space
given off s = release (record { class = page_class; off = off } ∷ []) s

-- Two pages at unequal offsets don't overlap.
apart_pages : (o off : ℕ) → o % 4096 ≡ 0 → off % 4096 ≡ 0 → (o ≡ off → ⊥) → (o + 4096 ≤ off) ⊎ (off + 4096 ≤ o)
apart_pages o off p q n = by_test (ltb o off) refl
  where
    by_test : (t : Bool) → ltb o off ≡ t → (o + 4096 ≤ off) ⊎ (off + 4096 ≤ o)
    by_test true e = let h = ltb-true o off e in inl (omega arith)
    by_test false e =
        let h = ltb-false o off e in
        ⊎_elim (λ (z : off ≡ o). absurd (n (sym z))) (λ (z : off < o). inr (omega arith)) (eq-or-lt_of_le h)

-- A page that stands within the body, given back, leaves the body as long.
pub given_size : (s : Space) (off : ℕ) → is_block page_class off (length s.body) ≡ true → length (given off s).body ≡ length s.body
given_size s off stands = release_size _ s (each_one (InBody s) _ stands)

module _ (s : Space) (within : s.mark ≤ length s.body) (prev off : ℕ) (c : Scan) (is : link_scan (seen s) prev off ≡ accepted c) where
  -- A page of a chain stands within the body.
  pub page_stands : is_block page_class off (length s.body) ≡ true
  page_stands = stands_further page_class off s.mark (length s.body) within (link_sound (seen s) prev off c is).stands

  -- The pages behind it stay.
  pub given_same : SameBehind (seen s) (seen (given off s)) (last_from prev c.numbers)
  given_same = record { mark = release_mark _ s; pages = same }
    where
      same : (later o : ℕ) (d : Scan) → last_from prev c.numbers ≤ later → link_scan (seen s) later o ≡ accepted d
          → page_at (seen (given off s)) o ≡ page_at (seen s) o
      same later o d h e =
          let here = block_stands page_class off (length s.body) page_stands in
          let there = block_stands page_class o s.mark (link_sound (seen s) later o d e).stands in
          release_outside _ s off (off + 4096) (each_one (Within off (off + 4096)) _ (omega arith, omega arith)) here.ends o 4096
          (apart_pages o off there.aligned here.aligned (page_once (seen s) prev off c is later o d e h))

-- A turn of giving back the pages that are left: the first stands within the body, and the pages behind it are left in the space after it.
pub record Turn (s : Space) (off left : ℕ) (offs : List ℕ) : Type 0 where
  pub stands : is_block page_class off (length s.body) ≡ true
  pub behind : List ℕ
  pub gives : release (page_blocks behind) (given off s) ≡ release (page_blocks offs) s
  pub rest : PagesLeft (seen (given off s)) (link_offset (link_of (page_at (seen s) off))) (left - 1) behind

-- A turn of a walk.
walk_turn : (k : ℕ) (s : Space) (last prev off left : ℕ) (offs : List ℕ) (c : Chain) → walk k (seen s) last prev off ≡ accepted c
    → c.offs ≡ offs
    → s.mark ≤ length s.body → length offs ≡ left → Turn s off left offs
unfolding walk page_then page_blocks
walk_turn zero s last prev off left offs c e met within count = absurd (refused≢accepted e)
walk_turn (suc k) s last prev off left offs c e met within count =
    let w = walk_step k (seen s) last prev off c e in ⊎_elim (by_end w.page w.is) (by_rest w.page w.is) w.goes
  where
    inside : (p : Scan) → link_scan (seen s) prev off ≡ accepted p → (given off s).mark ≤ length (given off s).body
    inside p is = let size = given_size s off (page_stands s within prev off p is) in let mark =
        release_mark (record { class = page_class; off = off } ∷ []) s in omega arith

    by_end : (p : Scan) → link_scan (seen s) prev off ≡ accepted p → Ends (seen s) last off p c → Turn s off left offs
    by_end p is d =
        let all : offs ≡ off ∷ [] = sym met ∙ ap (λ (x : Chain). x.offs) d.whole in
        let one = ap length all in
        record {
          stands = page_stands s within prev off p is;
          behind = [];
          gives = release_none (given off s) ∙ ap (λ (os : List ℕ). release (page_blocks os) s) (sym all);
          rest = record { within = inside p is; count = omega arith; rest = λ h. absurd (omega arith) };
        }

    by_rest : (p : Scan) → link_scan (seen s) prev off ≡ accepted p → GoesOn k (seen s) last prev off p c → Turn s off left offs
    by_rest p is g =
        let all : offs ≡ off ∷ g.rest.offs = sym met ∙ ap (λ (x : Chain). x.offs) g.whole in
        let more = ap length all in
        let next = last_from prev p.numbers in
        record {
          stands = page_stands s within prev off p is;
          behind = g.rest.offs;
          gives = sym (release_first _ (page_blocks g.rest.offs) s) ∙ ap (λ (os : List ℕ). release (page_blocks os) s) (sym all);
          rest = record {
            within = inside p is;
            count = omega arith;
            rest = λ h. record {
              most = k;
              last = last;
              prev = next;
              chain = g.rest;
              walks = walk_same k (seen s) (seen (given off s)) last next (link_offset (link_of (page_at (seen s) off))) g.rest
                  (given_same s within prev off p is) g.walks;
              met = refl;
            };
          };
        }

-- A turn of giving back the pages that are left.
pub page_turn : (s : Space) (off left : ℕ) (offs : List ℕ) → 0 < left → PagesLeft (seen s) off left offs → Turn s off left offs
page_turn s off left offs h p = let w =
    p.rest h in walk_turn w.most s w.last w.prev off left offs w.chain w.walks w.met p.within p.count

-- No page given back changes nothing.
no_pages : (s : Space) → release (page_blocks []) s ≡ s
unfolding page_blocks
no_pages s = release_none s

-- Some pages are left, and giving them back makes a space of it.
pub record Giving (s : Space) (off left : ℕ) (done : Space) : Type 0 where
  pub offs : List ℕ
  pub pages : PagesLeft (seen s) off left offs
  pub gives : release (page_blocks offs) s ≡ done

-- The first of them given back, the others make the same.
pub giving_turn : (s : Space) (off left : ℕ) (done : Space) → 0 < left → Giving s off left done
    → Giving (given off s) (link_offset (link_of (page_at (seen s) off))) (left - 1) done
giving_turn s off left done h g =
    let t = page_turn s off left g.offs h g.pages in record { offs = t.behind; pages = t.rest; gives = t.gives ∙ g.gives }

-- Where none is left, it is made.
pub giving_end : (s : Space) (off left : ℕ) (done : Space) → left ≡ 0 → Giving s off left done → s ≡ done
giving_end s off left done z g = sym (none g.offs (g.pages.count ∙ z)) ∙ g.gives
  where
    none : (offs : List ℕ) → length offs ≡ 0 → release (page_blocks offs) s ≡ s
    none [] e = no_pages s
    none (o ∷ os) e = absurd (omega arith)
