-- The head word of a key whose place an append leaves: of a slab its used alone differs, and of pages nothing. Assumes nothing.
use Prim.Native.Nat.{ℕ, ◌+◌, ◌-◌, ◌^◌, ◌<◌}
use mathlib.Core.Bool.{true}
use mathlib.Core.List.{List}
use mathlib.Core.Option.{some}
use mathlib.Core.Path.{◌≡◌, sym, ap, subst, ◌∙◌}
use native.Mathlib.Omega.{arith}
use lib.ListN.{length, set}
use lib.Seq.{get_or-set_same, set-get_or}
use Rattle.book_keys.proofs.LawsContent.{slab_below}
use Rattle.error.specs.Refusal.{accepted, value_or}
use Rattle.error.proofs.LawsAnswer.{accepted_inj, passed, went_on}
use Rattle.compact.specs.Uleb128.{uleb_len}
use Rattle.scripthash_layout.specs.Head.{slab_word, pack_head, unpack_head}
use Rattle.scripthash_layout.specs.declared.head.ShHeadValue.{ShHeadValue}
use Rattle.scripthash_layout.specs.declared.head.ShHeadValue.TheVariants.{Slab, Extent}
use Rattle.scripthash_layout.proofs.LawsHead.{pack_unpacked}
use Rattle.scripthash_layout.proofs.LawsWords.{pack_slab}
use Rattle.scripthash_stream.specs.Stream.{Scan}
use Rattle.scripthash_pages.specs.Entries.{last_of, Spot, spot_behind}
use Rattle.book_statements.specs.Calls.{append}
use Rattle.book_rules.specs.Places.{stays}
use Rattle.book_rules.proofs.LawsOffered.{offered_on}
use Rattle.book_rules.specs.Outcomes.{Appended}
use Rattle.book_desks.specs.Desks.{desk_of}
use Rattle.book_space.specs.Space.{InShape}
use Rattle.book_keys.specs.Keys.{page_at, slab_scan, Tail, tail_at}
use Rattle.book_keys.proofs.LawsSound.{was_sound}
use Rattle.book_keys.proofs.LawsSlab.{slab_sound}
use Rattle.book.specs.Book.{Book, Outcome, word_of, head_word, seen}
use Rattle.book_append.specs.Appends.{append_slab, append_page, append_at, appends}
use Rattle.book_history.specs.Calls.{does}
use Rattle.book_history.proofs.LawsWritesDesks.{by_desk_lem, with_desks_lem}

-- A place that packs has its word.
word_of_lem : (place : ShHeadValue) {word : ℕ} → pack_head place ≡ accepted word → head_word place ≡ word
unfolding head_word
word_of_lem place e = ap (λ a. value_or (λ w. w) a 0) e

-- An accepted append to a key whose word, of 64 bits, tells a place.
module _ (ds : List ℕ) (b : Book) (key n : ℕ) {o : Outcome Appended} (place : ShHeadValue) (word : word_of key b < 2 ^ 64)
    (is : unpack_head (word_of key b) ≡ accepted place) (e : does ds b (append key n) ≡ accepted o) where
  -- The book is in shape, the key has a head word, and the append to that place is accepted.
  went_at : InShape b.space × (key < length b.heads) × (append_at (desk_of ds key) b key n place ≡ accepted o)
  unfolding does appends
  went_at =
      let desk = desk_of ds key in
      let k = by_desk_lem desk b key _ (with_desks_lem ds b key _ e) in
      let g = went_on _ _ (offered_on true 0 n _ k.2).2 in
      let same : g.0 ≡ place = accepted_inj (sym (was_sound _ g.1) ∙ is) in
      (k.0, k.1, subst (λ (v : ShHeadValue). append_at desk b key n v ≡ accepted o) same g.2)

  -- The word is that of the place.
  word_is : head_word place ≡ word_of key b
  word_is = word_of_lem place (pack_unpacked (word_of key b) place word is)

-- Where the number stays in its slab, the words before and after have the slab's class and offset, and used is one more.
pub slab_word_lem : (ds : List ℕ) (b : Book) (key n class used off : ℕ) (c : Scan) {o : Outcome Appended} → word_of key b < 2 ^ 64
    → unpack_head (word_of key b) ≡ accepted (Slab class used off)
    → slab_scan (seen b.space) class used off ≡ accepted c
    → stays class (length c.numbers + 1) (c.taken + uleb_len (n - last_of c)) ≡ true → does ds b (append key n) ≡ accepted o
    → (word_of key b ≡ slab_word class used off) × (word_of key o.book ≡ slab_word class (used + 1) off)
unfolding append_at append_slab
slab_word_lem ds b key n class used off c {o} word is scanned stay e =
    let place = Slab class used off in
    let w = went_at ds b key n place word is e in
    let known = slab_sound (seen b.space) class used off c scanned in
    let g = went_on _ _ w.2 in
    let same : g.0 ≡ c = accepted_inj (sym (was_sound _ g.1) ∙ scanned) in
    let did : append_slab (desk_of ds key) b key n class off c ≡ accepted o =
    subst (λ (x : Scan). append_slab (desk_of ds key) b key n class off x ≡ accepted o) same (passed _ _ _ g.2).1 in
    let below = slab_below (word_of key b) class used off is in
    let packs : (k : ℕ) → head_word (Slab class k off) ≡ slab_word class k off =
    λ k. word_of_lem (Slab class k off) (pack_slab class k off (omega (arith, known.class_to_7)) (omega arith)) in (
      sym (word_is ds b key n place word is e) ∙ packs used,
      ap (λ (x : Outcome Appended). word_of key x.book) (sym (accepted_inj (rw stay at did)))
          ∙ get_or-set_same b.heads key (head_word (Slab class (length c.numbers + 1) off)) 0 w.1 ∙ packs (length c.numbers + 1)
          ∙ ap (λ (k : ℕ). slab_word class (k + 1) off) known.counted,
    )

-- Where the number joins its last page, the head words are as before.
pub page_words_lem : (ds : List ℕ) (b : Book) (key n last : ℕ) (t : Tail) (w : Spot) {o : Outcome Appended} → word_of key b < 2 ^ 64
    → unpack_head (word_of key b) ≡ accepted (Extent last)
    → tail_at (seen b.space) last ≡ accepted t → spot_behind (page_at (seen b.space) last) n t.scan ≡ some w
    → does ds b (append key n) ≡ accepted o → o.book.heads ≡ b.heads
unfolding append_at append_page
page_words_lem ds b key n last t w {o} word is tail spot e =
    let place = Extent last in
    let a = went_at ds b key n place word is e in
    let g = went_on _ _ a.2 in
    let same : g.0 ≡ t = accepted_inj (sym (was_sound _ g.1) ∙ tail) in
    let did : append_page (desk_of ds key) b key n last t (spot_behind (page_at (seen b.space) last) n t.scan) ≡ accepted o =
    subst (λ (x : Tail). append_page (desk_of ds key) b key n last x (spot_behind (page_at (seen b.space) last) n x.scan) ≡ accepted o)
    same (passed _ _ _ g.2).1 in
    ap (λ (x : Outcome Appended). x.book.heads) (sym (accepted_inj (rw spot at did)))
    ∙ ap (set b.heads key) (word_is ds b key n place word is e) ∙ set-get_or b.heads key 0
