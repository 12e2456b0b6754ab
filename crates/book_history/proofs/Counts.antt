-- The auditor's question, a count of 0. No history leads there: after any calls from a good start, and so on a fresh book, the counts of
-- every key's slab or pages are those of what is recorded for it, and none is 0. And on any book, a damaged one too, an enquiry that is
-- accepted met no count of 0, and only the head word 0 reads as empty. Assumes nothing.
use Prim.Native.Nat.{ℕ, ◌+◌, ◌^◌, ◌<◌}
use mathlib.Core.Bool.{false}
use mathlib.Core.List.{List, [], ◌∷◌, append-nil}
use mathlib.Core.Path.{◌≡◌, refl, sym, ap, subst, ◌∙◌}
use native.Mathlib.Omega.{arith}
use lib.ListN.{length, length-append}
use Rattle.error.specs.Refusal.{accepted}
use Rattle.error.proofs.LawsAnswer.{accepted_inj, passed, went_on}
use Rattle.scripthash_layout.specs.Head.{pack_head}
use Rattle.scripthash_layout.specs.declared.head.ShHeadValue.{ShHeadValue}
use Rattle.scripthash_layout.specs.declared.head.ShHeadValue.TheVariants.{Empty, Inline, Slab, Extent}
use Rattle.scripthash_layout.proofs.LawsHead.{pack_unpacked}
use Rattle.scripthash_stream.specs.Stream.{Scan}
use Rattle.scripthash_fields.specs.Page.{count_of}
use Rattle.book_rules.specs.Outcomes.{Listed}
use Rattle.book_statements.specs.Calls.{Call, Answers}
use Rattle.book_limits.specs.Limits.{out_of_shape}
use Rattle.book_statements.specs.Recorded.{recorded}
use Rattle.book_desks.specs.Desks.{Limits}
use Rattle.plain_book.specs.Key.{Key}
use Rattle.plain_book.specs.Book.{Book as PlainBook, fresh as plain_fresh, makes, key_of, after as plain_after}
use Rattle.plain_book.specs.Good.{GoodPlain}
use Rattle.plain_book.proofs.LawsGood.{calls_good, shapes_kept}
use Rattle.plain_book.proofs.LawsHistory.{all_same}
use Rattle.plain_book.proofs.LawsRecorded.{recorded_from}
use Rattle.book_keys.specs.Keys.{page_at, link_scan, Chain, page_then, chain_at, Content, content, content_at, Ground}
use Rattle.book_keys.proofs.LawsPages.{link_sound}
use Rattle.book_keys.proofs.LawsChain.{chain_sound}
use Rattle.book_keys.proofs.LawsSlab.{slab_sound}
use Rattle.book_keys.proofs.LawsContent.{was_content, was_slab, was_pages}
use Rattle.book_keys.proofs.LawsKeys.{by_steps, chain_known}
use Rattle.book.specs.Book.{Book, word_of, fresh, seen}
use Rattle.book_read.specs.Reads.{reads}
use Rattle.book_history.specs.Calls.{after, answers}
use Rattle.book_start.specs.Start.{GoodStart}
use Rattle.book_history.specs.Agrees.{Agrees}
use Rattle.book_history.specs.PlainOf.{list_from, key_from, plain_of, start_list, Sixteen}
use Rattle.book_history.specs.Counts.{IsCount, PagesCount, PlaceCounts, KeyCounts}
use Rattle.book_history.proofs.LawsWritesLoad.{on_key_lem}
use Rattle.book_history.proofs.LawsContent.{content_agrees}
use Rattle.book_history.proofs.LawsCalls.{answers_alike, books_agree}
use Rattle.book_history.proofs.LawsEach.{each_alike, each_same}
use Rattle.book_history.proofs.LawsStart.{key_none, start_list_lem, start_shape, start_good, start_agrees}
use Rattle.book_history.proofs.LawsStartFresh.{fresh_start}

-- ---- a sound key

-- The pages of a sound chain.
pages_count : (s : Ground) (last : ℕ) (c : Chain) → chain_at s last ≡ accepted c → PagesCount s c.offs c.numbers
unfolding PagesCount page_then
pages_count s last c e =
    let k = chain_sound s last c e in
    by_steps (λ prev off c. PagesCount s c.offs c.numbers) s last
    (λ prev page is. (page.numbers, [], sym (append-nil page.numbers), page_counts_lem prev last page is, refl))
    (λ prev off page rest is n u ih. (page.numbers, rest.numbers, refl, page_counts_lem prev off page is, ih))
    _ 0 k.header.first c k.walks
  where
    page_counts_lem : (prev off : ℕ) (page : Scan) → link_scan s prev off ≡ accepted page → IsCount (count_of (page_at s off)) page.numbers
    page_counts_lem prev off page is =
        let l = link_sound s prev off page is in
        record { counts = sym l.read.counted; above_0 = omega (arith, l.read.counted, l.going.some) }

-- A place.
place_counts : (s : Ground) (place : ShHeadValue) (k : Content) → content_at s place ≡ accepted k → PlaceCounts s place k.numbers
unfolding PlaceCounts content_at
place_counts s Empty k e = ap (λ (x : Content). x.numbers) (sym (accepted_inj e))
place_counts s (Inline entry used) k e = ap (λ (x : Content). x.numbers) (sym (accepted_inj e))
place_counts s (Slab class used off) k e =
    let (c, is, same) = was_slab s class used off k e in
    let known = slab_sound s class used off c is in
    let all : c.numbers ≡ k.numbers = ap (λ (x : Content). x.numbers) same in
    let counts : used ≡ length k.numbers = sym known.counted ∙ ap length all in (
      record { counts = counts; above_0 = known.some },
      record { counts = known.stored ∙ counts; above_0 = omega (arith, known.stored, known.some) },
    )
place_counts s (Extent last) k e =
    let (c, is, same) = was_pages s last k e in
    (c, is, subst (PagesCount s c.offs) (ap (λ (x : Content). x.numbers) same) (pages_count s last c is))

-- A head word.
key_counts : (s : Ground) (word : ℕ) (k : Content) → content s word ≡ accepted k → KeyCounts s word k.numbers
key_counts s word k e = let (place, at, holds) = was_content s word k e in (place, at, place_counts s place k holds)

-- Pages, of which there is one, have a number.
page_some : (s : Ground) (offs : List ℕ) → 0 < length offs → PagesCount s offs [] → ⊥
unfolding PagesCount
page_some s [] l e = omega arith
page_some s (o ∷ os) l (part, rest, e, c, more) =
    let z : 0 ≡ length part + length rest = ap length e ∙ length-append part rest in omega (arith, c.counts, c.above_0)

-- A place that has no number is none.
none_there : (s : Ground) (place : ShHeadValue) → PlaceCounts s place [] → place ≡ Empty
unfolding PlaceCounts
none_there s Empty e = refl
none_there s (Inline entry used) e = let z : ◌≡◌ {A = ℕ} 0 1 = ap length e in absurd (omega arith)
none_there s (Slab class used off) (word, stored) = absurd (omega (arith, word.counts, word.above_0))
none_there s (Extent last) (c, is, counts) = absurd (page_some s c.offs (chain_known s last c is).some.0 counts)

-- ---- any book

module _ (b : Book) (key room : ℕ) (l : Listed) (e : reads b key room ≡ accepted l) where
  -- An accepted read found the key sound, and told its numbers.
  read_found : (k : Content) × (content (seen b.space) (word_of key b) ≡ accepted k) × (k.numbers ≡ l.numbers)
  unfolding reads
  read_found =
      let (k, is, out) = went_on (content (seen b.space) (word_of key b)) _ (on_key_lem b key _ e).2 in
      (k, is, ap (λ (x : Listed). x.numbers) (accepted_inj (passed _ _ _ out).1))

  -- On any book, a damaged one too: the counts that an accepted read met are those of the list that it tells, and none is 0.
  pub read_counts : KeyCounts (seen b.space) (word_of key b) l.numbers
  read_counts = let (k, is, same) = read_found in subst (KeyCounts (seen b.space) (word_of key b)) same
      (key_counts (seen b.space) (word_of key b) k is)

  -- On any book whose words have 64 bits: a read that tells an empty list read the head word 0.
  pub empty_word : word_of key b < 2 ^ 64 → l.numbers ≡ [] → word_of key b ≡ 0
  unfolding pack_head
  empty_word word none =
      let (place, at, counts) = read_counts in
      let empty = none_there (seen b.space) place (subst (PlaceCounts (seen b.space) place) none counts) in
      sym (accepted_inj (subst (λ (v : ShHeadValue). pack_head v ≡ accepted (word_of key b)) empty
      (pack_unpacked (word_of key b) place word at)))

-- ---- every history

-- A book that stands for a good plain book, in shape, after any calls: the counts of each key are those of what is recorded for it.
counts_good : (plain : PlainBook) (b : Book) (cs : List Call) → GoodPlain plain → Agrees plain b
    → out_of_shape plain.size (length plain.keys) ≡ false
    → (key : ℕ) → let b' = after plain.desks b cs in
    KeyCounts (seen b'.space) (word_of key b') (recorded key (answers plain.desks b cs) (key_of key plain).list)
counts_good plain b cs g a shape key =
    let (size, keys, lent, limits) = shapes_kept plain cs in
    let b' = after plain.desks b cs in
    let then = books_agree each_alike plain b cs g a in
    let in_shape : out_of_shape (plain_after plain cs).size (length (plain_after plain cs).keys) ≡ false = rw (size, keys) shape in
    let list : (key_of key (plain_after plain cs)).list ≡ recorded key (answers plain.desks b cs) (key_of key plain).list
    = recorded_from plain key cs (g.keys key)
    ∙ ap (λ (told : Answers cs). recorded key told (key_of key plain).list) (sym (answers_alike each_alike each_same plain b cs g a)) in
    subst (KeyCounts (seen b'.space) (word_of key b')) list
    (key_counts (seen b'.space) (word_of key b') _
    (content_agrees (plain_after plain cs) b' (calls_good cs g) in_shape (then.inside in_shape) key))

-- No history leads to a count of 0: after any calls from a good start the counts of each key are those of what is recorded for it, which
-- begins with what it was read as at the start.
pub counts_from : (ds : List ℕ) (b : Book) (cs : List Call) → GoodStart ds b
    → (key : ℕ) → let b' = after ds b cs in
    KeyCounts (seen b'.space) (word_of key b') (recorded key (answers ds b cs) (start_list b key))
unfolding plain_of
counts_from ds b cs g key =
    let b' = after ds b cs in
    subst (λ (list : List ℕ). KeyCounts (seen b'.space) (word_of key b') (recorded key (answers ds b cs) list)) (start_list_lem ds b key)
    (counts_good (plain_of ds b) b cs (start_good ds b g) (start_agrees ds b g) (start_shape ds b g.blocks) key)

-- No history leads to a count of 0: after any calls on a fresh book, whatever its body holds, the counts of each key are those of what is
-- recorded for it.
pub counts_fresh : (ds body : List ℕ) (heads : ℕ) (l : Limits) (cs : List Call)
    → makes ds (length body) heads l ≡ accepted (plain_fresh ds (length body) heads l) → Sixteen l
    → (key : ℕ) → let b' = after ds (fresh body heads l) cs in
    KeyCounts (seen b'.space) (word_of key b') (recorded key (answers ds (fresh body heads l) cs) [])
unfolding key_from
counts_fresh ds body heads l cs made sixteen key =
    let b = fresh body heads l in
    let b' = after ds b cs in
    subst (λ (list : List ℕ). KeyCounts (seen b'.space) (word_of key b') (recorded key (answers ds b cs) list))
    (ap (list_from b.space) (all_same 0 heads key) ∙ ap (λ (k : Key). k.list) (key_none b.space))
    (counts_from ds b cs (fresh_start ds body heads l made sixteen) key)
