-- What last pages tell after any calls, from any book that stands for a good plain book: a total that was told stays exact, and one that
-- was never counted stays unknown until its key is dropped. Assumes nothing.
use Prim.Native.Nat.{ℕ, ◌-◌}
use mathlib.Core.Bool.{true, false}
use mathlib.Core.List.{List}
use mathlib.Core.Path.{◌≡◌, refl, sym, ap, ◌∙◌}
use native.Mathlib.Omega.{arith}
use lib.ListN.{length, length-replicate}
use Rattle.error.specs.Refusal.{accepted}
use Rattle.error.proofs.LawsAnswer.{accepted_inj}
use Rattle.scripthash_layout.specs.Head.{unpack_head}
use Rattle.scripthash_layout.specs.declared.head.ShHeadValue.TheVariants.{Extent}
use Rattle.scripthash_fields.specs.Page.{creates_field_of}
use Rattle.book_statements.specs.Calls.{Call}
use Rattle.book_limits.specs.Limits.{out_of_shape, total_told}
use Rattle.book_desks.specs.Desks.{Limits}
use Rattle.plain_book.specs.Key.{Key, empty_key, Place, empty, inline, slab, pages, last_page, no_page, total_of, head_of}
use Rattle.plain_book.specs.Book.{Book as PlainBook, fresh as plain_fresh, makes, after as plain_after, key_of, NeverDropped}
use Rattle.plain_book.specs.Good.{GoodPlain}
use Rattle.plain_book.proofs.LawsHistory.{fresh_key}
use Rattle.plain_book.proofs.LawsGood.{is_made, fresh_good, calls_good, shapes_kept}
use Rattle.plain_book.proofs.LawsChain.{chain}
use Rattle.plain_book.proofs.LawsTotals.{counted_from_lem, total_counted, uncounted_from}
use Rattle.book_keys.specs.Keys.{page_at}
use Rattle.book.specs.Book.{Book, fresh, word_of, seen}
use Rattle.book_history.specs.Calls.{after}
use Rattle.book_start.specs.Start.{GoodStart}
use Rattle.book_history.specs.Agrees.{first_page_off, AgreesInside, Agrees}
use Rattle.book_history.specs.PlainOf.{plain_of, Sixteen}
use Rattle.book_history.proofs.LawsCalls.{books_agree}
use Rattle.book_history.proofs.LawsEach.{each_alike}
use Rattle.book_history.proofs.LawsContent.{some_pages, last_page_at, last_reads, head_agrees, chain_page}
use Rattle.book_history.proofs.LawsStart.{start_shape, start_good, start_agrees}
use Rattle.book_history.proofs.LawsStartFresh.{fresh_agrees}

-- The last page that a key's head word names tells the key's total.
told : (plain : PlainBook) (b : Book) → GoodPlain plain → out_of_shape plain.size (length plain.keys) ≡ false → AgreesInside plain b
    → (key last : ℕ) → unpack_head (word_of key b) ≡ accepted (Extent last) → creates_field_of (page_at (seen b.space) last)
    ≡ total_of (key_of key plain)
unfolding head_of
told plain b g shape h key last word =
    go (key_of key plain).place refl (accepted_inj (sym (head_agrees plain b g shape h key) ∙ word))
  where
    go : (place : Place) → (key_of key plain).place ≡ place → head_of (key_of key plain).list place ≡ Extent last
        → creates_field_of (page_at (seen b.space) last) ≡ total_of (key_of key plain)
    go empty is e = let z : ◌≡◌ {A = ℕ} 0 1 = cc in absurd (omega arith)
    go inline is e = let z : ◌≡◌ {A = ℕ} 0 1 = cc in absurd (omega arith)
    go (slab class off kept) is e = let z : ◌≡◌ {A = ℕ} 0 1 = cc in absurd (omega arith)
    go (pages ps) is e =
        let same : (last_page no_page ps).off ≡ last = cc in
        let one = some_pages ps (chain key ps g is).fit in
        let k = chain_page plain b g shape h key ps is (length ps - 1) (last_page no_page ps).off
        (last_page_at (length ps - 1) no_page ps (omega arith)) in
        ap (λ (o : ℕ). creates_field_of (page_at (seen b.space) o)) (sym same)
        ∙ (last_reads (first_page_off ps) (total_of (key_of key plain)) (length ps - 1) no_page ps _ (omega arith) k.reads).1.creates

module _ (plain : PlainBook) (b : Book) (cs : List Call) (g : GoodPlain plain) (a : Agrees plain b)
    (shape : out_of_shape plain.size (length plain.keys) ≡ false) (key last : ℕ)
    (word : unpack_head (word_of key (after plain.desks b cs)) ≡ accepted (Extent last)) where
  -- What it tells after the calls.
  tells : creates_field_of (page_at (seen (after plain.desks b cs).space) last) ≡ total_of (key_of key (plain_after plain cs))
  tells =
      let (size, keys, lent, limits) = shapes_kept plain cs in
      let out : out_of_shape (plain_after plain cs).size (length (plain_after plain cs).keys) ≡ false = rw (size, keys) shape in
      told (plain_after plain cs) (after plain.desks b cs) (calls_good cs g) out ((books_agree each_alike plain b cs g a).inside out)
      key last word

  -- A total that was told is exact after any calls: the length of the list that the key then reads as, or 0 where creates can't tell it.
  pub total_kept : (key_of key plain).counted ≡ true
      → creates_field_of (page_at (seen (after plain.desks b cs).space) last) ≡ total_told (length (key_of key (plain_after plain cs)).list)
  total_kept counted = tells ∙ total_counted (key_of key (plain_after plain cs)) (counted_from_lem plain key cs counted)

  -- One that was never counted is unknown after any calls without a drop of the key.
  pub unknown_kept : (key_of key plain).counted ≡ false → NeverDropped key cs
      → creates_field_of (page_at (seen (after plain.desks b cs).space) last) ≡ 0
  unknown_kept counted never = tells ∙ uncounted_from plain key cs (g.keys key) counted never

-- So it is from every good start: of a key whose last page tells its total then, and of one whose last page doesn't.
module _ (ds : List ℕ) (b : Book) (cs : List Call) (g : GoodStart ds b) (key last : ℕ)
    (word : unpack_head (word_of key (after ds b cs)) ≡ accepted (Extent last)) where
  pub total_from : (key_of key (plain_of ds b)).counted ≡ true
      → creates_field_of (page_at (seen (after ds b cs).space) last) ≡ total_told (length (key_of key (plain_after (plain_of ds b) cs)).list)
  unfolding plain_of
  total_from counted =
      total_kept (plain_of ds b) b cs (start_good ds b g) (start_agrees ds b g) (start_shape ds b g.blocks) key last word counted

  pub unknown_from : (key_of key (plain_of ds b)).counted ≡ false → NeverDropped key cs
      → creates_field_of (page_at (seen (after ds b cs).space) last) ≡ 0
  unfolding plain_of
  unknown_from counted never =
      unknown_kept (plain_of ds b) b cs (start_good ds b g) (start_agrees ds b g) (start_shape ds b g.blocks) key last word counted never

-- After any calls on a fresh book every total is exact, or 0 where creates can't tell it.
pub total_fresh_book : (ds body : List ℕ) (heads : ℕ) (l : Limits) (cs : List Call)
    → makes ds (length body) heads l ≡ accepted (plain_fresh ds (length body) heads l) → Sixteen l → (key last : ℕ)
    → unpack_head (word_of key (after ds (fresh body heads l) cs)) ≡ accepted (Extent last)
    → creates_field_of (page_at (seen (after ds (fresh body heads l) cs).space) last)
    ≡ total_told (length (key_of key (plain_after (plain_fresh ds (length body) heads l) cs)).list)
total_fresh_book ds body heads l cs made sixteen key last word =
    total_kept (plain_fresh ds (length body) heads l) (fresh body heads l) cs (fresh_good ds (length body) heads l made)
    (fresh_agrees ds body heads l made sixteen)
    (rw (length-replicate heads empty_key) (is_made ds (length body) heads l made).shape) key last word
    (ap (λ (k : Key). k.counted) (fresh_key ds (length body) heads l key))
