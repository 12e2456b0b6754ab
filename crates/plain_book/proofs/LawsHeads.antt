-- After any list of calls on a fresh plain book, with a body in shape, each key's place packs into a head word, which unpacks to it.
-- Assumes nothing.
use Prim.Native.Nat.{ℕ, suc, ◌+◌, ◌^◌, ◌≤◌, ◌<◌}
use mathlib.Core.List.{List, [], ◌∷◌}
use mathlib.Core.Option.{none, some}
use mathlib.Core.Path.{◌≡◌, refl, ap, ◌∙◌}
use native.Mathlib.Omega.{arith}
use lib.ListN.{length}
use borrow.Author.Tests.{lt-leb, ne_eqb}
use Rattle.error.specs.Refusal.{accepted, refuse_if}
use Rattle.scripthash_layout.specs.Sizes.{slab_bytes, max_slab_class, max_slab_count, page_class}
use Rattle.scripthash_layout.specs.Head.{slab_word, extent_word, pack_head, unpack_head}
use Rattle.scripthash_layout.specs.declared.head.ShHeadValue.{ShHeadValue}
use Rattle.scripthash_layout.specs.declared.head.ShHeadValue.TheVariants.{Empty, Inline, Slab, Extent}
use Rattle.scripthash_layout.proofs.LawsHead.{unpack_packed}
use Rattle.scripthash_stream.specs.Stream.{Rising, last_from}
use Rattle.scripthash_stream.proofs.LawsStream.{last_below}
use Rattle.scripthash_free.specs.FreeList.{Block}
use Rattle.scripthash_free.proofs.LawsBlock.{bytes_from_16, block_stands}
use Rattle.plain_book.specs.Key.{Page, Place, empty, inline, slab, pages, last_page, no_page, head_of}
use Rattle.book_limits.specs.Limits.{most_body, slabs_end}
use Rattle.book_statements.specs.Calls.{Call}
use Rattle.book_limits.proofs.LawsLimits.{in_shape}
use Rattle.book_desks.specs.Desks.{Limits}
use Rattle.plain_book.specs.Book.{Book, fresh, makes, key_of, after}
use Rattle.plain_book.specs.Sound.{FitPages, Fits}
use Rattle.plain_book.specs.Owners.{Owner, page_of, page_no, page_in, has, places}
use Rattle.plain_book.specs.Good.{GoodPlain}
use Rattle.plain_book.proofs.LawsMark.{mark_within}
use Rattle.plain_book.proofs.LawsGood.{is_made, fresh_good, calls_good}

-- A head value has a word: it packs into the word, and the word unpacks to it.
pub record Told (v : ShHeadValue) : Type 0 where
  pub word : ℕ
  pub packs : pack_head v ≡ accepted word
  pub unpacks : unpack_head word ≡ accepted v

told_empty : Told Empty
unfolding pack_head
told_empty = record { word = 0; packs = refl; unpacks = unpack_packed Empty 0 tt refl }

told_inline : (n : ℕ) → 0 < n → n < 2 ^ 62 → Told (Inline n 1)
unfolding pack_head refuse_if
told_inline n some' low =
    let packs : pack_head (Inline n 1) ≡ accepted n = rw (lt-leb (2 ^ 62) n low) in
    record {
      word = n;
      packs = packs;
      unpacks = unpack_packed (Inline n 1) n (omega arith, omega arith) packs ∙ rw (ne_eqb n 0 (λ (z : n ≡ 0). omega arith));
    }

told_slab : (class used off : ℕ) → class ≤ max_slab_class → 2 ≤ used → used ≤ max_slab_count → off < slabs_end → Told (Slab class used off)
unfolding pack_head refuse_if
told_slab class used off c two few low =
    let packs : pack_head (Slab class used off) ≡ accepted (slab_word class used off) =
    simp (lt-leb (2 ^ 40) off low, lt-leb (2 ^ 6) class (omega arith)) in
    record {
      word = slab_word class used off;
      packs = packs;
      unpacks = unpack_packed (Slab class used off) _ (omega arith, (omega arith, omega arith)) packs ∙ simp (lt-leb used 1 (omega arith));
    }

told_extent : (last : ℕ) → 0 < last → last < 2 ^ 62 → Told (Extent last)
unfolding pack_head refuse_if
told_extent last some' low =
    let packs : pack_head (Extent last) ≡ accepted (extent_word last) =
    simp (ne_eqb last 0 (λ (z : last ≡ 0). omega arith), lt-leb (2 ^ 62) last low) in
    record { word = extent_word last; packs = packs; unpacks = unpack_packed (Extent last) _ (omega arith) packs }

-- The last page of some is at an index.
last_at_lem : (page : Page) (ps : List Page) → FitPages ps
    → (i : ℕ) × (page_no i ps ≡ some (record { class = page_class; off = (last_page page ps).off }))
unfolding FitPages page_no last_page
last_at_lem page [] f = absurd f
last_at_lem page (p ∷ []) f = (0, refl)
last_at_lem page (p ∷ q ∷ ps) f = let (i, e) = last_at_lem p (q ∷ ps) f.1 in (suc i, e)

-- The last number of a rising list that has one is above the one before the list.
last_above : (top prev : ℕ) (ns : List ℕ) → Rising top prev ns → 0 < length ns → prev < last_from prev ns
unfolding Rising last_from
last_above top prev [] r l = absurd (omega arith)
last_above top prev (n ∷ []) (a, b, r) l = a
last_above top prev (n ∷ m ∷ ns) (a, b, r) l = let x = last_above top n (m ∷ ns) r (omega arith) in omega arith

-- In a good book whose mark is at most 2^41, each key's place has a head word.
pub head_told : {b : Book} (key : ℕ) → GoodPlain b → b.space.mark ≤ most_body → Told (head_of (key_of key b).list (key_of key b).place)
unfolding head_of Fits has
head_told {b} key g high = go (key_of key b).list (key_of key b).place refl (g.keys key).rises (g.keys key).fits
  where
    stands : (w : Owner) (x : Block) → has b.space (places b) none w ≡ some x → (0 < x.off) × (x.off < 2 ^ 62)
    stands w x e =
        let s = block_stands x.class x.off b.space.mark (g.space.apart.stands w x e) in
        (omega (arith, s.begins), below x.class x.off s.ends)
      where
        below : (class off : ℕ) → off + slab_bytes class ≤ b.space.mark → off < 2 ^ 62
        below class off ends = let p = bytes_from_16 class in omega arith

    go : (list : List ℕ) (place : Place) → (key_of key b).place ≡ place → Rising (2 ^ 62) 0 list → Fits list place → Told (head_of list place)
    go list empty is r f = told_empty
    go list inline is r f = told_inline (last_from 0 list) (last_above (2 ^ 62) 0 list r (omega arith))
        (last_below (2 ^ 62) 0 list (omega arith) r)
    go list (slab class off kept) is r (same, shortest, c, two, few, bytes, l) = told_slab class (length list) off c two few l
    go list (pages ps) is r (held_is, fit) =
        let (i, at) = last_at_lem no_page ps fit in
        let (a, l) = stands (page_of key i) _ (ap (page_in i) is ∙ at) in
        told_extent (last_page no_page ps).off a l

-- After any list of calls on a fresh book that may be made, each key's place has a head word.
pub heads_told : (ds : List ℕ) (size heads : ℕ) (l : Limits) (key : ℕ) (cs : List Call)
    → makes ds size heads l ≡ accepted (fresh ds size heads l)
    → let k = key_of key (after (fresh ds size heads l) cs) in Told (head_of k.list k.place)
heads_told ds size heads l key cs made =
    let shape = in_shape size heads (is_made ds size heads l made).shape in
    let m = mark_within ds size heads l cs (omega (arith, shape.least)) in
    head_told key (calls_good cs (fresh_good ds size heads l made)) (omega (arith, shape.most))
