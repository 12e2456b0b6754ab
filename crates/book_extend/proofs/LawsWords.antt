-- Head words that a key is given, and what they tell. Assumes nothing.
use Prim.Native.Nat.{ℕ, ◌^◌, ◌<◌}
use mathlib.Core.Bool.{Bool, true, false, cond}
use mathlib.Core.List.{List}
use mathlib.Core.Path.{◌≡◌, ap, subst, ◌∙◌}
use native.Mathlib.Omega.{arith}
use borrow.Author.Tests.{eqb-false}
use lib.Dec.{leb, eqb}
use lib.ListN.{length, get_or, set}
use lib.Seq.{get_or-set_same}
use Rattle.error.specs.Refusal.{Answer, accepted, refuse_if, slab_used_too_small, mode_two, extent_payload_zero}
use Rattle.error.proofs.LawsAnswer.{accepted_inj, passed}
use Rattle.scripthash_layout.specs.Head.{unpack_head, mode_of, used_of, class_of, offset_of, payload_of}
use Rattle.scripthash_layout.specs.declared.head.ShHeadValue.{ShHeadValue}
use Rattle.scripthash_layout.specs.declared.head.ShHeadValue.TheVariants.{Empty, Inline, Slab, Extent}
use Rattle.scripthash_layout.proofs.LawsWords.{HeadWord}
use Rattle.book.specs.Book.{head_word}

-- The word that stores a place tells it.
pub stored_told : {v : ShHeadValue} {w : ℕ} → HeadWord v w → unpack_head (head_word v) ≡ accepted v
unfolding head_word
stored_told h = rw h.packs h.unpacks

-- So does the word of a key that was given a place.
pub put_told : (heads : List ℕ) (key : ℕ) {v : ShHeadValue} {w : ℕ} → key < length heads → HeadWord v w
    → unpack_head (get_or (set heads key (head_word v)) key 0) ≡ accepted v
put_told heads key {v} keyed h = ap unpack_head (get_or-set_same heads key (head_word v) 0 keyed) ∙ stored_told h

-- What a word of mode 1 tells, and one of mode 2 or 3.
abbrev as_slab : ℕ → Answer ShHeadValue
as_slab w = refuse_if (leb (used_of w) 1) slab_used_too_small (accepted (Slab (class_of w) (used_of w) (offset_of w)))

abbrev as_pages : ℕ → Answer ShHeadValue
as_pages w = refuse_if (eqb (mode_of w) 2) mode_two (refuse_if (eqb (payload_of w) 0) extent_payload_zero (accepted (Extent (payload_of w))))

-- What holds of a slab's offset, and of a last page's.
abbrev InWord : ShHeadValue → Type 0
InWord Empty = Unit {0}
InWord (Inline entry used) = Unit {0}
InWord (Slab class used off) = off < 2 ^ 40
InWord (Extent last) = (0 < last) × (last < 2 ^ 62)

-- A word that tells a place tells so many bits of it.
in_word : (w : ℕ) (v : ShHeadValue) → unpack_head w ≡ accepted v → InWord v
unfolding unpack_head
in_word w v e = by_mode (eqb (mode_of w) 0) e
  where
    by_word : (empty : Bool) → accepted (cond empty Empty (Inline w 1)) ≡ accepted v → InWord v
    by_word true f = subst InWord (accepted_inj f) tt
    by_word false f = subst InWord (accepted_inj f) tt

    by_kind : (slab : Bool) → cond slab (as_slab w) (as_pages w) ≡ accepted v → InWord v
    by_kind true f =
        let low : offset_of w < 2 ^ 40 = omega arith in
        subst InWord (accepted_inj (passed (leb (used_of w) 1) _ _ f).1) low
    by_kind false f =
        let (some, is) = passed (eqb (payload_of w) 0) _ _ (passed (eqb (mode_of w) 2) _ _ f).1 in
        let bounds : (0 < payload_of w) × (payload_of w < 2 ^ 62) = (omega (arith, eqb-false (payload_of w) 0 some), omega arith) in
        subst InWord (accepted_inj is) bounds

    by_mode : (inline : Bool) → cond inline (accepted (cond (eqb w 0) Empty (Inline w 1))) (cond (eqb (mode_of w) 1) (as_slab w) (as_pages w))
        ≡ accepted v → InWord v
    by_mode true f = by_word (eqb w 0) f
    by_mode false f = by_kind (eqb (mode_of w) 1) f

-- A slab's offset that a word tells has 40 bits.
pub slab_low : (w class used off : ℕ) → unpack_head w ≡ accepted (Slab class used off) → off < 2 ^ 40
slab_low w class used off e = in_word w (Slab class used off) e

-- A last page's offset that a word tells isn't 0, and has 62 bits.
pub extent_low : (w last : ℕ) → unpack_head w ≡ accepted (Extent last) → (0 < last) × (last < 2 ^ 62)
extent_low w last e = in_word w (Extent last) e
