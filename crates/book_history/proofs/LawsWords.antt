-- What head words tell: the word that stores a place tells it, and a word without a block is 0 or the number itself. Assumes nothing.
use Prim.Native.Nat.{ℕ, ◌^◌, ◌<◌}
use mathlib.Core.Bool.{Bool, true, false, cond, true≢false}
use mathlib.Core.Path.{◌≡◌, refl, sym, ap, ◌∙◌}
use native.Mathlib.Omega.{arith}
use lib.Dec.{leb, eqb}
use borrow.Author.Tests.{eqb-true, eqb-false}
use Rattle.error.specs.Refusal.{Answer, accepted, refuse_if, slab_used_too_small, mode_two, extent_payload_zero}
use Rattle.error.proofs.LawsAnswer.{accepted_inj, passed}
use Rattle.scripthash_layout.specs.Head.{mode_of, payload_of, offset_of, used_of, class_of, unpack_head}
use Rattle.scripthash_layout.specs.declared.head.ShHeadValue.{ShHeadValue}
use Rattle.scripthash_layout.specs.declared.head.ShHeadValue.TheVariants.{Empty, Inline, Slab, Extent}
use Rattle.plain_book.proofs.LawsHeads.{Told}
use Rattle.book.specs.Book.{head_word}

-- The word that stores a place tells it.
pub stored_told : {v : ShHeadValue} → Told v → unpack_head (head_word v) ≡ accepted v
unfolding head_word
stored_told t = rw t.packs t.unpacks

-- What a word tells has no block.
abbrev blockless : ShHeadValue → Bool
blockless Empty = true
blockless (Inline entry used) = true
blockless (Slab class used off) = false
blockless (Extent last) = false

-- Where it has none, the word is below 2^62, and is the number itself, or 0.
word_itself : (w : ℕ) (v : ShHeadValue) → unpack_head w ≡ accepted v → blockless v ≡ true
    → (mode_of w ≡ 0) × (cond (eqb w 0) Empty (Inline w 1) ≡ v)
unfolding unpack_head
word_itself w v e none = by_mode (eqb (mode_of w) 0) refl e
  where
    in_slab : Answer ShHeadValue
    in_slab = refuse_if (leb (used_of w) 1) slab_used_too_small (accepted (Slab (class_of w) (used_of w) (offset_of w)))

    in_pages : Answer ShHeadValue
    in_pages = refuse_if (eqb (mode_of w) 2) mode_two (refuse_if (eqb (payload_of w) 0) extent_payload_zero (accepted (Extent (payload_of w))))

    never : (u : ShHeadValue) → u ≡ v → blockless u ≡ false → ⊥
    never u is b = true≢false (sym none ∙ sym (ap blockless is) ∙ b)

    other : (t : Bool) → cond t in_slab in_pages ≡ accepted v → ⊥
    other true f = never (Slab (class_of w) (used_of w) (offset_of w)) (accepted_inj (passed (leb (used_of w) 1) _ _ f).1) refl
    other false f =
        never (Extent (payload_of w)) (accepted_inj (passed (eqb (payload_of w) 0) _ _ (passed (eqb (mode_of w) 2) _ _ f).1).1) refl

    by_mode : (t : Bool) → eqb (mode_of w) 0 ≡ t
        → cond t (accepted (cond (eqb w 0) Empty (Inline w 1))) (cond (eqb (mode_of w) 1) in_slab in_pages) ≡ accepted v
        → (mode_of w ≡ 0) × (cond (eqb w 0) Empty (Inline w 1) ≡ v)
    by_mode true m f = (eqb-true (mode_of w) 0 m, accepted_inj f)
    by_mode false m f = absurd (other (eqb (mode_of w) 1) f)

-- A word that tells nothing is 0.
pub empty_told : (w : ℕ) → unpack_head w ≡ accepted Empty → w ≡ 0
empty_told w e = go (eqb w 0) refl (word_itself w Empty e refl).1
  where
    go : (t : Bool) → eqb w 0 ≡ t → cond t Empty (Inline w 1) ≡ Empty → w ≡ 0
    go true z f = eqb-true w 0 z
    go false z f = let y : ◌≡◌ {A = ℕ} 0 1 = cc in absurd (omega arith)

-- A word that tells a number tells one, above 0 and below 2^62.
pub inline_told : (w entry used : ℕ) → unpack_head w ≡ accepted (Inline entry used) → (used ≡ 1) × (0 < entry) × (entry < 2 ^ 62)
inline_told w entry used e = let (m, is) = word_itself w (Inline entry used) e refl in go m (eqb w 0) refl is
  where
    go : mode_of w ≡ 0 → (t : Bool) → eqb w 0 ≡ t → cond t Empty (Inline w 1) ≡ Inline entry used
        → (used ≡ 1) × (0 < entry) × (entry < 2 ^ 62)
    go m true z f = let y : ◌≡◌ {A = ℕ} 0 1 = cc in absurd (omega arith)
    go m false z f =
        let one : 1 ≡ used = cc in
        let same : w ≡ entry = cc in
        (sym one, omega (arith, eqb-false w 0 z), omega arith)
