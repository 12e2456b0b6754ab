-- What a key holds, by its place. Assumes nothing.
use Prim.Native.Nat.{◌<◌, ℕ, zero, suc, ◌≤◌}
use mathlib.Core.Bool.{Bool, true, false, cond}
use mathlib.Core.List.{[], ◌∷◌}
use mathlib.Core.Logic.{◌⊎◌, inl, inr, ⊎_elim}
use mathlib.Core.Path.{◌≡◌, refl, ap}
use native.Mathlib.Omega.{arith}
use borrow.Author.Tests.{leb-false, ne_eqb}
use lib.Dec.{leb, eqb}
use lib.ListN.{length}
use Rattle.error.specs.Refusal.{accepted, refused, key_unsound, refuse_if, slab_used_too_small, extent_payload_zero}
use Rattle.error.proofs.LawsAnswer.{accepted_inj, then_yes, then_no, went_on, passed, refused≢accepted}
use Rattle.scripthash_layout.specs.Head.{mode_of, payload_of, offset_of, used_of, class_of, unpack_head}
use Rattle.scripthash_layout.specs.declared.head.ShHeadValue.{ShHeadValue}
use Rattle.scripthash_layout.specs.declared.head.ShHeadValue.TheVariants.{Empty, Inline, Slab, Extent}
use Rattle.scripthash_stream.specs.Stream.{Scan}
use Rattle.book_limits.specs.Limits.{slabs_end}
use Rattle.book_keys.specs.Keys.{soundly, slab_scan, Chain, chain_at, Content, page_blocks, content_at, content, Ground, block_at}
use Rattle.scripthash_slabs.specs.Slab.{slab_padded}
use Rattle.book_keys.proofs.LawsSound.{soundly_no, was_sound}

-- What a key in a slab holds.
abbrev pub in_slab : Ground → ℕ → ℕ → Scan → Content
in_slab s class off c =
    record {
      numbers = c.numbers;
      blocks = record { class = class; off = off } ∷ [];
      pages = 0;
      padded = slab_padded (block_at s class off);
    }

-- What a key in pages holds.
abbrev pub in_pages : Chain → Content
in_pages c = record { numbers = c.numbers; blocks = page_blocks c.offs; pages = length c.offs; padded = c.padded }

module _ (s : Ground) where
  -- an empty key, and one with a number in its head
  pub content_empty : content_at s Empty ≡ accepted (record { numbers = []; blocks = []; pages = 0; padded = 0 })
  unfolding content_at
  content_empty = refl

  pub content_inline : (entry used : ℕ)
      → content_at s (Inline entry used) ≡ accepted (record { numbers = entry ∷ []; blocks = []; pages = 0; padded = 0 })
  unfolding content_at
  content_inline entry used = refl

  -- a key in a slab
  pub content_slab : (class used off : ℕ) (c : Scan) → slab_scan s class used off ≡ accepted c
      → content_at s (Slab class used off) ≡ accepted (in_slab s class off c)
  unfolding content_at
  content_slab class used off c e = then_yes (slab_scan s class used off) _ e

  pub content_no_slab : (class used off : ℕ) {number : ℕ} → slab_scan s class used off ≡ refused number
      → content_at s (Slab class used off) ≡ refused number
  unfolding content_at
  content_no_slab class used off e = then_no (slab_scan s class used off) _ e

  pub was_slab : (class used off : ℕ) (k : Content) → content_at s (Slab class used off) ≡ accepted k
      → (c : Scan) × (slab_scan s class used off ≡ accepted c) × (in_slab s class off c ≡ k)
  unfolding content_at
  was_slab class used off k e = let got = went_on (slab_scan s class used off) _ e in (got.0, got.1, accepted_inj got.2)

  -- a key in pages
  pub content_pages : (last : ℕ) (c : Chain) → chain_at s last ≡ accepted c → content_at s (Extent last) ≡ accepted (in_pages c)
  unfolding content_at
  content_pages last c e = then_yes (chain_at s last) _ e

  pub content_no_pages : (last : ℕ) {number : ℕ} → chain_at s last ≡ refused number → content_at s (Extent last) ≡ refused number
  unfolding content_at
  content_no_pages last e = then_no (chain_at s last) _ e

  pub was_pages : (last : ℕ) (k : Content) → content_at s (Extent last) ≡ accepted k
      → (c : Chain) × (chain_at s last ≡ accepted c) × (in_pages c ≡ k)
  unfolding content_at
  was_pages last k e = let got = went_on (chain_at s last) _ e in (got.0, got.1, accepted_inj got.2)

  -- a word that tells a place
  pub content_at_lem : (word : ℕ) (place : ShHeadValue) → unpack_head word ≡ accepted place → content s word ≡ soundly (content_at s place)
  unfolding content
  content_at_lem word place e = ap soundly (then_yes (unpack_head word) (content_at s) e)

  -- and one that doesn't
  pub content_nowhere : (word : ℕ) {number : ℕ} → unpack_head word ≡ refused number → content s word ≡ refused key_unsound
  unfolding content
  content_nowhere word e = soundly_no _ (then_no (unpack_head word) (content_at s) e)

  -- a sound key's word tells a place, which holds what it holds
  pub was_content : (word : ℕ) (k : Content) → content s word ≡ accepted k
      → (place : ShHeadValue) × (unpack_head word ≡ accepted place) × (content_at s place ≡ accepted k)
  unfolding content
  was_content word k e = went_on (unpack_head word) (content_at s) (was_sound _ e)

-- a place is no slab
no_slab_place : (v : ShHeadValue) (class used off : ℕ)
    → (v ≡ Empty) ⊎ (((entry : ℕ) × (v ≡ Inline entry 1)) ⊎ ((last : ℕ) × (v ≡ Extent last))) → v ≡ Slab class used off → ⊥
no_slab_place v class used off w e =
    let z : ◌≡◌ {A = ℕ} 0 1 = ⊎_elim (λ a. cc) (λ b. ⊎_elim (λ d. let f = d.1 in cc) (λ d. let f = d.1 in cc) b) w in
    omega arith

-- a word that tells a slab tells two numbers or more, and an offset below the end of slabs
slab_told : (w class used off : ℕ) → unpack_head w ≡ accepted (Slab class used off) → (2 ≤ used) × (off < slabs_end)
unfolding unpack_head refuse_if
slab_told w class used off e = by_mode (mode_of w) refl
  where
    inline : (b : Bool) → accepted (cond b Empty (Inline w 1)) ≡ accepted (Slab class used off) → ⊥
    inline true f = no_slab_place Empty class used off (inl refl) (accepted_inj f)
    inline false f = no_slab_place (Inline w 1) class used off (inr (inl (w, refl))) (accepted_inj f)

    pages : refuse_if (eqb (payload_of w) 0) extent_payload_zero (accepted (Extent (payload_of w))) ≡ accepted (Slab class used off) → ⊥
    pages f = no_slab_place (Extent (payload_of w)) class used off (inr (inr (payload_of w, refl)))
        (accepted_inj (passed (eqb (payload_of w) 0) _ _ f).1)

    stored : refuse_if (leb (used_of w) 1) slab_used_too_small (accepted (Slab (class_of w) (used_of w) (offset_of w)))
        ≡ accepted (Slab class used off) → (2 ≤ used) × (off < slabs_end)
    stored f =
        let p = passed (leb (used_of w) 1) _ _ f in
        let same : used_of w ≡ used = let g = p.1 in cc in
        let at : offset_of w ≡ off = let g = p.1 in cc in
        (omega (arith, leb-false (used_of w) 1 p.0), omega arith)

    by_mode : (mode : ℕ) → mode_of w ≡ mode → (2 ≤ used) × (off < slabs_end)
    by_mode zero m = absurd (inline (eqb w 0) (rw m at e))
    by_mode (suc zero) m = stored (rw m at e)
    by_mode (suc (suc zero)) m = absurd (refused≢accepted (rw m at e))
    by_mode (suc (suc (suc k))) m =
        let not-0 = ne_eqb (mode_of w) 0 (λ (z : mode_of w ≡ 0). omega arith) in
        let not-1 = ne_eqb (mode_of w) 1 (λ (z : mode_of w ≡ 1). omega arith) in
        let not-2 = ne_eqb (mode_of w) 2 (λ (z : mode_of w ≡ 2). omega arith) in
        absurd (pages (rw (not-0, not-1, not-2) at e))

pub slab_from_two : (w class used off : ℕ) → unpack_head w ≡ accepted (Slab class used off) → 2 ≤ used
slab_from_two w class used off e = (slab_told w class used off e).0

pub slab_below : (w class used off : ℕ) → unpack_head w ≡ accepted (Slab class used off) → off < slabs_end
slab_below w class used off e = (slab_told w class used off e).1
