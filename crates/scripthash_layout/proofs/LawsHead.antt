-- Laws of the head word: what was packed is unpacked again, and what was unpacked packs to the same word. Each goes by
-- the value's case or by the word's mode, and the fields come apart by division.
use mathlib.Core.Path.{◌≡◌, refl, ap}
use mathlib.Core.Bool.{Bool, true, false, cond, not, ◌||◌}
use Prim.Native.Nat.{ℕ, zero, suc, ◌^◌, ◌<◌}
use native.Mathlib.Omega.{arith}
use lib.Dec.{leb, eqb}
use borrow.Author.Tests.{leb-false, eqb-true, eqb-false, lt-leb, ne_eqb, not-false}
use Rattle.error.proofs.LawsAnswer.{accepted_inj, refused≢accepted, passed, neither}
use Rattle.error.specs.Refusal.{accepted, refuse_if, slab_used_too_small, extent_payload_zero}
use Rattle.scripthash_layout.specs.declared.head.ShHeadValue.{ShHeadValue}
use Rattle.scripthash_layout.specs.declared.head.ShHeadValue.TheVariants.{Empty, Inline, Slab, Extent}
use Rattle.scripthash_layout.specs.Head.{mode_of, payload_of, offset_of, used_of, class_of, slab_word, extent_word, pack_head, unpack_head}
use Rattle.scripthash_layout.specs.Head.{read_back, InType}

-- An inline head that packs: its used and its number, which is the word.
packed_inline : (entry used w : ℕ) → pack_head (Inline entry used) ≡ accepted w
    → (used ≡ 1) × ((entry < 2 ^ 62) × (entry ≡ w))
unfolding pack_head
packed_inline entry used w e =
    let one = passed (not (eqb used 1)) _ _ e in
    let small = passed (leb (2 ^ 62) entry) _ _ one.1 in
    (eqb-true _ _ (not-false (eqb used 1) one.0), (leb-false _ _ small.0, accepted_inj small.1))

-- A slab head that packs: its offset, its class and its word.
packed_slab : (class used off w : ℕ) → pack_head (Slab class used off) ≡ accepted w
    → (off < 2 ^ 40) × ((class < 2 ^ 6) × (slab_word class used off ≡ w))
unfolding pack_head
packed_slab class used off w e =
    let small = passed (leb (2 ^ 40) off || leb (2 ^ 6) class) _ _ e in
    let both : (leb (2 ^ 40) off ≡ false) × (leb (2 ^ 6) class ≡ false) = neither _ _ small.0 in
    (leb-false _ _ both.0, (leb-false _ _ both.1, accepted_inj small.1))

-- An extent head that packs: its last page's offset and its word.
packed_extent : (last w : ℕ) → pack_head (Extent last) ≡ accepted w
    → (last ≡ 0 → ⊥) × ((last < 2 ^ 62) × (extent_word last ≡ w))
unfolding pack_head
packed_extent last w e =
    let good = passed (eqb last 0 || leb (2 ^ 62) last) _ _ e in
    let both : (eqb last 0 ≡ false) × (leb (2 ^ 62) last ≡ false) = neither _ _ good.0 in
    (eqb-false _ _ both.0, (leb-false _ _ both.1, accepted_inj good.1))

-- A packed word has 64 bits.
pub packed_below : (v : ShHeadValue) (w : ℕ) → InType v → pack_head v ≡ accepted w → w < 2 ^ 64
unfolding pack_head
packed_below Empty w t e = omega (arith, accepted_inj e)
packed_below (Inline entry used) w t e = omega (arith, packed_inline entry used w e)
packed_below (Slab class used off) w t e = omega (arith, packed_slab class used off w e)
packed_below (Extent last) w t e = omega (arith, packed_extent last w e)

-- The word of a slab is not 0.
pub slab_not_zero : (class used off w : ℕ) → pack_head (Slab class used off) ≡ accepted w → 0 < w
slab_not_zero class used off w e = omega (arith, packed_slab class used off w e)

-- The word of pages is not 0.
pub extent_not_zero : (last w : ℕ) → pack_head (Extent last) ≡ accepted w → 0 < w
extent_not_zero last w e = omega (arith, packed_extent last w e)

-- An inline number is read back from its word, 0 as nothing.
unpack_inline : (entry : ℕ) → entry < 2 ^ 62 → unpack_head entry ≡ accepted (cond (eqb entry 0) Empty (Inline entry 1))
unfolding unpack_head
unpack_inline entry h =
    let mode : mode_of entry ≡ 0 = omega arith in
    rw mode

-- A slab's fields are read back from its word.
unpack_slab : (class used off : ℕ) → off < 2 ^ 40 → used < 2 ^ 16 → class < 2 ^ 6
    → unpack_head (slab_word class used off) ≡ read_back (Slab class used off)
unfolding unpack_head
unpack_slab class used off ho hu hc =
    let mode : mode_of (slab_word class used off) ≡ 1 = omega arith in
    let used-back : used_of (slab_word class used off) ≡ used = omega arith in
    let class_back : class_of (slab_word class used off) ≡ class = omega arith in
    let off-back : offset_of (slab_word class used off) ≡ off = omega arith in
    rw (mode, used-back, class_back, off-back)

-- A last page's offset is read back from its word.
unpack_extent : (last : ℕ) → (last ≡ 0 → ⊥) → last < 2 ^ 62 → unpack_head (extent_word last) ≡ accepted (Extent last)
unfolding unpack_head refuse_if
unpack_extent last nz h =
    let mode : mode_of (extent_word last) ≡ 3 = omega arith in
    let back : payload_of (extent_word last) ≡ last = omega arith in
    rw (mode, back, ne_eqb last 0 nz)

-- What was packed is unpacked as `read_back` says.
pub unpack_packed : (v : ShHeadValue) (w : ℕ) → InType v → pack_head v ≡ accepted w → unpack_head w ≡ read_back v
unfolding pack_head
unpack_packed Empty w t e = rw (← accepted_inj e) (unpack_inline 0 (omega arith))
unpack_packed (Inline entry used) w t e =
    let p : (used ≡ 1) × ((entry < 2 ^ 62) × (entry ≡ w)) = packed_inline entry used w e in
    rw (p.0, ← p.1.1) (unpack_inline entry p.1.0)
unpack_packed (Slab class used off) w t e =
    let p : (off < 2 ^ 40) × ((class < 2 ^ 6) × (slab_word class used off ≡ w)) = packed_slab class used off w e in
    rw (← p.1.1) (unpack_slab class used off p.0 t.1.0 p.1.0)
unpack_packed (Extent last) w t e =
    let p : (last ≡ 0 → ⊥) × ((last < 2 ^ 62) × (extent_word last ≡ w)) = packed_extent last w e in
    rw (← p.1.1) (unpack_extent last p.0 p.1.0)

-- A word of mode 0 packs again from what it was unpacked as.
pack_mode0 : (w : ℕ) (v : ShHeadValue) (empty : Bool) → eqb w 0 ≡ empty → w < 2 ^ 62
    → accepted (cond empty Empty (Inline w 1)) ≡ accepted v → pack_head v ≡ accepted w
unfolding pack_head refuse_if
pack_mode0 w v true z h e = rw (← accepted_inj e, eqb-true w 0 z)
pack_mode0 w v false z h e = rw (← accepted_inj e, lt-leb (2 ^ 62) w h)

-- A word of mode 1 packs again from what it was unpacked as.
pack_mode1 : (w : ℕ) (v : ShHeadValue) → mode_of w ≡ 1
    → refuse_if (leb (used_of w) 1) slab_used_too_small (accepted (Slab (class_of w) (used_of w) (offset_of w))) ≡ accepted v
    → pack_head v ≡ accepted w
unfolding pack_head refuse_if
pack_mode1 w v m e =
    let p = passed (leb (used_of w) 1) _ _ e in
    let off : offset_of w < 2 ^ 40 = omega arith in
    let class : class_of w < 2 ^ 6 = omega arith in
    let word : slab_word (class_of w) (used_of w) (offset_of w) ≡ w = omega arith in
    rw (← accepted_inj p.1, lt-leb _ _ off, lt-leb _ _ class) (ap accepted word)

-- A word of mode 3 packs again from what it was unpacked as.
pack_mode3 : (w : ℕ) (v : ShHeadValue) → mode_of w ≡ 3
    → refuse_if (eqb (payload_of w) 0) extent_payload_zero (accepted (Extent (payload_of w))) ≡ accepted v
    → pack_head v ≡ accepted w
unfolding pack_head refuse_if
pack_mode3 w v m e =
    let p = passed (eqb (payload_of w) 0) _ _ e in
    let small : payload_of w < 2 ^ 62 = omega arith in
    let word : extent_word (payload_of w) ≡ w = omega arith in
    rw (← accepted_inj p.1, p.0, lt-leb _ _ small) (ap accepted word)

-- The same of a word of any mode.
pack_by_mode : (mode w : ℕ) (v : ShHeadValue) → mode_of w ≡ mode → w < 2 ^ 64 → unpack_head w ≡ accepted v
    → pack_head v ≡ accepted w
unfolding unpack_head refuse_if
pack_by_mode zero w v m h e = pack_mode0 w v (eqb w 0) refl (omega arith) (rw m at e)
pack_by_mode (suc zero) w v m h e = pack_mode1 w v m (rw m at e)
pack_by_mode (suc (suc zero)) w v m h e = absurd (refused≢accepted (rw m at e))
pack_by_mode (suc (suc (suc zero))) w v m h e = pack_mode3 w v m (rw m at e)
pack_by_mode (suc (suc (suc (suc k)))) w v m h e = absurd (omega arith)

-- What a word was unpacked as packs to the same word.
pub pack_unpacked : (w : ℕ) (v : ShHeadValue) → w < 2 ^ 64 → unpack_head w ≡ accepted v → pack_head v ≡ accepted w
pack_unpacked w v h e = pack_by_mode (mode_of w) w v refl h e
