-- The word of each head value that a key can have: it packs into the word, and the word unpacks to it. Assumes nothing.
use Prim.Native.Nat.{ℕ, ◌^◌, ◌≤◌, ◌<◌}
use mathlib.Core.Path.{◌≡◌, refl, ◌∙◌}
use native.Mathlib.Omega.{arith}
use borrow.Author.Tests.{lt-leb, ne_eqb}
use Rattle.error.specs.Refusal.{accepted, refuse_if}
use Rattle.scripthash_layout.specs.declared.head.ShHeadValue.{ShHeadValue}
use Rattle.scripthash_layout.specs.declared.head.ShHeadValue.TheVariants.{Empty, Inline, Slab, Extent}
use Rattle.scripthash_layout.specs.Head.{slab_word, extent_word, pack_head, unpack_head}
use Rattle.scripthash_layout.proofs.LawsHead.{unpack_packed}

-- A head value has a word: it packs into the word, and the word unpacks to it.
pub record HeadWord (v : ShHeadValue) (word : ℕ) : Type 0 where
  pub packs : pack_head v ≡ accepted word
  pub unpacks : unpack_head word ≡ accepted v

-- an inline number below 2^62 packs as itself
pub pack_inline : (n : ℕ) → n < 2 ^ 62 → pack_head (Inline n 1) ≡ accepted n
unfolding pack_head refuse_if
pack_inline n low = rw (lt-leb (2 ^ 62) n low)

-- a slab packs where its class and its offset fit
pub pack_slab : (class used off : ℕ) → class < 2 ^ 6 → off < 2 ^ 40 → pack_head (Slab class used off) ≡ accepted (slab_word class used off)
unfolding pack_head refuse_if
pack_slab class used off c low = simp (lt-leb (2 ^ 40) off low, lt-leb (2 ^ 6) class c)

-- pages pack where their last page's offset is above 0 and below 2^62
pub pack_extent_lem : (last : ℕ) → 0 < last → last < 2 ^ 62 → pack_head (Extent last) ≡ accepted (extent_word last)
unfolding pack_head refuse_if
pack_extent_lem last above low = simp (ne_eqb last 0 (λ (z : last ≡ 0). omega arith), lt-leb (2 ^ 62) last low)

-- nothing has the word 0
pub empty_word : HeadWord Empty 0
unfolding pack_head
empty_word = record { packs = refl; unpacks = unpack_packed Empty 0 tt refl }

-- an inline number above 0 has a word
pub inline_word : (n : ℕ) → 0 < n → n < 2 ^ 62 → HeadWord (Inline n 1) n
inline_word n above low =
    record {
      packs = pack_inline n low;
      unpacks = unpack_packed (Inline n 1) n (omega arith, omega arith) (pack_inline n low) ∙ rw (ne_eqb n 0 (λ (z : n ≡ 0). omega arith));
    }

-- a slab of two numbers or more has a word
pub slab_word_lem : (class used off : ℕ) → class < 2 ^ 6 → 2 ≤ used → used < 2 ^ 16 → off < 2 ^ 40
    → HeadWord (Slab class used off) (slab_word class used off)
unfolding refuse_if
slab_word_lem class used off c two few low =
    let packs = pack_slab class used off c low in
    record {
      packs = packs;
      unpacks = unpack_packed (Slab class used off) (slab_word class used off) (omega arith, (few, omega arith)) packs
          ∙ simp (lt-leb used 1 (omega arith));
    }

-- pages have a word
pub extent_word_lem : (last : ℕ) → 0 < last → last < 2 ^ 62 → HeadWord (Extent last) (extent_word last)
extent_word_lem last above low =
    let packs = pack_extent_lem last above low in
    record { packs = packs; unpacks = unpack_packed (Extent last) (extent_word last) (omega arith) packs }
