-- The auditor's question: the counts that slabs and pages store, held to the numbers that a key has there.
use Rattle.std.specs.Prelude.{ℕ, ◌<◌, List, [], ◌∷◌, ◌++◌, ◌≡◌, length}
use Rattle.error.specs.Refusal.{accepted}
use Rattle.scripthash_layout.specs.Head.{unpack_head}
use Rattle.scripthash_layout.specs.declared.head.ShHeadValue.{ShHeadValue}
use Rattle.scripthash_layout.specs.declared.head.ShHeadValue.TheVariants.{Empty, Inline, Slab, Extent}
use Rattle.scripthash_slabs.specs.Slab.{slab_used}
use Rattle.scripthash_fields.specs.Page.{count_of}
use Rattle.book_keys.specs.Keys.{Ground, block_at, page_at, Chain, chain_at}

-- A stored count is how many some numbers are, and isn't 0.
pub record IsCount (count : ℕ) (numbers : List ℕ) : Type 0 where
  pub counts : count ≡ length numbers
  pub above_0 : 0 < count

-- Pages at some offsets hold some numbers, a part in each, in order: each page's count is the length of its part, and isn't 0.
unfoldable pub PagesCount : Ground → List ℕ → List ℕ → Type 0
PagesCount s [] numbers = numbers ≡ []
PagesCount s (o ∷ os) numbers =
    (part : List ℕ) × (rest : List ℕ) × (numbers ≡ part ++ rest) × IsCount (count_of (page_at s o)) part × PagesCount s os rest

-- The counts of a place whose key has some numbers: of a slab the head word's and the stored one, of pages that of each page of the chain.
unfoldable pub PlaceCounts : Ground → ShHeadValue → List ℕ → Type 0
PlaceCounts s Empty numbers = numbers ≡ []
PlaceCounts s (Inline entry used) numbers = numbers ≡ entry ∷ []
PlaceCounts s (Slab class used off) numbers = IsCount used numbers × IsCount (slab_used (block_at s class off)) numbers
PlaceCounts s (Extent last) numbers = (c : Chain) × (chain_at s last ≡ accepted c) × PagesCount s c.offs numbers

-- The counts of the key of a head word, which has some numbers: the word tells a place, and its counts are theirs.
abbrev pub KeyCounts : Ground → ℕ → List ℕ → Type 0
KeyCounts s word numbers = (place : ShHeadValue) × (unpack_head word ≡ accepted place) × PlaceCounts s place numbers
