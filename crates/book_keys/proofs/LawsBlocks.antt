-- The bytes of a key's blocks: a slab or page that stands below the mark lies in the body, and is read by its bytes. Assumes nothing.
use Prim.Native.Nat.{ℕ, ◌+◌, ◌-◌, ◌≤◌, ◌<◌}
use mathlib.Core.Bool.{Bool, true, false, ◌&&◌}
use mathlib.Core.List.{List}
use mathlib.Core.Path.{◌≡◌, ◌∙◌}
use native.Mathlib.Omega.{arith}
use borrow.Author.Tests.{leb-true, le-leb, lt-leb}
use lib.Dec.{leb}
use lib.ListN.{take, drop}
use Rattle.buffer.specs.Bytes.{part}
use Rattle.scripthash_layout.specs.Sizes.{slab_bytes, max_slab_class, where_below}
use Rattle.scripthash_free.specs.FreeList.{is_block}
use Rattle.scripthash_free.proofs.LawsBlock.{both, bytes_fit}

-- A slab of a class 0 to 7 can stand at an offset and end at or below an end.
abbrev pub is_slab : ℕ → ℕ → ℕ → Bool
is_slab class off end = leb class max_slab_class && is_block class off end

module _ (class off end : ℕ) where
  -- a class above 7 is no slab's
  pub no_slab_class : max_slab_class < class → is_slab class off end ≡ false
  no_slab_class h = rw (lt-leb class max_slab_class h)

  -- a slab of a class up to 7 can stand where its block can
  pub slab_is : class ≤ max_slab_class → is_slab class off end ≡ is_block class off end
  slab_is h = rw (le-leb class max_slab_class h)

-- a slab that can stand has a class up to 7, and its block can stand
pub slab_lies : (class off end : ℕ) → is_slab class off end ≡ true → (class ≤ max_slab_class) × (is_block class off end ≡ true)
slab_lies class off end e = let w = both (leb class max_slab_class) (is_block class off end) e in (leb-true class max_slab_class w.0, w.1)

-- the size of a slab, as it is computed
pub slab_size : (class size : ℕ) → class ≤ max_slab_class → size ≡ where_below 64 (slab_bytes class) → size ≡ slab_bytes class
slab_size class size h e = e ∙ bytes_fit class (omega arith)

-- a lent part from an offset on, by its length
pub span : (b : List ℕ) (o n m : ℕ) → n ≡ m → take (o + n - o) (drop o b) ≡ part b o m
unfolding part
span b o n m e = let k : o + n - o ≡ m = omega arith in rw k
