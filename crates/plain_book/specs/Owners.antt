-- Who has which block of the body: freed blocks, slabs and pages share no byte.
use Rattle.std.specs.Prelude.{ℕ, zero, suc, ◌+◌, ◌*◌, ◌%◌, ◌≤◌, true, cond, List, [], ◌∷◌, ◌⊎◌, ◌≢◌, ◌≡◌, eqb, length}
use Rattle.std.proofs.Math.Option.{Option, none, some}
use Rattle.scripthash_layout.specs.Sizes.{slab_bytes, page_class, page_size}
use Rattle.scripthash_free.specs.FreeList.{Block, Disjoint, is_block}
use Rattle.plain_book.specs.Space.{Space, stack_of}
use Rattle.plain_book.specs.Key.{Page, Place, empty, inline, slab, pages}
use Rattle.plain_book.specs.Book.{Book, key_of}

-- An owner of a block: a call, while it runs; the stack of a class, at a depth counted from its bottom; a key, for its slab; or a key, for
-- the page at an index.
pub data Owner : Type 0 where
  hand : Owner
  stack : ℕ → ℕ → Owner
  slab_of : ℕ → Owner
  page_of : ℕ → ℕ → Owner

-- The block at a depth of a class's stack, counted from the bottom.
unfoldable pub at_depth : ℕ → ℕ → List ℕ → Option Block
at_depth class depth [] = none
at_depth class depth (o ∷ os) = cond (eqb depth (length os)) (some (record { class = class; off = o })) (at_depth class depth os)

-- The page at an index.
unfoldable pub page_no : ℕ → List Page → Option Block
page_no i [] = none
page_no zero (p ∷ ps) = some (record { class = page_class; off = p.off })
page_no (suc i) (p ∷ ps) = page_no i ps

-- The slab of a place.
abbrev pub slab_at : Place → Option Block
slab_at empty = none
slab_at inline = none
slab_at (slab class off kept) = some (record { class = class; off = off })
slab_at (pages ps) = none

-- The page of a place at an index.
abbrev pub page_in : ℕ → Place → Option Block
page_in i empty = none
page_in i inline = none
page_in i (slab class off kept) = none
page_in i (pages ps) = page_no i ps

-- The block that an owner has, if it has one: in a space, with keys' places and what a call has in hand.
unfoldable pub has : Space → (ℕ → Place) → Option Block → Owner → Option Block
has s at held hand = held
has s at held (stack class depth) = at_depth class depth (stack_of class s)
has s at held (slab_of key) = slab_at (at key)
has s at held (page_of key i) = page_in i (at key)

-- Blocks by their owners: each can stand where it does, below the mark, and those of two owners share no byte.
pub record Apart (mark : ℕ) (f : Owner → Option Block) : Type 0 where
  pub stands : (w : Owner) (x : Block) → f w ≡ some x → is_block x.class x.off mark ≡ true
  pub apart : (v w : Owner) (x y : Block) → v ≢ w → f v ≡ some x → f w ≡ some y → Disjoint x y

-- A run of pages stands below the mark, and no byte of it is anybody's.
pub record RunClear (mark off pages : ℕ) (f : Owner → Option Block) : Type 0 where
  pub aligned : off % page_size ≡ 0
  pub from : page_size ≤ off
  pub below : off + pages * page_size ≤ mark
  pub clear : (w : Owner) (x : Block) → f w ≡ some x → (x.off + slab_bytes x.class ≤ off) ⊎ (off + pages * page_size ≤ x.off)

-- The keys' places in a book.
abbrev pub places : Book → ℕ → Place
places b key = (key_of key b).place
