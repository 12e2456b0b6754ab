-- Nothing is leaked: the blocks that keys hold and those that free lists name fill a book from 4,096 up to the mark.
use Rattle.std.specs.Prelude.{ℕ, ◌+◌, ◌-◌, ◌≤◌, ◌<◌, List, [], ◌∷◌, ◌⊎◌, set}
use Rattle.scripthash_layout.specs.Sizes.{slab_bytes}
use Rattle.scripthash_free.specs.FreeList.{Block}
use Rattle.book_space.specs.Space.{space}
use Rattle.book.specs.Book.{Book}
use Rattle.book_start.specs.Start.{bytes_taken, blocks_of}

-- A byte is one of a block's.
abbrev pub Has : ℕ → Block → Type 0
Has o x = (x.off ≤ o) × (o < x.off + slab_bytes x.class)

-- One of some blocks has a byte.
unfoldable pub OneHas : ℕ → List Block → Type 0
OneHas o [] = ⊥
OneHas o (x ∷ xs) = Has o x ⊎ OneHas o xs

-- How many bytes between 4,096 and the mark belong to no block, held or free: what lies there, less what all blocks take.
unfoldable pub lost_in : Book → ℕ
lost_in b = b.space.mark - (4096 + bytes_taken (blocks_of b))

-- Every byte from 4,096 up to the mark belongs to a block that a key holds or that a free list names.
abbrev pub Covered : Book → Type 0
Covered b = (o : ℕ) → 4096 ≤ o → o < b.space.mark → OneHas o (blocks_of b)

-- A book in which a key's head word became 0.
abbrev pub forgot : ℕ → Book → Book
forgot key b = record { heads = set b.heads key 0; space = b.space; counts = b.counts }

-- A book in which the head of a class's free list became 0.
abbrev pub forgot_list : ℕ → Book → Book
forgot_list class b =
    record { heads = b.heads; space = space b.space.body b.space.mark (set b.space.free class 0); counts = b.counts }
