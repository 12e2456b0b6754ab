-- Nothing is leaked: the blocks that keys hold and the freed ones fill the body from 4,096 up to the mark.
use Rattle.std.specs.Prelude.{ℕ, ◌+◌, ◌*◌, ◌%◌, ◌≤◌, List, [], ◌∷◌, ◌⊎◌, ◌≡◌, length}
use Rattle.scripthash_layout.specs.Sizes.{slab_bytes, page_size}
use Rattle.book_limits.specs.Limits.{slabs_end}
use Rattle.plain_book.specs.Space.{Space}
use Rattle.plain_book.specs.Key.{Place, empty, inline, slab, pages, Key}
use Rattle.plain_book.specs.Book.{Book}

-- The bytes that a place's blocks take.
unfoldable pub bytes_in : Place → ℕ
bytes_in empty = 0
bytes_in inline = 0
bytes_in (slab class off kept) = slab_bytes class
bytes_in (pages ps) = length ps * page_size

-- The bytes that keys hold.
unfoldable pub bytes_held : List Key → ℕ
bytes_held [] = 0
bytes_held (k ∷ ks) = bytes_in k.place + bytes_held ks

-- The bytes of the blocks on the stack of a class.
unfoldable pub bytes_on_stack : ℕ → List ℕ → ℕ
bytes_on_stack class [] = 0
bytes_on_stack class (o ∷ os) = slab_bytes class + bytes_on_stack class os

-- The bytes that some stacks hold: the first is of the given class, each further one of the next class.
unfoldable pub bytes_freed : ℕ → List (List ℕ) → ℕ
bytes_freed class [] = 0
bytes_freed class (os ∷ st) = bytes_on_stack class os + bytes_freed (class + 1) st

-- Where the mark stands so that no bytes are skipped when it is rounded up to a page: at or below the end of slabs, where the gap's blocks
-- are freed, or at a page.
abbrev pub MarkWhole : ℕ → Type 0
MarkWhole mark = (mark ≤ slabs_end) ⊎ (mark % page_size ≡ 0)

-- What is freed, with so many bytes besides, fills a space up to the mark.
abbrev pub Fills : Space → ℕ → Type 0
Fills s others = 4096 + (bytes_freed 0 s.stacks + others) ≡ s.mark

-- What keys hold and what is freed fills a book up to the mark, save for so many bytes that belong to nobody: for 0, nothing is leaked.
abbrev pub Filled : ℕ → Book → Type 0
Filled lost b = Fills b.space (bytes_held b.keys + lost)
