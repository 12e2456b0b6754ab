-- Plain books without a slab past the end of slabs (change request N8): none that a key holds, and none that is freed.
use Rattle.std.specs.Prelude.{ℕ, true, false, List, [], ◌∷◌, ◌≡◌}
use Rattle.book_limits.specs.Limits.{past_slabs}
use Rattle.plain_book.specs.Space.{Space, stack_of}
use Rattle.plain_book.specs.Key.{Place, empty, inline, slab, pages}
use Rattle.plain_book.specs.Book.{Book, key_of}

-- No block on a stack of a class ends past it.
unfoldable pub LowStack : ℕ → List ℕ → Type 0
LowStack class [] = Unit {0}
LowStack class (o ∷ os) = (past_slabs class o ≡ false) × LowStack class os

-- A place's slab doesn't.
abbrev pub LowPlace : Place → Type 0
LowPlace empty = Unit {0}
LowPlace inline = Unit {0}
LowPlace (slab class off kept) = past_slabs class off ≡ false
LowPlace (pages ps) = Unit {0}

-- No freed slab does.
abbrev pub LowSpace : Space → Type 0
LowSpace s = (class : ℕ) → LowStack class (stack_of class s)

-- No slab of a book does.
pub record LowSlabs (b : Book) : Type 0 where
  pub freed : LowSpace b.space
  pub held : (key : ℕ) → LowPlace (key_of key b).place

-- A freed slab that ends past it is the first of its class: whatever needs one of that class is refused with 35.
pub record PastTop (s : Space) : Type 0 where
  pub class : ℕ
  pub off : ℕ
  pub rest : List ℕ
  pub top : stack_of class s ≡ off ∷ rest
  pub past : past_slabs class off ≡ true
