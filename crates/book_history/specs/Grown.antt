-- A book that is lent a longer body, or more heads.
use Rattle.std.specs.Prelude.{ℕ, List, ◌++◌, replicate}
use Rattle.book.specs.Book.{Book, book}

-- A book with some bytes behind its body, whatever they are, and so many empty words behind its heads.
abbrev pub grown : List ℕ → ℕ → Book → Book
grown bytes n b = book (b.space.body ++ bytes) (b.heads ++ replicate n 0) b.space.mark b.space.free b.counts
