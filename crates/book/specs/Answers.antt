-- The book of lent parts.
use Rattle.std.specs.Prelude.{ℕ, List}
use Rattle.book.specs.Book.{Book, book}

-- The book of a body, its head words, its mark, its free heads and its counts.
abbrev pub book_of : List ℕ → List ℕ → ℕ → List ℕ → List ℕ → Book
book_of body heads mark free counts = book body heads mark free counts
