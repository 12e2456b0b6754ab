-- What a book tells of how many numbers a key has.
use Rattle.std.specs.Prelude.{ℕ, List, ◌≡◌}
use Rattle.error.specs.Refusal.{accepted}
use Rattle.book.specs.Book.{Book}
use Rattle.book_read.specs.Lengths.{lengths, lengths_with}

-- It tells of a key that it has so many numbers, whether or not the list of desks is lent.
abbrev pub Tells : List ℕ → Book → ℕ → ℕ → Type 0
Tells ds b key n = (lengths b key ≡ accepted n) × (lengths_with ds b key ≡ accepted n)
