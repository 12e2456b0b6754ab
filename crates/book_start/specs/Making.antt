-- Making a book fresh (FORMAT, Fresh).
use Rattle.std.specs.Prelude.{List, ℕ, length}
use Rattle.error.specs.Refusal.{Answer, accepted, refused, refusal_of}
use Rattle.book_desks.specs.Desks.{Limits, making}
use Rattle.book.specs.Book.{Book, fresh}

-- What desks may hold, from the reserves and the ceilings.
abbrev pub limits_of : List ℕ → List ℕ → Limits
limits_of reserve ceiling = record { reserve = reserve; ceiling = ceiling }

-- Making a book fresh, with a list of desks and their limits.
unfoldable pub makes_fresh : List ℕ → Limits → Book → Answer Book
makes_fresh ds l b =
    making ds (length b.space.body) (length b.heads) l (accepted (fresh b.space.body (length b.heads) l))

-- The book after it was made fresh: as it was where that is refused.
unfoldable pub made_after : Book → Answer Book → Book
made_after b (accepted made) = made
made_after b (refused number) = b

-- The number that a making of a book of so many bytes and heads is turned back with, and 0 where it isn't.
unfoldable pub making_number : List ℕ → ℕ → ℕ → Limits → ℕ
making_number ds size heads l = refusal_of (making {A = Unit {0}} ds size heads l (accepted tt))
