-- How many numbers a key has, over bytes (FORMAT, Length).
use Rattle.std.specs.Prelude.{ℕ, List, length}
use Rattle.error.specs.Refusal.{Answer, accepted, and_then}
use Rattle.book_keys.specs.Keys.{content}
use Rattle.book.specs.Book.{Book, word_of, on_key, with_desks, seen}

-- How many numbers a key has: it is judged as a read judges it, but for the lent list.
unfoldable pub lengths : Book → ℕ → Answer ℕ
lengths b key = on_key b key (and_then (content (seen b.space) (word_of key b)) (λ c. accepted (length c.numbers)))

-- The same of a call that is lent the list of desks, which is judged before it.
abbrev pub lengths_with : List ℕ → Book → ℕ → Answer ℕ
lengths_with ds b key = with_desks ds b key (λ desk. lengths b key)
