-- A read over bytes (FORMAT, Read).
use Rattle.std.specs.Prelude.{ℕ, List, ltb, length}
use Rattle.error.specs.Refusal.{Answer, accepted, refused, refuse_if, and_then, list_too_short}
use Rattle.buffer.specs.Bytes.{overwrite}
use Rattle.book_rules.specs.Outcomes.{listing, Listed}
use Rattle.book_keys.specs.Keys.{content}
use Rattle.book.specs.Book.{Book, word_of, on_key, with_desks, seen}

-- A read of a key into a lent list with room for some numbers.
unfoldable pub reads : Book → ℕ → ℕ → Answer Listed
reads b key room =
    on_key b key
    (and_then (content (seen b.space) (word_of key b))
    (λ c. refuse_if (ltb room (length c.numbers)) list_too_short
    (accepted (listing c.numbers c.pages c.padded))))

-- A read that is lent the list of desks, which is judged before it.
abbrev pub reads_with : List ℕ → Book → ℕ → ℕ → Answer Listed
reads_with ds b key room = with_desks ds b key (λ desk. reads b key room)

-- What a lent list holds after a read: the numbers at its start, or what it held where the read is refused.
unfoldable pub list_after : List ℕ → Answer Listed → List ℕ
list_after out (accepted l) = overwrite out 0 l.numbers
list_after out (refused number) = out
