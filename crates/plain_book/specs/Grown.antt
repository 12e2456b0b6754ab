-- Growing: a plain book whose body is longer and that has more keys, and how much room is enough for a call.
use Rattle.std.specs.Prelude.{ℕ, ◌+◌, ◌*◌, ◌≤◌, List, ◌++◌, ◌⊎◌, ◌≡◌, length, replicate}
use Rattle.error.specs.Refusal.{no_room, into_reserves}
use Rattle.scripthash_layout.specs.Sizes.{page_size}
use Rattle.scripthash_cutting.specs.Cutting.{cutting}
use Rattle.book_statements.specs.Calls.{Change, load, append, drop, key_of_change}
use Rattle.book_limits.specs.Limits.{page_after}
use Rattle.book_desks.specs.Desks.{desk_count, lacks}
use Rattle.plain_book.specs.Key.{empty_key}
use Rattle.plain_book.specs.Book.{Book, desk_in}

-- A plain book with so many bytes more, and empty keys more, of these desks.
abbrev pub grown : ℕ → List ℕ → Book → Book
grown bytes ds b =
    record {
      size = b.size + bytes;
      keys = b.keys ++ replicate (length ds) empty_key;
      space = b.space;
      desks = b.desks ++ ds;
      held = b.held;
      limits = b.limits;
    }

-- How many pages a change takes at most: one for an append, and as many as its list is cut into for a load.
abbrev pub pages_taken : Change → ℕ
pages_taken (load fit key ns) = length (cutting ns)
pages_taken (append key n) = 1
pages_taken (drop key) = 0

-- How many pages behind the mark, rounded up, are enough for a change: one for an append, and one more than its list is cut into for a
-- load.
abbrev pub pages_enough : Change → ℕ
pages_enough (load fit key ns) = 1 + length (cutting ns)
pages_enough (append key n) = 1
pages_enough (drop key) = 0

-- A change can be paid for in a book whose body ends there: the pages behind the mark are enough for it and for what the desks lack, and
-- with what it takes its desk stays within the desk's ceiling.
pub record Affords (b : Book) (end : ℕ) (c : Change) : Type 0 where
  pub room : page_after b.space.mark + (pages_enough c + lacks b.limits b.held) * page_size ≤ end
  pub within : desk_count (desk_in b (key_of_change c)) b.held + pages_taken c ≤ desk_count (desk_in b (key_of_change c)) b.limits.ceiling

-- What a refusal for want of room says: 36, or 41 where the reserves need what is left.
abbrev pub ForRoom : ℕ → Type 0
ForRoom number = (number ≡ no_room) ⊎ (number ≡ into_reserves)
