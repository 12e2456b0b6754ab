-- What demand 3 says of a book after its calls: it stands as the plain book does.
use Rattle.std.specs.Prelude.{ℕ, ◌≤◌, ◌<◌, false, ◌≡◌, length, get_or}
use Rattle.error.specs.Refusal.{accepted}
use Rattle.scripthash_layout.specs.Sizes.{page_class}
use Rattle.scripthash_layout.specs.Head.{unpack_head}
use Rattle.scripthash_free.specs.FreeList.{IsFreeList}
use Rattle.book_rules.specs.Outcomes.{listing}
use Rattle.book_limits.specs.Limits.{out_of_shape}
use Rattle.book_desks.specs.Counts.{freed_count, held_in, limits_in}
use Rattle.plain_book.specs.Space.{stack_of}
use Rattle.plain_book.specs.Key.{head_of, pages_of, padded_of}
use Rattle.plain_book.specs.Book.{Book as PlainBook, key_of, freed_in}
use Rattle.book.specs.Book.{Book, word_of}
use Rattle.book_read.specs.Reads.{reads}

-- A book over bytes stands as a plain book does.
pub record Standing (plain : PlainBook) (b : Book) : Type 0 where
  -- The body has the length that the plain book was told, and there is a head for each key.
  pub size : length b.space.body ≡ plain.size
  pub count : length b.heads ≡ length plain.keys
  -- Each head word unpacks to its key's place: of pages, the last one's offset.
  pub heads : (key : ℕ) → unpack_head (word_of key b) ≡ accepted (head_of (key_of key plain).list (key_of key plain).place)
  -- The marks are one.
  pub mark : b.space.mark ≡ plain.space.mark
  -- Each free list names its stack from the top.
  pub free : (class : ℕ) → class ≤ page_class → IsFreeList b.space.body (get_or b.space.free class 0) (stack_of class plain.space)
  -- The counts of freed pages and of those that desks hold are the plain book's, and so is what desks may hold.
  pub freed : freed_count b.counts ≡ freed_in plain.space
  pub held : held_in b.counts ≡ plain.held
  pub limits : limits_in b.counts ≡ plain.limits
  -- Each key reads as the list that is held there, save where 1 applies; a long enough list is lent.
  pub reads : (key room : ℕ) → out_of_shape plain.size (length plain.keys) ≡ false → key < length plain.keys
      → length (key_of key plain).list ≤ room
      → reads b key room ≡ accepted (listing (key_of key plain).list (pages_of (key_of key plain).place) (padded_of (key_of key plain).place))
