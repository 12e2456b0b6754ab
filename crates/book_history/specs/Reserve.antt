-- What desks are promised (FORMAT, Desks), said of the bytes alone.
use Rattle.std.specs.Prelude.{ℕ, ◌^◌, ◌≤◌, ◌<◌, true, List, ◌≡◌, length, get_or}
use Rattle.scripthash_layout.specs.Sizes.{page_class}
use Rattle.scripthash_stream.specs.Stream.{last_from}
use Rattle.book_desks.specs.Desks.{desks, Limits, desk_count, lacks, desk_of}
use Rattle.book_desks.specs.Counts.{reserve_at, freed_count, held_count, held_in, limits_in}
use Rattle.plain_book.specs.Needs.{needs_page}
use Rattle.book.specs.Book.{Book, word_of}
use Rattle.book_start.specs.Start.{freed_of, pages_of_desk, to_be_had_in}
use Rattle.book_history.specs.PlainOf.{key_from, start_list}

-- The desks of a book that was given some limits are kept: the counts in its words are true, and nothing is promised that can't be kept.
pub record DesksKept (ds : List ℕ) (l : Limits) (b : Book) : Type 0 where
  -- Its limits are those that it was given.
  pub limits : limits_in b.counts ≡ l
  -- The count of freed pages is the length of their free list.
  pub freed : freed_count b.counts ≡ length (freed_of b.space page_class)
  -- Each desk's count is the pages of its keys.
  pub held : (d : ℕ) → d < desks → held_count d b.counts ≡ pages_of_desk ds b d
  -- No desk holds more than its ceiling.
  pub ceilings : (d : ℕ) → d < desks → held_count d b.counts ≤ desk_count d l.ceiling
  -- The pages to be had cover what the desks lack of their reserves.
  pub covered : lacks l (held_in b.counts) ≤ to_be_had_in b

-- An append that is promised a page: of a number that the key can have next, which needs a page, where the key's desk holds fewer than are
-- kept for it.
pub record PagePromised (ds : List ℕ) (b : Book) (key n : ℕ) : Type 0 where
  pub within : key < length b.heads
  pub rises : last_from 0 (start_list b key) < n
  pub low : n < 2 ^ 62
  pub needs : needs_page (key_from b.space (word_of key b)) n ≡ true
  pub below : held_count (desk_of ds key) b.counts < get_or b.counts (reserve_at (desk_of ds key)) 0
