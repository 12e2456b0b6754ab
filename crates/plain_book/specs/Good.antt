-- A good plain book: what holds of a fresh one, is kept by every call, and is enough to start from.
use Rattle.std.specs.Prelude.{ℕ, ◌+◌, ◌/◌, ◌%◌, ◌≤◌, ◌<◌, false, cond, ◌≡◌, eqb, length}
use Rattle.std.proofs.Math.Option.{Option, none}
use Rattle.scripthash_layout.specs.Sizes.{page_size}
use Rattle.scripthash_free.specs.FreeList.{Block}
use Rattle.book_limits.specs.Limits.{out_of_shape}
use Rattle.book_desks.specs.Desks.{desks, desk_count, sum_to, total, lacks, to_be_had, list_bad}
use Rattle.plain_book.specs.Space.{Space}
use Rattle.plain_book.specs.Key.{Place, pages_of}
use Rattle.plain_book.specs.Book.{Book, key_of, desk_in, freed_in}
use Rattle.plain_book.specs.Sound.{SoundKey}
use Rattle.plain_book.specs.Owners.{Apart, has, places}

-- A good space, by keys' places and what a call has in hand.
pub record Good (s : Space) (at : ℕ → Place) (held : Option Block) : Type 0 where
  -- There is a stack for each of the classes 0 to 8.
  pub nine : length s.stacks ≡ 9
  -- The mark is a multiple of 16.
  pub aligned : s.mark % 16 ≡ 0
  -- The mark is not before where lists may begin.
  pub from : 4096 ≤ s.mark
  -- Each block, freed, kept or in hand, can stand where it does, below the mark, and no two share a byte.
  pub apart : Apart s.mark (has s at held)

-- The pages that a desk has of a key: those of the key's place, where it is the key's desk.
abbrev pub pages_for : Book → ℕ → ℕ → ℕ
pages_for b desk key = cond (eqb (desk_in b key) desk) (pages_of (key_of key b).place) 0

-- The pages of all keys of a desk.
abbrev pub pages_of_desk : Book → ℕ → ℕ
pages_of_desk b desk = sum_to (length b.keys) (pages_for b desk)

-- Pages to be had in a book.
abbrev pub to_be_had_in : Book → ℕ
to_be_had_in b = to_be_had b.size (freed_in b.space) b.space.mark

-- The desks of a book are good: their counts are true, and nothing is promised that can't be kept.
pub record GoodDesks (b : Book) : Type 0 where
  -- The body is whole pages.
  pub paged : b.size % page_size ≡ 0
  -- The list names a desk for each key.
  pub named : list_bad b.desks (length b.keys) ≡ false
  -- There is a count for each desk: the pages of its keys.
  pub sixteen : length b.held ≡ desks
  pub exact : (d : ℕ) → d < desks → desk_count d b.held ≡ pages_of_desk b d
  -- No desk holds more than its ceiling, no reserve is above its ceiling, and none above the body's pages.
  pub ceilings : (d : ℕ) → d < desks → desk_count d b.held ≤ desk_count d b.limits.ceiling
  pub reserves : (d : ℕ) → d < desks → desk_count d b.limits.reserve ≤ desk_count d b.limits.ceiling
  pub low : (d : ℕ) → d < desks → desk_count d b.limits.reserve ≤ b.size / page_size
  -- The pages to be had cover what the desks lack.
  pub covered : lacks b.limits b.held ≤ to_be_had_in b
  -- With the first page, what is held and what is to be had is no more than the body's pages.
  pub balanced : 1 + (total b.held + to_be_had_in b) ≤ b.size / page_size

-- A good plain book.
pub record GoodPlain (b : Book) : Type 0 where
  -- Its space is good, with its keys' places and nothing in hand.
  pub space : Good b.space (places b) none
  -- Each key is sound: its list rises and fits its place.
  pub keys : (key : ℕ) → SoundKey (key_of key b)
  -- The mark is within the body, unless the book is out of shape.
  pub within : out_of_shape b.size (length b.keys) ≡ false → b.space.mark ≤ b.size
  -- Its desks are good.
  pub desks : GoodDesks b
