-- A key's blocks by their bytes alone: what is asked of a slab or page once it is known to lie below the mark, and what the steps of the
-- code tell each other.
use Rattle.std.specs.Prelude.{ℕ, ◌+◌, ◌^◌, ◌≤◌, Option, Some, None, Bool, true, false, ◌&&◌, List, ◌≡◌, leb, ltb, eqb, length, get_or, ◌<◌}
use Rattle.error.specs.Refusal.{Answer, accepted, refused, refuse_if, and_then, answered, list_too_short}
use Rattle.buffer.specs.Bytes.{overwrite}
use Rattle.scripthash_layout.specs.Sizes.{max_slab_count, page_class}
use Rattle.scripthash_stream.specs.Stream.{Scan, last_from}
use Rattle.scripthash_slabs.specs.Slab.{slab_used, decode_slab}
use Rattle.scripthash_fields.specs.Page.{link_of, next_off, creates_field_of, names_extent, is_last_link, link_offset}
use Rattle.scripthash_pages.specs.Entries.{page_scan, page_entries, page_padded}
use Rattle.scripthash_free.specs.FreeList.{is_block}
use Rattle.book_keys.specs.Keys.{sure, go_on, good_extent, page_at, Last, Chain, Content, Tail, Ground}
use Rattle.error.specs.Refusal.{Answer, accepted, refused, and_then}
use Rattle.scripthash_layout.specs.Sizes.{page_class}
use Rattle.scripthash_stream.specs.Stream.{Scan}
use Rattle.book_keys.specs.Keys.{Ground, page_at, Chain, walk, Content, Tail}

-- A last number that a sound block may have: it isn't 0, which would say that there is none, and it is below 2^62.
unfoldable pub sound_last : ℕ → Bool
sound_last fk = ltb 0 fk && ltb fk (2 ^ 62)

-- ---- the bytes of a block

-- The stream of a slab, from its bytes: it has as many numbers as the head says, at most 256, and reads.
unfoldable pub slab_read : List ℕ → ℕ → Answer Scan
slab_read slab used =
    sure (leb used max_slab_count && eqb (slab_used slab) used) (and_then (decode_slab used slab) (λ c. sure (go_on 0 c.numbers) (accepted c)))

-- The stream of a page behind a number, from its bytes.
unfoldable pub link_read : ℕ → List ℕ → Answer Scan
link_read prev page = and_then (page_scan page) (λ c. sure (go_on prev c.numbers) (accepted c))

-- What the header of a page tells, as a key's last page.
abbrev pub last_of_page : List ℕ → Last
last_of_page page = record { first = link_offset (link_of page); creates = creates_field_of page }

-- The header of a key's last page, from its bytes.
unfoldable pub last_read : List ℕ → Answer Last
last_read page = sure (names_extent page && is_last_link (link_of page)) (and_then (good_extent page) (λ e. accepted (last_of_page page)))

-- The last page of a key as an append looks at it, from its bytes.
unfoldable pub tail_read : List ℕ → Answer Tail
tail_read page =
    and_then (last_read page) (λ h. and_then (link_read 0 page) (λ c. accepted (record { scan = c; last = h })))

-- ---- what is told of them

-- The end of a key's last page: the bytes that its stream takes, its last number, the first page's offset, and creates.
pub record TailEndOf : Type 0 where
  pub taken : ℕ
  pub fk : ℕ
  pub first : ℕ
  pub creates : ℕ

-- The end of a last page that was read.
abbrev pub tail_end_of : Tail → TailEndOf
tail_end_of t = record { taken = t.scan.taken; fk = last_from 0 t.scan.numbers; first = t.last.first; creates = t.last.creates }

-- A count where it is asked for, else 0.
unfoldable pub if_asked : Bool → ℕ → ℕ
if_asked true n = n
if_asked false n = 0

-- A page of a chain: how many numbers it has, its last number, whether it is LAST, the offset that its link names, and how many of the
-- numbers are padded, where that is asked for.
pub record LinkEndOf : Type 0 where
  pub count : ℕ
  pub fk : ℕ
  pub last : Bool
  pub next : ℕ
  pub padded : ℕ

-- The same of a page that was scanned.
abbrev pub link_end_of : Bool → List ℕ → Scan → LinkEndOf
link_end_of counted page c =
    record {
      count = length c.numbers;
      fk = last_from 0 c.numbers;
      last = is_last_link (link_of page);
      next = link_offset (link_of page);
      padded = if_asked counted (page_padded page);
    }

-- How long a chain's list is, how many pages it has, and how many of its numbers are padded, where that is asked for.
pub record Walked : Type 0 where
  pub length : ℕ
  pub pages : ℕ
  pub padded : ℕ

-- The same of a chain behind so many numbers, pages and padded numbers.
abbrev pub walked_from : Bool → ℕ → ℕ → ℕ → Chain → Walked
walked_from counted count pages padded c =
    record {
      length = count + length c.numbers;
      pages = pages + length c.offs;
      padded = padded + if_asked counted c.padded;
    }

-- A chain: its first page's offset, how long its list is, how many pages it has, and how many of its numbers are padded, where that is
-- asked for.
pub record ChainEndOf : Type 0 where
  pub first : ℕ
  pub length : ℕ
  pub pages : ℕ
  pub padded : ℕ

-- The same of a chain that was walked.
abbrev pub chain_end_of : Bool → Chain → ChainEndOf
chain_end_of counted c =
    record {
      first = get_or c.offs 0 0;
      length = length c.numbers;
      pages = length c.offs;
      padded = if_asked counted c.padded;
    }

-- How long a key's list is, how many pages it has, and how many of its numbers are padded.
pub record Counts : Type 0 where
  pub length : ℕ
  pub pages : ℕ
  pub padded : ℕ

-- The same of what a key holds.
abbrev pub counts_of : Content → Counts
counts_of c = record { length = length c.numbers; pages = c.pages; padded = c.padded }

-- How many numbers a key has that holds some content.
abbrev pub length_of : Content → ℕ
length_of c = length c.numbers

-- ---- lists that are written out

-- Reading the page at an offset into a lent list with room for some numbers: the page lies below the mark, reads, and fits.
unfoldable pub page_into : ℕ → Ground → ℕ → Answer Scan
page_into room s off = sure (is_block page_class off s.mark) (page_entries room (page_at s off))

-- What filling a list from a page tells: how many numbers, and the offset of the page behind it.
pub record FillTold : Type 0 where
  pub count : ℕ
  pub next : ℕ

-- The same of a page that was scanned.
abbrev pub fill_told : List ℕ → Scan → FillTold
fill_told page c = record { count = length c.numbers; next = next_off page }

-- What filling a list from a page does, whose reading would be `a`: where that is accepted, it tells as much and the list holds the
-- numbers; it never tells more numbers than fit.
pub record PageFilled (told : Answer FillTold) (before after page : List ℕ) (a : Answer Scan) : Type 0 where
  pub reads : (c : Scan) → a ≡ accepted c → (told ≡ accepted (fill_told page c)) × (after ≡ overwrite before 0 c.numbers)
  pub within : (t : FillTold) → told ≡ accepted t → t.count ≤ length before

-- A lent list afterwards has some numbers at its start, where it has room for them.
abbrev pub Written : List ℕ → List ℕ → List ℕ → Type 0
Written before after ns = length ns ≤ length before → after ≡ overwrite before 0 ns

-- A try at reading a block's numbers, whose scan as a sound one would be `a`, into the start of a list: it tells nothing and leaves the
-- list, or the block is sound and its numbers fit, it tells the bytes that they take, at least one, and the list holds them.
pub data ShortList (told : Option ℕ) (before after : List ℕ) (a : Answer Scan) : Type 0 where
  unread : told ≡ None → after ≡ before → ShortList told before after a
  short : (c : Scan) → told ≡ Some c.taken → 0 < c.taken → a ≡ accepted c → length c.numbers ≤ length before
      → after ≡ overwrite before 0 c.numbers → ShortList told before after a

-- What a key holds, to be read into a list with room for some numbers: 34 where its own don't fit.
unfoldable pub in_room : ℕ → Answer Content → Answer Content
in_room room a = and_then a (λ c. refuse_if (ltb room (length c.numbers)) list_too_short (accepted c))

-- What a lent list holds after a read: the numbers at its start, or what it held where the read is refused.
unfoldable pub after_read : List ℕ → Answer Content → List ℕ
after_read out (accepted c) = overwrite out 0 c.numbers
after_read out (refused number) = out

-- What a read of a key does, which holds `a`: what it tells, and the lent list afterwards.
abbrev pub KeyRead : Answer Counts → List ℕ → List ℕ → Answer Content → Type 0
KeyRead told before after a = (told ≡ answered counts_of (in_room (length before) a))
    × (after ≡ after_read before (in_room (length before) a))

-- A sound chain is walked from an offset on, over pages at these offsets.
pub record Walks (s : Ground) (off : ℕ) (offs : List ℕ) : Type 0 where
  pub most : ℕ
  pub last : ℕ
  pub prev : ℕ
  pub chain : Chain
  pub walks : walk most s last prev off ≡ accepted chain
  pub met : chain.offs ≡ offs

-- So many pages of a sound chain are left, from an offset on, and these are their offsets.
pub record PagesLeft (s : Ground) (off left : ℕ) (offs : List ℕ) : Type 0 where
  pub within : s.mark ≤ length s.body
  pub count : length offs ≡ left
  pub rest : 0 < left → Walks s off offs
