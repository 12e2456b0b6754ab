-- What the writing of blocks asks for: a page's numbers and the offsets that it names, a slab's numbers, pages and slabs that
-- can get one number more, and a run's numbers, place and parts.
use Rattle.std.specs.Prelude.{ℕ, ◌+◌, ◌*◌, ◌/◌, ◌%◌, ◌^◌, ◌≤◌, ◌<◌, List, ◌≡◌, length, take}
use Rattle.buffer.specs.Bytes.{part}
use Rattle.compact.specs.Uleb128.{uleb_len}
use Rattle.scripthash_layout.specs.Sizes.{page_size}
use Rattle.scripthash_stream.specs.Stream.{Rising, stream_len, max_offered}
use Rattle.scripthash_fields.specs.Page.{version_of, count_of}
use Rattle.scripthash_cutting.specs.Cutting.{page_room, last_page_room, cutting, ranges_from}
use Rattle.book_limits.specs.Limits.{most_body}

-- A page's offset that a link can name: aligned, not 0, and of one of 2^39 pages.
pub record PageNamed (off : ℕ) : Type 0 where
  pub aligned : off % page_size ≡ 0
  pub some : 0 < off
  pub small : off / page_size < 2 ^ 39

-- Numbers that rise and whose stream fits into a room.
pub record PageNumbers (room : ℕ) (ns : List ℕ) : Type 0 where
  pub rises : Rising (2 ^ 62) 0 ns
  pub fits : stream_len ns ≤ room

-- What a key's last page can be written from: its numbers fit, and its extent can be named.
pub record LastPage (ns : List ℕ) (base extents : ℕ) : Type 0 where
  pub numbers : PageNumbers last_page_room ns
  pub base_named : PageNamed base
  pub some_extents : 0 < extents

-- A key's last page that can be written to a lent page.
pub record LastPageLent (page ns : List ℕ) (base extents : ℕ) : Type 0 where
  pub long : length page ≡ page_size
  pub last : LastPage ns base extents

-- A key's last page that can be written to a page of a body.
pub record LastPageIn (body : List ℕ) (off : ℕ) (ns : List ℕ) (base extents : ℕ) : Type 0 where
  pub inside : off + page_size ≤ length body
  pub last : LastPage ns base extents

-- What a page before another can be written from.
pub record LinkedPage (ns : List ℕ) (next : ℕ) : Type 0 where
  pub numbers : PageNumbers page_room ns
  pub next_named : PageNamed next

-- A page before another that can be written to a page of a body.
pub record LinkedPageIn (body : List ℕ) (off : ℕ) (ns : List ℕ) (next : ℕ) : Type 0 where
  pub inside : off + page_size ≤ length body
  pub linked : LinkedPage ns next

-- A page with an extent that can get one number more: its count can rise, and the number's form fits.
pub record PageGrows (page : List ℕ) (taken difference : ℕ) : Type 0 where
  pub version_is : version_of page ≡ 2
  pub few : count_of page < max_offered
  pub fits : 24 + taken + uleb_len difference ≤ page_size

-- A lent page that can get one number more.
pub record PageGrowsLent (page : List ℕ) (taken difference : ℕ) : Type 0 where
  pub long : length page ≡ page_size
  pub grows : PageGrows page taken difference

-- A page of a body that can get one number more.
pub record PageGrowsIn (body : List ℕ) (last taken difference : ℕ) : Type 0 where
  pub inside : last + page_size ≤ length body
  pub grows : PageGrows (part body last page_size) taken difference

-- What a slab can be written from: a block of a body, and a list that rises and fits.
pub record NewSlabIn (body : List ℕ) (off size : ℕ) (ns : List ℕ) : Type 0 where
  pub inside : off + size ≤ length body
  pub fits : 2 + stream_len ns ≤ size
  pub few : length ns ≤ max_offered
  pub rises : Rising (2 ^ 62) 0 ns

-- A slab of a body that can get one number more: its count can rise, and the number's form fits.
pub record SlabGrowsIn (body : List ℕ) (off size used taken difference : ℕ) : Type 0 where
  pub inside : off + size ≤ length body
  pub few : used < max_offered
  pub fits : 2 + taken + uleb_len difference ≤ size

-- What a run can be written from: a list that rises, the ranges of its parts, and a page of the body for each of them.
pub record Run (size start : ℕ) (fks : List ℕ) (ranges : List (List ℕ)) (count : ℕ) : Type 0 where
  pub rises : Rising (2 ^ 62) 0 fks
  pub some_fks : 0 < length fks
  pub few : length fks ≤ max_offered
  pub parts : count ≡ length (cutting fks)
  pub ranges_are : take count ranges ≡ ranges_from 0 (cutting fks)
  pub aligned : start % page_size ≡ 0
  pub some : 0 < start
  pub inside : start + count * page_size ≤ size
  pub small : size ≤ most_body
