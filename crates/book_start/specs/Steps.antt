-- What the steps of judging promise each other: no answer of a public function is defined here.
use Rattle.std.specs.Prelude.{ℕ, ◌+◌, ◌*◌, ◌/◌, ◌%◌, ◌^◌, ◌≤◌, ◌<◌, Bool, true, false, List, [], ◌≡◌, length}
use Rattle.scripthash_layout.specs.Sizes.{slab_bytes, page_class, page_size}
use Rattle.scripthash_free.specs.FreeList.{Block, is_block, IsFreeList, Each}
use Rattle.book_keys.specs.Keys.{body_ground}
use Rattle.book_keys.specs.Steps.{PagesLeft}
use Rattle.book_limits.specs.Limits.{most_body, most_heads}
use Rattle.book_desks.specs.Desks.{desks, list_bad, desk_count}
use Rattle.book_desks.specs.Counts.{held_count, counts_high}
use Rattle.book.specs.Book.{Book}
use Rattle.book_start.specs.Start.{Stands, block, blocks_at, followed, pages_of_desk, GoodBlocks}
use Rattle.book_start.specs.Units.{units_free, claim_units, Marked, Shows, Leaves}

-- ---- claiming

-- Some units lie in the bytes of a work list, and are few enough to be counted.
pub record UnitsIn (from count : ℕ) (bytes : List ℕ) : Type 0 where
  pub inside : from + count ≤ 8 * length bytes
  pub few : from + count < 2 ^ 62

-- What is known of a page before it is claimed.
pub record PageToClaim (off : ℕ) (work : List ℕ) : Type 0 where
  -- It begins at a page.
  pub paged : off % page_size ≡ 0
  -- The work list has its units.
  pub inside : off + page_size ≤ 16 * length work

-- What is known of a slab before it is claimed.
pub record SlabToClaim (class off : ℕ) (work : List ℕ) : Type 0 where
  -- There is such a class.
  pub class_to_8 : class ≤ page_class
  -- The work list has its units.
  pub inside : off + slab_bytes class ≤ 16 * length work

-- What is known of a block before it is claimed: it can stand below an end within the work list.
pub record BlockToClaim (class off : ℕ) (work : List ℕ) : Type 0 where
  pub mark : ℕ
  pub stands : is_block class off mark ≡ true
  pub long : mark ≤ 16 * length work

-- What claiming a block tells, and the work list after it.
pub record BlockClaimed (class off : ℕ) (before : List ℕ) (tells : Bool) (after : List ℕ) : Type 0 where
  -- It tells whether all its units were free.
  pub free : tells ≡ units_free (block class off) before
  -- Where they were, they are marked; else the list is as before.
  pub list : after ≡ claim_units (block class off) before

-- What is known before the blocks of a key are claimed.
pub record KeyToClaim (body : List ℕ) (mark : ℕ) (work : List ℕ) : Type 0 where
  -- The mark isn't beyond the body.
  pub within : mark ≤ length body
  -- The work list shows the claims before.
  pub shown : Shows mark work

-- What is known before the pages of a chain are claimed.
pub record PagesToClaim (body : List ℕ) (mark : ℕ) (work : List ℕ) (first pages : ℕ) : Type 0 where
  -- The work list shows the claims before.
  pub shown : Shows mark work
  -- The chain is sound, and its pages stand at these offsets.
  pub offs : List ℕ
  pub left : PagesLeft (body_ground body mark) first pages offs

-- What is known before the blocks of a class's free list are claimed.
pub record ListToClaim (body : List ℕ) (mark : ℕ) (work : List ℕ) (class : ℕ) : Type 0 where
  -- There is such a class.
  pub class_to_8 : class ≤ page_class
  -- The mark isn't beyond the body.
  pub within : mark ≤ length body
  -- The work list shows the claims before.
  pub shown : Shows mark work

-- ---- judging

-- What is known before the free lists are judged.
pub record ListsToJudge (body : List ℕ) (mark : ℕ) (free work : List ℕ) (unclaimed : ℕ) : Type 0 where
  -- There is a free head for each class.
  pub nine : length free ≡ 9
  -- The mark isn't beyond the body.
  pub within : mark ≤ length body
  -- The lent work list shows the claims before.
  pub units : ℕ
  pub lent : List ℕ
  pub claims : List Block
  pub marked : Marked units mark lent claims work
  -- They leave so many units to nobody.
  pub leaves : Leaves mark claims unclaimed

-- What is known before the keys are judged.
pub record KeysToJudge (body : List ℕ) (mark : ℕ) (free work : List ℕ) : Type 0 where
  -- There is a free head for each class.
  pub nine : length free ≡ 9
  -- The mark isn't beyond the body.
  pub within : mark ≤ length body
  -- The mark is a multiple of 16.
  pub aligned : mark % 16 ≡ 0
  -- The lent work list shows no claims.
  pub units : ℕ
  pub lent : List ℕ
  pub marked : Marked units mark lent [] work

-- ---- judging counts

-- What is known before the pages of keys are tallied.
pub record KeysToTally (body heads : List ℕ) (mark : ℕ) (ds : List ℕ) : Type 0 where
  -- The mark isn't beyond the body, nor the body too long.
  pub within : mark ≤ length body
  pub most : length body ≤ most_body
  -- There are not too many heads, and the list names a desk for each.
  pub few : length heads ≤ most_heads
  pub named : list_bad ds (length heads) ≡ false

-- A tally by desk tells the pages of each desk's keys.
abbrev pub Tallied : List ℕ → Book → List ℕ → Type 0
Tallied ds b tally = (d : ℕ) → d < desks → desk_count d tally ≡ pages_of_desk ds b d

-- No desk holds more than the pages of the largest body.
abbrev pub SmallHeld : List ℕ → Type 0
SmallHeld counts = (d : ℕ) → d < desks → held_count d counts ≤ 2 ^ 29

-- What is known before a free list of pages is followed: it ends, and its pages stand below the mark.
pub record ListToFollow (body : List ℕ) (mark head : ℕ) : Type 0 where
  pub within : mark ≤ length body
  pub ends : IsFreeList body head (followed (mark / 16) body head)
  pub stand : Each (Stands mark) (blocks_at page_class (followed (mark / 16) body head))

-- What is known before counts are judged.
pub record CountsToJudge (ds : List ℕ) (b : Book) : Type 0 where
  -- The blocks are good.
  pub blocks : GoodBlocks b
  -- No count is above the body's pages, and the list names a desk for each key.
  pub low : counts_high (length b.space.body) b.counts ≡ false
  pub named : list_bad ds (length b.heads) ≡ false
