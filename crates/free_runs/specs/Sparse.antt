-- What keeping the pages of a window promises step by step: no answer of a public function is defined here.
use Rattle.std.specs.Prelude.{◌≡◌, ℕ, zero, suc, ◌*◌, ◌<◌, ◌≤◌, Bool, true, false, cond, ◌||◌, List, length, ◌==◌, nat_lt, slice_index}
use Rattle.scripthash_layout.specs.Sizes.{page_size}
use Rattle.free_runs.specs.Runs.{is_in}
use Rattle.free_runs.specs.declared.list.FreedPages.{FreedPages}
use Rattle.free_runs.specs.Freed.{passes}

-- A page is one of the first so many kept.
unfoldable pub holds : List ℕ → ℕ → ℕ → Bool
holds kept zero page = false
holds kept (suc n) page = slice_index kept n == page || holds kept n page

-- What keeping pages of a window asks: that no more of the 4,096 places are taken than there are, and an end that isn't before its first
-- page.
pub record ToKeep (count from end : ℕ) : Type 0 where
  pub room : count ≤ 4096
  pub forward : from ≤ end

-- Of so many pages, those below an end are kept.
pub record KeepsBelow (end : ℕ) (before : List ℕ) (count : ℕ) (after : List ℕ) (left : ℕ) : Type 0 where
  pub fewer : left ≤ count
  pub long : length after ≡ length before
  pub tells : (p : ℕ) → p < end → holds after left p ≡ holds before count p

-- Of so many pages, those of a window that ends no later than one did are kept.
pub record KeepsWindow (from end : ℕ) (before : List ℕ) (count : ℕ) (after : List ℕ) (left limit : ℕ) : Type 0 where
  pub long : length after ≡ length before
  pub low : from ≤ limit
  pub high : limit ≤ end
  pub tells : (p : ℕ) → from ≤ p → p < limit → holds after left p ≡ holds before count p

-- Those are kept, and a place is left for one more.
pub record MakesRoom (from end : ℕ) (before : List ℕ) (count : ℕ) (after : List ℕ) (left limit : ℕ) : Type 0 where
  pub keeps : KeepsWindow from end before count after left limit
  pub free : left < 4096

-- Those and one more.
pub record KeepsOne (from end page : ℕ) (before : List ℕ) (count : ℕ) (after : List ℕ) (left limit : ℕ) : Type 0 where
  pub room : left ≤ 4096
  pub long : length after ≡ length before
  pub low : from ≤ limit
  pub high : limit ≤ end
  pub tells : (p : ℕ) → from ≤ p → p < limit → holds after left p ≡ (page == p) || holds before count p

-- What keeping the pages of a free list asks: that it was judged, and an end that isn't before the window's first page.
pub record ToCollect (list : FreedPages) (from end : ℕ) : Type 0 where
  pub judged : passes list ≡ true
  pub forward : from ≤ end

-- The pages kept are those of a window that stand in a list.
pub record Collects (os : List ℕ) (from end : ℕ) (kept : List ℕ) (count limit : ℕ) : Type 0 where
  pub room : count ≤ 4096
  pub low : from ≤ limit
  pub high : limit ≤ end
  pub tells : (p : ℕ) → from ≤ p → p < limit → holds kept count p ≡ is_in (p * page_size) os

-- The least page kept from one on and below an end, or the end.
pub record LeastFrom (kept : List ℕ) (count page end least : ℕ) : Type 0 where
  pub low : page ≤ least
  pub high : least ≤ end
  pub held : least < end → holds kept count least ≡ true
  pub none_below : (p : ℕ) → page ≤ p → p < least → holds kept count p ≡ false

-- The first page from which a stretch can begin, where the pages from one up to a next one aren't freed.
unfoldable pub begins_from : ℕ → ℕ → ℕ → ℕ
begins_from start page next = cond (nat_lt page next) next start
