-- What the search and the taking out promise step by step: no answer of a public function is defined here.
use Rattle.std.specs.Prelude.{◌≡◌, ℕ, ◌+◌, ◌*◌, ◌/◌, ◌%◌, ◌^◌, ◌<◌, ◌≤◌, true, false, ◌||◌, List, length, ◌==◌, ◌≢◌, bit_or, slice_index, slice_set, Option, IfSome, is_some}
use Rattle.scripthash_layout.specs.Sizes.{page_size}
use Rattle.scripthash_free.specs.FreeList.{next_of}
use Rattle.free_runs.specs.Runs.{is_in, in_run, left_of}
use Rattle.free_runs.specs.PageList.{walked, pages_end}
use Rattle.free_runs.specs.declared.list.FreedPages.{FreedPages}
use Rattle.free_runs.specs.Freed.{pages_of, passes}
use Rattle.free_runs.specs.declared.search.Looked.{Looked}

-- ---- flags

-- The pages of a window: 4,096 words have a flag for each.
abbrev pub window_pages : ℕ
window_pages = 262144

-- The flag at an index: a bit of a word.
unfoldable pub flag : List ℕ → ℕ → ℕ
flag words i = slice_index words (i / 64) / 2 ^ (i % 64) % 2

-- Words with a flag set.
unfoldable pub set_flag : List ℕ → ℕ → List ℕ
set_flag words i = slice_set words (i / 64) (bit_or (slice_index words (i / 64)) (2 ^ (i % 64)))

-- 4,096 words without a flag.
pub record Unset (words : List ℕ) : Type 0 where
  pub long : length words ≡ 4096
  pub none : (i : ℕ) → i < 4096 → slice_index words i ≡ 0

-- The flags of so many pages from one on tell which of them stand in a list.
pub record Flags (words : List ℕ) (from pages : ℕ) (os : List ℕ) : Type 0 where
  pub tells : (i : ℕ) → i < pages → (flag words i == 1) ≡ is_in ((from + i) * page_size) os

-- A page is flagged if it lies in the window from a page on, and the other flags stay; no page between the window's end and the next one
-- told is it.
pub record FlagsOne (from page next : ℕ) (before after : List ℕ) (told : ℕ) : Type 0 where
  pub flags : (i : ℕ) → i < window_pages → (flag after i == 1) ≡ (page == from + i) || flag before i == 1
  pub long : length after ≡ length before
  pub limit : told ≤ next
  pub passed : (p : ℕ) → from + window_pages ≤ p → p < told → p ≢ page

-- The pages of a list in the window from a page on are flagged, and no page stands in it from the window's end up to the next one told,
-- which is at most the mark's.
pub record Marks (mark : ℕ) (os : List ℕ) (from : ℕ) (before after : List ℕ) (next : ℕ) : Type 0 where
  pub flags : (i : ℕ) → i < window_pages → (flag after i == 1) ≡ (flag before i == 1) || is_in ((from + i) * page_size) os
  pub limit : next ≤ mark / page_size
  pub none_between : (p : ℕ) → from + window_pages ≤ p → p < next → is_in (p * page_size) os ≡ false

-- A free list was walked and, if it passes, its pages in the window from a page on are flagged, and a next page is told.
pub record FlagsList (list : FreedPages) (from : ℕ) (before after : List ℕ) (told : Option ℕ) : Type 0 where
  pub passed : is_some told ≡ passes list
  pub marks : IfSome told (λ next. Marks list.mark (pages_of list) from before after next)

-- ---- the search

-- What a search asks that goes on from a page: a page or more are wanted, and more than lie before it from where a stretch can begin.
pub record ToGoOn (from start pages : ℕ) : Type 0 where
  pub some_pages : 0 < pages
  pub begun : start ≤ from
  pub short : from < start + pages

-- What it asks up to an end: not before that page, and low enough to be counted with.
pub record ToScan (from end start pages : ℕ) : Type 0 where
  pub to_go_on : ToGoOn from start pages
  pub forward : from ≤ end
  pub small : end < 2 ^ 53

-- What it asks over flags: the end is the window's or before.
pub record ToScanFlags (from end start pages : ℕ) : Type 0 where
  pub to_scan : ToScan from end start pages
  pub window : end ≤ from + window_pages

-- What the look at a window asks: what the search asks, and that it begins below the mark.
pub record ToLook (list : FreedPages) (from start pages : ℕ) : Type 0 where
  pub to_go_on : ToGoOn from start pages
  pub below : from < list.mark / page_size

-- What it asks of the list: behind the first window, that it was judged.
pub record ToLookOn (list : FreedPages) (from start pages : ℕ) : Type 0 where
  pub to_look : ToLook list from start pages
  pub judged : 0 < from → passes list ≡ true

-- What it asks of the list where pages are kept: that it was judged.
pub record ToLookFar (list : FreedPages) (from start pages : ℕ) : Type 0 where
  pub to_look : ToLook list from start pages
  pub judged : passes list ≡ true

-- The search for a stretch has come to the page `end`, with `start` the first page from which one can still begin: all pages from it on
-- are freed, up to the end or so many, and no stretch begins below it.
pub record Sought (n end start : ℕ) (os : List ℕ) : Type 0 where
  pub at : start ≤ end
  pub all : (i : ℕ) → i < n → start + i < end → is_in ((start + i) * page_size) os ≡ true
  pub least : (p : ℕ) → ((i : ℕ) → i < n → is_in ((p + i) * page_size) os ≡ true) → start ≤ p

-- A window was looked at, from a page to an end: the search has come to the end, and no page stands in the list from there up to the next
-- one told.
pub record Looks (mark : ℕ) (os : List ℕ) (from end start pages first next : ℕ) : Type 0 where
  pub sought : Sought pages from start os → Sought pages end first os
  pub more : from < end
  pub inside : end ≤ mark / page_size
  pub limit : next ≤ mark / page_size
  pub none_between : (p : ℕ) → end ≤ p → p < next → is_in (p * page_size) os ≡ false

-- What the look at a window of a free list gives: nothing if the list doesn't pass, and else how far the search has come.
pub record LooksAt (list : FreedPages) (from start pages : ℕ) (looked : Option Looked) : Type 0 where
  pub passed : is_some looked ≡ passes list
  pub looks : IfSome looked (λ w. Looks list.mark (pages_of list) from w.end start pages w.start w.next)

-- ---- taking out

-- What linking a freed page to another asks: it has room for a link, and a link so far.
pub record ToRelink (body : List ℕ) (at link : ℕ) : Type 0 where
  pub inside : at + 8 ≤ length body
  pub link_is : link ≡ next_of body at

-- From a place of a free list on, the pages of a run were passed over, up to another place.
pub record PassedOver (mark : ℕ) (body : List ℕ) (from end at left to rest : ℕ) : Type 0 where
  pub ends : pages_end mark rest body to ≡ true
  pub fewer : rest ≤ left
  pub same : left_of from end (walked rest body to) ≡ left_of from end (walked left body at)
  pub stays : 0 < rest → in_run from end to ≡ false
  pub among : (x : ℕ) → is_in x (walked left body at) ≡ false → is_in x (walked rest body to) ≡ false
