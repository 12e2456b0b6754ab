-- The list of freed pages in a body: how it is judged and searched for a run, and how a run is taken out of it.
use Rattle.std.specs.Prelude.{ℕ, zero, suc, ◌<◌, ◌≤◌, Bool, not, ◌&&◌, List, [], ◌∷◌, length, ◌==◌}
use Rattle.std.proofs.Math.Option.{Option}
use Rattle.error.specs.Refusal.{Answer, accepted, refuse_if, free_list_bad}
use Rattle.buffer.specs.Bytes.{overwrite}
use Rattle.buffer.specs.LittleEndian.{bytes_of}
use Rattle.scripthash_layout.specs.Sizes.{page_class, page_size}
use Rattle.scripthash_free.specs.FreeList.{next_of, is_block}
use Rattle.free_runs.specs.Runs.{lowest}

-- The offsets of so many pages of a free list.
unfoldable pub walked : ℕ → List ℕ → ℕ → List ℕ
walked zero body o = []
walked (suc k) body o = o ∷ walked k body (next_of body o)

-- A free list has so many pages, each of which can stand below the mark, and ends then. Such a list holds no page twice: a page has one
-- link.
unfoldable pub pages_end : ℕ → ℕ → List ℕ → ℕ → Bool
pages_end mark zero body o = o == 0
pages_end mark (suc k) body o = is_block page_class o mark && pages_end mark k body (next_of body o)

-- What the search for a run asks: a page or more below the mark, a mark in the body, and a page or more wanted.
pub record ToSeek (mark : ℕ) (body : List ℕ) (pages : ℕ) : Type 0 where
  pub some_below : page_size ≤ mark
  pub within : mark ≤ length body
  pub some_pages : 0 < pages

-- The search of a free list for a run of so many pages: refused where the list doesn't pass; where the run begins, if there is one.
unfoldable pub run_sought : ℕ → ℕ → List ℕ → ℕ → ℕ → Answer (Option ℕ)
run_sought mark count body head pages =
    refuse_if (not (pages_end mark count body head)) free_list_bad (accepted (lowest pages (walked count body head)))

-- The first of some offsets, 0 for none.
abbrev pub top_of : List ℕ → ℕ
top_of [] = 0
top_of (x ∷ xs) = x

-- A body in which these pages are linked, each to the one behind it and the last to none.
unfoldable pub relinked : List ℕ → List ℕ → List ℕ
relinked [] body = body
relinked (x ∷ xs) body = overwrite (relinked xs body) x (bytes_of 8 (top_of xs))
