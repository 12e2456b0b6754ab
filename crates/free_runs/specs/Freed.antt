-- A free list of pages, as functions are handed it: its pages, and whether it passes.
use Rattle.std.specs.Prelude.{ℕ, Bool, List}
use Rattle.free_runs.specs.declared.list.FreedPages.{FreedPages}
use Rattle.free_runs.specs.PageList.{walked, pages_end}

-- The offsets of its pages.
abbrev pub pages_of : FreedPages → List ℕ
pages_of list = walked list.count list.body.now list.head

-- Each of them can stand below the mark, and it ends then.
abbrev pub passes : FreedPages → Bool
passes list = pages_end list.mark list.count list.body.now list.head
