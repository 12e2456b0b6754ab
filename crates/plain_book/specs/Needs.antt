-- When an append needs a page: what is promised to a desk below its reserve speaks of these.
use Rattle.std.specs.Prelude.{ℕ, Bool, true, false, cond, not, List, length}
use Rattle.std.proofs.Math.Option.{Option, none, some}
use Rattle.scripthash_stream.specs.Stream.{stream_len}
use Rattle.book_rules.specs.Places.{stays, moves_to}
use Rattle.plain_book.specs.Key.{Place, empty, inline, slab, pages, Key, longer, joins}
use Rattle.plain_book.specs.Book.{extended}

-- No class of slab is chosen.
abbrev pub unplaced : Option ℕ → Bool
unplaced none = true
unplaced (some class) = false

-- A list with one number more, told as it is then, needs a page more than the place where it stands.
unfoldable pub needs_at : List ℕ → ℕ → Place → Bool
needs_at list n empty = false
needs_at list n inline = unplaced (moves_to (length list) (stream_len list))
needs_at list n (slab class off kept) =
    cond (stays class (length list) (longer n kept).bytes) false (unplaced (moves_to (length list) (stream_len list)))
needs_at list n (pages ps) = not (joins n ps)

-- An append of a number to a key needs a page.
abbrev pub needs_page : Key → ℕ → Bool
needs_page k n = needs_at (extended k.list n) n k.place
