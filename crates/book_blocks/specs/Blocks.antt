-- What a book's calls write into blocks (FORMAT, Load to Move): a slab that grows, a last page, a page before another, a run.
use Rattle.std.specs.Prelude.{ℕ, ◌+◌, true, false, cond, List, [], ◌∷◌, eqb, length}
use Rattle.buffer.specs.Bytes.{overwrite}
use Rattle.buffer.specs.LittleEndian.{bytes_of}
use Rattle.compact.specs.Uleb128.{shortest}
use Rattle.scripthash_layout.specs.Sizes.{page_size}
use Rattle.scripthash_stream.specs.Stream.{stream}
use Rattle.scripthash_fields.specs.Page.{set_field, link_to, delta_header, extent_header, page_of}
use Rattle.scripthash_pages.specs.Entries.{Spot, with_appended}
use Rattle.book_limits.specs.Limits.{total_told}

-- A slab that had some numbers in some bytes, with one more behind them: the count and the new form are written.
unfoldable pub slab_with : List ℕ → ℕ → ℕ → ℕ → List ℕ
slab_with block used taken difference = overwrite (overwrite block 0 (bytes_of 2 (used + 1))) (2 + taken) (shortest difference)

-- A page that is a key's last: version 2, with LAST, a first page's offset, an extent and creates; its stream is that of a list, the rest
-- is 0.
abbrev pub last_page_of : ℕ → ℕ → ℕ → ℕ → List ℕ → List ℕ
last_page_of first base extents creates ns = page_of (extent_header (length ns) (link_to true first) base extents creates) (stream ns)

-- A total with one number more: one that was never counted, 0, stays unknown, and one that creates can't tell becomes so.
unfoldable pub total_with : ℕ → ℕ
total_with creates = cond (eqb creates 0) 0 (total_told (creates + 1))

-- A last page with a number appended: creates is one more, or stays unknown.
unfoldable pub page_with : List ℕ → Spot → ℕ → List ℕ
page_with page w creates = set_field (with_appended page w) 20 4 (total_with creates)

-- A page that was the last, with a next page and creates 0.
unfoldable pub page_before : List ℕ → ℕ → List ℕ
page_before page next = set_field (set_field page 3 5 (link_to false next)) 20 4 0

-- A page of a run before others: version 1, linked to the page at an offset.
abbrev pub page_to : ℕ → List ℕ → List ℕ
page_to next ns = page_of (delta_header (length ns) (link_to false next)) (stream ns)

-- A body with the parts of a list in pages from an offset on, each linked to the next; the last has LAST, the run's start as first offset
-- and extent base, the run's pages as extent count, and the list's length as creates.
unfoldable pub write_run : ℕ → ℕ → ℕ → List ℕ → ℕ → List (List ℕ) → List ℕ
write_run start count creates body off [] = body
write_run start count creates body off (p ∷ []) = overwrite body off (last_page_of start start count creates p)
write_run start count creates body off (p ∷ q ∷ ps) =
    write_run start count creates (overwrite body off (page_to (off + page_size) p)) (off + page_size) (q ∷ ps)
