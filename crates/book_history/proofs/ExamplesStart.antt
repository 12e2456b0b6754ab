-- The plain books of small books over bytes, computed: a padded slab, a page with an unknown total, and a free list; with their desks.
-- Assumes nothing.
use Prim.Native.Nat.{ℕ}
use mathlib.Core.Bool.{Bool, true, false}
use mathlib.Core.List.{List, [], ◌∷◌, ◌++◌}
use mathlib.Core.Path.{◌≡◌, refl}
use lib.ListN.{replicate}
use Rattle.error.specs.Refusal.{refuse_if, and_then}
use Rattle.buffer.specs.Bytes.{part, overwrite}
use Rattle.buffer.specs.LittleEndian.{bytes_of}
use Rattle.compact.specs.Uleb128.{is_form, value, form_at, overflows, read_form, read_uleb, divided, uleb_len, shortest, padded as is_padded}
use Rattle.scripthash_layout.specs.Head.{slab_word, extent_word, unpack_head}
use Rattle.scripthash_stream.specs.Stream.{last_from, stream_from, stored_number, next_number, scan_from, padded_in, decode_stream}
use Rattle.scripthash_slabs.specs.Slab.{slab_padded, decode_slab}
use Rattle.scripthash_fields.specs.Page.{field, extent_header, page_of}
use Rattle.scripthash_pages.specs.Entries.{stream_place, page_scan, page_padded}
use Rattle.scripthash_free.specs.FreeList.{is_block}
use Rattle.book_desks.specs.Desks.{Limits}
use Rattle.book_desks.specs.Counts.{listed, held_in, limits_in}
use Rattle.plain_book.specs.Key.{Kept, written, Place, inline, slab, pages, Key, empty_key}
use Rattle.plain_book.specs.Book.{Book as PlainBook}
use Rattle.book_keys.specs.Keys.{soundly, sure, go_on, slab_scan, link_scan, good_extent, last_at, page_then, walk, total_good, chain_at}
use Rattle.book_keys.specs.Keys.{page_blocks, content_at, content}
use Rattle.book_blocks.specs.Blocks.{last_page_of}
use Rattle.book.specs.Book.{Book, book}
use Rattle.book_start.specs.Start.{followed}
use Rattle.book_history.specs.PlainOf.{kept_by, page_from, pages_from, place_from, counted_from, list_from, key_from, keys_from, stacks_from}
use Rattle.book_history.specs.PlainOf.{plain_of}

-- The plain book of a book with a list of desks.
unfoldable pub plainly : List ℕ → Book → PlainBook
unfolding refuse_if and_then part overwrite is_form value form_at overflows read_form read_uleb divided uleb_len shortest is_padded unpack_head
    last_from stream_from stored_number next_number scan_from padded_in decode_stream decode_slab field extent_header page_of slab_padded stream_place
    page_scan page_padded is_block written soundly sure go_on slab_scan link_scan good_extent last_at page_then walk total_good chain_at page_blocks
    content_at content followed kept_by page_from pages_from place_from counted_from list_from key_from keys_from stacks_from listed held_in limits_in
    plain_of
plainly ds b = plain_of ds b

-- A body of 8,192 bytes, none of them 0.
abbrev blank : List ℕ
blank = replicate 8192 165

-- The stream of 5 and 300 in so many bytes, so many of the numbers padded.
abbrev kept : ℕ → ℕ → Kept
kept bytes padded = record { numbers = 5 ∷ 300 ∷ []; bytes = bytes; padded = padded }

-- A key that holds 5 and 300.
abbrev pair : Place → Bool → Key
pair place counted = record { list = 5 ∷ 300 ∷ []; place = place; counted = counted }

-- The counts of a book in which desk 2 holds so many pages, and may hold one; the last desk may hold 7 and has a reserve of 1.
abbrev counts : ℕ → List ℕ
counts held =
    0 ∷ 0 ∷ 0 ∷ held ∷ (replicate 13 0 ++ (replicate 15 0 ++ (1 ∷ 0 ∷ 0 ∷ 1 ∷ (replicate 12 0 ++ (7 ∷ [])))))

-- What desks hold and may hold then.
abbrev told : ℕ → List ℕ
told held = 0 ∷ 0 ∷ held ∷ replicate 13 0

abbrev limits : Limits
limits = record { reserve = replicate 15 0 ++ (1 ∷ []); ceiling = 0 ∷ 0 ∷ 1 ∷ (replicate 12 0 ++ (7 ∷ [])) }

-- A book over a body with some bytes at 4,096, with one head word and no freed block, and a plain book with one key, of desk 2.
abbrev bytes_at_lem : List ℕ → ℕ → ℕ → ℕ → Book
bytes_at_lem bytes word mark held = book (overwrite blank 4096 bytes) (word ∷ []) mark (replicate 9 0) (counts held)

abbrev one_key : Key → ℕ → ℕ → PlainBook
one_key k mark held =
    record {
      size = 8192;
      keys = k ∷ [];
      space = record { mark = mark; stacks = replicate 9 [] };
      desks = 2 ∷ [];
      held = told held;
      limits = limits;
    }

-- A slab in which 5 stands in two bytes: its stream takes 4 bytes, not 3, and one number is padded.
pub padded_slab : plainly (2 ∷ []) (bytes_at_lem (2 ∷ 0 ∷ 133 ∷ 0 ∷ 167 ∷ 2 ∷ []) (slab_word 0 2 4096) 4112 0)
    ≡ one_key (pair (slab 0 4096 (kept 4 1)) true) 4112 0
unfolding plainly
padded_slab = refl

-- A page of 5 and 300.
abbrev one_page_lem : Place
one_page_lem = pages (record { off = 4096; room = 4072; part = kept 3 0 } ∷ [])

-- A page that tells its total, 2, and one whose total is 0, unknown.
pub known_total : plainly (2 ∷ []) (bytes_at_lem (last_page_of 4096 4096 1 2 (5 ∷ 300 ∷ [])) (extent_word 4096) 8192 1)
    ≡ one_key (pair one_page_lem true) 8192 1
unfolding plainly
known_total = refl

pub unknown_total : plainly (2 ∷ []) (bytes_at_lem (last_page_of 4096 4096 1 0 (5 ∷ 300 ∷ [])) (extent_word 4096) 8192 1)
    ≡ one_key (pair one_page_lem false) 8192 1
unfolding plainly
unknown_total = refl

-- Two freed blocks of class 0 at 4,096 and 4,112, of which the first names the second.
abbrev two_freed : List ℕ
two_freed = overwrite (overwrite blank 4096 (bytes_of 8 4112)) 4112 (bytes_of 8 0)

-- With a number in a head word, and an empty key.
pub freed_blocks : plainly (0 ∷ 15 ∷ []) (book two_freed (7 ∷ 0 ∷ []) 4128 (4096 ∷ replicate 8 0) (counts 0))
    ≡ record {
      size = 8192;
      keys = record { list = 7 ∷ []; place = inline; counted = true } ∷ empty_key ∷ [];
      space = record { mark = 4128; stacks = (4096 ∷ 4112 ∷ []) ∷ replicate 8 [] };
      desks = 0 ∷ 15 ∷ [];
      held = told 0;
      limits = limits;
    }
unfolding plainly
freed_blocks = refl
