-- Lengths of a small book over bytes, each computed: a slab, an inline number, an empty key, a head that tells another count, and a key
-- beyond the heads. Assumes nothing.
use Prim.Native.Nat.{ℕ}
use mathlib.Core.List.{[], ◌∷◌, ◌++◌}
use mathlib.Core.Path.{◌≡◌, refl}
use lib.ListN.{replicate}
use Rattle.error.specs.Refusal.{Answer, accepted, refused, refuse_if, and_then, key_unsound, key_beyond}
use Rattle.buffer.specs.Bytes.{part}
use Rattle.compact.specs.Uleb128.{is_form, value, form_at, overflows, read_form, read_uleb}
use Rattle.scripthash_layout.specs.Head.{slab_word, unpack_head}
use Rattle.scripthash_stream.specs.Stream.{last_from, stored_number, next_number, scan_from, decode_stream}
use Rattle.scripthash_slabs.specs.Slab.{decode_slab}
use Rattle.scripthash_free.specs.FreeList.{is_block}
use Rattle.book_limits.specs.Limits.{out_of_shape}
use Rattle.book_space.specs.Space.{mark_bad, shape_broken}
use Rattle.book_keys.specs.Keys.{soundly, sure, go_on, slab_scan, content_at, content}
use Rattle.book.specs.Book.{Book, book, on_key}
use Rattle.book_read.specs.Lengths.{lengths}

-- How many numbers a key has, so that it can be computed.
unfoldable pub told : Book → ℕ → Answer ℕ
unfolding refuse_if and_then part is_form value form_at overflows read_form read_uleb unpack_head last_from stored_number next_number scan_from
    decode_stream decode_slab is_block out_of_shape mark_bad shape_broken soundly sure go_on slab_scan content_at content on_key lengths
told b key = lengths b key

-- The slab of 5, 300, 301 at 4,096.
abbrev small : Book
small =
    book (replicate 4096 0 ++ (3 ∷ 0 ∷ 5 ∷ 167 ∷ 2 ∷ 1 ∷ []) ++ replicate 4090 0)
    (slab_word 0 3 4096 ∷ 7 ∷ 0 ∷ slab_word 0 2 4096 ∷ []) 4112 (replicate 9 0) (replicate 49 0)

pub lengths_at : (told small 0 ≡ accepted 3) × (told small 1 ≡ accepted 1) × (told small 2 ≡ accepted 0)
    × (told small 3 ≡ refused key_unsound) × (told small 4 ≡ refused key_beyond)
unfolding told
lengths_at = (refl, refl, refl, refl, refl)
