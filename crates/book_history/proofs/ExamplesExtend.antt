-- Extends of a small book over bytes, each computed: the run case (FORMAT, Worked examples) in one call, one that stops at a number which
-- isn't above the one before, the empty list, a key beyond the heads, and one behind another. Assumes nothing.
use Prim.Native.Nat.{ℕ}
use mathlib.Core.List.{List, [], ◌∷◌}
use mathlib.Core.Path.{◌≡◌, refl}
use lib.ListN.{length, replicate}
use Rattle.error.specs.Refusal.{Answer, accepted, refused, key_beyond, offered_not_rising}
use Rattle.scripthash_layout.specs.declared.head.ShHeadValue.TheVariants.{Empty, Slab}
use Rattle.book_rules.specs.Outcomes.{book_after, answer_of}
use Rattle.plain_book.specs.Book.{unlimited}
use Rattle.book.specs.Book.{Book, Outcome, fresh}
use Rattle.book_desks.specs.Counts.{fresh_counts}
use Rattle.book_extend.specs.Extends.{Extended, extended, extends_with, moved, after_one, extend_from, judged_at, standing, extends}
use Rattle.error.specs.Refusal.{refuse_if, and_then, answered}
use Rattle.buffer.specs.Bytes.{part, overwrite}
use Rattle.compact.specs.Uleb128.{is_form, value, form_at, overflows, read_form, read_uleb, divided, uleb_len, shortest}
use Rattle.scripthash_layout.specs.Head.{pack_head, unpack_head}
use Rattle.scripthash_stream.specs.Stream.{last_from, stream_from, stream_len_from, stored_number, next_number, scan_from, decode_stream}
use Rattle.scripthash_slabs.specs.Class.{first_class, class_for, class_with_slack}
use Rattle.scripthash_slabs.specs.Slab.{slab_payload, decode_slab}
use Rattle.scripthash_fields.specs.Page.{field, set_field, extent_header, page_of}
use Rattle.scripthash_pages.specs.Entries.{stream_place, page_scan, spot_behind, one_more, with_appended}
use Rattle.scripthash_free.specs.FreeList.{is_block, pushed, pop_free, largest_up_to, block_then, carve, push_all}
use Rattle.book_rules.specs.Offered.{offered_number}
use Rattle.book_limits.specs.Limits.{out_of_shape, pop_end}
use Rattle.book_rules.specs.Places.{stays, larger, moves_to}
use Rattle.book_desks.specs.Desks.{beyond_desks, list_bad, sum_to, lacks_with, above, permitted}
use Rattle.book_desks.specs.Counts.{listed, held_in, limits_in, counts_high}
use Rattle.book_space.specs.Space.{mark_bad, shape_broken, take_mark, take_slab, rounded, take_fresh, take_popped, take_block, release}
use Rattle.book_space.specs.Space.{run_at_mark}
use Rattle.book_space.specs.Desks.{judged_take, slab_for, freed_untrue, page_for}
use Rattle.book_keys.specs.Keys.{soundly, sure, go_on, slab_scan, link_scan, good_extent, last_at}
use Rattle.book_keys.specs.Keys.{tail_at}
use Rattle.book.specs.Book.{head_word, by_desk, with_desks}
use Rattle.book_blocks.specs.Blocks.{slab_with, total_with, page_with, page_before}
use Rattle.book_append.specs.Appends.{moves_into, moves, append_slab, grow_chain, append_page, append_at, appends}

-- What an extend does, where all keys are of one desk, so that it can be computed.
unfoldable pub did : Book → ℕ → List ℕ → Answer (Outcome Extended)
unfolding refuse_if and_then answered part overwrite is_form value form_at overflows read_form read_uleb divided uleb_len shortest pack_head
    unpack_head last_from stream_from stream_len_from stored_number next_number scan_from decode_stream first_class class_for class_with_slack
    slab_payload decode_slab field set_field extent_header page_of stream_place page_scan spot_behind one_more with_appended is_block pushed
    pop_free largest_up_to block_then carve push_all out_of_shape offered_number stays larger moves_to mark_bad shape_broken take_mark
    take_slab pop_end rounded run_at_mark take_fresh take_popped take_block release soundly sure go_on slab_scan link_scan good_extent
    last_at tail_at head_word moves_into moves slab_with append_slab total_with page_with page_before grow_chain append_page append_at
    appends beyond_desks list_bad sum_to lacks_with above permitted listed held_in limits_in counts_high judged_take slab_for freed_untrue
    page_for by_desk with_desks moved after_one extend_from judged_at standing extends
did b key ns = extends_with (replicate (length b.heads) 0) b key ns

-- What it tells, and the book afterwards.
unfoldable pub tells : Book → ℕ → List ℕ → Answer Extended
unfolding did answered
tells b key ns = answer_of (did b key ns)

unfoldable pub leaves : Book → ℕ → List ℕ → Book
unfolding did book_after
leaves b key ns = book_after b (did b key ns)

-- A fresh book of two pages with two keys.
unfoldable pub none : Book
unfolding fresh_counts
none = fresh (replicate 8192 0) 2 unlimited

pub extends_at : (tells none 0 (5 ∷ 300 ∷ 301 ∷ 302 ∷ 303 ∷ []) ≡ accepted (extended 5 0 (Slab 1 5 4112) 2 5))
    × (tells none 0 (5 ∷ 9 ∷ 300 ∷ 300 ∷ 301 ∷ []) ≡ accepted (extended 3 offered_not_rising (Slab 0 3 4096) 1 1))
    × (tells none 1 [] ≡ accepted (extended 0 0 Empty 0 0)) × (tells none 2 (5 ∷ []) ≡ refused key_beyond)
unfolding none tells
extends_at = (refl, refl, refl, refl)

-- An extend behind another.
pub extends_on : tells (leaves none 0 (5 ∷ 9 ∷ [])) 0 (10 ∷ 11 ∷ 12 ∷ []) ≡ accepted (extended 3 0 (Slab 1 5 4112) 1 4)
unfolding none tells leaves
extends_on = refl
