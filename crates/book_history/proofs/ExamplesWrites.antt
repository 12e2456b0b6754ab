-- What calls of small histories name, computed. Assumes nothing.
use Prim.Native.Nat.{ℕ}
use mathlib.Core.List.{List, [], ◌∷◌}
use mathlib.Core.Path.{◌≡◌, refl}
use Rattle.error.specs.Refusal.{refuse_if, and_then, answered}
use Rattle.buffer.specs.Bytes.{part, overwrite}
use Rattle.compact.specs.Uleb128.{is_form, value, form_at, overflows, read_form, read_uleb, divided, uleb_len, shortest}
use Rattle.scripthash_layout.specs.Head.{pack_head, unpack_head}
use Rattle.scripthash_stream.specs.Stream.{last_from, stream_from, stream_len_from, stored_number, next_number, scan_from, decode_stream}
use Rattle.scripthash_slabs.specs.Class.{first_class, class_for, class_with_slack}
use Rattle.scripthash_slabs.specs.Slab.{slab_payload, decode_slab}
use Rattle.scripthash_cutting.specs.Cutting.{fitting, first_part, greedy_parts, replace_last}
use Rattle.scripthash_fields.specs.Page.{field, set_field, next_off, delta_header, extent_header, page_of}
use Rattle.scripthash_pages.specs.Entries.{stream_place, page_scan, spot_behind, one_more, with_appended}
use Rattle.scripthash_free.specs.FreeList.{is_block, pushed, pop_free, largest_up_to, block_then, carve, push_all}
use Rattle.book_rules.specs.declared.places.SlabFit.TheVariants.{Spare}
use Rattle.book_rules.specs.Outcomes.{book_after}
use Rattle.book_statements.specs.Calls.{Change, load, append, drop, Call, change, after_calls}
use Rattle.book_rules.specs.Offered.{offered_number, offered_list}
use Rattle.free_runs.specs.Runs.{is_in, stretch, lesser, least_of, left_of, top_goes, losing}
use Rattle.free_runs.specs.PageList.{walked, pages_end, run_sought, relinked}
use Rattle.book_limits.specs.Limits.{out_of_shape, pop_end}
use Rattle.book_rules.specs.Places.{stays, larger, moves_to, loads_to}
use Rattle.book_desks.specs.Desks.{beyond_desks, list_bad, sum_to, lacks_with, above, permitted}
use Rattle.book_desks.specs.Counts.{listed, held_in, limits_in, fresh_counts, counts_high}
use Rattle.plain_book.specs.Book.{unlimited}
use Rattle.book_space.specs.Space.{mark_bad, shape_broken, take_mark, take_slab, rounded, take_fresh, take_popped, take_block, release}
use Rattle.book_space.specs.Space.{run_at_mark, take_found}
use Rattle.book_space.specs.Desks.{judged_take, slab_for, freed_untrue, page_for, run_found, run_for, given_back}
use Rattle.book_keys.specs.Keys.{soundly, sure, go_on, slab_scan, link_scan, good_extent, last_at, page_then, walk, total_good, chain_at}
use Rattle.book_keys.specs.Keys.{page_blocks, content_at, content, tail_at}
use Rattle.book.specs.Book.{Book, fresh, head_word, by_desk, with_desks}
use Rattle.book_blocks.specs.Blocks.{slab_with, total_with, page_with, page_before, write_run}
use Rattle.book_append.specs.Appends.{moves_into, moves, append_slab, grow_chain, append_page, append_at, appends}
use Rattle.book_load.specs.Loads.{load_into, load_at, loads}
use Rattle.book_drop.specs.Drops.{dropped, drops}
use Rattle.book_history.specs.Calls.{after, does}
use mathlib.Core.Bool.{Bool, true, false}
use Rattle.book_history.specs.Writes.{Region, region, CallWrites, both, freeing_all, taking_pages, taking, filling, writing, moving}
use Rattle.book_history.specs.Writes.{growing_slab, growing_page, append_writes, links_of, taking_freed, filling_run, load_writes}
use Rattle.book_history.specs.Writes.{page_counts}
use Rattle.book_history.specs.Writes.{moving_counts, slab_counts, chain_counts, append_counts, run_counts, load_counts, drop_counts, writes}
use Rattle.book_history.proofs.Examples.{in_aRow, body_of, freed_five}

-- What a call names after others.
unfoldable pub writes_after : List ℕ → Book → List Call → Change → CallWrites
unfolding refuse_if and_then answered part overwrite is_form value form_at overflows read_form read_uleb divided uleb_len shortest pack_head
    unpack_head last_from stream_from stream_len_from stored_number next_number scan_from decode_stream first_class class_for class_with_slack
    slab_payload
    decode_slab fitting first_part greedy_parts replace_last field set_field next_off delta_header extent_header page_of stream_place page_scan
    spot_behind one_more with_appended is_block pushed pop_free largest_up_to block_then carve push_all book_after after_calls out_of_shape offered_number
    offered_list stays larger moves_to loads_to mark_bad shape_broken take_mark take_slab pop_end rounded run_at_mark take_fresh take_popped take_block
    release soundly sure go_on slab_scan link_scan good_extent last_at page_then walk total_good chain_at page_blocks content_at content tail_at
    head_word by_desk with_desks
    beyond_desks list_bad sum_to lacks_with above permitted listed held_in limits_in fresh_counts counts_high judged_take slab_for freed_untrue page_for
    run_for run_found take_found run_sought walked pages_end is_in stretch lesser least_of left_of top_goes losing relinked given_back
    moves_into moves slab_with append_slab total_with page_with page_before grow_chain append_page append_at appends write_run load_into load_at loads
    dropped drops does both freeing_all taking_pages taking filling writing moving growing_slab growing_page append_writes links_of taking_freed
    filling_run load_writes page_counts moving_counts slab_counts chain_counts append_counts run_counts load_counts drop_counts writes
writes_after ds b cs c = writes ds (after ds b cs) c

-- What may be written.
abbrev writes_of : List Region → List Region → List Region → Bool → List Region → CallWrites
writes_of body heads free mark counts = record { heads = heads; space = record { body = body; free = free; mark = mark }; counts = counts }

-- Of two keys of desk 0, without limits, in a body of two pages.
abbrev two : List Call → Change → CallWrites
two cs c = writes_after (0 ∷ 0 ∷ []) (fresh (body_of 8192) 2 unlimited) cs c

-- The run case: 300 moves to a slab at the mark, 301 stays there, 303 moves to a larger slab and frees the old one, and 10 takes that
-- again. No count changes.
pub run_writes :
    (two (change (append 0 5) ∷ []) (append 0 300) ≡ writes_of (region 4096 5 ∷ []) (region 0 1 ∷ []) [] true [])
    × (two (change (append 0 5) ∷ change (append 0 300) ∷ []) (append 0 301)
    ≡ writes_of (region 4096 2 ∷ region 4101 1 ∷ []) (region 0 1 ∷ []) [] false [])
    × (two (change (append 0 5) ∷ change (append 0 300) ∷ change (append 0 301) ∷ change (append 0 302) ∷ []) (append 0 303)
    ≡ writes_of (region 4112 8 ∷ region 4096 8 ∷ []) (region 0 1 ∷ []) (region 0 1 ∷ []) true [])
    × (two (change (append 0 5) ∷ change (append 0 300) ∷ change (append 0 301) ∷ change (append 0 302) ∷ change (append 0 303)
    ∷ change (append 1 9) ∷ []) (append 1 10)
    ≡ writes_of (region 4096 4 ∷ []) (region 1 1 ∷ []) (region 0 1 ∷ []) false [])
unfolding writes_after
run_writes = (refl, refl, refl, refl)

-- Of one key of desk 0, without limits, in a body of four pages.
abbrev one : List Call → Change → CallWrites
one cs c = writes_after (0 ∷ []) (fresh (body_of 16384) 1 unlimited) cs c

-- A full page gets a page behind it, which its desk then holds; that gets a number; a drop frees both.
pub page_writes :
    (one (change (load Spare 0 (in_aRow 1 4072)) ∷ []) (append 0 4073)
    ≡ writes_of (region 8192 4096 ∷ region 4099 5 ∷ region 4116 4 ∷ []) (region 0 1 ∷ []) [] true (region 1 1 ∷ []))
    × (one (change (load Spare 0 (in_aRow 1 4072)) ∷ change (append 0 4073) ∷ []) (append 0 4074)
    ≡ writes_of (region 8193 2 ∷ region 8218 1 ∷ region 8212 4 ∷ []) (region 0 1 ∷ []) [] false [])
    × (one (change (load Spare 0 (in_aRow 1 4072)) ∷ change (append 0 4073) ∷ []) (drop 0)
    ≡ writes_of (region 4096 8 ∷ region 8192 8 ∷ []) (region 0 1 ∷ []) (region 8 1 ∷ region 8 1 ∷ []) false (region 0 1 ∷ region 1 1 ∷ []))
unfolding writes_after in_aRow
page_writes = (refl, refl, refl)

-- A page that desk 0 gave back is popped for desk 2, where a list of 256 gets one more: both counts, that of freed pages and its own.
pub popped_writes :
    writes_after (0 ∷ 2 ∷ []) (fresh (body_of 12288) 2 unlimited)
    (change (load Spare 0 (in_aRow 1 257)) ∷ change (load Spare 1 (in_aRow 1 256)) ∷ change (drop 0) ∷ []) (append 1 257)
    ≡ writes_of (region 4096 4096 ∷ region 8192 8 ∷ []) (region 1 1 ∷ []) (region 8 1 ∷ region 6 1 ∷ []) false (region 0 1 ∷ region 3 1 ∷ [])
unfolding writes_after in_aRow
popped_writes = refl

-- A run of two pages for desk 3 behind a slab of 16 bytes: the gap's eight blocks are freed.
pub gap_writes :
    writes_after (0 ∷ 3 ∷ []) (fresh (body_of 16384) 2 unlimited) (change (append 0 1) ∷ change (append 0 2) ∷ [])
    (load Spare 1 (in_aRow 1 4073))
    ≡ writes_of (region 4112 8 ∷ region 6160 8 ∷ region 7184 8 ∷ region 7696 8 ∷ region 7952 8 ∷ region 8080 8 ∷ region 8144 8
    ∷ region 8176 8 ∷ region 8192 8192 ∷ []) (region 1 1 ∷ [])
    (region 7 1 ∷ region 6 1 ∷ region 5 1 ∷ region 4 1 ∷ region 3 1 ∷ region 2 1 ∷ region 1 1 ∷ region 0 1 ∷ []) true (region 4 1 ∷ [])
unfolding writes_after in_aRow
gap_writes = refl

-- Of the freed pages 4, 5, 1, 3, 6 a load of two takes 3 and 4: page 1 named 3, and names 6 then; the others left keep their links.
pub freed_writes :
    writes_after (0 ∷ 0 ∷ 0 ∷ 0 ∷ 0 ∷ 0 ∷ []) (fresh (body_of 32768) 6 unlimited) freed_five (load Spare 0 (in_aRow 1 4073))
    ≡ writes_of (region 4096 8 ∷ region 12288 8192 ∷ []) (region 0 1 ∷ []) (region 8 1 ∷ []) false (region 0 1 ∷ region 1 1 ∷ [])
unfolding writes_after in_aRow
freed_writes = refl
