-- Small histories on the plain book, with the run case (FORMAT, Worked examples): each answer is computed. Assumes nothing.
use Prim.Native.Nat.{ℕ, zero, suc, ◌+◌, ◌-◌, ◌^◌}
use mathlib.Core.Bool.{true}
use mathlib.Core.List.{List, [], ◌∷◌, ◌++◌}
use mathlib.Core.Path.{◌≡◌, refl}
use lib.ListN.{replicate}
use Rattle.error.specs.Refusal.{Answer, accepted, refused, refuse_if, and_then, answered}
use Rattle.compact.specs.Uleb128.{divided, shortest, uleb_len}
use Rattle.scripthash_layout.specs.declared.head.ShHeadValue.{ShHeadValue}
use Rattle.scripthash_layout.specs.declared.head.ShHeadValue.TheVariants.{Inline, Slab, Extent}
use Rattle.scripthash_stream.specs.Stream.{last_from, stream_len_from}
use Rattle.scripthash_slabs.specs.Class.{first_class, class_for, class_with_slack}
use Rattle.scripthash_cutting.specs.Cutting.{fitting, first_part, greedy_parts, replace_last}
use Rattle.scripthash_free.specs.FreeList.{largest_up_to, block_then, carve}
use Rattle.free_runs.specs.Runs.{is_in, stretch, lesser, least_of, left_of}
use Rattle.book_rules.specs.declared.places.SlabFit.TheVariants.{Spare, Tight}
use Rattle.book_rules.specs.Outcomes.{Loaded, Appended, book_after, appended_to, dropped_of, listing, loaded_in}
use Rattle.book_statements.specs.Calls.{load, append, read, drop, Call, ask, change, done, asked, changed, answers_to}
use Rattle.plain_book.specs.Space.{freed_all, take_mark, take_slab, rounded, take_fresh, take_from, run_at_mark, take_found}
use Rattle.book_rules.specs.Places.{stays, larger, moves_to, loads_to}
use Rattle.plain_book.specs.Key.{Key, slab, written, longer, last_page, head_of, padded_pages, freed_pages, freed_place, moved, joins}
use Rattle.plain_book.specs.Key.{begin_page, kept_as, key_in}
use Rattle.plain_book.specs.Key.{append_pages, append_place, run_pages, load_into, load_place}
use Rattle.book_statements.specs.Moves.{Tally, no_moves, with_move, tallied_by, tallied, tally_of}
use Rattle.book_rules.specs.Offered.{offered_number, offered_list}
use Rattle.book_limits.specs.Limits.{out_of_shape, past_slabs}
use Rattle.book_desks.specs.Desks.{making, Limits, list_bad, beyond_desks, permitted, lacks_with, sum_to, above, reserve_high}
use Rattle.plain_book.specs.Book.{fresh, fresh_alone, makes, unlimited, on_key, allowed, loads, appends, reads, drops, does, answers}
use Rattle.plain_book.specs.Book.{asks}

-- An append that is accepted: the key's new place, and the records rewritten.
abbrev at : ShHeadValue → ℕ → Answer Appended
at place rewritten = accepted (appended_to place rewritten)

-- A load of so many pages.
abbrev loads_in : ℕ → Answer Loaded
loads_in pages = accepted (loaded_in pages)

-- k numbers in a row, from n on.
unfoldable pub in_aRow : ℕ → ℕ → List ℕ
in_aRow n zero = []
in_aRow n (suc k) = n ∷ in_aRow (n + 1) k

-- 5, 300, 301, 302, 303 to key 0 move at 300 and at 303; 9, 10 to key 1 take the block that was freed.
pub run_case : answers (fresh_alone 8192 2) (change (append 0 5) ∷ change (append 0 300) ∷ change (append 0 301) ∷ change (append 0 302) ∷
    change (append 0 303) ∷ change (append 1 9) ∷ change (append 1 10) ∷ [])
    ≡ changed (at (Inline 5 1) 0)
    (changed (at (Slab 0 2 4096) 1)
    (changed (at (Slab 0 3 4096) 0)
    (changed (at (Slab 0 4 4096) 0)
    (changed (at (Slab 1 5 4112) 4) (changed (at (Inline 9 1) 0) (changed (at (Slab 0 2 4096) 1) done))))))
unfolding refuse_if and_then divided shortest uleb_len last_from stream_len_from first_class class_for class_with_slack take_mark take_slab past_slabs
    take_fresh take_from head_of freed_place stays larger moves_to moved written longer append_place out_of_shape on_key list_bad beyond_desks
    allowed permitted lacks_with sum_to offered_number appends does book_after answered answers_to
run_case = refl

-- What is turned back: the shape, a key beyond the heads, a key in use, and numbers that can't be offered.
pub turned_back : (answers (fresh_alone 4096 1) (ask (read 0 0) ∷ [])
    ≡ asked (refused 1) done)
    × (answers (fresh_alone 8192 1) (change (append 1 5) ∷ change (append 0 0) ∷ change (append 0 (2 ^ 63)) ∷ change (append 0 (2 ^ 62)) ∷
    change (append 0 5) ∷ change (append 0 5) ∷ change (load Spare 0 []) ∷ ask (read 0 0) ∷ [])
    ≡ changed (refused 2)
    (changed (refused 12)
    (changed (refused 13)
    (changed (refused 14) (changed (at (Inline 5 1) 0) (changed (refused 32) (changed (refused 3) (asked (refused 34) done))))))))
unfolding refuse_if and_then head_of written longer append_place out_of_shape on_key list_bad beyond_desks allowed permitted lacks_with sum_to
    offered_number appends reads loads asks does book_after answered answers_to last_from
turned_back = (refl, refl)

-- A list that is loaded tight goes to a slab that has fewer slots than numbers, and moves with the next; a drop frees its block for another
-- key.
pub loaded_slab : answers (fresh_alone 8192 2) (change (load Tight 0 (in_aRow 1 14)) ∷ change (append 0 15) ∷ ask (read 0 15) ∷
    change (drop 0) ∷ ask (read 0 0) ∷ change (load Tight 1 (in_aRow 1 40)) ∷ [])
    ≡ changed (loads_in 0)
    (changed (at (Slab 2 15 4112) 14)
    (asked (accepted (listing (in_aRow 1 15) 0 0))
    (changed (accepted (dropped_of 15)) (asked (accepted (listing [] 0 0)) (changed (loads_in 0) done)))))
unfolding refuse_if and_then divided shortest uleb_len last_from stream_len_from first_class class_for class_with_slack take_mark take_slab past_slabs
    take_fresh take_from head_of freed_place stays larger moves_to loads_to moved written longer append_place load_into load_place out_of_shape on_key
    list_bad beyond_desks allowed permitted lacks_with sum_to offered_number offered_list loads appends reads drops asks does book_after answered
    answers_to in_aRow
loaded_slab = refl

-- A load with a spare slot and a tight one mixed: the first has room for the next number, the second moves with it.
pub loaded_spare : answers (fresh_alone 8192 2)
    (change (load Spare 0 (in_aRow 1 14)) ∷ change (load Tight 1 (in_aRow 1 4)) ∷ change (append 0 15) ∷ change (append 1 5) ∷ [])
    ≡ changed (loads_in 0) (changed (loads_in 0) (changed (at (Slab 2 15 4096) 0) (changed (at (Slab 1 5 4176) 4) done)))
unfolding refuse_if and_then divided shortest uleb_len last_from stream_len_from first_class class_for class_with_slack take_mark take_slab past_slabs
    take_fresh take_from head_of freed_place stays larger moves_to loads_to moved written longer append_place load_into load_place out_of_shape on_key
    list_bad beyond_desks allowed permitted lacks_with sum_to offered_number offered_list loads appends reads drops asks does book_after answered
    answers_to in_aRow
loaded_spare = refl

-- A tight load's class is by bytes: 15 numbers of a byte each need 17, and four of 9 bytes each need 38.
pub loaded_by_bytes : answers (fresh_alone 8192 3)
    (change (load Tight 0 (in_aRow 1 15)) ∷ change (load Tight 1 (2 ^ 56 ∷ 2 ^ 57 ∷ 2 ^ 58 ∷ 2 ^ 59 ∷ [])) ∷ change (append 2 5) ∷
    change (append 2 6) ∷ [])
    ≡ changed (loads_in 0) (changed (loads_in 0) (changed (at (Inline 5 1) 0) (changed (at (Slab 0 2 4192) 1) done)))
unfolding refuse_if and_then divided shortest uleb_len last_from stream_len_from first_class class_for class_with_slack take_mark take_slab past_slabs
    take_fresh take_from head_of freed_place stays larger moves_to loads_to moved written longer append_place load_into load_place out_of_shape on_key
    list_bad beyond_desks allowed permitted lacks_with sum_to offered_number offered_list loads appends reads drops asks does book_after answered
    answers_to in_aRow
loaded_by_bytes = refl

-- A list of 4,073 goes to a run of two pages, behind the mark rounded up; the body is full then, but the gap before the run was carved.
pub loaded_run : answers (fresh_alone 16384 3) (change (append 0 1) ∷ change (append 0 2) ∷ change (load Spare 1 (in_aRow 1 4073)) ∷
    change (append 1 4074) ∷ change (load Spare 2 (in_aRow 1 300)) ∷ change (load Spare 2 (in_aRow 1 256)) ∷ [])
    ≡ changed (at (Inline 1 1) 0)
    (changed (at (Slab 0 2 4096) 1)
    (changed (loads_in 2) (changed (at (Extent 12288) 0) (changed (refused 36) (changed (loads_in 0) done)))))
unfolding refuse_if and_then divided shortest uleb_len last_from stream_len_from first_class class_for class_with_slack fitting first_part
    greedy_parts replace_last largest_up_to block_then carve freed_all take_mark take_slab past_slabs rounded run_at_mark take_found is_in stretch lesser
    least_of left_of take_fresh take_from last_page
    head_of freed_pages freed_place stays larger moves_to loads_to moved joins begin_page append_pages written longer append_place run_pages
    load_into load_place out_of_shape on_key list_bad beyond_desks allowed permitted lacks_with sum_to offered_number offered_list loads appends
    reads drops asks does book_after answered answers_to in_aRow
loaded_run = refl

-- A page of 4,072 bytes is full, so that the next number begins another. A drop frees the first page first, so that the last one is taken
-- again, here by a list that moves out of its slab.
pub full_page : answers (fresh_alone 16384 2) (change (load Spare 0 (in_aRow 1 4072)) ∷ change (append 0 4073) ∷ ask (read 0 4073) ∷
    change (drop 0) ∷ change (load Spare 1 (in_aRow 1 256)) ∷ change (append 1 257) ∷ [])
    ≡ changed (loads_in 1)
    (changed (at (Extent 8192) 0)
    (asked (accepted (listing (in_aRow 1 4073) 2 0))
    (changed (accepted (dropped_of 4073)) (changed (loads_in 0) (changed (at (Extent 8192) 256) done)))))
unfolding refuse_if and_then divided shortest uleb_len last_from stream_len_from first_class class_for class_with_slack fitting first_part
    greedy_parts replace_last largest_up_to block_then carve freed_all take_mark take_slab past_slabs rounded run_at_mark take_found is_in stretch lesser
    least_of left_of take_fresh take_from last_page
    head_of padded_pages freed_pages freed_place stays larger moves_to loads_to moved joins begin_page append_pages written longer append_place
    run_pages load_into load_place out_of_shape on_key list_bad beyond_desks allowed permitted lacks_with sum_to offered_number offered_list loads
    appends reads drops asks does book_after answered answers_to in_aRow
full_page = refl

-- Pages 1 to 6 are of a key each; of these 1, 2, 3 and 5, 6 are freed, and page 7 was never taken. A load of two pages takes 1 and 2, the
-- lowest, and not 5 and 6, which are just two; the next takes 5 and 6, and a third is refused. A list that moves takes 3.
pub freed_run : answers (fresh_alone 32768 7)
    (change (load Spare 0 (in_aRow 1 257)) ∷ change (load Spare 1 (in_aRow 1 257)) ∷ change (load Spare 2 (in_aRow 1 257))
    ∷ change (load Spare 3 (in_aRow 1 257)) ∷ change (load Spare 4 (in_aRow 1 257)) ∷ change (load Spare 5 (in_aRow 1 257))
    ∷ change (drop 1) ∷ change (drop 4) ∷ change (drop 0) ∷ change (drop 5) ∷ change (drop 2)
    ∷ change (load Spare 0 (in_aRow 1 4073)) ∷ change (append 0 4074) ∷ change (load Spare 1 (in_aRow 1 4073)) ∷ change (append 1 4074)
    ∷ change (load Spare 2 (in_aRow 1 4073)) ∷ change (load Tight 2 (in_aRow 1 256)) ∷ change (append 2 257) ∷ [])
    ≡ changed (loads_in 1) (changed (loads_in 1) (changed (loads_in 1) (changed (loads_in 1) (changed (loads_in 1) (changed (loads_in 1)
    (changed (accepted (dropped_of 257)) (changed (accepted (dropped_of 257)) (changed (accepted (dropped_of 257))
    (changed (accepted (dropped_of 257)) (changed (accepted (dropped_of 257)) (changed (loads_in 2) (changed (at (Extent 8192) 0)
    (changed (loads_in 2) (changed (at (Extent 24576) 0) (changed (refused 36) (changed (loads_in 0)
    (changed (at (Extent 12288) 256) done)))))))))))))))))
unfolding refuse_if and_then divided shortest uleb_len last_from stream_len_from first_class class_for class_with_slack fitting first_part
    greedy_parts replace_last largest_up_to block_then carve freed_all take_mark take_slab past_slabs rounded run_at_mark take_found is_in stretch lesser
    least_of left_of take_fresh take_from last_page head_of freed_pages freed_place stays larger moves_to loads_to moved joins begin_page append_pages
    written longer append_place run_pages load_into load_place out_of_shape on_key list_bad beyond_desks allowed permitted lacks_with sum_to
    offered_number offered_list loads appends reads drops asks does book_after answered answers_to in_aRow
freed_run = refl

-- Page 2 is freed, and page 3 lies behind the mark: they are side by side, but no run for a load of two pages. A load of one takes page 2.
pub freed_not_joined : answers (fresh_alone 16384 3)
    (change (load Spare 0 (in_aRow 1 257)) ∷ change (load Spare 1 (in_aRow 1 257)) ∷ change (drop 1) ∷ change (load Spare 1 (in_aRow 1 4073))
    ∷ change (load Spare 2 (in_aRow 1 257)) ∷ change (append 2 258) ∷ [])
    ≡ changed (loads_in 1) (changed (loads_in 1) (changed (accepted (dropped_of 257)) (changed (refused 36) (changed (loads_in 1)
    (changed (at (Extent 8192) 0) done)))))
unfolding refuse_if and_then divided shortest uleb_len last_from stream_len_from first_class class_for class_with_slack fitting first_part
    greedy_parts replace_last largest_up_to block_then carve freed_all take_mark take_slab past_slabs rounded run_at_mark take_found is_in stretch lesser
    least_of left_of take_fresh take_from last_page head_of freed_pages freed_place stays larger moves_to loads_to moved joins begin_page append_pages
    written longer append_place run_pages load_into load_place out_of_shape on_key list_bad beyond_desks allowed permitted lacks_with sum_to
    offered_number offered_list loads appends reads drops asks does book_after answered answers_to in_aRow
freed_not_joined = refl

-- k numbers from n on, each larger by a step than the one before, appended to key 0.
unfoldable pub append_steps : ℕ → ℕ → ℕ → List Call
append_steps n step zero = []
append_steps n step (suc k) = change (append 0 n) ∷ append_steps (n + step) step k

-- The tally of key 0 after some calls on a fresh book with one key.
unfoldable pub tally_after : List Call → Tally
tally_after cs = tally_of 0 (answers (fresh_alone 65536 1) cs) no_moves

-- The ceiling of 765 records is reached: 6 numbers that are loaded tight move at 7, 9, 17, 33, 65 and 129 for their slots, at 256 for their
-- bytes, and at 257 to a page.
pub records_reached : tally_after (change (load Tight 0 (in_aRow 1 6)) ∷ (append_steps 7 1 122 ++ append_steps (128 + 2 ^ 42) (2 ^ 42) 129))
    ≡ record { moves = 8; rewritten = 765 }
unfolding refuse_if and_then divided shortest uleb_len last_from stream_len_from first_class class_for class_with_slack fitting first_part
    greedy_parts replace_last largest_up_to block_then carve freed_all take_mark take_slab past_slabs rounded run_at_mark take_found is_in stretch lesser
    least_of left_of take_fresh take_from last_page
    head_of freed_pages freed_place stays larger moves_to loads_to moved joins begin_page append_pages written longer append_place run_pages
    load_into load_place out_of_shape on_key list_bad beyond_desks allowed permitted lacks_with sum_to offered_number offered_list loads appends
    reads drops asks does book_after answered answers_to in_aRow append_steps with_move tallied_by tallied tally_of tally_after
records_reached = refl

-- The ceiling of 9 moves is reached: 1 to 146 are appended, and 111 more in steps of 2^50.
pub moves_reached : tally_after (append_steps 1 1 146 ++ append_steps (146 + 2 ^ 50) (2 ^ 50) 111) ≡ record { moves = 9; rewritten = 764 }
unfolding refuse_if and_then divided shortest uleb_len last_from stream_len_from first_class class_for class_with_slack fitting first_part
    greedy_parts replace_last largest_up_to block_then carve freed_all take_mark take_slab past_slabs rounded run_at_mark take_found is_in stretch lesser
    least_of left_of take_fresh take_from last_page
    head_of freed_pages freed_place stays larger moves_to loads_to moved joins begin_page append_pages written longer append_place run_pages
    load_into load_place out_of_shape on_key list_bad beyond_desks allowed permitted lacks_with sum_to offered_number offered_list loads appends
    reads drops asks does book_after answered answers_to in_aRow append_steps with_move tallied_by tallied tally_of tally_after
moves_reached = refl

-- Behind a load with a spare slot no more than 8 moves and 763 records were found: 1 and 2 are loaded, and appends go on as above.
pub spare_reached : tally_after (change (load Spare 0 (in_aRow 1 2)) ∷ (append_steps 3 1 144 ++ append_steps (146 + 2 ^ 50) (2 ^ 50) 111))
    ≡ record { moves = 8; rewritten = 763 }
unfolding refuse_if and_then divided shortest uleb_len last_from stream_len_from first_class class_for class_with_slack fitting first_part
    greedy_parts replace_last largest_up_to block_then carve freed_all take_mark take_slab past_slabs rounded run_at_mark take_found is_in stretch lesser
    least_of left_of take_fresh take_from last_page
    head_of freed_pages freed_place stays larger moves_to loads_to moved joins begin_page append_pages written longer append_place run_pages
    load_into load_place out_of_shape on_key list_bad beyond_desks allowed permitted lacks_with sum_to offered_number offered_list loads appends
    reads drops asks does book_after answered answers_to in_aRow append_steps with_move tallied_by tallied tally_of tally_after
spare_reached = refl

-- A list found in padded forms, 13 bytes in a slab of 16: a third number fits, and a fourth moves it, where shortest forms would let it
-- stay; its class is by shortest forms. A read tells two padded numbers before the move, and none after it.
pub padded :
    let found : Key = key_in (5 ∷ 6 ∷ []) (slab 0 4096 (kept_as (5 ∷ 6 ∷ []) 13 2)) true in
    answers (record {
      size = 8192;
      keys = found ∷ [];
      space = record { mark = 4112; stacks = replicate 9 [] };
      desks = 0 ∷ [];
      held = replicate 16 0;
      limits = unlimited;
    })
    (change (append 0 7) ∷ ask (read 0 4) ∷ change (append 0 8) ∷ ask (read 0 4) ∷ [])
    ≡ changed (at (Slab 0 3 4096) 0)
    (asked (accepted (listing (5 ∷ 6 ∷ 7 ∷ []) 0 2))
    (changed (at (Slab 1 4 4112) 3) (asked (accepted (listing (5 ∷ 6 ∷ 7 ∷ 8 ∷ []) 0 0)) done)))
unfolding refuse_if and_then divided shortest uleb_len last_from stream_len_from first_class class_for class_with_slack take_mark take_slab past_slabs
    take_fresh take_from head_of freed_place stays larger moves_to moved written longer append_place out_of_shape on_key list_bad beyond_desks
    allowed permitted lacks_with sum_to offered_number appends reads asks does book_after answered answers_to
padded = refl

-- ---- desks

-- Limits of two desks: what the first keeps, and may hold; what the second keeps.
abbrev pub two_desks : ℕ → ℕ → ℕ → Limits
two_desks kept most other = record { reserve = kept ∷ other ∷ replicate 14 0; ceiling = most ∷ replicate 15 (2 ^ 64 - 1) }

-- What a making is turned back for: the shape, a reserve above the body's pages, a list that names no desk for each key, reserves above the
-- pages to be had, a reserve above its ceiling.
pub makings : (makes (0 ∷ []) 4096 1 unlimited ≡ refused 1) × (makes (0 ∷ []) 8192 1 (two_desks 3 3 0) ≡ refused 1)
    × (makes (0 ∷ []) 8192 2 unlimited ≡ refused 39) × (makes (16 ∷ []) 8192 1 unlimited ≡ refused 39)
    × (makes (0 ∷ []) 8192 1 (two_desks 2 2 0) ≡ refused 39) × (makes (0 ∷ []) 12288 1 (two_desks 1 1 2) ≡ refused 39)
    × (makes (0 ∷ []) 8192 1 (two_desks 1 0 0) ≡ refused 39)
    × (makes (15 ∷ []) 8192 1 (two_desks 1 1 0) ≡ accepted (fresh (15 ∷ []) 8192 1 (two_desks 1 1 0)))
unfolding refuse_if makes making out_of_shape above sum_to reserve_high list_bad beyond_desks
makings = (refl, refl, refl, refl, refl, refl, refl, refl)

-- Four pages, three to be had; the first desk may hold two, and one is kept for the second. The first can't take a third page, a slab would
-- begin the page that is kept, and be it the second desk's own, and a load of the second gets it. A page that is given back is taken again.
pub desks_share : answers (fresh (0 ∷ 0 ∷ 1 ∷ 1 ∷ []) 16384 4 (two_desks 0 2 1))
    (change (load Spare 0 (in_aRow 1 4072)) ∷ change (load Spare 1 (in_aRow 1 300)) ∷ change (append 0 4073) ∷ change (append 2 1)
    ∷ change (append 2 2) ∷ change (load Spare 3 (in_aRow 1 300)) ∷ change (append 2 2) ∷ change (drop 1) ∷ change (append 0 4073) ∷ [])
    ≡ changed (loads_in 1) (changed (loads_in 1) (changed (refused 40) (changed (at (Inline 1 1) 0) (changed (refused 41)
    (changed (loads_in 1) (changed (refused 36) (changed (accepted (dropped_of 300)) (changed (at (Extent 8192) 0) done))))))))
unfolding refuse_if and_then divided shortest uleb_len last_from stream_len_from first_class class_for class_with_slack fitting first_part
    greedy_parts replace_last largest_up_to block_then carve freed_all take_mark take_slab past_slabs rounded run_at_mark take_found is_in stretch lesser
    least_of left_of take_fresh take_from last_page
    head_of freed_pages freed_place stays larger moves_to loads_to moved joins begin_page append_pages written longer append_place run_pages
    load_into load_place out_of_shape on_key list_bad beyond_desks allowed permitted lacks_with sum_to offered_number offered_list loads appends
    drops does book_after answered answers_to in_aRow
desks_share = refl
