-- Small histories on a book over bytes, with the run case (FORMAT, Worked examples): each answer is computed. Assumes nothing.
use Prim.Native.Nat.{ℕ, zero, suc, ◌+◌, ◌*◌, ◌^◌}
use mathlib.Core.List.{List, [], ◌∷◌, ◌++◌}
use mathlib.Core.Path.{◌≡◌, refl}
use lib.ListN.{length, replicate}
use Rattle.scripthash_layout.specs.declared.head.ShHeadValue.{ShHeadValue}
use Rattle.scripthash_layout.specs.declared.head.ShHeadValue.TheVariants.{Inline, Slab, Extent}
use Rattle.error.specs.Refusal.{Answer, accepted, refused, refuse_if, and_then, answered}
use Rattle.buffer.specs.Bytes.{part, overwrite}
use Rattle.buffer.specs.LittleEndian.{bytes_of}
use Rattle.compact.specs.Uleb128.{is_form, value, form_at, overflows, read_form, read_uleb, divided, uleb_len, shortest, padded as is_padded}
use Rattle.scripthash_layout.specs.Head.{slab_word, pack_head, unpack_head}
use Rattle.scripthash_stream.specs.Stream.{last_from, stream_from, stream_len_from, stored_number, next_number, scan_from, padded_in, decode_stream}
use Rattle.scripthash_slabs.specs.Class.{first_class, class_for, class_with_slack}
use Rattle.scripthash_slabs.specs.Slab.{slab_payload, slab_padded, decode_slab}
use Rattle.scripthash_cutting.specs.Cutting.{fitting, first_part, greedy_parts, replace_last}
use Rattle.scripthash_fields.specs.Page.{field, set_field, creates_field_of, next_off, delta_header, extent_header, page_of}
use Rattle.scripthash_pages.specs.Entries.{stream_place, page_scan, page_padded, spot_behind, one_more, with_appended}
use Rattle.scripthash_free.specs.FreeList.{is_block, pushed, pop_free, largest_up_to, block_then, carve, push_all}
use Rattle.book_rules.specs.declared.places.SlabFit.TheVariants.{Spare, Tight}
use Rattle.book_rules.specs.Outcomes.{Loaded, Appended, Listed, book_after, appended_to, dropped_of, listing, loaded_in}
use Rattle.book_statements.specs.Calls.{load, append, read, drop, Call, ask, change, Serves, Answers, done, asked, changed, answers_to}
use Rattle.book_statements.specs.Calls.{after_calls}
use Rattle.book_rules.specs.Offered.{offered_number, offered_list}
use Rattle.free_runs.specs.Runs.{is_in, stretch, lesser, least_of, left_of}
use Rattle.free_runs.specs.PageList.{walked, pages_end, run_sought, relinked}
use Rattle.book_limits.specs.Limits.{out_of_shape, pop_end}
use Rattle.book_rules.specs.Places.{stays, larger, moves_to, loads_to}
use Rattle.book_desks.specs.Desks.{beyond_desks, list_bad, sum_to, lacks_with, above, permitted}
use Rattle.book_desks.specs.Counts.{listed, held_in, limits_in, fresh_counts, counts_high, counted}
use Rattle.plain_book.specs.Book.{unlimited}
use Rattle.book_space.specs.Space.{mark_bad, shape_broken, take_mark, take_slab, rounded, take_fresh, take_popped, take_block, release}
use Rattle.book_space.specs.Space.{run_at_mark, take_found}
use Rattle.book_space.specs.Desks.{judged_take, slab_for, freed_untrue, page_for, run_found, run_for, given_back}
use Rattle.book_keys.specs.Keys.{soundly, sure, go_on, slab_scan, link_scan, good_extent, last_at, page_then, walk, total_good, chain_at}
use Rattle.book_keys.specs.Keys.{page_blocks}
use Rattle.book_keys.specs.Keys.{content_at, content, tail_at}
use Rattle.book.specs.Book.{Book, book, fresh, head_word, on_key, by_desk, with_desks}
use Rattle.book_blocks.specs.Blocks.{slab_with, last_page_of, total_with, page_with, page_before, write_run}
use Rattle.book_append.specs.Appends.{moves_into, moves, append_slab, grow_chain, append_page, append_at, appends}
use Rattle.book_load.specs.Loads.{load_into, load_at, loads}
use Rattle.book_read.specs.Reads.{reads}
use Rattle.book_drop.specs.Drops.{dropped, drops}
use Rattle.book_history.specs.Calls.{asks, serves, after, does}

-- The answers to some calls of a book that does so with each, so that they can be computed.
unfoldable pub computed : Serves Book → Book → (cs : List Call) → Answers cs
unfolding refuse_if and_then answered part overwrite is_form value form_at overflows read_form read_uleb divided uleb_len shortest is_padded
    pack_head
    unpack_head last_from stream_from stream_len_from stored_number next_number scan_from padded_in decode_stream first_class class_for class_with_slack
    slab_payload
    decode_slab fitting first_part greedy_parts replace_last field set_field next_off delta_header extent_header page_of slab_padded stream_place
    page_scan page_padded
    spot_behind one_more with_appended is_block pushed pop_free largest_up_to block_then carve push_all book_after answers_to out_of_shape offered_number
    offered_list stays larger moves_to loads_to mark_bad shape_broken take_mark take_slab pop_end rounded run_at_mark take_fresh take_popped take_block
    release soundly
    sure
    go_on slab_scan link_scan good_extent last_at page_then walk total_good chain_at page_blocks content_at content tail_at head_word on_key
    moves_into moves slab_with append_slab total_with page_with page_before grow_chain append_page append_at appends write_run load_into load_at loads
    reads dropped drops asks does beyond_desks list_bad sum_to lacks_with above permitted listed held_in limits_in fresh_counts counts_high
    judged_take slab_for
    freed_untrue page_for run_for run_found take_found run_sought walked pages_end is_in stretch lesser least_of left_of relinked
    given_back by_desk with_desks
computed k b cs = answers_to k b cs

-- Those of our book, where all keys are of one desk.
abbrev pub runs : Book → (cs : List Call) → Answers cs
runs b cs = computed (serves (replicate (length b.heads) 0)) b cs

-- A fresh book of one desk without limits.
abbrev pub alone : List ℕ → ℕ → Book
alone body heads = fresh body heads unlimited

-- The counts of such a desk that holds so many pages.
abbrev holding : ℕ → List ℕ
holding pages = counted 0 0 pages (fresh_counts unlimited)

-- An append that is accepted: the key's new place, and the records rewritten.
abbrev at : ShHeadValue → ℕ → Answer Appended
at place rewritten = accepted (appended_to place rewritten)

-- A load of so many pages.
abbrev loads_in : ℕ → Answer Loaded
loads_in pages = accepted (loaded_in pages)

-- A read that is accepted.
abbrev lists_as : List ℕ → ℕ → ℕ → Answer Listed
lists_as ns pages padded = accepted (listing ns pages padded)

-- k numbers in a row, from n on.
unfoldable pub in_aRow : ℕ → ℕ → List ℕ
in_aRow n zero = []
in_aRow n (suc k) = n ∷ in_aRow (n + 1) k

-- A body of so many bytes, none of them 0.
abbrev pub body_of : ℕ → List ℕ
body_of size = replicate size 165

-- 5, 300, 301, 302, 303 to key 0 move at 300 and at 303; 9, 10 to key 1 take the block that was freed.
pub run_case : runs (alone (body_of 8192) 2)
    (change (append 0 5) ∷ change (append 0 300) ∷ change (append 0 301) ∷ change (append 0 302) ∷ change (append 0 303) ∷
    change (append 1 9) ∷ change (append 1 10) ∷ ask (read 0 5) ∷ ask (read 1 2) ∷ [])
    ≡ changed (at (Inline 5 1) 0)
    (changed (at (Slab 0 2 4096) 1)
    (changed (at (Slab 0 3 4096) 0)
    (changed (at (Slab 0 4 4096) 0)
    (changed (at (Slab 1 5 4112) 4)
    (changed (at (Inline 9 1) 0)
    (changed (at (Slab 0 2 4096) 1)
    (asked (lists_as (5 ∷ 300 ∷ 301 ∷ 302 ∷ 303 ∷ []) 0 0) (asked (lists_as (9 ∷ 10 ∷ []) 0 0) done))))))))
unfolding computed
run_case = refl

-- What is turned back.
pub turned_back : (runs (alone (body_of 4096) 1) (ask (read 0 0) ∷ [])
    ≡ asked (refused 1) done)
    × (runs (alone (body_of 8192) 1) (change (append 1 5) ∷ change (append 0 0) ∷ change (append 0 (2 ^ 63)) ∷ change (append 0 (2 ^ 62)) ∷
    change (append 0 5) ∷ change (append 0 5) ∷ change (load Spare 0 []) ∷ ask (read 0 0) ∷ change (drop 0) ∷ ask (read 0 0) ∷ [])
    ≡ changed (refused 2)
    (changed (refused 12)
    (changed (refused 13)
    (changed (refused 14)
    (changed (at (Inline 5 1) 0)
    (changed (refused 32)
    (changed (refused 3) (asked (refused 34) (changed (accepted (dropped_of 1)) (asked (lists_as [] 0 0) done))))))))))
unfolding computed
turned_back = (refl, refl)

-- A page of 4,072 bytes is full, so that the next number begins another. A drop frees the first page first, so that the last one is taken
-- again, here by a list that moves out of its slab.
pub full_page : runs (alone (body_of 16384) 2) (change (load Spare 0 (in_aRow 1 4072)) ∷ change (append 0 4073) ∷ change (append 0 4074) ∷
    ask (read 0 4074) ∷ change (drop 0) ∷ change (load Spare 1 (in_aRow 1 256)) ∷ change (append 1 257) ∷ ask (read 1 257) ∷ [])
    ≡ changed (loads_in 1)
    (changed (at (Extent 8192) 0)
    (changed (at (Extent 8192) 0)
    (asked (lists_as (in_aRow 1 4074) 2 0)
    (changed (accepted (dropped_of 4074))
    (changed (loads_in 0) (changed (at (Extent 8192) 256) (asked (lists_as (in_aRow 1 257) 1 0) done)))))))
unfolding computed in_aRow
full_page = refl

-- A list of 4,073 goes to a run of two pages, behind the mark rounded up; the body is full then, but the gap before the run was carved.
pub loaded_run : runs (alone (body_of 16384) 3)
    (change (append 0 1) ∷ change (append 0 2) ∷ change (load Spare 1 (in_aRow 1 4073)) ∷ change (append 1 4074) ∷
    change (load Spare 2 (in_aRow 1 300)) ∷ change (load Spare 2 (in_aRow 1 256)) ∷ ask (read 1 4074) ∷ [])
    ≡ changed (at (Inline 1 1) 0)
    (changed (at (Slab 0 2 4096) 1)
    (changed (loads_in 2)
    (changed (at (Extent 12288) 0) (changed (refused 36) (changed (loads_in 0) (asked (lists_as (in_aRow 1 4074) 2 0) done))))))
unfolding computed in_aRow
loaded_run = refl

-- What damage gets: a slab whose stored count isn't its head's is no sound key, a free head that no block can have isn't popped, and there
-- is no room behind a mark at the body's end. A number is judged before the key, and the key before its last number.
pub damaged : (runs (book (body_of 8192) (slab_word 0 2 4096 ∷ []) 4112 (replicate 9 0) (holding 0))
    (ask (read 0 5) ∷ change (append 0 9) ∷ change (drop 0) ∷ change (append 0 0) ∷ change (load Spare 0 []) ∷ [])
    ≡ asked (refused 31) (changed (refused 31) (changed (refused 31) (changed (refused 12) (changed (refused 3) done)))))
    × (runs (book (body_of 8192) (5 ∷ []) 4112 (4104 ∷ replicate 8 0) (holding 0)) (change (append 0 6) ∷ change (append 0 5) ∷ [])
    ≡ changed (refused 35) (changed (refused 32) done))
    × (runs (book (body_of 8192) (5 ∷ []) 8192 (replicate 9 0) (holding 0)) (change (append 0 6) ∷ ask (read 0 1) ∷ [])
    ≡ changed (refused 36) (asked (lists_as (5 ∷ []) 0 0) done))
    × (runs (book (body_of 8192) (5 ∷ []) 8200 (replicate 9 0) (holding 0)) (ask (read 0 1) ∷ [])
    ≡ asked (refused 1) done)
unfolding computed
damaged = (refl, refl, refl, refl)

-- A book of one key and two pages, the second of which is the first freed one; so many are freed by the counts, and it names an offset.
abbrev naming_freed : ℕ → ℕ → Book
naming_freed next freed =
    book (overwrite (body_of 12288) 4096 (bytes_of 8 next)) (0 ∷ []) 8192 (replicate 8 0 ++ (4096 ∷ []))
    (counted freed 0 0 (fresh_counts unlimited))

-- A load of a page takes it where it is the only one. Where the list doesn't end after as many pages as are freed by the counts, or names
-- what is no page below the mark, the load is refused with 42.
pub strayed : (runs (naming_freed 0 1) (change (load Spare 0 (in_aRow 1 257)) ∷ change (append 0 258) ∷ [])
    ≡ changed (loads_in 1) (changed (at (Extent 4096) 0) done))
    × (runs (naming_freed 0 0) (change (load Spare 0 (in_aRow 1 257)) ∷ []) ≡ changed (refused 42) done)
    × (runs (naming_freed 0 2) (change (load Spare 0 (in_aRow 1 257)) ∷ []) ≡ changed (refused 42) done)
    × (runs (naming_freed 8192 2) (change (load Spare 0 (in_aRow 1 257)) ∷ []) ≡ changed (refused 42) done)
    × (runs (naming_freed 4096 2) (change (load Spare 0 (in_aRow 1 257)) ∷ []) ≡ changed (refused 42) done)
unfolding computed in_aRow
strayed = (refl, refl, refl, refl, refl)

-- Pages 1 to 6 are of a key each, and five are freed, so that the list of freed pages is 4, 5, 1, 3, 6 from the top.
abbrev pub freed_five : List Call
freed_five =
    change (load Spare 0 (in_aRow 1 257)) ∷ change (load Spare 1 (in_aRow 1 257)) ∷ change (load Spare 2 (in_aRow 1 257))
    ∷ change (load Spare 3 (in_aRow 1 257)) ∷ change (load Spare 4 (in_aRow 1 257)) ∷ change (load Spare 5 (in_aRow 1 257)) ∷ change (drop 5)
    ∷ change (drop 2) ∷ change (drop 0) ∷ change (drop 4) ∷ change (drop 3) ∷ []

-- A load of two pages then takes 3 and 4, the lowest two side by side; a list that moves takes 5, the first of those left, and a load of
-- one page takes 1, the lowest.
pub freed_run : runs (alone (body_of 32768) 6)
    (freed_five ++ (change (load Spare 0 (in_aRow 1 4073)) ∷ change (append 0 4074) ∷ change (load Tight 2 (in_aRow 1 256))
    ∷ change (append 2 257) ∷ change (load Spare 3 (in_aRow 1 257)) ∷ change (append 3 258) ∷ ask (read 1 257) ∷ []))
    ≡ changed (loads_in 1) (changed (loads_in 1) (changed (loads_in 1) (changed (loads_in 1) (changed (loads_in 1) (changed (loads_in 1)
    (changed (accepted (dropped_of 257)) (changed (accepted (dropped_of 257)) (changed (accepted (dropped_of 257))
    (changed (accepted (dropped_of 257)) (changed (accepted (dropped_of 257)) (changed (loads_in 2) (changed (at (Extent 16384) 0)
    (changed (loads_in 0) (changed (at (Extent 20480) 256) (changed (loads_in 1) (changed (at (Extent 4096) 0)
    (asked (lists_as (in_aRow 1 257) 1 0) done)))))))))))))))))
unfolding computed in_aRow
freed_run = refl

-- A body whose second page is a key's last, with a total, and that key's head word.
abbrev pub page_book : ℕ → List ℕ → Book
page_book creates ns =
    book (overwrite (body_of 8192) 4096 (last_page_of 4096 4096 1 creates ns)) ((3 * 2 ^ 62 + 4096) ∷ []) 8192 (replicate 9 0) (holding 1)

-- The total that it tells after some calls.
unfoldable pub total_after : Book → List Call → ℕ
unfolding computed after_calls
total_after b cs = creates_field_of (part (after (0 ∷ []) b cs).space.body 4096 4096)

-- A total of 0 says that it was never counted: such a key is read, appended to, which leaves it 0, and dropped. One that is the length
-- counts on, and another is no sound key's for a read or a drop, while an append looks at the last page only.
pub never_counted :
    (runs (page_book 0 (5 ∷ 9 ∷ [])) (ask (read 0 2) ∷ change (append 0 300) ∷ ask (read 0 3) ∷ change (drop 0) ∷ [])
    ≡ asked (lists_as (5 ∷ 9 ∷ []) 1 0)
    (changed (at (Extent 4096) 0) (asked (lists_as (5 ∷ 9 ∷ 300 ∷ []) 1 0) (changed (accepted (dropped_of 3)) done))))
    × (total_after (page_book 0 (5 ∷ 9 ∷ [])) (change (append 0 300) ∷ []) ≡ 0)
    × (total_after (page_book 2 (5 ∷ 9 ∷ [])) (change (append 0 300) ∷ []) ≡ 3)
    × (runs (page_book 1 (5 ∷ 9 ∷ [])) (ask (read 0 2) ∷ change (drop 0) ∷ change (append 0 300) ∷ [])
    ≡ asked (refused 31) (changed (refused 31) (changed (at (Extent 4096) 0) done)))
unfolding computed total_after
never_counted = (refl, refl, refl, refl)

-- Two numbers in padded forms, 13 bytes in a slab of 16: a third fits, and a fourth moves the list, which shortest forms would leave there;
-- its class is by shortest forms. Reads tell two padded numbers until then, and none afterwards.
pub padded :
    let slab : List ℕ = 2 ∷ 0 ∷ 133 ∷ 128 ∷ 128 ∷ 128 ∷ 128 ∷ 128 ∷ 0 ∷ 129 ∷ 128 ∷ 128 ∷ 128 ∷ 128 ∷ 0 ∷ [] in
    runs (book (overwrite (body_of 8192) 4096 slab) (slab_word 0 2 4096 ∷ []) 4112 (replicate 9 0) (holding 0)) (ask (read 0 4) ∷
    change (append 0 7) ∷ ask (read 0 4) ∷ change (append 0 8) ∷ ask (read 0 4) ∷ [])
    ≡ asked (lists_as (5 ∷ 6 ∷ []) 0 2)
    (changed (at (Slab 0 3 4096) 0)
    (asked (lists_as (5 ∷ 6 ∷ 7 ∷ []) 0 2) (changed (at (Slab 1 4 4112) 3) (asked (lists_as (5 ∷ 6 ∷ 7 ∷ 8 ∷ []) 0 0) done))))
unfolding computed
padded = refl

-- ---- desks

-- A slab for key 2, two loads of a page onto keys 0 and 1, and a number more for which the slab is too small.
abbrev calls_of_two : List Call
calls_of_two =
    change (load Spare 2 (in_aRow 1 256)) ∷ change (load Spare 0 (in_aRow 1 300)) ∷ change (load Spare 1 (in_aRow 1 300)) ∷
    change (append 2 257)
    ∷ []

-- What they answer over four pages, where keys 0 and 1 are of desk 0 with a ceiling, and key 2 of desk 1, for which a page is kept.
abbrev kept_for1 : ℕ → Answers calls_of_two
kept_for1 most =
    computed (serves (0 ∷ 0 ∷ 1 ∷ []))
    (fresh (body_of 16384) 3 (record { reserve = 0 ∷ 1 ∷ replicate 14 0; ceiling = most ∷ replicate 15 1 }))
    calls_of_two

-- The page kept for desk 1 isn't taken by desk 0: 41, or 40 where its ceiling is met.
pub kept_page : (kept_for1 9 ≡ changed (loads_in 0) (changed (loads_in 1) (changed (refused 41) (changed (at (Extent 12288) 256) done))))
    × (kept_for1 1 ≡ changed (loads_in 0) (changed (loads_in 1) (changed (refused 40) (changed (at (Extent 12288) 256) done))))
unfolding computed in_aRow
kept_page = (refl, refl)
