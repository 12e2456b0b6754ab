-- Small books that are judged, each verdict computed. Assumes nothing.
use Prim.Native.Nat.{ℕ, ◌^◌, ◌-◌}
use mathlib.Core.List.{List, [], ◌∷◌, ◌++◌}
use mathlib.Core.Path.{◌≡◌, refl}
use lib.ListN.{length, replicate}
use Rattle.error.specs.Refusal.{Answer, accepted, refused, refuse_if, refusal_of, and_then}
use Rattle.buffer.specs.Bytes.{part, overwrite}
use Rattle.buffer.specs.LittleEndian.{bytes_of}
use Rattle.compact.specs.Uleb128.{is_form, value, form_at, overflows, read_form, read_uleb, divided, uleb_len, shortest}
use Rattle.scripthash_layout.specs.Head.{slab_word, pack_head, unpack_head}
use Rattle.scripthash_layout.specs.declared.head.ShHeadValue.TheVariants.{Extent}
use Rattle.scripthash_stream.specs.Stream.{last_from, stream_from, stream_len_from, stored_number, next_number, scan_from, decode_stream}
use Rattle.scripthash_slabs.specs.Slab.{slab_payload, decode_slab}
use Rattle.scripthash_fields.specs.Page.{field, next_off, extent_header, page_of}
use Rattle.scripthash_pages.specs.Entries.{stream_place, page_scan}
use Rattle.scripthash_free.specs.FreeList.{is_block}
use Rattle.book_limits.specs.Limits.{out_of_shape}
use Rattle.book_desks.specs.Desks.{sum_to, lacks, above, beyond_desks, list_bad, reserve_high as reserve_above, making}
use Rattle.book_desks.specs.Counts.{listed, held_in, limits_in, fresh_counts, counts_high}
use Rattle.book_space.specs.Space.{mark_bad, shape_broken}
use Rattle.book_keys.specs.Keys.{soundly, sure, go_on, slab_scan, link_scan, good_extent, last_at, page_then}
use Rattle.book_keys.specs.Keys.{walk, total_good, chain_at, page_blocks, content_at}
use Rattle.book_keys.specs.Keys.{content}
use Rattle.book_blocks.specs.Blocks.{last_page_of}
use Rattle.book.specs.Book.{Book, book, fresh, head_word}
use Rattle.book_start.specs.Making.{limits_of, makes_fresh}
use Rattle.book_start.specs.Start.{Verdict, good, key_unsound, key_shares, free_strays, free_shares, counts_exceed, freed_differs}
use Rattle.book_start.specs.Start.{held_differs, held_high, reserve_high, lacks_open, followed, shares, shares_one, claim_all}
use Rattle.book_start.specs.Start.{bytes_taken, claim_content, claim_freed, onward, judge_lists, judge_keys, blocks_verdict, desk_fault}
use Rattle.book_start.specs.Start.{fault_or, judge_desks, counts_verdict, counts_behind, verdict_of, judges}

-- The answer to a book with a list of desks and a work list of 64 bytes, which is enough for a body of 8,192.
unfoldable pub told_by : List ℕ → Book → Answer Verdict
unfolding refuse_if and_then part overwrite is_form value form_at overflows read_form read_uleb divided uleb_len shortest pack_head unpack_head
    last_from stream_from stream_len_from stored_number next_number scan_from decode_stream slab_payload decode_slab field next_off extent_header page_of
    stream_place page_scan is_block out_of_shape mark_bad shape_broken soundly sure go_on slab_scan link_scan good_extent last_at page_then walk
    total_good
    chain_at page_blocks content_at content head_word bytes_taken shares shares_one claim_all claim_content claim_freed onward judge_lists judge_keys
    blocks_verdict sum_to lacks above beyond_desks list_bad listed held_in limits_in counts_high followed desk_fault fault_or judge_desks
    counts_verdict counts_behind verdict_of judges
told_by ds b = judges ds b 64

-- The same where all keys are of desk 0.
abbrev told : Book → Answer Verdict
told b = told_by (replicate (length b.heads) 0) b

-- A body of 8,192 bytes, none of them 0.
abbrev blank : List ℕ
blank = replicate 8192 165

-- A body with a slab of 5 and 300 at 4,096.
abbrev slabbed : List ℕ
slabbed = overwrite blank 4096 (slab_payload (5 ∷ 300 ∷ []))

-- A body with a page of 5 and 300 at 4,096, whose creates tells a total.
abbrev paged : ℕ → List ℕ
paged total = overwrite blank 4096 (last_page_of 4096 4096 1 total (5 ∷ 300 ∷ []))

-- A body whose blocks at 4,096 and 4,112 are freed and name these offsets.
abbrev freed : ℕ → ℕ → List ℕ
freed first second = overwrite (overwrite blank 4096 (bytes_of 8 first)) 4112 (bytes_of 8 second)

-- No freed block.
abbrev none_freed_lem : List ℕ
none_freed_lem = replicate 9 0

-- Numbers of the first two desks, and 0 of the others.
abbrev first : ℕ → ℕ → List ℕ
first a b = a ∷ b ∷ replicate 14 0

-- No ceiling to speak of.
abbrev unbounded : List ℕ
unbounded = replicate 16 (2 ^ 64 - 1)

-- Counts: the freed pages, and the pages held, the reserves and the ceilings of the desks.
abbrev counted : ℕ → List ℕ → List ℕ → List ℕ → List ℕ
counted freed held reserve ceiling = freed ∷ (held ++ (reserve ++ ceiling))

-- One desk without limits, which holds some pages.
abbrev holds : ℕ → List ℕ
holds pages = counted 0 (first pages 0) (first 0 0) unbounded

-- A book of which no page is held or freed.
abbrev plain : List ℕ → List ℕ → ℕ → List ℕ → Book
plain body heads mark free = book body heads mark free (holds 0)

-- A book whose only page is held by its only key, and its counts.
abbrev full : ℕ → List ℕ → Book
full total counts = book (paged total) (head_word (Extent 4096) ∷ []) 8192 none_freed_lem counts

-- A book whose only page is freed, and its counts.
abbrev emptied : List ℕ → Book
emptied counts = book (overwrite blank 4096 (bytes_of 8 0)) (0 ∷ []) 8192 (replicate 8 0 ++ (4096 ∷ [])) counts

-- Good starts: a fresh book, a slab and a freed one with a unit between them that belongs to nobody, two freed slabs, a page, whose total
-- is exact or unknown, and a freed page, which a desk's reserve may promise.
pub good_starts : (told (fresh blank 2 (limits_of (first 0 1) unbounded)) ≡ accepted (good 0))
    × (told (plain (overwrite slabbed 4128 (bytes_of 8 0)) (5 ∷ slab_word 0 2 4096 ∷ 0 ∷ []) 4160 (0 ∷ 4128 ∷ replicate 7 0))
    ≡ accepted (good 1))
    × (told (plain (freed 4112 0) (7 ∷ []) 4128 (4096 ∷ replicate 8 0)) ≡ accepted (good 0))
    × (told (full 2 (holds 1)) ≡ accepted (good 0)) × (told (full 0 (holds 1)) ≡ accepted (good 0))
    × (told (emptied (counted 1 (first 0 0) (first 0 1) unbounded)) ≡ accepted (good 0))
unfolding told_by fresh_counts
good_starts = (refl, refl, refl, refl, refl, refl)

-- Keys: a word that tells no place, a slab with another count, a page whose creates lies, and a slab that two keys hold.
pub bad_keys : (told (plain blank (0 ∷ 2 ^ 63 ∷ []) 4096 none_freed_lem) ≡ accepted (key_unsound 1))
    × (told (plain slabbed (slab_word 0 3 4096 ∷ []) 4112 none_freed_lem) ≡ accepted (key_unsound 0))
    × (told (full 3 (holds 1)) ≡ accepted (key_unsound 0))
    × (told (plain slabbed (slab_word 0 2 4096 ∷ 9 ∷ slab_word 0 2 4096 ∷ []) 4112 none_freed_lem) ≡ accepted (key_shares 2))
unfolding told_by
bad_keys = (refl, refl, refl, refl)

-- Free lists: a head that isn't aligned, one at the mark, a list that names its only block again, one of two blocks that doesn't end, a
-- slab that is held and free, a page that is held and free, and a freed slab within a held page.
pub bad_lists : (told (plain blank (0 ∷ []) 8192 (0 ∷ 0 ∷ 4104 ∷ replicate 6 0)) ≡ accepted (free_strays 2))
    × (told (plain blank (0 ∷ []) 4096 (4096 ∷ replicate 8 0)) ≡ accepted (free_strays 0))
    × (told (plain (freed 4096 0) (0 ∷ []) 4128 (4096 ∷ replicate 8 0)) ≡ accepted (free_shares 0))
    × (told (plain (freed 4112 4096) (0 ∷ []) 4128 (4096 ∷ replicate 8 0)) ≡ accepted (free_shares 0))
    × (told (plain slabbed (slab_word 0 2 4096 ∷ []) 4128 (0 ∷ 4096 ∷ replicate 7 0)) ≡ accepted (free_shares 1))
    × (told (plain (paged 2) (head_word (Extent 4096) ∷ []) 8192 (replicate 8 0 ++ (4096 ∷ []))) ≡ accepted (free_shares 8))
    × (told (plain (paged 2) (head_word (Extent 4096) ∷ []) 8192 (0 ∷ 0 ∷ 0 ∷ 8064 ∷ replicate 5 0)) ≡ accepted (free_shares 3))
unfolding told_by
bad_lists = (refl, refl, refl, refl, refl, refl, refl)

-- Counts: more pages than the body has behind its first, a freed page that is counted but not named, one that is named but not counted, a
-- page that isn't counted, one that is counted for another desk, one above its desk's ceiling, a reserve above its ceiling, and a reserve
-- that no page is left for; a ground that comes first decides.
pub bad_counts : (told (book blank (0 ∷ []) 4096 none_freed_lem (counted 1 (first 0 0) (first 0 0) unbounded)) ≡ accepted counts_exceed)
    × (told (book blank (0 ∷ []) 8192 none_freed_lem (counted 1 (first 0 0) (first 0 0) unbounded)) ≡ accepted freed_differs)
    × (told (emptied (holds 0)) ≡ accepted freed_differs)
    × (told (full 2 (holds 0)) ≡ accepted (held_differs 0))
    × (told_by (1 ∷ []) (full 2 (holds 1)) ≡ accepted (held_differs 0))
    × (told_by (1 ∷ []) (full 2 (counted 0 (first 0 1) (first 0 0) (first 9 0))) ≡ accepted (held_high 1))
    × (told (full 2 (counted 0 (first 1 0) (first 0 1) (first 1 0))) ≡ accepted (reserve_high 1))
    × (told (full 2 (counted 0 (first 1 0) (first 0 1) unbounded)) ≡ accepted lacks_open)
unfolding told_by
bad_counts = (refl, refl, refl, refl, refl, refl, refl, refl)

-- What is turned back: a mark that breaks the limits, a reserve above the body's pages, a list that names no desk for each key or one above
-- 15, and a work list of a byte too little; in this order.
pub turned_back : (told (plain blank (0 ∷ []) 4100 none_freed_lem) ≡ refused 1)
    × (told (book blank (0 ∷ []) 4096 none_freed_lem (counted 0 (first 0 0) (first 3 0) unbounded)) ≡ refused 1)
    × (told_by [] (plain blank (0 ∷ []) 4096 none_freed_lem) ≡ refused 39)
    × (told_by (16 ∷ []) (plain blank (0 ∷ []) 4096 none_freed_lem) ≡ refused 39)
    × (told (plain (replicate 12288 0) (0 ∷ []) 4096 none_freed_lem) ≡ refused 34)
    × (told_by (16 ∷ []) (plain (replicate 12288 0) (0 ∷ []) 4096 none_freed_lem) ≡ refused 39)
    × (told_by (16 ∷ []) (plain (replicate 12288 0) (0 ∷ []) 4100 none_freed_lem) ≡ refused 1)
unfolding told_by
turned_back = (refl, refl, refl, refl, refl, refl, refl)

-- ---- makings

-- What making a book of three pages with one key answers, by its reserves and ceilings: 0 where it is made.
unfoldable pub made : List ℕ → List ℕ → ℕ
unfolding makes_fresh making out_of_shape above list_bad beyond_desks sum_to reserve_above refuse_if
made reserve ceiling = refusal_of (makes_fresh (0 ∷ []) (limits_of reserve ceiling) (plain (replicate 12288 0) (0 ∷ []) 4096 none_freed_lem))

-- Reserves of just the pages to be had, of one more, one above the body's pages, and one above its own ceiling.
pub makings : (made (first 1 1) unbounded ≡ 0) × (made (first 2 1) unbounded ≡ 39) × (made (first 0 4) unbounded ≡ 1)
    × (made (first 0 1) (first 1 0) ≡ 39)
unfolding made
makings = (refl, refl, refl, refl)
