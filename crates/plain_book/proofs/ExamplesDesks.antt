-- Desks at the edge: states of one key, each as small as shows its point, and what a call answers there, 0 where it is accepted. Every
-- answer is computed. Assumes nothing.
use Prim.Native.Nat.{ℕ, ◌^◌, ◌-◌}
use mathlib.Core.Bool.{true}
use mathlib.Core.List.{List, [], ◌∷◌}
use mathlib.Core.Path.{◌≡◌, refl}
use lib.ListN.{replicate}
use Rattle.error.specs.Refusal.{refuse_if, and_then, refusal_of}
use Rattle.compact.specs.Uleb128.{divided, shortest, uleb_len}
use Rattle.scripthash_stream.specs.Stream.{last_from, stream_len_from}
use Rattle.scripthash_slabs.specs.Class.{first_class, class_for, class_with_slack}
use Rattle.scripthash_cutting.specs.Cutting.{replace_last}
use Rattle.scripthash_free.specs.FreeList.{largest_up_to, block_then, carve}
use Rattle.free_runs.specs.Runs.{is_in, stretch, lesser, least_of, left_of}
use Rattle.book_rules.specs.declared.places.SlabFit.{SlabFit}
use Rattle.book_rules.specs.declared.places.SlabFit.TheVariants.{Spare, Tight}
use Rattle.book_rules.specs.Offered.{offered_number, offered_list}
use Rattle.book_rules.specs.Places.{stays, larger, moves_to, loads_to}
use Rattle.book_limits.specs.Limits.{out_of_shape, past_slabs}
use Rattle.book_desks.specs.Desks.{making, Limits, sum_to, above, reserve_high, beyond_desks, list_bad, lacks_with, permitted}
use Rattle.plain_book.specs.Space.{freed_all, take_mark, take_slab, rounded, run_at_mark, take_found, take_fresh, take_from}
use Rattle.plain_book.specs.Key.{Key, empty_key, inline, pages, key_in, kept_as, written, longer, last_page, joins, freed_place}
use Rattle.plain_book.specs.Key.{moved, begin_page, append_pages, append_place, load_into, load_place}
use Rattle.plain_book.specs.Book.{Book, makes, on_key, allowed, loads, appends}

-- ---- states and calls

-- Numbers of the first three desks, and 0 of the others.
abbrev first : ℕ → ℕ → ℕ → List ℕ
first a b c = a ∷ b ∷ c ∷ replicate 13 0

-- Reserves of the first three desks, with no ceilings to speak of, and with one for all.
abbrev kept : ℕ → ℕ → ℕ → Limits
kept a b c = record { reserve = first a b c; ceiling = replicate 16 (2 ^ 64 - 1) }

abbrev kept_under : ℕ → ℕ → Limits
kept_under most b = record { reserve = first 0 b 0; ceiling = replicate 16 most }

-- A key that holds 1.
abbrev one : Key
one = key_in (1 ∷ []) inline true

-- A key of desk 0 whose page at 4,096 is full.
abbrev full : Key
full = key_in (1 ∷ []) (pages (record { off = 4096; room = 4072; part = kept_as (1 ∷ []) 4072 0 } ∷ [])) true

-- A book with one key, of desk 0: so many bytes, the mark, freed slabs of class 0, the limits, and the pages that desks hold.
abbrev book_of : ℕ → Key → ℕ → List ℕ → Limits → List ℕ → Book
book_of size k mark slabs l held =
    record {
      size = size;
      keys = k ∷ [];
      space = record { mark = mark; stacks = slabs ∷ replicate 8 [] };
      desks = 0 ∷ [];
      held = held;
      limits = l;
    }

-- What a making of a book with one key answers, by its length and limits.
pub made : ℕ → Limits → ℕ
unfolding makes making out_of_shape above sum_to list_bad beyond_desks reserve_high refuse_if
made size l = refusal_of (makes (0 ∷ []) size 1 l)

-- What an append to the key answers.
pub appended : Book → ℕ → ℕ
unfolding appends on_key out_of_shape list_bad beyond_desks offered_number append_place append_pages begin_page moved allowed permitted lacks_with
    sum_to refuse_if and_then stays larger moves_to take_from take_fresh take_slab past_slabs run_at_mark take_found is_in stretch lesser least_of left_of
    take_mark rounded freed_all freed_place written
    longer joins last_page stream_len_from last_from divided shortest uleb_len first_class class_for class_with_slack largest_up_to block_then carve
    replace_last
appended b n = refusal_of (appends b 0 n)

-- What a load of it answers.
pub loaded : SlabFit → Book → List ℕ → ℕ
unfolding loads on_key out_of_shape list_bad beyond_desks offered_number offered_list load_place load_into allowed permitted lacks_with sum_to refuse_if
    and_then larger moves_to loads_to take_from take_fresh take_slab past_slabs take_mark written stream_len_from divided shortest uleb_len first_class
    class_for class_with_slack
loaded fit b ns = refusal_of (loads fit b 0 ns)

-- ---- makings (D3, D4, D21)

-- A reserve above the body's pages is 1; two that wrap as words are too; one above the pages to be had is 39, and as many are accepted.
pub makings : (made 8192 (kept 3 0 0) ≡ 1) × (made 8192 (kept (2 ^ 63) (2 ^ 63) 0) ≡ 1) × (made 8192 (kept 2 0 0) ≡ 39)
    × (made 8192 (kept 1 0 0) ≡ 0)
unfolding made
makings = (refl, refl, refl, refl)

-- ---- slabs (D6, D7, D8, D9, D23)

-- A slab popped from its list is judged while lacks aren't covered; a first number, which takes nothing, isn't.
pub popped : (appended (book_of 8192 one 8192 (4096 ∷ []) (kept 0 1 0) (first 0 0 0)) 2 ≡ 41)
    × (appended (book_of 8192 empty_key 8192 (4096 ∷ []) (kept 0 1 0) (first 0 0 0)) 1 ≡ 0)
unfolding appended
popped = (refl, refl)

-- A slab within a page that is begun takes no page; one that begins a page does.
pub begins : (appended (book_of 12288 one 4112 [] (kept 0 1 0) (first 0 0 0)) 2 ≡ 0)
    × (appended (book_of 12288 one 8192 [] (kept 0 1 0) (first 0 0 0)) 2 ≡ 41)
unfolding appended
begins = (refl, refl)

-- Slabs don't count toward a ceiling.
pub under_zero : appended (book_of 12288 one 4096 [] (kept_under 0 0) (first 0 0 0)) 2 ≡ 0
unfolding appended
under_zero = refl

-- A load whose slab reaches into reserves tries no smaller class; a tight one has the smaller class at once.
pub larger_class : (loaded Spare (book_of 12288 empty_key 8176 [] (kept 0 1 0) (first 0 0 0)) (1 ∷ 2 ∷ 3 ∷ 4 ∷ []) ≡ 41)
    × (loaded Tight (book_of 12288 empty_key 8176 [] (kept 0 1 0) (first 0 0 0)) (1 ∷ 2 ∷ 3 ∷ 4 ∷ []) ≡ 0)
unfolding loaded
larger_class = (refl, refl)

-- ---- pages (D10, D11)

-- A desk above its reserve lends nothing to another; what a desk takes it no longer lacks.
pub lending : (appended (book_of 12288 full 8192 [] (kept 0 1 1) (first 1 2 0)) 5 ≡ 41)
    × (appended (book_of 12288 full 8192 [] (kept 2 0 0) (first 1 0 0)) 5 ≡ 0)
unfolding appended
lending = (refl, refl)

-- ---- the order

-- 36 comes before 40, and 40 before 41.
pub in_order : (appended (book_of 8192 full 8192 [] (kept_under 1 1) (first 1 0 0)) 5 ≡ 36)
    × (appended (book_of 12288 full 8192 [] (kept_under 1 1) (first 1 0 0)) 5 ≡ 40)
    × (appended (book_of 12288 full 8192 [] (kept_under 2 1) (first 1 0 0)) 5 ≡ 41)
unfolding appended
in_order = (refl, refl, refl)
