-- Blocks that a desk takes and gives back (FORMAT, Desks): each take is judged by the counts before anything is written.
use Rattle.std.specs.Prelude.{ℕ, ◌+◌, ◌-◌, Bool, cond, not, List, ltb, eqb, length, get_or}
use Rattle.std.proofs.Math.Option.{Option, none, some}
use Rattle.error.specs.Refusal.{Answer, accepted, refuse_if, and_then, shape_bad, key_unsound, free_head_bad}
use Rattle.scripthash_layout.specs.Sizes.{page_class}
use Rattle.book_desks.specs.Desks.{permitted}
use Rattle.book_desks.specs.Counts.{freed_count, held_count, held_in, limits_in, counts_high, counted}
use Rattle.book_space.specs.Space.{Space, Taken, take_block, searched, take_found}

-- What a desk's take gives: where the block or run begins, and the space and the counts afterwards.
pub record TakenFor : Type 0 where
  pub off : ℕ
  pub space : Space
  pub counts : List ℕ

-- A take of so many pages, 0 for a slab, that leaves so many freed: turned back where the counts are above the body's pages, and by the
-- rule of desks; then these are the counts.
unfoldable pub judged_take : ℕ → ℕ → ℕ → ℕ → List ℕ → List ℕ → Taken → Answer TakenFor
judged_take end desk pages freed before after t =
    refuse_if (counts_high end before) shape_bad
    (permitted (limits_in before) end desk pages (held_in before) freed t.space.mark
    (accepted (record { off = t.off; space = t.space; counts = after })))

-- A slab of a class for a desk: no count changes.
unfoldable pub slab_for : ℕ → ℕ → Space → List ℕ → Answer TakenFor
slab_for desk class s counts =
    and_then (take_block class s) (judged_take (length s.body) desk 0 (freed_count counts) counts counts)

-- The free head of pages and the count of freed pages differ: just one of them is 0.
unfoldable pub freed_untrue : Space → List ℕ → Bool
freed_untrue s counts =
    cond (eqb (get_or s.free page_class 0) 0) (not (eqb (freed_count counts) 0)) (eqb (freed_count counts) 0)

-- The freed pages once a page is taken: one less where there is a freed one.
abbrev pub freed_left : Space → List ℕ → ℕ
freed_left s counts = cond (eqb (get_or s.free page_class 0) 0) (freed_count counts) (freed_count counts - 1)

-- A page for a desk, as an append takes it.
unfoldable pub page_for : ℕ → Space → List ℕ → Answer TakenFor
page_for desk s counts =
    refuse_if (freed_untrue s counts) free_head_bad
    (and_then (take_block page_class s)
    (judged_take (length s.body) desk 1 (freed_left s counts) counts
    (counted (freed_left s counts) desk (held_count desk counts + 1) counts)))

-- The freed pages once a run is taken: as many fewer as it has where a search of them led to it.
abbrev pub freed_but : ℕ → Option ℕ → List ℕ → ℕ
freed_but pages none counts = freed_count counts
freed_but pages (some off) counts = freed_count counts - pages

-- A run of so many pages for a desk, taken where a search of the freed ones led.
unfoldable pub run_found : ℕ → ℕ → Space → List ℕ → Option ℕ → Answer TakenFor
run_found desk pages s counts found =
    and_then (take_found pages (freed_count counts) s found)
    (judged_take (length s.body) desk pages (freed_but pages found counts) counts
    (counted (freed_but pages found counts) desk (held_count desk counts + pages) counts))

-- A run of so many pages for a desk, as a load takes it: the lowest stretch of freed pages, or else at the mark.
unfoldable pub run_for : ℕ → ℕ → Space → List ℕ → Answer TakenFor
run_for desk pages s counts = and_then (searched pages (freed_count counts) s) (run_found desk pages s counts)

-- Pages that a desk gives back, where there are some: turned back where the counts are above the body's pages, or the desk holds fewer;
-- then the call goes on with the counts as they are then.
unfoldable pub given_back : {A : Type 0} → ℕ → ℕ → ℕ → List ℕ → (List ℕ → Answer A) → Answer A
given_back end desk pages counts after =
    cond (eqb pages 0) (after counts)
    (refuse_if (counts_high end counts) shape_bad
    (refuse_if (ltb (held_count desk counts) pages) key_unsound
    (after (counted (freed_count counts + pages) desk (held_count desk counts - pages) counts))))
