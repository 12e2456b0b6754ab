-- What the takes of a desk and its giving back change in the counts is what they name, and an accepted call that is lent the list of desks
-- is one by the key's desk. Assumes nothing.
use Prim.Native.Nat.{ℕ, ◌-◌, ◌<◌}
use mathlib.Core.Bool.{Bool, true, false, cond}
use mathlib.Core.List.{List, []}
use mathlib.Core.Option.{Option, none, some}
use mathlib.Core.Path.{◌≡◌}
use borrow.Author.Tests.{leb-false}
use lib.Dec.{eqb}
use lib.ListN.{length, get_or}
use lib.Seq.{set-get_or}
use Rattle.error.specs.Refusal.{Answer, accepted}
use Rattle.error.proofs.LawsAnswer.{passed}
use Rattle.scripthash_layout.specs.Sizes.{page_class}
use Rattle.book_desks.specs.Desks.{desk_of}
use Rattle.book_desks.specs.Counts.{held_at, freed_count, counted}
use Rattle.book_space.specs.Space.{Space, InShape}
use Rattle.book_space.specs.Desks.{TakenFor, slab_for, page_for, freed_but}
use Rattle.book_space.proofs.LawsShape.{shape_holds}
use Rattle.book_space.proofs.LawsDesks.{took_is, slab_for_lem, page_for_lem, counts_back}
use Rattle.book.specs.Book.{Book, by_desk, with_desks}
use Rattle.book_history.specs.Writes.{Only, desk_word, page_words, page_counts, run_counts, drop_counts}
use Rattle.book_history.proofs.LawsOnly.{only_same, only_then, only_set}

-- ---- counts

module _ (desk : ℕ) (counts : List ℕ) where
  -- The counts of freed pages and of the desk's pages are written.
  only_both : (freed held : ℕ) → Only (page_words desk) counts (counted freed desk held counts)
  only_both freed held = only_then (only_set [] counts 0 freed) (only_set [] _ (held_at desk) held)

  -- The desk's alone differs where that of freed pages is written as it was.
  only_held : (held : ℕ) → Only (desk_word desk) counts (counted (freed_count counts) desk held counts)
  only_held held = rw (set-get_or counts 0 0) (only_set [] counts (held_at desk) held)

  -- A slab changes none.
  pub slab_counts_lem : (class : ℕ) (s : Space) {t : TakenFor} → slab_for desk class s counts ≡ accepted t → Only [] counts t.counts
  slab_counts_lem class s e = rw (took_is (slab_for_lem desk s counts class e)).1 (only_same [] counts)

  -- A page changes the desk's, and that of freed pages where a freed one is popped.
  pub page_counts_lem : (s : Space) {t : TakenFor} → page_for desk s counts ≡ accepted t → Only (page_counts desk s) counts t.counts
  unfolding page_counts
  page_counts_lem s e = rw (took_is (page_for_lem desk s counts e)).1 (by_head (eqb (get_or s.free page_class 0) 0) _)
    where
      by_head : (none_freed_lem : Bool) (held : ℕ) → Only (cond none_freed_lem (desk_word desk) (page_words desk)) counts
          (counted (cond none_freed_lem (freed_count counts) (freed_count counts - 1)) desk held counts)
      by_head true held = only_held held
      by_head false held = only_both _ held

  -- A run changes the desk's, and that of freed pages where a search of them led to it.
  pub run_counts_lem : (pages held : ℕ) (found : Option ℕ)
      → Only (run_counts desk found) counts (counted (freed_but pages found counts) desk held counts)
  unfolding run_counts
  run_counts_lem pages held none = only_held held
  run_counts_lem pages held (some off) = only_both (freed_count counts - pages) held

  -- Pages given back, where there are some, change both.
  pub back_counts : (pages : ℕ) → Only (drop_counts desk pages) counts (counts_back desk pages counts)
  unfolding drop_counts
  back_counts pages = by_pages (eqb pages 0) _ _
    where
      by_pages : (none_there : Bool) (freed held : ℕ)
          → Only (cond none_there [] (page_words desk)) counts (cond none_there counts (counted freed desk held counts))
      by_pages true freed held = only_same [] counts
      by_pages false freed held = only_both freed held

-- ---- calls

-- A change by a desk on a key that is accepted: the shape is within its limits, the key has a head word, and what comes after the tests is
-- accepted.
pub by_desk_lem : {A : Type 0} (desk : ℕ) (b : Book) (key : ℕ) (after : Answer A) {x : A} → by_desk desk b key after ≡ accepted x
    → InShape b.space × (key < length b.heads) × (after ≡ accepted x)
unfolding by_desk
by_desk_lem desk b key after e =
    let (shape, p) = passed _ _ _ e in
    let (low, q) = passed _ _ _ p in
    let (here, is) = passed _ _ after q in
    ((shape_holds b.space (length b.heads) shape).0, leb-false (length b.heads) key here, is)

-- A call that is lent the list of desks and accepted is accepted for the key's desk.
pub with_desks_lem : {A : Type 0} (ds : List ℕ) (b : Book) (key : ℕ) (call : ℕ → Answer A) {x : A} → with_desks ds b key call ≡ accepted x
    → call (desk_of ds key) ≡ accepted x
unfolding with_desks
with_desks_lem ds b key call e = (passed _ _ _ (passed _ _ _ e).1).1
