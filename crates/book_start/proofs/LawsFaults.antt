-- Which fault of counts the judgement tells, of a book whose blocks are good. Assumes nothing.
use Prim.Native.Nat.{ℕ, zero, suc, ◌+◌, ◌/◌, ◌≤◌, ◌<◌}
use mathlib.Core.Bool.{false}
use mathlib.Core.List.{List}
use mathlib.Core.Logic.{◌≢◌, ⊎_elim}
use mathlib.Core.Option.{none, some}
use mathlib.Core.Path.{◌≡◌, refl, ap, ◌∙◌}
use native.Mathlib.Nat.{eq-or-lt_of_le}
use native.Mathlib.Omega.{arith}
use borrow.Author.Tests.{le-ltb, eq-eqb, ne_eqb}
use lib.Dec.{ltb}
use lib.ListN.{length}
use Rattle.error.specs.Refusal.{accepted, shape_bad, desks_bad, list_too_short}
use Rattle.error.proofs.LawsAnswer.{refuse_no}
use Rattle.scripthash_layout.specs.Sizes.{page_class, page_size}
use Rattle.book_desks.specs.Desks.{desks, total, list_bad}
use Rattle.book_desks.specs.Counts.{freed_count, held_count, held_in, counts_high}
use Rattle.book.specs.Book.{Book}
use Rattle.book_start.specs.Start.{freed_of, pages_of_desk, to_be_had_in, GoodBlocks, Verdict, freed_differs, held_differs, desk_fault}
use Rattle.book_start.specs.Start.{fault_or, judge_desks, counts_verdict, counts_behind, verdict_of, judges}
use Rattle.book_start.specs.Covered.{lost_in}
use Rattle.book_start.proofs.LawsCounts.{GoodDesk, none_fault}
use Rattle.book_start.proofs.LawsJudged.{start_judged}

-- A book comes to the judgement of its counts, and these tell of no more pages than the body has.
pub record ToCounts (ds : List ℕ) (b : Book) (room : ℕ) : Type 0 where
  pub long : length b.space.body / 128 ≤ room
  pub blocks : GoodBlocks b
  pub low : counts_high (length b.space.body) b.counts ≡ false
  pub named : list_bad ds (length b.heads) ≡ false
  pub balanced : 1 + (total (held_in b.counts) + to_be_had_in b) ≤ length b.space.body / page_size

module _ (ds : List ℕ) (b : Book) where
  -- The first fault of desks is told.
  first_fault : (d k i : ℕ) (v after : Verdict) → ((j : ℕ) → j < i → desk_fault ds b j ≡ none) → d ≤ i → i < d + k
      → desk_fault ds b i ≡ some v → judge_desks ds b d k after ≡ v
  unfolding judge_desks fault_or
  first_fault d zero i v after before low high e = absurd (omega arith)
  first_fault d (suc k) i v after before low high e =
      ⊎_elim (λ (same : d ≡ i). rw (same, e) refl)
      (λ (less : d < i). rw (before d less) (first_fault (d + 1) k i v after before (omega arith) (omega arith) e))
      (eq-or-lt_of_le low)

  -- A desk's count that isn't the pages of its keys.
  differs : (d : ℕ) → held_count d b.counts ≢ pages_of_desk ds b d → desk_fault ds b d ≡ some (held_differs d)
  unfolding desk_fault
  differs d n = rw (ne_eqb (held_count d b.counts) (pages_of_desk ds b d) n) refl

  module _ (room : ℕ) (t : ToCounts ds b room) where
    -- The judgement is that of the counts.
    judges_counts : judges ds b room ≡ accepted (counts_verdict ds b (lost_in b / 16))
    unfolding judges verdict_of counts_behind
    judges_counts =
        refuse_no _ shape_bad _ (rw t.blocks.shape t.low)
        ∙ refuse_no (list_bad ds (length b.heads)) desks_bad _ t.named
        ∙ refuse_no (ltb room (length b.space.body / 128)) list_too_short _ (le-ltb room (length b.space.body / 128) t.long)
        ∙ ap accepted (rw (start_judged b t.blocks) refl)

    -- A count of freed pages that isn't the length of their free list is told.
    pub freed_told : freed_count b.counts ≢ length (freed_of b.space page_class) → judges ds b room ≡ accepted freed_differs
    unfolding counts_verdict
    freed_told n =
        judges_counts
        ∙ ap accepted (rw (le-ltb (length b.space.body / page_size) (1 + (total (held_in b.counts) + to_be_had_in b)) t.balanced)
        (rw (ne_eqb (freed_count b.counts) (length (freed_of b.space page_class)) n) refl))

    -- Behind a true one and good desks, a desk's count that isn't the pages of its keys is told.
    pub held_told : (d : ℕ) → d < desks → freed_count b.counts ≡ length (freed_of b.space page_class)
        → ((i : ℕ) → i < d → GoodDesk ds b i) → held_count d b.counts ≢ pages_of_desk ds b d → judges ds b room ≡ accepted (held_differs d)
    unfolding counts_verdict
    held_told d h freed before n =
        judges_counts
        ∙ ap accepted (rw (le-ltb (length b.space.body / page_size) (1 + (total (held_in b.counts) + to_be_had_in b)) t.balanced)
        (rw (eq-eqb (freed_count b.counts) (length (freed_of b.space page_class)) freed)
        (first_fault 0 desks d (held_differs d) _ (λ j l. none_fault ds b j (before j l)) (omega arith) h (differs d n))))
