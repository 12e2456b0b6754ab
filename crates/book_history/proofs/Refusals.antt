-- Which refusals a history meets: those that FORMAT names for the plain book and those of takes for desks, 40 and 41, and never 31 or 42.
-- From a good start, and so on a book that was made, shape, counts and list stay good, so that no call is refused with 1 or 39. 35 is met
-- only from a good start with a freed slab that ends past the end of slabs, so never on a fresh book. Assumes nothing.
use Prim.Native.Nat.{ℕ}
use mathlib.Core.Bool.{false, true≢false}
use mathlib.Core.List.{List, [], ◌∷◌}
use mathlib.Core.Path.{◌≡◌, refl, sym, ap, ◌∙◌}
use lib.ListN.{length, length-replicate}
use Rattle.error.specs.Refusal.{Answer, accepted, refused, free_head_bad, free_list_bad}
use Rattle.error.proofs.LawsAnswer.{was_refused}
use Rattle.book_statements.specs.Calls.{Change, Made, Call, change, Answers, done, asked, changed, answers_to}
use Rattle.book_desks.specs.Desks.{Limits}
use Rattle.plain_book.specs.Key.{empty_key}
use Rattle.plain_book.specs.Book.{fresh as plain_fresh, makes}
use Rattle.plain_book.specs.Low.{LowSlabs, PastTop}
use Rattle.plain_book.specs.Refusals.{key_refusals, is_one_of, RefusedBy, EachRefusedBy}
use Rattle.plain_book.proofs.LawsGood.{is_made, fresh_good}
use Rattle.plain_book.proofs.LawsLow.{low_fresh, never_1, never_35, only_35}
use Rattle.book.specs.Book.{Book, fresh}
use Rattle.book_start.specs.Start.{GoodStart}
use Rattle.book_history.specs.Calls.{answers}
use Rattle.book_history.specs.PlainOf.{plain_of, Sixteen}
use Rattle.book_history.specs.NeverRefused.{NotRefused, NeverRefused}
use Rattle.book_history.proofs.Demand3.{demand_3, demand_3_from}
use Rattle.book_history.proofs.LawsStart.{start_good, start_shape}

-- ---- numbers that none of some is

-- An answer that is refused with one of some numbers only is not refused with another.
not_refused : {A : Type 0} (numbers : List ℕ) (number : ℕ) → is_one_of number numbers ≡ false → (a : Answer A) → RefusedBy numbers a
    → NotRefused number a
unfolding RefusedBy NotRefused
not_refused numbers number other (accepted x) by = tt
not_refused numbers number other (refused m) by = λ (e : m ≡ number). true≢false (sym by ∙ ap (λ (k : ℕ). is_one_of k numbers) e ∙ other)

-- So it is of each answer to a list of calls.
never_refused : (numbers : List ℕ) (number : ℕ) → is_one_of number numbers ≡ false → {cs : List Call} (told : Answers cs)
    → EachRefusedBy numbers told → NeverRefused number told
unfolding EachRefusedBy NeverRefused
never_refused numbers number other done by = tt
never_refused numbers number other (asked a rest) by =
    (not_refused numbers number other a by.0, never_refused numbers number other rest by.1)
never_refused numbers number other (changed a rest) by =
    (not_refused numbers number other a by.0, never_refused numbers number other rest by.1)

-- 42 is none of those that a history from a good start meets.
other_42 : (is_one_of free_list_bad key_refusals ≡ false) × (is_one_of free_list_bad (free_head_bad ∷ key_refusals) ≡ false)
unfolding is_one_of key_refusals
other_42 = (refl, refl)

-- ---- histories

-- On a fresh book, whatever its body holds: neither 1, 31, 35, 39 nor 42.
pub refusals : (ds body : List ℕ) (heads : ℕ) (l : Limits) (cs : List Call)
    → makes ds (length body) heads l ≡ accepted (plain_fresh ds (length body) heads l) → Sixteen l
    → EachRefusedBy key_refusals (answers ds (fresh body heads l) cs)
refusals ds body heads l cs made sixteen =
    rw (demand_3 ds body heads l cs made sixteen).0
    (never_35 (plain_fresh ds (length body) heads l) cs (fresh_good ds (length body) heads l made)
    (rw (length-replicate heads empty_key) (is_made ds (length body) heads l made).shape) (low_fresh ds (length body) heads l))

-- So no call on it is refused with 42.
pub never_42 : (ds body : List ℕ) (heads : ℕ) (l : Limits) (cs : List Call)
    → makes ds (length body) heads l ≡ accepted (plain_fresh ds (length body) heads l) → Sixteen l
    → NeverRefused free_list_bad (answers ds (fresh body heads l) cs)
never_42 ds body heads l cs made sixteen = never_refused key_refusals free_list_bad other_42.0 _ (refusals ds body heads l cs made sixteen)

module _ (ds : List ℕ) (b : Book) (g : GoodStart ds b) where
  -- From a good start: neither 1, 31, 39 nor 42,
  pub refusals_from : (cs : List Call) → EachRefusedBy (free_head_bad ∷ key_refusals) (answers ds b cs)
  refusals_from cs =
      rw (demand_3_from ds b cs g).0 (never_1 (plain_of ds b) cs (start_good ds b g) (start_shape ds b g.blocks))

  -- so that no call is refused with 42,
  pub never_42_from : (cs : List Call) → NeverRefused free_list_bad (answers ds b cs)
  never_42_from cs = never_refused (free_head_bad ∷ key_refusals) free_list_bad other_42.1 _ (refusals_from cs)

  -- and not 35 where no slab ends past the end of slabs.
  pub refusals_low : (cs : List Call) → LowSlabs (plain_of ds b) → EachRefusedBy key_refusals (answers ds b cs)
  refusals_low cs low =
      rw (demand_3_from ds b cs g).0 (never_35 (plain_of ds b) cs (start_good ds b g) (start_shape ds b g.blocks) low)

  -- Where a change of a good start is refused with 35, such a slab is the first of its free list.
  pub refused_35 : (c : Change) → answers ds b (change c ∷ []) ≡ changed (refused free_head_bad) done → PastTop (plain_of ds b).space
  unfolding answers_to
  refused_35 c e =
      only_35 (plain_of ds b) c (was_refused _ _ (ap first (sym (demand_3_from ds b (change c ∷ []) g).0 ∙ e)))
    where
      first : Answers (change c ∷ []) → Answer (Made c)
      first (changed a rest) = a
