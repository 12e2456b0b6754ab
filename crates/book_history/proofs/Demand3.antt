-- Demand 3: on every list of calls, from every good start, and so on every fresh book, the book over bytes answers like the plain book, and
-- stands as it does afterwards. Assumes nothing.
use Prim.Native.Nat.{ℕ, ◌-◌, ◌/◌}
use mathlib.Core.Bool.{Bool, true, false, ◌||◌}
use mathlib.Core.List.{List}
use mathlib.Core.Path.{◌≡◌, refl, subst}
use lib.Dec.{ltb}
use lib.ListN.{length}
use Rattle.error.specs.Refusal.{accepted, answered, refuse_if, shape_bad, desks_bad}
use Rattle.scripthash_layout.specs.Sizes.{page_size}
use Rattle.book_statements.specs.Calls.{Call}
use Rattle.book_limits.specs.Limits.{out_of_shape}
use Rattle.book_desks.specs.Desks.{desks, Limits, desk_count, total, above, reserve_high, list_bad, making}
use Rattle.plain_book.specs.Book.{Book as PlainBook, fresh as plain_fresh, makes, after as plain_after, answers as plain_answers}
use Rattle.plain_book.specs.Good.{GoodPlain}
use Rattle.plain_book.proofs.LawsGood.{calls_good, shapes_kept}
use Rattle.book.specs.Book.{Book, fresh}
use Rattle.book_history.specs.Calls.{after, answers}
use Rattle.book_start.specs.Start.{GoodStart}
use Rattle.book_start.specs.Making.{makes_fresh}
use Rattle.book_history.specs.Agrees.{Agrees}
use Rattle.book_history.specs.Standing.{Standing}
use Rattle.book_history.specs.PlainOf.{plain_of, Sixteen}
use Rattle.book_history.proofs.LawsCalls.{answers_alike, books_agree}
use Rattle.book_history.proofs.LawsEach.{each_alike, each_same}
use Rattle.book_history.proofs.LawsStanding.{agrees_stands}
use Rattle.book_history.proofs.LawsStart.{start_shape, start_good, start_agrees}
use Rattle.book_history.proofs.LawsStartFresh.{fresh_start, fresh_plain}

-- Demand 3 from any pair: a book over bytes that stands for a good plain book, in shape, answers every list of calls like it, and both
-- stand alike afterwards.
pub demand_3_good : (plain : PlainBook) (b : Book) (cs : List Call) → GoodPlain plain → Agrees plain b
    → out_of_shape plain.size (length plain.keys) ≡ false
    → (answers plain.desks b cs ≡ plain_answers plain cs) × Standing (plain_after plain cs) (after plain.desks b cs)
demand_3_good plain b cs g a shape =
    let (size, keys, lent, limits) = shapes_kept plain cs in (
      answers_alike each_alike each_same plain b cs g a,
      agrees_stands _ _ (calls_good cs g) (books_agree each_alike plain b cs g a)
          (rw (size, keys) shape),
    )

-- Demand 3 from every good start: the whole list of answers is that of its plain book, and afterwards both stand alike.
pub demand_3_from : (ds : List ℕ) (b : Book) (cs : List Call) → GoodStart ds b
    → (answers ds b cs ≡ plain_answers (plain_of ds b) cs) × Standing (plain_after (plain_of ds b) cs) (after ds b cs)
unfolding plain_of
demand_3_from ds b cs g = demand_3_good (plain_of ds b) b cs (start_good ds b g) (start_agrees ds b g) (start_shape ds b g.blocks)

-- Two makings by the same tests tell the same.
made_alike : {A B : Type 0} (a : A) (b : B) (s t : Bool)
    → answered {B = Unit {0}} (λ (made : A). tt) (refuse_if s shape_bad (refuse_if t desks_bad (accepted a)))
    ≡ answered {B = Unit {0}} (λ (made : B). tt) (refuse_if s shape_bad (refuse_if t desks_bad (accepted b)))
unfolding refuse_if answered
made_alike a b true t = refl
made_alike a b false true = refl
made_alike a b false false = refl

module _ (ds : List ℕ) (body : List ℕ) (heads : ℕ) (l : Limits) where
  -- The book over bytes is made fresh exactly where the plain book is, and turned back by the same numbers.
  pub makings_alike : (b : Book) → b.space.body ≡ body → length b.heads ≡ heads
      → answered {B = Unit {0}} (λ (made : Book). tt) (makes_fresh ds l b)
      ≡ answered {B = Unit {0}} (λ (made : PlainBook). tt) (makes ds (length body) heads l)
  unfolding makes_fresh makes making
  makings_alike b is many =
      rw (is, many)
      (made_alike (fresh body heads l) (plain_fresh ds (length body) heads l)
      (out_of_shape (length body) heads || above (length body / page_size) desks (λ d. desk_count d l.reserve))
      (list_bad ds heads || (ltb (length body / page_size - 1) (total l.reserve) || reserve_high desks l)))

  -- Demand 3, one claim, of every book that was made fresh: the whole list of answers is the plain book's, and afterwards both stand alike,
  -- whatever the body holds and is called.
  pub demand_3 : (cs : List Call) → makes ds (length body) heads l ≡ accepted (plain_fresh ds (length body) heads l) → Sixteen l
      → (answers ds (fresh body heads l) cs ≡ plain_answers (plain_fresh ds (length body) heads l) cs)
      × Standing (plain_after (plain_fresh ds (length body) heads l) cs) (after ds (fresh body heads l) cs)
  demand_3 cs made sixteen =
      subst
      (λ (p : PlainBook). (answers ds (fresh body heads l) cs ≡ plain_answers p cs)
      × Standing (plain_after p cs) (after ds (fresh body heads l) cs))
      (fresh_plain ds body heads l sixteen) (demand_3_from ds (fresh body heads l) cs (fresh_start ds body heads l made sixteen))
