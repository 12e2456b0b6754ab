-- The ceilings and the fewest pages, by the answers of the book over bytes: from the start or the last drop no key is moved more than 9
-- times, nor has more than 765 records rewritten by moves, and no allowed cutting of a loaded list has fewer pages than the load reports.
-- They hold of any list of calls, and so of each beginning of one: every earlier period of a key, from empty to a drop, is the end of such
-- a beginning. Assumes nothing.
use Prim.Native.Nat.{ℕ, ◌≤◌}
use mathlib.Core.List.{List}
use mathlib.Core.Path.{◌≡◌}
use lib.ListN.{length}
use Rattle.error.specs.Refusal.{accepted}
use Rattle.book_statements.specs.Calls.{Call}
use Rattle.book_statements.specs.Moves.{no_moves, tally_of}
use Rattle.book_desks.specs.Desks.{Limits}
use Rattle.plain_book.specs.Book.{Book as PlainBook, fresh as plain_fresh, makes}
use Rattle.plain_book.specs.Good.{GoodPlain}
use Rattle.plain_book.specs.Ceilings.{most_moves, most_rewritten, EachFewest}
use Rattle.plain_book.proofs.LawsCeilings.{ceilings_from, loads_least}
use Rattle.book.specs.Book.{Book, fresh}
use Rattle.book_history.specs.Calls.{answers}
use Rattle.book_start.specs.Start.{GoodStart}
use Rattle.book_history.specs.Agrees.{Agrees}
use Rattle.book_history.specs.PlainOf.{plain_of, Sixteen}
use Rattle.book_history.proofs.LawsCalls.{answers_alike}
use Rattle.book_history.proofs.LawsEach.{each_alike, each_same}
use Rattle.book_history.proofs.LawsStart.{start_good, start_agrees}
use Rattle.book_history.proofs.LawsStartFresh.{fresh_start}

-- ---- from any book that stands for a good plain book

module _ (plain : PlainBook) (b : Book) (g : GoodPlain plain) (a : Agrees plain b) where
  -- Moves, and the records that they rewrite.
  pub ceilings_good : (key : ℕ) (cs : List Call) → let told = answers plain.desks b cs in
      ((tally_of key told no_moves).moves ≤ most_moves) × ((tally_of key told no_moves).rewritten ≤ most_rewritten)
  ceilings_good key cs = rw (answers_alike each_alike each_same plain b cs g a) (ceilings_from plain key cs (g.keys key))

  -- The pages of loads.
  pub fewest_good : (cs : List Call) → EachFewest (answers plain.desks b cs)
  fewest_good cs = rw (answers_alike each_alike each_same plain b cs g a) (loads_least plain cs)

-- ---- from any good start

-- Moves, and the records that they rewrite: from the start or the last drop.
pub book_ceilings_from : (ds : List ℕ) (b : Book) (key : ℕ) (cs : List Call) → GoodStart ds b → let told = answers ds b cs in
    ((tally_of key told no_moves).moves ≤ most_moves) × ((tally_of key told no_moves).rewritten ≤ most_rewritten)
unfolding plain_of
book_ceilings_from ds b key cs g = ceilings_good (plain_of ds b) b (start_good ds b g) (start_agrees ds b g) key cs

-- The pages of loads.
pub book_fewest_from : (ds : List ℕ) (b : Book) (cs : List Call) → GoodStart ds b → EachFewest (answers ds b cs)
unfolding plain_of
book_fewest_from ds b cs g = fewest_good (plain_of ds b) b (start_good ds b g) (start_agrees ds b g) cs

-- ---- from any fresh book

module _ (ds body : List ℕ) (heads : ℕ) (l : Limits)
    (made : makes ds (length body) heads l ≡ accepted (plain_fresh ds (length body) heads l)) (sixteen : Sixteen l) where
  -- Moves, and the records that they rewrite.
  pub book_ceilings : (key : ℕ) (cs : List Call) → let told = answers ds (fresh body heads l) cs in
      ((tally_of key told no_moves).moves ≤ most_moves) × ((tally_of key told no_moves).rewritten ≤ most_rewritten)
  book_ceilings key cs = book_ceilings_from ds (fresh body heads l) key cs (fresh_start ds body heads l made sixteen)

  -- The pages of loads.
  pub book_fewest : (cs : List Call) → EachFewest (answers ds (fresh body heads l) cs)
  book_fewest cs = book_fewest_from ds (fresh body heads l) cs (fresh_start ds body heads l made sixteen)
