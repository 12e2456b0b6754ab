-- Padded numbers of the book over bytes, on every history from every good start, and so of every fresh book: a key that is empty at first,
-- and one whose list was written anew by a call, reports none. By demand 3 from the plain book. Assumes nothing.
use Prim.Native.Nat.{ℕ}
use mathlib.Core.List.{List}
use mathlib.Core.Path.{◌≡◌, ap, ◌∙◌}
use lib.ListN.{length}
use Rattle.error.specs.Refusal.{accepted}
use Rattle.book_statements.specs.Calls.{Call}
use Rattle.book_statements.specs.Padded.{ReportsNone, NoneOnceRenewed}
use Rattle.plain_book.specs.Key.{Key, empty}
use Rattle.book_desks.specs.Desks.{Limits}
use Rattle.plain_book.specs.Book.{Book as PlainBook, fresh as plain_fresh, key_of, makes}
use Rattle.plain_book.specs.Good.{GoodPlain}
use Rattle.plain_book.proofs.LawsHistory.{all_same}
use Rattle.plain_book.proofs.LawsPadded.{own_unpadded, renewed_unpadded}
use Rattle.book.specs.Book.{Book, fresh, word_of}
use Rattle.book_start.specs.Start.{GoodStart}
use Rattle.book_history.specs.Calls.{answers}
use Rattle.book_history.specs.Agrees.{Agrees}
use Rattle.book_history.specs.PlainOf.{plain_of, key_from, Sixteen}
use Rattle.book_history.proofs.LawsCalls.{answers_alike}
use Rattle.book_history.proofs.LawsEach.{each_alike, each_same}
use Rattle.book_history.proofs.LawsStart.{key_is, key_none, start_good, start_agrees}
use Rattle.book_history.proofs.LawsStartFresh.{fresh_start}

module _ (plain : PlainBook) (b : Book) (key : ℕ) (cs : List Call) (g : GoodPlain plain) (a : Agrees plain b) where
  -- From any pair: a key that is empty reports none, whatever calls fill it with.
  pub own_unpadded_good : (key_of key plain).place ≡ empty → ReportsNone key (answers plain.desks b cs)
  own_unpadded_good e = rw (answers_alike each_alike each_same plain b cs g a) (own_unpadded plain key cs e)

  -- Once a key's list is written anew, it reports none.
  pub renewed_unpadded_good : NoneOnceRenewed key (answers plain.desks b cs)
  renewed_unpadded_good = rw (answers_alike each_alike each_same plain b cs g a) (renewed_unpadded plain key cs)

module _ (ds : List ℕ) (b : Book) (key : ℕ) (cs : List Call) (g : GoodStart ds b) where
  -- From a good start: a key with the head word 0, which holds nothing, reports none.
  pub own_unpadded_from : word_of key b ≡ 0 → ReportsNone key (answers ds b cs)
  unfolding plain_of
  own_unpadded_from e =
      own_unpadded_good (plain_of ds b) b key cs (start_good ds b g) (start_agrees ds b g)
      (ap (λ (k : Key). k.place) (key_is ds b key ∙ ap (key_from b.space) e ∙ key_none b.space))

  -- And so does every key whose list a call wrote anew.
  pub renewed_unpadded_from : NoneOnceRenewed key (answers ds b cs)
  unfolding plain_of
  renewed_unpadded_from = renewed_unpadded_good (plain_of ds b) b key cs (start_good ds b g) (start_agrees ds b g)

-- From a fresh one no key reports any, whatever the body holds.
pub book_unpadded : (ds body : List ℕ) (heads : ℕ) (l : Limits) (key : ℕ) (cs : List Call)
    → makes ds (length body) heads l ≡ accepted (plain_fresh ds (length body) heads l) → Sixteen l
    → ReportsNone key (answers ds (fresh body heads l) cs)
book_unpadded ds body heads l key cs made sixteen =
    own_unpadded_from ds (fresh body heads l) key cs (fresh_start ds body heads l made sixteen) (all_same 0 heads key)
