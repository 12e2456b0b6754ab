-- The licence's sentence, on every history from every good start, and so of every fresh book: each read tells exactly what is recorded for
-- its key, so that an empty answer means that nothing is, or is refused by 1, 2 or 34, each only for its cause.
-- Assumes nothing.
use Prim.Native.Nat.{ℕ}
use mathlib.Core.List.{List, []}
use mathlib.Core.Path.{◌≡◌, refl, subst, subst₂, fun_ext}
use lib.ListN.{length, length-replicate}
use Rattle.error.specs.Refusal.{accepted}
use Rattle.book_statements.specs.Calls.{Call}
use Rattle.book_statements.specs.Licence.{Licensed}
use Rattle.book_desks.specs.Desks.{Limits}
use Rattle.plain_book.specs.Key.{empty_key}
use Rattle.plain_book.specs.Book.{Book as PlainBook, fresh as plain_fresh, key_of, makes}
use Rattle.plain_book.specs.Good.{GoodPlain}
use Rattle.plain_book.proofs.LawsHistory.{fresh_key}
use Rattle.plain_book.proofs.LawsGood.{fresh_good}
use Rattle.plain_book.proofs.LawsRecorded.{licensed_from}
use Rattle.book.specs.Book.{Book, fresh}
use Rattle.book_history.specs.Calls.{answers}
use Rattle.book_start.specs.Start.{GoodStart}
use Rattle.book_history.specs.Agrees.{Agrees}
use Rattle.book_history.specs.PlainOf.{plain_of, start_list, Sixteen}
use Rattle.book_history.proofs.LawsCalls.{answers_alike}
use Rattle.book_history.proofs.LawsEach.{each_alike, each_same}
use Rattle.book_history.proofs.LawsStart.{start_list_lem, start_good, start_agrees}
use Rattle.book_history.proofs.LawsStartFresh.{fresh_agrees}

-- From any pair: what the keys hold at first counts as recorded.
pub licence_good : (plain : PlainBook) (b : Book) (cs : List Call) → GoodPlain plain → Agrees plain b
    → Licensed plain.size (length plain.keys) (λ key. (key_of key plain).list) (answers plain.desks b cs)
licence_good plain b cs g a =
    rw (answers_alike each_alike each_same plain b cs g a)
    (licensed_from plain (λ key. (key_of key plain).list) cs g.desks.named g.keys (λ key. refl))

-- From a good start: what its keys are read as then counts as recorded.
pub licence_from : (ds : List ℕ) (b : Book) (cs : List Call) → GoodStart ds b
    → Licensed (length b.space.body) (length b.heads) (start_list b) (answers ds b cs)
unfolding plain_of
licence_from ds b cs g =
    let a = start_agrees ds b g in
    rw a.count
    (subst (λ (before : ℕ → List ℕ). Licensed (plain_of ds b).size (length (plain_of ds b).keys) before (answers ds b cs))
    (fun_ext (start_list_lem ds b))
    (licence_good (plain_of ds b) b cs (start_good ds b g) a))

-- From a fresh one nothing is recorded at first, whatever the body holds.
pub licence : (ds body : List ℕ) (heads : ℕ) (l : Limits) (cs : List Call)
    → makes ds (length body) heads l ≡ accepted (plain_fresh ds (length body) heads l) → Sixteen l
    → Licensed (length body) heads (λ key. []) (answers ds (fresh body heads l) cs)
licence ds body heads l cs made sixteen =
    subst₂ (λ (n : ℕ) (before : ℕ → List ℕ). Licensed (length body) n before (answers ds (fresh body heads l) cs))
    (length-replicate heads empty_key)
    (λ i key. (fresh_key ds (length body) heads l key i).list)
    (licence_good (plain_fresh ds (length body) heads l) (fresh body heads l) cs (fresh_good ds (length body) heads l made)
    (fresh_agrees ds body heads l made sixteen))
