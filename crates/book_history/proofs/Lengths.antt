-- How many numbers a key has after any calls, from any book that stands for a good plain book: as many as the plain book's list has. It
-- follows from demand 3. Assumes nothing.
use Prim.Native.Nat.{ℕ, ◌<◌}
use mathlib.Core.Bool.{false}
use mathlib.Core.List.{List}
use mathlib.Core.Path.{◌≡◌, sym, subst, ◌∙◌}
use native.Mathlib.Nat.{le_refl}
use lib.ListN.{length, length-replicate}
use Rattle.error.specs.Refusal.{accepted}
use Rattle.book_statements.specs.Calls.{Call}
use Rattle.book_limits.specs.Limits.{out_of_shape}
use Rattle.book_desks.specs.Desks.{Limits}
use Rattle.plain_book.specs.Key.{empty_key}
use Rattle.plain_book.specs.Book.{Book as PlainBook, fresh as plain_fresh, makes, after as plain_after, key_of}
use Rattle.plain_book.specs.Good.{GoodPlain}
use Rattle.plain_book.proofs.LawsGood.{is_made, fresh_good, calls_good, shapes_kept}
use Rattle.book.specs.Book.{Book, fresh, with_desks}
use Rattle.book_read.specs.Lengths.{lengths}
use Rattle.book_read.proofs.LawsLength.{read_length}
use Rattle.book_start.specs.Start.{GoodStart}
use Rattle.book_history.specs.Calls.{after}
use Rattle.book_history.specs.Agrees.{Agrees}
use Rattle.book_history.specs.Standing.{Standing}
use Rattle.book_history.specs.Lengths.{Tells}
use Rattle.book_history.specs.PlainOf.{plain_of, Sixteen}
use Rattle.book_history.proofs.LawsStep.{desks_pass}
use Rattle.book_history.proofs.LawsCalls.{books_agree}
use Rattle.book_history.proofs.LawsEach.{each_alike}
use Rattle.book_history.proofs.LawsStart.{start_shape, start_good, start_agrees}
use Rattle.book_history.proofs.LawsStartFresh.{fresh_agrees}
use Rattle.book_history.proofs.Demand3.{demand_3_good}

-- A book that stands as a plain book does tells how long the plain book's list is.
pub length_stands : (plain : PlainBook) (b : Book) (key : ℕ) → Standing plain b → out_of_shape plain.size (length plain.keys) ≡ false
    → key < length plain.keys → lengths b key ≡ accepted (length (key_of key plain).list)
length_stands plain b key s shape l =
    let room = length (key_of key plain).list in (read_length b key room _ (s.reads key room shape l (le_refl room))).0

-- So it is after every list of calls.
pub length_good : (plain : PlainBook) (b : Book) (cs : List Call) → GoodPlain plain → Agrees plain b
    → out_of_shape plain.size (length plain.keys) ≡ false → (key : ℕ) → key < length plain.keys
    → Tells plain.desks (after plain.desks b cs) key (length (key_of key (plain_after plain cs)).list)
length_good plain b cs g a shape key l =
    let (size, keys, lent, limits) = shapes_kept plain cs in
    let p = plain_after plain cs in
    let c = after plain.desks b cs in
    let out : out_of_shape p.size (length p.keys) ≡ false = rw (size, keys) shape in
    let there : key < length p.keys = rw keys l in
    let is = length_stands p c key (demand_3_good plain b cs g a shape).1 out there in
    let passes = desks_pass p c key (λ desk. lengths c key) (calls_good cs g) (books_agree each_alike plain b cs g a) out in
    (is, subst (λ (ds : List ℕ). with_desks ds c key (λ desk. lengths c key) ≡ lengths c key) lent passes ∙ is)

-- From every good start: the list of its plain book.
pub length_from : (ds : List ℕ) (b : Book) (cs : List Call) → GoodStart ds b → (key : ℕ) → key < length b.heads
    → Tells ds (after ds b cs) key (length (key_of key (plain_after (plain_of ds b) cs)).list)
unfolding plain_of
length_from ds b cs g key l =
    let a = start_agrees ds b g in
    length_good (plain_of ds b) b cs (start_good ds b g) a (start_shape ds b g.blocks) key (subst (λ (n : ℕ). key < n) a.count l)

-- From every book that was made fresh, whatever the body holds.
pub length_fresh_book : (ds body : List ℕ) (heads : ℕ) (l : Limits) (cs : List Call)
    → makes ds (length body) heads l ≡ accepted (plain_fresh ds (length body) heads l) → Sixteen l → (key : ℕ) → key < heads
    → Tells ds (after ds (fresh body heads l) cs) key
    (length (key_of key (plain_after (plain_fresh ds (length body) heads l) cs)).list)
length_fresh_book ds body heads l cs made sixteen key there =
    length_good (plain_fresh ds (length body) heads l) (fresh body heads l) cs (fresh_good ds (length body) heads l made)
    (fresh_agrees ds body heads l made sixteen)
    (rw (length-replicate heads empty_key) (is_made ds (length body) heads l made).shape) key
    (subst (λ (n : ℕ). key < n) (sym (length-replicate heads empty_key)) there)
