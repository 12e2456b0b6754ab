-- Spelled calls are the calls that they spell: the same book afterwards, and the same answers. Assumes nothing.
use Prim.Native.Nat.{ℕ}
use Rattle.std.specs.Prelude.{Result, Ok, Err}
use Rattle.error.specs.declared.Refusal.{Refusal}
use Rattle.book_append.specs.declared.answers.AppendedTo.{AppendedTo}
use mathlib.Core.List.{List, [], ◌∷◌}
use mathlib.Core.Path.{◌≡◌, refl, ap, ap₂, ◌∙◌}
use Rattle.error.specs.Refusal.{Answer, accepted, refused, answered}
use Rattle.book_rules.specs.Outcomes.{Listed, book_after, answer_of, retold}
use Rattle.book_statements.specs.Calls.{after_calls, answers_to}
use Rattle.book_desks.specs.Desks.{desk_of}
use Rattle.book.specs.Book.{Book, Outcome}
use Rattle.book_append.specs.Appends.{appends}
use Rattle.book_load.specs.Loads.{loads}
use Rattle.book_read.specs.Reads.{reads}
use Rattle.book_drop.specs.Drops.{drops}
use Rattle.book_load.specs.Answers.{load_answer}
use Rattle.book_append.specs.Answers.{append_answer}
use Rattle.book_drop.specs.Answers.{drop_answer}
use Rattle.book_history.specs.Core.{core_asks, core_does, core_serves}
use Rattle.book_words.specs.Spelled.{SpelledCall, load, append, read, drop, SpelledTold, loaded, appended, listed, dropped, calls_in, flat}
use Rattle.book_calls.specs.Flat.{does_spelled, after_spelled, answers_spelled, load_told, append_told, drop_told}

-- A change that is retold leaves the same book, and tells the same as it is spelled.
pub retold_book : {T : Type 0} (f : T → SpelledTold) (b : Book) (a : Answer (Outcome T)) → book_after b (retold f a) ≡ book_after b a
unfolding book_after answered
retold_book f b (accepted o) = refl
retold_book f b (refused number) = refl

pub retold_answer : {T : Type 0} (f : T → SpelledTold) (a : Answer (Outcome T)) → answer_of (retold f a) ≡ answered f (answer_of a)
unfolding answered
retold_answer f (accepted o) = refl
retold_answer f (refused number) = refl

-- A read leaves the book, and tells its list.
pub read_book : (b : Book) (a : Answer Listed) → book_after b (answered (λ l. record { told = listed l; book = b }) a) ≡ b
unfolding book_after answered
read_book b (accepted l) = refl
read_book b (refused number) = refl

pub read_answer_lem : (b : Book) (a : Answer Listed)
    → answer_of (answered {B = Outcome SpelledTold} (λ l. record { told = listed l; book = b }) a) ≡ answered listed a
unfolding answered
read_answer_lem b (accepted l) = refl
read_answer_lem b (refused number) = refl

-- The answers of the code, as they are spelled.
pub load_told_lem : (answer : Result ℕ Refusal) → load_told answer ≡ answered loaded (load_answer answer)
unfolding answered
load_told_lem (Ok pages) = refl
load_told_lem (Err refusal) = refl

pub append_told_lem : (answer : Result AppendedTo Refusal) → append_told answer ≡ answered appended (append_answer answer)
unfolding answered
append_told_lem (Ok to) = refl
append_told_lem (Err refusal) = refl

pub drop_told_lem : (answer : Result ℕ Refusal) → drop_told answer ≡ answered dropped (drop_answer answer)
unfolding answered
drop_told_lem (Ok length) = refl
drop_told_lem (Err refusal) = refl

-- The book after spelled calls is that after the calls of the core.
pub after_flat : (ds : List ℕ) (b : Book) (cs : List SpelledCall) → after_spelled ds b cs ≡ after_calls (core_serves ds) b (calls_in cs)
unfolding after_spelled after_calls calls_in does_spelled core_does
after_flat ds b [] = refl
after_flat ds b (load fit key ns ∷ cs) =
    ap (λ (x : Book). after_spelled ds x cs) (retold_book loaded b (loads fit (desk_of ds key) b key ns))
    ∙ after_flat ds (book_after b (loads fit (desk_of ds key) b key ns)) cs
after_flat ds b (append key n ∷ cs) =
    ap (λ (x : Book). after_spelled ds x cs) (retold_book appended b (appends (desk_of ds key) b key n))
    ∙ after_flat ds (book_after b (appends (desk_of ds key) b key n)) cs
after_flat ds b (read key room ∷ cs) = ap (λ (x : Book). after_spelled ds x cs) (read_book b (reads b key room)) ∙ after_flat ds b cs
after_flat ds b (drop key ∷ cs) =
    ap (λ (x : Book). after_spelled ds x cs) (retold_book dropped b (drops (desk_of ds key) b key))
    ∙ after_flat ds (book_after b (drops (desk_of ds key) b key)) cs

-- An answer before others.
abbrev first : Answer SpelledTold → List (Answer SpelledTold) → List (Answer SpelledTold)
first a rest = a ∷ rest

-- So are the answers.
pub answers_flat : (ds : List ℕ) (b : Book) (cs : List SpelledCall) → answers_spelled ds b cs
    ≡ flat cs (answers_to (core_serves ds) b (calls_in cs))
unfolding answers_spelled answers_to calls_in flat does_spelled core_does core_asks
answers_flat ds b [] = refl
answers_flat ds b (load fit key ns ∷ cs) =
    ap₂ first (retold_answer loaded (loads fit (desk_of ds key) b key ns))
    (ap (λ (x : Book). answers_spelled ds x cs) (retold_book loaded b (loads fit (desk_of ds key) b key ns))
    ∙ answers_flat ds (book_after b (loads fit (desk_of ds key) b key ns)) cs)
answers_flat ds b (append key n ∷ cs) =
    ap₂ first (retold_answer appended (appends (desk_of ds key) b key n))
    (ap (λ (x : Book). answers_spelled ds x cs) (retold_book appended b (appends (desk_of ds key) b key n))
    ∙ answers_flat ds (book_after b (appends (desk_of ds key) b key n)) cs)
answers_flat ds b (read key room ∷ cs) =
    ap₂ first (read_answer_lem b (reads b key room))
    (ap (λ (x : Book). answers_spelled ds x cs) (read_book b (reads b key room)) ∙ answers_flat ds b cs)
answers_flat ds b (drop key ∷ cs) =
    ap₂ first (retold_answer dropped (drops (desk_of ds key) b key))
    (ap (λ (x : Book). answers_spelled ds x cs) (retold_book dropped b (drops (desk_of ds key) b key))
    ∙ answers_flat ds (book_after b (drops (desk_of ds key) b key)) cs)
