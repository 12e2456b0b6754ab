-- What refused calls leave. Assumes nothing.
use Prim.Native.Nat.{ℕ}
use mathlib.Core.List.{List}
use mathlib.Core.Logic.{◌≢◌}
use mathlib.Core.Path.{◌≡◌, refl, sym, ap, ◌∙◌}
use native.Mathlib.Omega.{arith}
use Rattle.std.specs.Prelude.{Result, Ok, Err}
use Rattle.error.specs.Refusal.{Answer, accepted, refused, refusal_of}
use Rattle.error.specs.Answers.{number_of, refusal_in}
use Rattle.error.specs.declared.Refusal.{Refusal}
use Rattle.error.proofs.LawsResult.{number_pos}
use Rattle.book_rules.specs.Outcomes.{Listed, book_after}
use Rattle.book_desks.specs.Desks.{desk_of}
use Rattle.book.specs.Book.{Book, Outcome, with_desks}
use Rattle.book.specs.Steps.{call_number}
use Rattle.book.proofs.LawsKey.{call_on, call_off}
use Rattle.book_start.specs.Making.{made_after}
use Rattle.book_read.specs.Reads.{list_after}
use Rattle.book_start.specs.Start.{Verdict}
use Rattle.book_start.specs.Units.{work_after}

-- A change that is refused leaves the book.
pub kept_book : {T : Type 0} {before after : Book} (a : Answer (Outcome T)) {number : ℕ} → number ≡ refusal_of a → after ≡ book_after before a
    → number ≢ 0 → after ≡ before
unfolding book_after
kept_book (accepted o) number left some' = absurd (some' number)
kept_book (refused n) number left some' = left

-- So does making fresh that is refused.
pub kept_fresh : {before after : Book} (a : Answer Book) {number : ℕ} → number ≡ refusal_of a → after ≡ made_after before a → number ≢ 0
    → after ≡ before
unfolding made_after
kept_fresh (accepted o) number left some' = absurd (some' number)
kept_fresh (refused n) number left some' = left

-- A read that is refused leaves the lent list.
pub kept_list : (out : List ℕ) {after : List ℕ} (a : Answer Listed) {number : ℕ} → number ≡ refusal_of a → after ≡ list_after out a
    → number ≢ 0 → after ≡ out
unfolding list_after
kept_list out (accepted o) number left some' = absurd (some' number)
kept_list out (refused n) number left some' = left

-- A check that is refused leaves the work list.
pub kept_work : (units : ℕ) (work : List ℕ) {after : List ℕ} (a : Answer Verdict) {number : ℕ} → number ≡ refusal_of a
    → after ≡ work_after units work a → number ≢ 0 → after ≡ work
unfolding work_after
kept_work units work (accepted v) number left some' = absurd (some' number)
kept_work units work (refused n) number left some' = left

-- A call with a list of desks that is turned back before anything else: its answer is that number.
pub turned_back : {A : Type 0} (ds : List ℕ) (b : Book) (key : ℕ) (call : ℕ → Answer A) {number : ℕ} → number ≡ call_number ds b → number ≢ 0
    → with_desks ds b key call ≡ refused number
turned_back ds b key call told some' = call_off ds b key call (λ z. some' (told ∙ z)) ∙ ap refused (sym told)

-- The same of the answer of the judgement.
pub turned_back_with : {A : Type 0} (ds : List ℕ) (b : Book) (key : ℕ) (call : ℕ → Answer A) {r : Result (Unit {0}) Refusal} {refusal : Refusal}
    → refusal_in r ≡ call_number ds b → r ≡ Err refusal → with_desks ds b key call ≡ refused (number_of refusal)
turned_back_with ds b key call {refusal = refusal} told is =
    turned_back ds b key call (sym (ap refusal_in is) ∙ told) (λ z. let p = number_pos refusal in omega arith)

-- One that isn't is made for the key's desk.
pub made_for : {A : Type 0} (ds : List ℕ) (b : Book) (key : ℕ) (call : ℕ → Answer A) {number desk : ℕ} → number ≡ call_number ds b
    → number ≡ 0
    → desk ≡ desk_of ds key → with_desks ds b key call ≡ call desk
made_for ds b key call told none' is = call_on ds b key call (sym told ∙ none') ∙ ap call (sym is)

-- The same of the answer of the judgement.
pub made_with : {A : Type 0} (ds : List ℕ) (b : Book) (key : ℕ) (call : ℕ → Answer A) {r : Result (Unit {0}) Refusal} {judged : Unit {0}} {desk : ℕ}
    → refusal_in r ≡ call_number ds b → r ≡ Ok judged → desk ≡ desk_of ds key → with_desks ds b key call ≡ call desk
made_with ds b key call told is = made_for ds b key call (sym (ap refusal_in is) ∙ told) refl
