-- `fresh` meets its contract: the judgement of the making decides.
use Prim.Native.Nat.{ℕ}
use mathlib.Core.List.{List}
use mathlib.Core.Path.{◌≡◌, refl, sym, ap, ◌∙◌}
use native.Mathlib.Omega.{arith}
use lib.ListN.{length, replicate}
use Rattle.std.proofs.lemmas.Result.{err_from_is_err_and}
use Rattle.error.specs.Refusal.{refused, answered}
use Rattle.error.proofs.LawsResult.{number_pos}
use Rattle.book.specs.Book.{book}
use Rattle.book.specs.Answers.{book_of}
use Rattle.book_start.specs.Making.{limits_of, made_after, making_number}
use Rattle.book_start.proofs.LawsMaking.{makes_on, makes_off}
use Rattle.book_start.proofs.making.fresh.Goals as goal

pub returns-in_err-judge_making-clause-answer : goal.returns-in_err-judge_making-clause-answer
unfolding answered
returns-in_err-judge_making-clause-answer c =
    let a = c.args in
    let l = limits_of a.reserve.now a.ceiling.now in
    let p = err_from_is_err_and c.from_residual.result c.from_residual.ensures.1 in
    let n = c.in_err-judge_making.ensures l c.fresh_counts-words.ensures in
    let pos = number_pos c.in_err-judge_making.field-0.0 in
    rw (p.1, p.2, makes_off a.desks.now l (book_of a.body.now a.heads.now a.mark.now a.free.now a.counts.now) (λ z. omega arith))
    (ap refused n)

pub returns-in_err-judge_making-clause-book : goal.returns-in_err-judge_making-clause-book
unfolding made_after
returns-in_err-judge_making-clause-book c =
    let a = c.args in
    let l = limits_of a.reserve.now a.ceiling.now in
    let n = c.in_err-judge_making.ensures l c.fresh_counts-words.ensures in
    let pos = number_pos c.in_err-judge_making.field-0.0 in
    rw (makes_off a.desks.now l (book_of a.body.now a.heads.now a.mark.now a.free.now a.counts.now) (λ z. omega arith)) refl

pub returns-clause-answer : goal.returns-clause-answer
unfolding answered
returns-clause-answer c =
    let a = c.args in
    let l = limits_of a.reserve.now a.ceiling.now in
    let n = c.in_ok-judge_making.ensures l c.fresh_counts-words.ensures in
    rw (makes_on a.desks.now l (book_of a.body.now a.heads.now a.mark.now a.free.now a.counts.now) (sym n)) refl

pub returns-clause-book : goal.returns-clause-book
unfolding made_after
returns-clause-book c =
    let a = c.args in
    let l = limits_of a.reserve.now a.ceiling.now in
    let n = c.in_ok-judge_making.ensures l c.fresh_counts-words.ensures in
    rw (makes_on a.desks.now l (book_of a.body.now a.heads.now a.mark.now a.free.now a.counts.now) (sym n))
    (ap (λ (x : List ℕ). book a.body.now x 4096 (replicate 9 0) c.fresh_counts-words.result) (c.fill.ensures.after (λ y e. cc))
    ∙ ap (book a.body.now (replicate (length a.heads.now) 0) 4096 (replicate 9 0)) c.fresh_counts-words.ensures)
