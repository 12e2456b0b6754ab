-- `run_calls` meets its contract: a law for each of its four ways out.
use Rattle.std.proofs.Common.{true, List, ◌≡◌, sym, ◌∙◌, leb, length}
use Rattle.std.proofs.lemmas.Result.{err_from_is_err_and}
use Rattle.std.proofs.Math.Option.{some}
use borrow.Author.Tests.{not-true, not-false}
use Rattle.book_words.specs.Spelled.{SpelledCall}
use Rattle.book_words.specs.SpellCalls.{calls_of, answers_room}
use Rattle.book_calls.specs.Steps.{is_some}
use Rattle.book_calls.proofs.LawsFresh.{was_some, was_none, unspelled, too_short, not_made, all_ran}
use Rattle.book_calls.proofs.runs.run_calls.Goals as goal

pub returns-then-not-calls_spelled : goal.returns-then-not-calls_spelled
returns-then-not-calls_spelled c =
    unspelled _ _ _ _ (was_none _ (sym c.calls_spelled.ensures ∙ not-true c.calls_spelled.result c.if-not-calls_spelled.true-raw))

pub returns-then-not-calls_fit : goal.returns-then-not-calls_fit
returns-then-not-calls_fit c =
    let spelled : is_some (calls_of c.args.calls.now) ≡ true =
    sym c.calls_spelled.ensures ∙ not-false c.calls_spelled.result c.if-not-calls_spelled.false-raw in
    let (cs, e) = was_some _ spelled in
    too_short _ _ _ _ cs e (sym (c.calls_fit.ensures cs e) ∙ not-true c.calls_fit.result c.if-not-calls_fit.true-raw)

pub returns-in_err-fresh : goal.returns-in_err-fresh
returns-in_err-fresh c =
    let spelled : is_some (calls_of c.args.calls.now) ≡ true =
    sym c.calls_spelled.ensures ∙ not-false c.calls_spelled.result c.if-not-calls_spelled.false-raw in
    let fit : (cs : List SpelledCall) → calls_of c.args.calls.now ≡ some cs → leb (answers_room cs) (length c.args.answers.now) ≡ true =
    λ cs e.
    sym (c.calls_fit.ensures cs e) ∙ not-false c.calls_fit.result c.if-not-calls_fit.false-raw in
    let (cs, e) = was_some _ spelled in
    let did = c.fresh.ensures in
    let p = err_from_is_err_and c.from_residual.result c.from_residual.ensures.1 in
    rw (p.1, p.2) (not_made _ _ _ _ _ cs _ _ e (fit cs e) did.answer c.in_err-fresh.was did.book)

pub returns : goal.returns
returns c =
    let spelled : is_some (calls_of c.args.calls.now) ≡ true =
    sym c.calls_spelled.ensures ∙ not-false c.calls_spelled.result c.if-not-calls_spelled.false-raw in
    let fit : (cs : List SpelledCall) → calls_of c.args.calls.now ≡ some cs → leb (answers_room cs) (length c.args.answers.now) ≡ true =
    λ cs e.
    sym (c.calls_fit.ensures cs e) ∙ not-false c.calls_fit.result c.if-not-calls_fit.false-raw in
    let (cs, e) = was_some _ spelled in
    let did = c.fresh.ensures in
    all_ran _ _ _ _ _ _ cs _ _ _ e (fit cs e) did.answer c.in_ok-fresh.was did.book (c.run_spelled.ensures cs e)
