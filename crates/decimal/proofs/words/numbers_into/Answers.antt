-- Where no word is left, what was put is all; else the next word is put, or ends the reading.
use Rattle.std.proofs.Common.{arith, ◌∙◌, refl}
use Rattle.std.proofs.lemmas.Result.{err_from_is_err_and}
use Rattle.decimal.proofs.LawsWords.{words_end, words_next, taken_none, taken_word, stopped, went_on}
use Rattle.decimal.proofs.words.numbers_into.Goals as goal

pub returns-then-start-line-clause-answer : goal.returns-then-start-line-clause-answer
returns-then-start-line-clause-answer c =
    let none_left = c.skip_spaces-start.ensures.same ∙ words_end c.args.line.now c.skip_spaces-start.result (omega (arith, c.if-start-line.true)) in
    (taken_none _ c.args.line.now c.loop-at.list c.loop-at.count _ none_left c.loop-at.invariant.2).0

pub returns-then-start-line-clause-list : goal.returns-then-start-line-clause-list
returns-then-start-line-clause-list c =
    let none_left = c.skip_spaces-start.ensures.same ∙ words_end c.args.line.now c.skip_spaces-start.result (omega (arith, c.if-start-line.true)) in
    (taken_none _ c.args.line.now c.loop-at.list c.loop-at.count _ none_left c.loop-at.invariant.2).1

pub returns-in_err-put_word-clause-answer : goal.returns-in_err-put_word-clause-answer
returns-in_err-put_word-clause-answer c =
    let p = err_from_is_err_and c.from_residual.result c.from_residual.ensures.1 in
    let next =
    words_next c.args.line.now c.loop-at.at c.skip_spaces-start.result c.word_end-end.result c.skip_spaces-start.ensures
    (omega (arith, c.skip_spaces-start.ensures.inside, c.if-start-line.false)) c.word_end-end.ensures in
    rw (p.1, p.2)
    (stopped _ _ _ _ _ refl
    (taken_word _ c.args.line.now c.loop-at.list _ c.loop-at.count c.skip_spaces-start.result c.word_end-end.result _ _ _ next
    c.loop-at.invariant.2 c.in_err-put_word.ensures.by_index)).0

pub returns-in_err-put_word-clause-list : goal.returns-in_err-put_word-clause-list
returns-in_err-put_word-clause-list c =
    let next =
    words_next c.args.line.now c.loop-at.at c.skip_spaces-start.result c.word_end-end.result c.skip_spaces-start.ensures
    (omega (arith, c.skip_spaces-start.ensures.inside, c.if-start-line.false)) c.word_end-end.ensures in
    (stopped _ _ _ _ _ refl
    (taken_word _ c.args.line.now c.loop-at.list _ c.loop-at.count c.skip_spaces-start.result c.word_end-end.result _ _ _ next
    c.loop-at.invariant.2 c.in_err-put_word.ensures.by_index)).1

pub loop-at-preserved : goal.loop-at-preserved
loop-at-preserved c =
    let next =
    words_next c.args.line.now c.loop-at.at c.skip_spaces-start.result c.word_end-end.result c.skip_spaces-start.ensures
    (omega (arith, c.skip_spaces-start.ensures.inside, c.if-start-line.false)) c.word_end-end.ensures in (
      c.word_end-end.ensures.inside,
      omega (arith, c.loop-at.invariant, c.skip_spaces-start.ensures.after, c.word_end-end.ensures.after),
      went_on _ _ _ _ refl
          (taken_word _ c.args.line.now c.loop-at.list _ c.loop-at.count c.skip_spaces-start.result c.word_end-end.result _ _ _ next
          c.loop-at.invariant.2 c.in_ok-put_word.ensures.by_index),
    )

pub returns-clause-answer : goal.returns-clause-answer
returns-clause-answer c =
    (taken_none _ c.args.line.now c.loop-at.list c.loop-at.count _
    (words_end c.args.line.now c.loop-at.at (omega (arith, c.loop-at-test.false)))
    c.loop-at.invariant.2).0

pub returns-clause-list : goal.returns-clause-list
returns-clause-list c =
    (taken_none _ c.args.line.now c.loop-at.list c.loop-at.count _
    (words_end c.args.line.now c.loop-at.at (omega (arith, c.loop-at-test.false)))
    c.loop-at.invariant.2).1
