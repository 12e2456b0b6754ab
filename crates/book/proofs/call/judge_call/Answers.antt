-- `judge_call` meets its contract, test by test.
use Rattle.std.proofs.Common.{ℕ, List, length, false, ◌≡◌, sym, ap, ◌∙◌}
use Rattle.book_desks.specs.Desks.{list_bad}
use Rattle.book_space.specs.Space.{shape_broken}
use Rattle.book.specs.Book.{Book}
use Rattle.book.specs.Answers.{book_of}
use Rattle.book.proofs.LawsKey.{number_shape, number_counts, number_list, number_none}
use Rattle.book.proofs.call.judge_call.Goals as goal

pub returns-then-shape_broken : goal.returns-then-shape_broken
returns-then-shape_broken c words free e =
    let a = c.args in
    let b : Book = book_of a.body.now words a.mark free a.counts.now in
    number_shape a.desks.now b (ap (shape_broken b.space) e ∙ sym (c.shape_broken.ensures free) ∙ c.if-shape_broken.true)

pub returns-then-counts_high : goal.returns-then-counts_high
returns-then-counts_high c words free e =
    let a = c.args in
    let b : Book = book_of a.body.now words a.mark free a.counts.now in
    number_counts a.desks.now b (ap (shape_broken b.space) e ∙ sym (c.shape_broken.ensures free) ∙ c.if-shape_broken.false)
    (sym c.counts_high.ensures ∙ c.if-counts_high.true)

pub returns-then-list_bad : goal.returns-then-list_bad
returns-then-list_bad c words free e =
    let a = c.args in
    let b : Book = book_of a.body.now words a.mark free a.counts.now in
    number_list a.desks.now b (ap (shape_broken b.space) e ∙ sym (c.shape_broken.ensures free) ∙ c.if-shape_broken.false)
    (sym c.counts_high.ensures ∙ c.if-counts_high.false) (ap (list_bad a.desks.now) e ∙ sym c.list_bad.ensures ∙ c.if-list_bad.true)

pub returns : goal.returns
returns c words free e =
    let a = c.args in
    let b : Book = book_of a.body.now words a.mark free a.counts.now in
    number_none a.desks.now b (ap (shape_broken b.space) e ∙ sym (c.shape_broken.ensures free) ∙ c.if-shape_broken.false)
    (sym c.counts_high.ensures ∙ c.if-counts_high.false) (ap (list_bad a.desks.now) e ∙ sym c.list_bad.ensures ∙ c.if-list_bad.false)
