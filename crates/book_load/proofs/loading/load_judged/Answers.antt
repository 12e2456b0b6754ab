-- `load_judged` meets its contract: the list's length decides.
use Rattle.std.proofs.Common.{◌≤◌, refl, sym, arith, length, ◌∙◌}
use borrow.Author.Tests.{eqb-true, eqb-false}
use Rattle.book.specs.Book.{Book}
use Rattle.book.specs.Answers.{book_of}
use Rattle.book.proofs.LawsKey.{does_same}
use Rattle.book_load.proofs.LawsLoad.{ends_same, load_none, load_one, load_more, many_in_pages}
use Rattle.book_load.proofs.loading.load_judged.Goals as goal

pub returns-then-is_empty : goal.returns-then-is_empty
returns-then-is_empty c =
    let book : Book = book_of c.args.body.now c.args.heads.now c.args.mark.now c.args.free.now c.args.counts.now in
    ends_same book _ (load_none c.args.fit c.args.desk book c.args.key c.args.fks.now (eqb-true _ 0 (sym c.is_empty.ensures ∙ c.if-is_empty.true)))

pub returns-then-fks-eq1 : goal.returns-then-fks-eq1
returns-then-fks-eq1 c =
    let book : Book = book_of c.args.body.now c.args.heads.now c.args.mark.now c.args.free.now c.args.counts.now in
    does_same (sym (load_one c.args.fit c.args.desk book c.args.key c.args.fks.now c.if-fks-eq1.true))
    (c.accept_load.ensures book book.space book.counts refl)

pub returns-then-fks : goal.returns-then-fks
returns-then-fks c =
    let book : Book = book_of c.args.body.now c.args.heads.now c.args.mark.now c.args.free.now c.args.counts.now in
    let two : 2 ≤ length c.args.fks.now = omega (arith, c.if-fks-eq1.false, eqb-false _ 0 (sym c.is_empty.ensures ∙ c.if-is_empty.false)) in
    rw (
      load_more c.args.fit c.args.desk book c.args.key c.args.fks.now two,
      many_in_pages c.args.fit c.args.fks.now (omega (arith, c.if-fks.true)),
    ) c.load_run.ensures

pub returns : goal.returns
returns c =
    let book : Book = book_of c.args.body.now c.args.heads.now c.args.mark.now c.args.free.now c.args.counts.now in
    let two : 2 ≤ length c.args.fks.now = omega (arith, c.if-fks-eq1.false, eqb-false _ 0 (sym c.is_empty.ensures ∙ c.if-is_empty.false)) in
    rw (load_more c.args.fit c.args.desk book c.args.key c.args.fks.now two) c.load_list.ensures
