-- `page_past` meets its contract: what is told of the last page decides, and there is no spot.
use Rattle.std.proofs.Common.{ap, arith, refl, sym}
use Rattle.std.proofs.lemmas.Result.{err_from_is_err_and}
use Rattle.error.proofs.LawsAnswer.{was_refused}
use Rattle.book_keys.specs.Keys.{soundly, tail_at, body_ground}
use Rattle.book_keys.specs.Steps.{tail_end_of}
use Rattle.book_keys.proofs.LawsSound.{unsound_is}
use Rattle.book.specs.Book.{Book}
use Rattle.book.specs.Answers.{book_of}
use Rattle.book_append.proofs.LawsAppend.{TailTold, tail_told, tail_untold, does_none, page_unsound, page_low, page_full}
use Rattle.book_extend.proofs.past.page_past.Goals as goal

pub returns-in_err-fk : goal.returns-in_err-fk
returns-in_err-fk c =
    let p = err_from_is_err_and c.from_residual.result c.from_residual.ensures.1 in
    let a = c.args in
    let b : Book = book_of a.body.now a.heads.now a.mark.now a.free.now a.counts.now in
    let is = tail_untold a.body.now a.mark.now a.free.now a.last c.in_err-fk.ensures refl in
    let number =
    unsound_is (tail_at (body_ground a.body.now a.mark.now) a.last)
    (was_refused tail_end_of (soundly (tail_at (body_ground a.body.now a.mark.now) a.last)) (sym c.in_err-fk.ensures)) in
    rw (p.1, p.2, number) (does_none b (page_unsound a.desk b a.key a.n a.last is.1))

pub returns-then-n-fk : goal.returns-then-n-fk
returns-then-n-fk c =
    let b : Book = book_of c.args.body.now c.args.heads.now c.args.mark.now c.args.free.now c.args.counts.now in
    let told : TailTold b.space c.args.last c.in_ok-fk.field-0.taken c.in_ok-fk.field-0.fk c.in_ok-fk.field-0.first c.in_ok-fk.field-0.creates =
    let a = c.args in
    tail_told a.body.now a.mark.now a.free.now a.last c.in_ok-fk.ensures refl in
    let a = c.args in
    does_none b (page_low a.desk b a.key a.n a.last told c.if-n-fk.true)

pub grow_chain-requires : goal.grow_chain-requires
grow_chain-requires c =
    let b : Book = book_of c.args.body.now c.args.heads.now c.args.mark.now c.args.free.now c.args.counts.now in
    let told : TailTold b.space c.args.last c.in_ok-fk.field-0.taken c.in_ok-fk.field-0.fk c.in_ok-fk.field-0.first c.in_ok-fk.field-0.creates =
    let a = c.args in
    tail_told a.body.now a.mark.now a.free.now a.last c.in_ok-fk.ensures refl in
    let a = c.args in
    let t = told in
    let full = c.requires.not_taken t.tail t.sound (omega (arith, t.fk_is, c.if-n-fk.false)) c.requires.to_append.low in
    page_full a.desk b a.key a.n a.last t (omega (arith, c.if-n-fk.false)) c.requires.to_append
    (rw (t.taken_is, t.fk_is) at full)
