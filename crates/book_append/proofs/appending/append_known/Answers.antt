-- `append_known` meets its contract: the number by itself, the head word, and then the key's place.
use Rattle.std.proofs.Common.{◌≡◌, refl, sym, length, true}
use Rattle.std.proofs.lemmas.Result.{err_from_is_err_and}
use Rattle.error.specs.Refusal.{accepted}
use Rattle.book_rules.specs.Offered.{offered_number}
use Rattle.book_space.proofs.LawsShape.{shape_holds}
use Rattle.book_space.proofs.LawsSteps.{number_some}
use Rattle.book.specs.Book.{Book}
use Rattle.book.specs.Answers.{book_of}
use Rattle.book_append.proofs.LawsAppend.{does_as, does_none, judged_yes, judged_no, append_number, append_unsound, append_at_lem}
use Rattle.book_append.proofs.appending.append_known.Goals as goal

pub returns-in_err-judge_number : goal.returns-in_err-judge_number
returns-in_err-judge_number c =
    let e = err_from_is_err_and c.from_residual.result c.from_residual.ensures.1 in
    let a = c.args in
    let b : Book = book_of a.body.now a.heads.now a.mark.now a.free.now a.counts.now in
    let p = c.requires in
    let is = judged_no (offered_number true 0 a.n (accepted 0)) _ c.in_err-judge_number.ensures (number_some _) in
    rw (e.1, e.2) (does_none b (append_number a.desk b a.key a.n p.shape p.known p.keyed 0 is))

pub returns-in_default : goal.returns-in_default
returns-in_default c =
    let a = c.args in
    let b : Book = book_of a.body.now a.heads.now a.mark.now a.free.now a.counts.now in
    let p = c.requires in
    let fine = judged_yes a.n 0 c.in_ok-judge_number.ensures refl in
    does_none b (append_unsound a.desk b a.key a.n p.shape p.known p.keyed fine.0 fine.1 (sym c.in_default.ensures))

pub append_at-requires : goal.append_at-requires
append_at-requires c =
    let a = c.args in
    let b : Book = book_of a.body.now a.heads.now a.mark.now a.free.now a.counts.now in
    let p = c.requires in
    let fine = judged_yes a.n 0 c.in_ok-judge_number.ensures refl in
    record {
      to_append = record {
        shape = (shape_holds b.space (length b.heads) p.shape).0;
        known = p.known;
        keyed = p.keyed;
        above = fine.0;
        low = fine.1;
      };
      stands = sym c.in-Ok.ensures;
    }

pub returns : goal.returns
returns c =
    let a = c.args in
    let b : Book = book_of a.body.now a.heads.now a.mark.now a.free.now a.counts.now in
    let p = c.requires in
    let fine = judged_yes a.n 0 c.in_ok-judge_number.ensures refl in
    does_as (append_at_lem a.desk b a.key a.n p.shape p.known p.keyed fine.0 fine.1 (sym c.in-Ok.ensures)) c.append_at.ensures
