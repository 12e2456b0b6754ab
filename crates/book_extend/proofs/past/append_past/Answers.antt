-- `append_past` meets its contract: the shape, the number by itself, the head word, and then the key's place.
use Rattle.std.proofs.Common.{false, ◌≡◌, refl, sym, ◌∙◌, length, true}
use Rattle.std.proofs.lemmas.Result.{err_from_is_err_and}
use Rattle.error.specs.Refusal.{accepted}
use Rattle.book_rules.specs.Offered.{offered_number}
use Rattle.book_space.specs.Space.{shape_broken}
use Rattle.book_space.proofs.LawsShape.{shape_holds}
use Rattle.book_space.proofs.LawsSteps.{number_some}
use Rattle.book.specs.Book.{Book}
use Rattle.book.specs.Answers.{book_of}
use Rattle.book_append.proofs.LawsAppend.{does_as, does_none, judged_yes, judged_no, append_shape, append_number, append_unsound, append_at_lem}
use Rattle.book_extend.proofs.past.append_past.Goals as goal

pub returns-then-shape_broken : goal.returns-then-shape_broken
returns-then-shape_broken c =
    let a = c.args in
    let b : Book = book_of a.body.now a.heads.now a.mark.now a.free.now a.counts.now in
    does_none b (append_shape a.desk b a.key a.n (sym (c.shape_broken.ensures a.free.now) ∙ c.if-shape_broken.true))

pub returns-in_err-judge_number : goal.returns-in_err-judge_number
returns-in_err-judge_number c =
    let e = err_from_is_err_and c.from_residual.result c.from_residual.ensures.1 in
    let a = c.args in
    let b : Book = book_of a.body.now a.heads.now a.mark.now a.free.now a.counts.now in
    let p = c.requires in
    let shape : shape_broken b.space (length b.heads) ≡ false = sym (c.shape_broken.ensures a.free.now) ∙ c.if-shape_broken.false in
    let is = judged_no (offered_number true 0 a.n (accepted 0)) _ c.in_err-judge_number.ensures (number_some _) in
    rw (e.1, e.2) (does_none b (append_number a.desk b a.key a.n shape p.known p.keyed 0 is))

pub returns-in_default : goal.returns-in_default
returns-in_default c =
    let a = c.args in
    let b : Book = book_of a.body.now a.heads.now a.mark.now a.free.now a.counts.now in
    let p = c.requires in
    let shape : shape_broken b.space (length b.heads) ≡ false = sym (c.shape_broken.ensures a.free.now) ∙ c.if-shape_broken.false in
    let fine = judged_yes a.n 0 c.in_ok-judge_number.ensures refl in
    does_none b (append_unsound a.desk b a.key a.n shape p.known p.keyed fine.0 fine.1 (sym c.in_default.ensures))

pub append_past_at-requires : goal.append_past_at-requires
append_past_at-requires c =
    let a = c.args in
    let b : Book = book_of a.body.now a.heads.now a.mark.now a.free.now a.counts.now in
    let p = c.requires in
    let shape : shape_broken b.space (length b.heads) ≡ false = sym (c.shape_broken.ensures a.free.now) ∙ c.if-shape_broken.false in
    let fine = judged_yes a.n 0 c.in_ok-judge_number.ensures refl in
    record {
      to_append = record {
        shape = (shape_holds b.space (length b.heads) shape).0;
        known = p.known;
        keyed = p.keyed;
        above = fine.0;
        low = fine.1;
      };
      stands = sym c.in-Ok.ensures;
      not_taken = p.not_taken a.free.now shape c.in-Ok.place (sym c.in-Ok.ensures);
    }

pub returns : goal.returns
returns c =
    let a = c.args in
    let b : Book = book_of a.body.now a.heads.now a.mark.now a.free.now a.counts.now in
    let p = c.requires in
    let shape : shape_broken b.space (length b.heads) ≡ false = sym (c.shape_broken.ensures a.free.now) ∙ c.if-shape_broken.false in
    let fine = judged_yes a.n 0 c.in_ok-judge_number.ensures refl in
    does_as (append_at_lem a.desk b a.key a.n shape p.known p.keyed fine.0 fine.1 (sym c.in-Ok.ensures)) c.append_past_at.ensures
