-- `ouriscado_book_check` hands out what `judge_start` answers. Assumes nothing.
use Prim.Native.Nat.{ℕ, ◌/◌}
use mathlib.Core.Path.{◌≡◌, sym, ◌∙◌, ap}
use lib.ListN.{length}
use Rattle.error.specs.Refusal.{Answer, refusal_of, value_or}
use Rattle.book_start.specs.Start.{Verdict}
use Rattle.book_start.specs.Answers.{ground_of, which_of, lost_of, start_answer}
use Rattle.ouriscado.proofs.LawsBook.{kept_work}
use Rattle.ouriscado.proofs.account_book.ouriscado_book_check.Goals as goal

pub returns-in-Ok : goal.returns-in-Ok
returns-in-Ok c =
    let e = c.judge_start.ensures in
    let told = sym (ap start_answer c.in-Ok.is) ∙ e.answer in record {
      number = ap refusal_of told;
      list = e.list;
      fault = c.ground.ensures ∙ ap (λ (a : Answer Verdict). value_or ground_of a 0) told;
      which = c.which.ensures ∙ ap (λ (a : Answer Verdict). value_or which_of a 0) told;
      lost = c.lost.ensures ∙ ap (λ (a : Answer Verdict). value_or lost_of a 0) told;
      kept = kept_work (length c.args.body.now / 128) c.args.work.now _ (ap refusal_of told) e.list;
    }

pub returns-in-Err : goal.returns-in-Err
returns-in-Err c =
    let e = c.judge_start.ensures in
    let told = sym (ap start_answer c.in-Err.is) ∙ e.answer in
    let number = c.from.ensures ∙ ap refusal_of told in record {
      number = number;
      list = e.list;
      fault = ap (λ (a : Answer Verdict). value_or ground_of a 0) told;
      which = ap (λ (a : Answer Verdict). value_or which_of a 0) told;
      lost = ap (λ (a : Answer Verdict). value_or lost_of a 0) told;
      kept = kept_work (length c.args.body.now / 128) c.args.work.now _ number e.list;
    }
