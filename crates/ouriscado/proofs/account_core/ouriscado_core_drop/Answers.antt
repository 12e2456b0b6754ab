-- `ouriscado_core_drop` hands out what `drop` answers.
use Rattle.std.proofs.Common.{refl, sym, ◌∙◌, ap}
use Rattle.error.specs.Refusal.{refusal_of}
use Rattle.error.proofs.LawsResult.{number_meant}
use Rattle.error.proofs.LawsOut.{number_answered, value_same}
use Rattle.book.specs.Book.{Outcome}
use Rattle.ouriscado.specs.OutBook.{length_dropped}
use Rattle.ouriscado.proofs.LawsAnswers.{value_meant}
use Rattle.ouriscado.proofs.LawsBook.{kept_book}
use Rattle.book_rules.specs.Outcomes.{Dropped, dropped_of}
use Rattle.ouriscado.proofs.account_core.ouriscado_core_drop.Goals as goal

pub returns : goal.returns
returns c =
    let e = c.drop-answer.ensures in
    let h = c.hand_out.ensures in
    let number = h.number ∙ sym (number_meant dropped_of c.drop-answer.result) ∙ ap refusal_of e.answer ∙ number_answered (λ (o : Outcome Dropped). o.told) _ in
    record {
      number = number;
      book = e.book;
      length = h.value ∙ value_meant dropped_of length_dropped (λ n. refl) c.drop-answer.result 0 ∙ value_same length_dropped _ e.answer;
      kept = kept_book _ number e.book;
    }
