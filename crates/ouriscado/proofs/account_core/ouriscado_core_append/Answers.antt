-- `ouriscado_core_append` hands out what `append` answers.
use Rattle.std.proofs.Common.{◌∙◌, ap}
use Rattle.error.specs.Refusal.{refusal_of}
use Rattle.error.proofs.LawsOut.{number_answered, value_same}
use Rattle.book_rules.specs.Outcomes.{Appended}
use Rattle.book.specs.Book.{Outcome}
use Rattle.ouriscado.specs.OutHead.{kind_out, class_out, used_out, place_out}
use Rattle.ouriscado.specs.OutBook.{new_place, records_rewritten}
use Rattle.ouriscado.proofs.LawsBook.{kept_book}
use Rattle.ouriscado.proofs.account_core.ouriscado_core_append.Goals as goal

pub returns : goal.returns
returns c =
    let e = c.append-answer.ensures in
    let h = c.put_appended.ensures in
    let number = h.number ∙ ap refusal_of e.answer ∙ number_answered (λ (o : Outcome Appended). o.told) _ in
    record {
      number = number;
      book = e.book;
      kind = h.kind ∙ value_same (λ (t : Appended). kind_out (new_place t)) _ e.answer;
      class = h.class ∙ value_same (λ (t : Appended). class_out (new_place t)) _ e.answer;
      used = h.used ∙ value_same (λ (t : Appended). used_out (new_place t)) _ e.answer;
      place = h.place ∙ value_same (λ (t : Appended). place_out (new_place t)) _ e.answer;
      rewritten = h.rewritten ∙ value_same records_rewritten _ e.answer;
      kept = kept_book _ number e.book;
    }
