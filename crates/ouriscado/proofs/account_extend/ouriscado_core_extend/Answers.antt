-- `ouriscado_core_extend` hands out what `extend` answers.
use Rattle.std.proofs.Common.{◌∙◌, ap}
use Rattle.error.specs.Refusal.{refusal_of}
use Rattle.error.proofs.LawsOut.{number_answered, value_same}
use Rattle.book.specs.Book.{Outcome}
use Rattle.book_extend.specs.Extends.{Extended}
use Rattle.ouriscado.specs.OutHead.{kind_out, class_out, used_out, place_out}
use Rattle.ouriscado.specs.OutExtend.{numbers_accepted, next_refusal, place_extended, moves_made, rewritten_by_moves}
use Rattle.ouriscado.proofs.LawsBook.{kept_book}
use Rattle.ouriscado.proofs.account_extend.ouriscado_core_extend.Goals as goal

pub returns : goal.returns
returns c =
    let e = c.extend-answer.ensures in
    let h = c.put_extended.ensures in
    let number = h.number ∙ ap refusal_of e.answer ∙ number_answered (λ (o : Outcome Extended). o.told) _ in
    record {
      number = number;
      book = e.book;
      accepted = h.accepted ∙ value_same numbers_accepted _ e.answer;
      refusal = h.refusal ∙ value_same next_refusal _ e.answer;
      kind = h.kind ∙ value_same (λ (t : Extended). kind_out (place_extended t)) _ e.answer;
      class = h.class ∙ value_same (λ (t : Extended). class_out (place_extended t)) _ e.answer;
      used = h.used ∙ value_same (λ (t : Extended). used_out (place_extended t)) _ e.answer;
      place = h.place ∙ value_same (λ (t : Extended). place_out (place_extended t)) _ e.answer;
      moves = h.moves ∙ value_same moves_made _ e.answer;
      rewritten = h.rewritten ∙ value_same rewritten_by_moves _ e.answer;
      kept = kept_book _ number e.book;
    }
