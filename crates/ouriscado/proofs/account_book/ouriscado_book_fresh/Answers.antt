-- `ouriscado_book_fresh` tells the number of what `fresh` answers.
use Rattle.std.proofs.Common.{sym, ◌∙◌, ap}
use Rattle.error.specs.Refusal.{refusal_of}
use Rattle.error.proofs.LawsResult.{number_meant}
use Rattle.error.proofs.LawsOut.{number_answered}
use Rattle.book.specs.Book.{Book}
use Rattle.ouriscado.proofs.LawsBook.{kept_fresh}
use Rattle.ouriscado.proofs.account_book.ouriscado_book_fresh.Goals as goal

pub returns : goal.returns
returns c =
    let e = c.fresh.ensures in
    let number = c.number.ensures ∙ sym (number_meant (λ made. tt) c.fresh.result) ∙ ap refusal_of e.answer ∙ number_answered (λ (b : Book). tt) _ in
    record {
      number = number;
      book = e.book;
      kept = kept_fresh _ number e.book;
    }
