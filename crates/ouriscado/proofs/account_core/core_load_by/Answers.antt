-- `core_load_by` hands out what `load` answers.
use Rattle.std.proofs.Common.{ℕ, ◌-◌, List, ◌≡◌, refl, sym, ◌∙◌, ap, length, take, drop}
use Rattle.error.specs.Refusal.{Answer, refusal_of}
use Rattle.error.proofs.LawsResult.{number_meant}
use Rattle.error.proofs.LawsOut.{number_answered, value_same}
use Rattle.buffer.proofs.LawsBytes.{part_to_end}
use Rattle.book_rules.specs.Outcomes.{Loaded, loaded_in, answer_of, book_after}
use Rattle.book.specs.Book.{Book, Outcome}
use Rattle.book.specs.Answers.{book_of}
use Rattle.book_load.specs.Loads.{loads}
use Rattle.ouriscado.specs.OutBook.{pages_loaded}
use Rattle.ouriscado.proofs.LawsAnswers.{value_meant}
use Rattle.ouriscado.proofs.LawsBook.{kept_book}
use Rattle.ouriscado.proofs.account_core.core_load_by.Goals as goal

-- a load of a list, which is handed on as a part, is one of the list
module _ (c : goal.After-hand_out) where
  abbrev b : Book
  b = book_of c.args.body.now c.args.heads.now c.args.mark.now c.args.free.now c.args.counts.now

  abbrev did : List ℕ → Answer (Outcome Loaded)
  did fks = loads c.args.fit c.args.desk b c.args.key fks

  same : did (take (length c.args.fks.now - 0) (drop 0 c.args.fks.now)) ≡ did c.args.fks.now
  same = ap did (part_to_end c.args.fks.now 0)

pub returns : goal.returns
returns c =
    let e = c.load-answer.ensures in
    let h = c.hand_out.ensures in
    let told = e.answer ∙ ap answer_of (same c) in
    let left = e.book ∙ ap (book_after (b c)) (same c) in
    let number = h.number ∙ sym (number_meant loaded_in c.load-answer.result) ∙ ap refusal_of told ∙ number_answered (λ (o : Outcome Loaded). o.told) (did c c.args.fks.now) in
    record {
      number = number;
      book = left;
      pages = h.value ∙ value_meant loaded_in pages_loaded (λ n. refl) c.load-answer.result 0 ∙ value_same pages_loaded _ told;
      kept = kept_book (did c c.args.fks.now) number left;
    }
