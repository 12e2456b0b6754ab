-- `ouriscado_core_read` hands out what `read` answers.
use Rattle.std.proofs.Common.{ℕ, ◌-◌, List, [], ◌≡◌, ◌∙◌, ap, length, take, drop}
use Rattle.error.specs.Refusal.{Answer, answered, refusal_of, value_or}
use Rattle.error.proofs.LawsOut.{number_answered, value_answered, value_same}
use Rattle.buffer.proofs.LawsBytes.{part_to_end}
use Rattle.book_rules.specs.Outcomes.{Listed}
use Rattle.book.specs.Answers.{book_of}
use Rattle.book_read.specs.Reads.{reads, list_after}
use Rattle.book_read.specs.Answers.{Counted, counted_of, read_answer}
use Rattle.ouriscado.proofs.LawsBook.{kept_list}
use Rattle.ouriscado.proofs.account_core.ouriscado_core_read.Goals as goal

-- what is read, whatever the free heads and the counts are: body and heads, which are handed on as parts, are those that were lent
module _ (c : goal.After-put_listed) (free counts : List ℕ) where
  abbrev from : List ℕ → List ℕ → Answer Listed
  from body heads = reads (book_of body heads c.args.mark free counts) c.args.key (length c.args.out.now)

  abbrev bytes : List ℕ
  bytes = c.args.body.now

  abbrev words : List ℕ
  words = c.args.heads.now

  abbrev got : Answer Listed
  got = from bytes words

  same : from (take (length bytes - 0) (drop 0 bytes)) (take (length words - 0) (drop 0 words)) ≡ got
  same = ap (λ (bs : List ℕ). from bs (take (length words - 0) (drop 0 words))) (part_to_end bytes 0)
      ∙ ap (from bytes) (part_to_end words 0)

  answer : read_answer c.read-answer.result ≡ answered counted_of got
  answer = c.read-answer.ensures.answer free counts ∙ ap (answered counted_of) same

  number : c.put_listed.result ≡ refusal_of got
  number = c.put_listed.ensures.number ∙ ap refusal_of answer ∙ number_answered counted_of got

  -- a number of those that the answer counts
  counted : (of : Counted → ℕ) {told : ℕ} → told ≡ value_or of (read_answer c.read-answer.result) 0
      → told ≡ value_or (λ (l : Listed). of (counted_of l)) got 0
  counted of told = told ∙ value_same of _ answer ∙ value_answered of counted_of 0 got

pub returns : goal.returns
returns c =
    let h = c.put_listed.ensures in
    let list = c.read-answer.ensures.list in
    record {
      number = number c;
      list = λ free counts. list free counts ∙ ap (list_after c.args.out.now) (same c free counts);
      length = λ free counts. counted c free counts (λ (x : Counted). x.length) h.count;
      pages = λ free counts. counted c free counts (λ (x : Counted). x.pages) h.walked;
      padded = λ free counts. counted c free counts (λ (x : Counted). x.padded) h.longer;
      kept = kept_list c.args.out.now _ (number c [] []) (list [] [] ∙ ap (list_after c.args.out.now) (same c [] []));
    }
