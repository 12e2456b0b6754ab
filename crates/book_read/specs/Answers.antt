-- What the answers of a read mean: a refusal's number (FORMAT, Refusals) or what was told.
use Rattle.std.specs.Prelude.{ℕ, length, Result}
use Rattle.error.specs.Refusal.{Answer}
use Rattle.error.specs.Answers.{result_answer}
use Rattle.error.specs.declared.Refusal.{Refusal}
use Rattle.book_rules.specs.Outcomes.{Listed}
use Rattle.book_read.specs.declared.answers.BookRead.{BookRead}

-- What a read answers besides its list: how long it is, the pages walked, and how many of the numbers are padded.
pub record Counted : Type 0 where
  pub length : ℕ
  pub pages : ℕ
  pub padded : ℕ

-- The answer of `read`.
abbrev pub read_answer : Result BookRead Refusal → Answer Counted
read_answer = result_answer (λ read. record { length = read.length; pages = read.pages; padded = read.padded })

-- What a read tells besides its list.
abbrev pub counted_of : Listed → Counted
counted_of l = record { length = length l.numbers; pages = l.pages; padded = l.padded }
