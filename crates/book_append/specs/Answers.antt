-- What the answers of an append mean: a refusal's number (FORMAT, Refusals) or what was told.
use Rattle.std.specs.Prelude.{Result}
use Rattle.error.specs.Refusal.{Answer}
use Rattle.error.specs.Answers.{result_answer}
use Rattle.error.specs.declared.Refusal.{Refusal}
use Rattle.book_rules.specs.Outcomes.{appended_to, Appended}
use Rattle.book_append.specs.declared.answers.AppendedTo.{AppendedTo}

-- The answer of `append`.
abbrev pub append_answer : Result AppendedTo Refusal → Answer Appended
append_answer = result_answer (λ to. appended_to to.place to.rewritten)
