-- What the answers of a drop mean: a refusal's number (FORMAT, Refusals) or what was told.
use Rattle.std.specs.Prelude.{ℕ, Result}
use Rattle.error.specs.Refusal.{Answer}
use Rattle.error.specs.Answers.{result_answer}
use Rattle.error.specs.declared.Refusal.{Refusal}
use Rattle.book_rules.specs.Outcomes.{dropped_of, Dropped}

-- The answer of `drop`: how many numbers the key had.
abbrev pub drop_answer : Result ℕ Refusal → Answer Dropped
drop_answer = result_answer (λ length. dropped_of length)
