-- What the answers of takes mean: a refusal's number (FORMAT, Refusals) or an offset.
use Rattle.std.specs.Prelude.{ℕ, Result}
use Rattle.error.specs.Refusal.{Answer}
use Rattle.error.specs.Answers.{result_answer}
use Rattle.error.specs.declared.Refusal.{Refusal}

-- The answer of `take_block` and of `run_at_mark`: where the block or run begins, or a refusal.
abbrev pub take_answer : Result ℕ Refusal → Answer ℕ
take_answer = result_answer (λ off. off)

-- The answer of a look ahead: where the mark would stand after a take, or its refusal.
abbrev pub peek_answer : Result ℕ Refusal → Answer ℕ
peek_answer = result_answer (λ mark. mark)
