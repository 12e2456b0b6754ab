-- What the answers of cutting mean: a refusal's number (FORMAT, Refusals) or how many parts there are.
use Rattle.std.specs.Prelude.{ℕ, Result}
use Rattle.error.specs.Refusal.{Answer}
use Rattle.error.specs.Answers.{result_answer}
use Rattle.error.specs.declared.Refusal.{Refusal}

-- The answer of `sh_page_chunk_ranges`.
abbrev pub chunk_answer : Result ℕ Refusal → Answer ℕ
chunk_answer = result_answer (λ count. count)
