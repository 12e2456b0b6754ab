-- What the answers of a load mean: a refusal's number (FORMAT, Refusals) or what was told.
use Rattle.std.specs.Prelude.{ℕ, Result}
use Rattle.error.specs.Refusal.{Answer}
use Rattle.error.specs.Answers.{result_answer}
use Rattle.error.specs.declared.Refusal.{Refusal}
use Rattle.book_rules.specs.Outcomes.{loaded_in, Loaded}

-- The answer of `load`: how many pages it took.
abbrev pub load_answer : Result ℕ Refusal → Answer Loaded
load_answer = result_answer (λ pages. loaded_in pages)
