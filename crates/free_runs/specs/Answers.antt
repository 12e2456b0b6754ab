-- What the answers of a search mean: a refusal's number (FORMAT, Refusals) or what was told.
use Rattle.std.specs.Prelude.{ℕ, Option, Result}
use Rattle.std.proofs.Math.Option as maybe
use Rattle.error.specs.Refusal.{Answer}
use Rattle.error.specs.Answers.{result_answer, told_by}
use Rattle.error.specs.declared.Refusal.{Refusal}

-- The answer of `seek_run`: where the run begins, that there is none, or that the list can't be searched.
abbrev pub found_answer : Result (Option ℕ) Refusal → Answer (maybe.Option ℕ)
found_answer = result_answer (told_by (λ off. off))
