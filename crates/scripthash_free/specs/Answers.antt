-- What the answers of the code mean: a refusal's number (FORMAT, Refusals) or what was told.
use Rattle.std.specs.Prelude.{ℕ, Option, Result}
use Rattle.std.proofs.Math.Option as maybe
use Rattle.error.specs.Refusal.{Answer}
use Rattle.error.specs.Answers.{result_answer, told_by}
use Rattle.error.specs.declared.Refusal.{Refusal}
use Rattle.scripthash_free.specs.FreeList.{Lists}

-- The answer of `largest_reloc_class_le`.
abbrev pub class_answer : Option ℕ → maybe.Option ℕ
class_answer = told_by (λ class. class)

-- The answer of a push and of carving a gap: done, or a refusal.
abbrev pub push_answer : Result (Unit {0}) Refusal → Answer (Unit {0})
push_answer = result_answer (λ done. tt)

-- The answer of a pop: a block's offset, none, or a refusal.
abbrev pub pop_answer : Result (Option ℕ) Refusal → Answer (maybe.Option ℕ)
pop_answer = result_answer (told_by (λ off. off))

-- That a call was done.
abbrev pub was_done : Lists → Unit {0}
was_done l = tt
