-- What the answers of the code mean: a refusal's number (FORMAT, Refusals) or values for each of their cases.
use Rattle.std.specs.Prelude.{ℕ, Result}
use Rattle.error.specs.Refusal.{Answer}
use Rattle.error.specs.Answers.{result_answer}
use Rattle.error.specs.declared.Refusal.{Refusal}
use Rattle.compact.specs.Uleb128.{NumberRead}
use Rattle.compact.specs.declared.NumberRead.{NumberRead as Read}

-- The answer of `read_uleb128`.
abbrev pub read_uleb_answer : Result Read Refusal → Answer NumberRead
read_uleb_answer = result_answer (λ r. record { value = r.value; len = r.len; shortest = r.shortest })

-- The answer of `write_uleb128_into`.
abbrev pub write_uleb_answer : Result ℕ Refusal → Answer ℕ
write_uleb_answer = result_answer (λ len. len)
