-- What the answers of packing and unpacking say.
use Rattle.std.specs.Prelude.{ℕ, Result}
use Rattle.error.specs.Refusal.{Answer}
use Rattle.error.specs.Answers.{result_answer}
use Rattle.error.specs.declared.Refusal.{Refusal}
use Rattle.scripthash_layout.specs.declared.head.ShHeadValue.{ShHeadValue}

-- A packed word, or a refusal.
abbrev pub pack_answer : Result ℕ Refusal → Answer ℕ
pack_answer = result_answer (λ word. word)

-- What a word says, or a refusal.
abbrev pub unpack_answer : Result ShHeadValue Refusal → Answer ShHeadValue
unpack_answer = result_answer (λ place. place)
