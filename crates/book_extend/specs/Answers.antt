-- What the answers of an extend mean: a refusal's number (FORMAT, Refusals) or what was told.
use Rattle.std.specs.Prelude.{ℕ, Option, Some, None, Result}
use Rattle.error.specs.Refusal.{Answer}
use Rattle.error.specs.Answers.{number_of, result_answer}
use Rattle.error.specs.declared.Refusal.{Refusal}
use Rattle.book_extend.specs.Extends.{Extended, extended}
use Rattle.book_extend.specs.declared.answers.ExtendedBy.{ExtendedBy}

-- The number of the refusal that ended an extend, and 0 where none did.
abbrev pub refusal_number : Option Refusal → ℕ
refusal_number None = 0
refusal_number (Some refusal) = number_of refusal

-- What an extend that wasn't refused tells.
abbrev pub extended_by : ExtendedBy → Extended
extended_by by = extended by.count (refusal_number by.refusal) by.place by.moves by.rewritten

-- The answer of `extend`.
abbrev pub extend_answer : Result ExtendedBy Refusal → Answer Extended
extend_answer = result_answer extended_by
