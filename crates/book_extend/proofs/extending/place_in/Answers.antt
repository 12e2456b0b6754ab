-- `place_in` meets its contract: the word tells a place, or none.
use Rattle.std.proofs.Common.{ℕ, Result, Ok, Err, ◌≡◌, ◌∙◌}
use Rattle.std.specs.Result.{result_unwrap_or}
use Rattle.error.specs.Refusal.{Answer, accepted}
use Rattle.error.specs.declared.Refusal.{Refusal}
use Rattle.error.proofs.LawsAnswer.{refused≢accepted, accepted_inj}
use Rattle.scripthash_layout.specs.AnswersHead.{unpack_answer}
use Rattle.scripthash_layout.specs.declared.head.ShHeadValue.{ShHeadValue}
use Rattle.book_extend.proofs.extending.place_in.Goals as goal

-- the place that was told
told_place : (r : Result ShHeadValue Refusal) (other place : ShHeadValue) → unpack_answer r ≡ accepted place → result_unwrap_or r other ≡ place
told_place (Ok x) other place e = accepted_inj e
told_place (Err refusal) other place e = absurd (refused≢accepted e)

pub returns : goal.returns
returns c place e = c.unwrap_or.ensures ∙ told_place c.unpack8.result _ place (c.unpack8.ensures ∙ e)
