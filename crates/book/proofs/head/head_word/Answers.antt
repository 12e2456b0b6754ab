-- `head_word` meets its contract: the packed word, or 0 where packing is refused.
use Rattle.std.proofs.Common.{ℕ, sym, ap, ◌∙◌, Result, Ok, Err, ◌≡◌}
use Rattle.std.specs.Result.{result_unwrap_or}
use Rattle.error.specs.declared.Refusal.{Refusal}
use Rattle.error.specs.Refusal.{Answer, value_or}
use Rattle.scripthash_layout.specs.AnswersHead.{pack_answer}
use Rattle.book.specs.Book.{head_word}
use Rattle.book.proofs.head.head_word.Goals as goal

-- what is told of an answer, and 0 where it is refused
told_or_zero : (r : Result ℕ Refusal) (a : Answer ℕ) → pack_answer r ≡ a → result_unwrap_or r 0 ≡ value_or (λ w. w) a 0
told_or_zero (Ok x) a e = ap (λ (b : Answer ℕ). value_or (λ w. w) b 0) e
told_or_zero (Err refusal) a e = ap (λ (b : Answer ℕ). value_or (λ w. w) b 0) e

pub returns : goal.returns
unfolding head_word
returns c = c.unwrap_or.ensures ∙ told_or_zero c.pack8.result _ c.pack8.ensures
