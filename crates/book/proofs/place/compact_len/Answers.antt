-- `compact_len` meets its contract: a list that rises is accepted.
use Rattle.std.proofs.Common.{true, ◌≡◌, ◌∙◌, ℕ, Result, Ok, Err}
use Rattle.std.specs.Result.{result_unwrap_or}
use Rattle.error.specs.declared.Refusal.{Refusal}
use Rattle.error.specs.Refusal.{accepted}
use Rattle.error.proofs.LawsAnswer.{refused≢accepted, accepted_inj}
use Rattle.scripthash_stream.specs.Stream.{stream_len}
use Rattle.scripthash_stream.specs.Answers.{bytes_answer}
use Rattle.book_rules.proofs.LawsOffered.{rising_all}
use Rattle.book.proofs.place.compact_len.Goals as goal

-- what is told of an answer that was accepted, and 0 of another
told_or_zero : (r : Result ℕ Refusal) (n : ℕ) → bytes_answer r ≡ accepted n → result_unwrap_or r 0 ≡ n
told_or_zero (Ok x) n e = accepted_inj e
told_or_zero (Err refusal) n e = absurd (refused≢accepted e)

pub returns : goal.returns
returns c =
    c.unwrap_or.ensures
    ∙ told_or_zero c.judge_list.result (stream_len c.args.fks.now)
    (c.judge_list.ensures ∙ rising_all true 0 c.args.fks.now (accepted (stream_len c.args.fks.now)) c.requires.1)
