-- `put_read` meets its contract.
use Prim.Native.Nat.{ℕ}
use mathlib.Core.List.{List}
use mathlib.Core.Path.{◌≡◌, sym, ap, ◌∙◌}
use Rattle.std.specs.Prelude.{Result}
use Rattle.error.specs.declared.Refusal.{Refusal}
use Rattle.buffer.specs.Bytes.{overwrite}
use Rattle.book_read.specs.declared.answers.BookRead.{BookRead}
use Rattle.book_words.specs.SpellAnswers.{spell_answer}
use Rattle.book_calls.specs.Steps.{read_words, read_len}
use Rattle.book_calls.proofs.answers.put_read.Goals as goal

pub returns-in-Err-clause-words : goal.returns-in-Err-clause-words
unfolding spell_answer
returns-in-Err-clause-words c =
    c.put_refusal.ensures.words ∙ ap (λ (a : Result BookRead Refusal). overwrite c.args.out.now 0 (read_words a)) (sym c.in-Err.is)

pub returns-in-Err-clause-len : goal.returns-in-Err-clause-len
unfolding spell_answer
returns-in-Err-clause-len c = c.put_refusal.ensures.count ∙ sym (ap read_len c.in-Err.is)
