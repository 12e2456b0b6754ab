-- Spelled calls on a book over bytes: what each does, and lists of them.
use Rattle.std.specs.Prelude.{ℕ, List, [], ◌∷◌, Result}
use Rattle.error.specs.Refusal.{Answer, answered}
use Rattle.error.specs.Answers.{result_answer}
use Rattle.error.specs.declared.Refusal.{Refusal}
use Rattle.book_rules.specs.Outcomes.{loaded_in, appended_to, dropped_of, book_after, answer_of, retold}
use Rattle.book_desks.specs.Desks.{desk_of}
use Rattle.book.specs.Book.{Book, Outcome}
use Rattle.book_append.specs.Appends.{appends}
use Rattle.book_load.specs.Loads.{loads}
use Rattle.book_read.specs.Reads.{reads}
use Rattle.book_drop.specs.Drops.{drops}
use Rattle.book_append.specs.declared.answers.AppendedTo.{AppendedTo}
use Rattle.book_words.specs.Spelled.{SpelledCall, load, append, read, drop, SpelledTold, loaded, appended, listed, dropped}

-- What a spelled call does, by the desk that a list names for its key.
unfoldable pub does_spelled : List ℕ → Book → SpelledCall → Answer (Outcome SpelledTold)
does_spelled ds b (load fit key ns) = retold loaded (loads fit (desk_of ds key) b key ns)
does_spelled ds b (append key n) = retold appended (appends (desk_of ds key) b key n)
does_spelled ds b (read key room) = answered (λ l. record { told = listed l; book = b }) (reads b key room)
does_spelled ds b (drop key) = retold dropped (drops (desk_of ds key) b key)

-- The book after a list of them.
unfoldable pub after_spelled : List ℕ → Book → List SpelledCall → Book
after_spelled ds b [] = b
after_spelled ds b (c ∷ cs) = after_spelled ds (book_after b (does_spelled ds b c)) cs

-- Their answers.
unfoldable pub answers_spelled : List ℕ → Book → List SpelledCall → List (Answer SpelledTold)
answers_spelled ds b [] = []
answers_spelled ds b (c ∷ cs) = answer_of (does_spelled ds b c) ∷ answers_spelled ds (book_after b (does_spelled ds b c)) cs

-- The answers of a load, an append and a drop as they are spelled.
abbrev pub load_told : Result ℕ Refusal → Answer SpelledTold
load_told = result_answer (λ pages. loaded (loaded_in pages))

abbrev pub append_told : Result AppendedTo Refusal → Answer SpelledTold
append_told = result_answer (λ to. appended (appended_to to.place to.rewritten))

abbrev pub drop_told : Result ℕ Refusal → Answer SpelledTold
drop_told = result_answer (λ length. dropped (dropped_of length))
