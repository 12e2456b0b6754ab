-- What running a list of calls on a fresh book answers, told by the plain book alone.
use Rattle.std.specs.Prelude.{ℕ, ◌≤◌, ◌<◌, cond, List, [], ◌≡◌, leb, length, Result, Ok, Err}
use Rattle.std.proofs.Math.Option.{Option, none, some}
use Rattle.error.specs.Refusal.{Answer, accepted, refused, list_too_short}
use Rattle.buffer.specs.Bytes.{overwrite}
use Rattle.book_words.specs.Spelled.{SpelledCall, calls_in, flat}
use Rattle.book_rules.specs.Outcomes.{listing}
use Rattle.book_statements.specs.Recorded.{recorded}
use Rattle.plain_book.specs.Book.{Book as PlainBook, fresh as plain_fresh, unlimited, makes, answers as plain_answers, after as plain_after}
use Rattle.book.specs.Book.{Book}
use Rattle.book_start.specs.Making.{makes_fresh}
use Rattle.book_read.specs.Reads.{reads}
use Rattle.book_history.specs.Calls.{after}
use Rattle.book_history.specs.Standing.{Standing}
use Rattle.book_words.specs.SpellCalls.{calls_of, answers_room}
use Rattle.book_words.specs.SpellAnswers.{spell_answers}
use Rattle.error.specs.Answers.{number_of}
use Rattle.error.specs.declared.Refusal.{Refusal}
use Rattle.book_calls.specs.declared.runs.NotRun.{NotRun}
use Rattle.book_calls.specs.declared.runs.NotRun.TheVariants.{Unspelled, Refused}

-- What running calls tells: how many words the answers have, that the words spell no list of calls, or the number of a refusal.
pub data RunTold : Type 0 where
  ran : ℕ → RunTold
  unspelled : RunTold
  not_run : ℕ → RunTold

-- The same of the answer of `run_calls`.
abbrev pub run_told : Result ℕ NotRun → RunTold
run_told (Ok len) = ran len
run_told (Err Unspelled) = unspelled
run_told (Err (Refused refusal)) = not_run (number_of refusal)

-- The words of a plain book's answers to some calls.
abbrev pub plain_words : PlainBook → List SpelledCall → List ℕ
plain_words p cs = spell_answers (flat cs (plain_answers p (calls_in cs)))

-- What `run_calls` answers where there is room, by the plain book that is made: how many words the answers have, or why it isn't made.
unfoldable pub ran_on : Answer PlainBook → List SpelledCall → RunTold
ran_on (accepted p) cs = ran (length (plain_words p cs))
ran_on (refused number) cs = not_run number

-- What `run_calls` answers, by the calls that its words spell: how many words the answers have, or why nothing was run.
unfoldable pub runs : Answer PlainBook → ℕ → Option (List SpelledCall) → RunTold
runs made room none = unspelled
runs made room (some cs) = cond (leb (answers_room cs) room) (ran_on made cs) (not_run list_too_short)

-- What the list of answers holds afterwards where there is room: their words at its start, or what it held where no book is made.
unfoldable pub words_on : List ℕ → Answer PlainBook → List SpelledCall → List ℕ
words_on out (accepted p) cs = overwrite out 0 (plain_words p cs)
words_on out (refused number) cs = out

-- What the list of answers holds afterwards: their words at its start, or what it held where nothing was run.
unfoldable pub words_after : List ℕ → Answer PlainBook → Option (List SpelledCall) → List ℕ
words_after out made none = out
words_after out made (some cs) = cond (leb (answers_room cs) (length out)) (words_on out made cs) out

-- The book afterwards where there is room: after the calls on the book that is made, or as it was where none is.
unfoldable pub left_on : List ℕ → Book → Answer Book → List SpelledCall → Book
left_on ds b (accepted made) cs = after ds made (calls_in cs)
left_on ds b (refused number) cs = b

-- The book afterwards: after the calls, or as it was where nothing was run.
unfoldable pub left_by : List ℕ → Book → ℕ → Option (List SpelledCall) → Book
left_by ds b room none = b
left_by ds b room (some cs) = cond (leb (answers_room cs) room) (left_on ds b (makes_fresh ds unlimited b) cs) b

-- The bytes of a book's body.
abbrev pub size_of : Book → ℕ
size_of b = length b.space.body

-- How many keys a book has.
abbrev pub keys_of : Book → ℕ
keys_of b = length b.heads

-- The fresh plain book of a book's size and keys, with a list of desks that have no limits, and its making.
abbrev pub plain_on : List ℕ → Book → PlainBook
plain_on ds b = plain_fresh ds (size_of b) (keys_of b) unlimited

abbrev pub plain_made : List ℕ → Book → Answer PlainBook
plain_made ds b = makes ds (size_of b) (keys_of b) unlimited

-- What is recorded for a key by some calls on a plain book that was made.
abbrev pub recorded_for : ℕ → PlainBook → List SpelledCall → List ℕ
recorded_for key p cs = recorded key (plain_answers p (calls_in cs)) []

-- The contract of `run_calls`, on a list of desks, a book, the words of calls and a list for answers, with the book and the list
-- afterwards.
pub record Runs (ds : List ℕ) (b : Book) (calls out : List ℕ) (r : Result ℕ NotRun) (ended : Book) (out' : List ℕ) : Type 0 where
  -- The answer, and the words of the answers: those of the plain book.
  pub answer : run_told r ≡ runs (plain_made ds b) (length out) (calls_of calls)
  pub words : out' ≡ words_after out (plain_made ds b) (calls_of calls)
  -- The book afterwards, whichever way it ends.
  pub left : ended ≡ left_by ds b (length out) (calls_of calls)
  -- It stands as the plain book does, where that is made: places, mark, freed blocks, counts, and what each key reads as.
  pub stands : (cs : List SpelledCall) → calls_of calls ≡ some cs → answers_room cs ≤ length out → plain_made ds b ≡ accepted (plain_on ds b)
      → Standing (plain_after (plain_on ds b) (calls_in cs)) ended
  -- Afterwards each key reads as what is recorded for it, by calls and answers alone, with no padded number, where the book is made; a
  -- long enough list is lent.
  pub records : (cs : List SpelledCall) → calls_of calls ≡ some cs → answers_room cs ≤ length out → plain_made ds b ≡ accepted (plain_on ds b)
      → (key room : ℕ) → key < keys_of b → length (recorded_for key (plain_on ds b) cs) ≤ room
      → (pages : ℕ) × (reads ended key room ≡ accepted (listing (recorded_for key (plain_on ds b) cs) pages 0))
