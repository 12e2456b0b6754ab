-- What the steps of running calls promise each other: no answer of a public function is defined here.
use Rattle.std.specs.Prelude.{ℕ, ◌+◌, ◌≤◌, ◌<◌, Bool, true, false, cond, List, [], ◌∷◌, ◌≡◌, eqb, length, drop}
use Rattle.std.specs.Prelude.{Some, None, Result, Ok, Err}
use Rattle.std.specs.Prelude as prelude
use Rattle.std.proofs.Math.Option.{Option, none, some}
use Rattle.error.specs.Refusal.{Answer}
use Rattle.error.specs.Answers.{number_of}
use Rattle.error.specs.declared.Refusal.{Refusal}
use Rattle.buffer.specs.Bytes.{overwrite}
use Rattle.book_words.specs.Spelled.{SpelledCall, SpelledTold}
use Rattle.book_rules.specs.Outcomes.{book_after, answer_of}
use Rattle.book.specs.Book.{Book}
use Rattle.book_calls.specs.Flat.{does_spelled, after_spelled, answers_spelled}
use Rattle.book_read.specs.declared.answers.BookRead.{BookRead}
use Rattle.book_words.specs.SpellCalls.{call_at, calls_of, answer_room, answers_room}
use Rattle.book_words.specs.SpellAnswers.{spell_answer, spell_answers}
use Rattle.book_words.specs.Words.{Begins}

-- Something was read.
abbrev pub is_some : {A : Type 0} → Option A → Bool
is_some none = false
is_some (some x) = true

-- What is known of the index behind a call, by the call that begins at an index: the words behind the call are those from there on.
unfoldable pub NextIs : List ℕ → ℕ → Option (Begins SpelledCall) → prelude.Option ℕ → Type 0
NextIs calls at none (Some behind) = ⊥
NextIs calls at none None = Unit {0}
NextIs calls at (some b) (Some behind) = (b.rest ≡ drop behind calls) × (at + 3 ≤ behind) × (behind ≤ length calls)
NextIs calls at (some b) None = ⊥

-- The words that the answer to a call may have, by its kind and its third word.
unfoldable pub need_of : ℕ → ℕ → ℕ
need_of kind third = cond (eqb kind 2) (5 + third) (cond (eqb kind 1) 7 3)

-- What is known of the room that is left when some words are needed.
unfoldable pub RoomIs : ℕ → ℕ → prelude.Option ℕ → Type 0
RoomIs need left (Some rest) = rest + need ≡ left
RoomIs need left None = left < need

-- An answer's words were written to the start of a list, and so many they are.
pub record Answered (a : Answer SpelledTold) (before after : List ℕ) (len : ℕ) : Type 0 where
  pub words : after ≡ overwrite before 0 (spell_answer a)
  pub count : len ≡ length (spell_answer a)

-- The words of a read's answer before its list.
abbrev pub read_words : Result BookRead Refusal → List ℕ
read_words (Ok read) = 0 ∷ 2 ∷ read.pages ∷ read.padded ∷ read.length ∷ []
read_words (Err refusal) = number_of refusal ∷ []

-- How many words a read's answer has, with its list.
abbrev pub read_len : Result BookRead Refusal → ℕ
read_len (Ok read) = 5 + read.length
read_len (Err refusal) = 1

-- A call was done on a book: it is the book after it, and the answer's words were written.
pub record Done (ds : List ℕ) (b : Book) (c : SpelledCall) (out : List ℕ) (after : Book) (written : List ℕ) (len : ℕ) : Type 0 where
  pub left : after ≡ book_after b (does_spelled ds b c)
  pub said : Answered (answer_of (does_spelled ds b c)) out written len
  pub short : length (spell_answer (answer_of (does_spelled ds b c))) ≤ answer_room c

-- A call begins at an index of some words, and its answer has room.
pub record CallHere (calls : List ℕ) (at room : ℕ) : Type 0 where
  pub here : Begins SpelledCall
  pub is : call_at (drop at calls) ≡ some here
  pub three : at + 3 ≤ length calls
  pub fits : answer_room here.first ≤ room

-- Words spell calls, and their answers have room.
pub record Spelled (calls : List ℕ) (room : ℕ) : Type 0 where
  pub list : List SpelledCall
  pub is : calls_of calls ≡ some list
  pub fits : answers_room list ≤ room

-- A list of calls was done on a book, and the words of the answers were written.
pub record AllDone (ds : List ℕ) (b : Book) (cs : List SpelledCall) (out : List ℕ) (left : Book) (written : List ℕ) (len : ℕ) : Type 0 where
  pub left_is : left ≡ after_spelled ds b cs
  pub words : written ≡ overwrite out 0 (spell_answers (answers_spelled ds b cs))
  pub count : len ≡ length (spell_answers (answers_spelled ds b cs))
