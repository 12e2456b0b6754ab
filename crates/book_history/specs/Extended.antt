-- Histories with extends: an extend is the appends of the numbers that it accepted, and so a history with extends is a list of calls.
use Rattle.std.specs.Prelude.{ℕ, ◌≤◌, ◌<◌, List, [], ◌∷◌, ◌++◌, ◌≡◌, length, get_or, take}
use Rattle.error.specs.Refusal.{Answer, accepted, refused, value_or}
use Rattle.book_rules.specs.Outcomes.{Appended, book_after}
use Rattle.book_statements.specs.Calls.{append, Call, change, Serves, after_calls}
use Rattle.book.specs.Book.{Book, Outcome}
use Rattle.book_extend.specs.Extends.{Extended, extends_with}
use Rattle.book_history.specs.Calls.{after}

-- The appends of some numbers to a key.
unfoldable pub appends_of : ℕ → List ℕ → List Call
appends_of key [] = []
appends_of key (n ∷ ns) = change (append key n) ∷ appends_of key ns

-- So many of some numbers were accepted as appends to a key, on the book that those before them left, and the next one, where there is one,
-- was refused by a number; the book is the one after the accepted ones.
pub record OfAppends (k : Serves Book) (b : Book) (key : ℕ) (ns : List ℕ) (count refusal : ℕ) (left : Book) : Type 0 where
  pub few : count ≤ length ns
  pub book : left ≡ after_calls k b (appends_of key (take count ns))
  pub each : (i : ℕ) → i < count
      → (o : Outcome Appended) × (k.does (after_calls k b (appends_of key (take i ns))) (append key (get_or ns i 0)) ≡ accepted o)
  pub stops : count < length ns → k.does left (append key (get_or ns count 0)) ≡ refused refusal
  pub ends : count ≡ length ns → refusal ≡ 0

-- A step of a history: a call, or an extend of a key by some numbers.
pub data Step : Type 0 where
  call : Call → Step
  extend : ℕ → List ℕ → Step

-- How many numbers an extend accepted: none where it is refused.
abbrev pub accepted_by : Answer (Outcome Extended) → ℕ
accepted_by a = value_or (λ o. o.told.count) a 0

-- The calls that a step on a book is.
unfoldable pub step_calls : List ℕ → Book → Step → List Call
step_calls ds b (call c) = c ∷ []
step_calls ds b (extend key ns) = appends_of key (take (accepted_by (extends_with ds b key ns)) ns)

-- The book after a step.
unfoldable pub after_step : List ℕ → Book → Step → Book
after_step ds b (call c) = after ds b (c ∷ [])
after_step ds b (extend key ns) = book_after b (extends_with ds b key ns)

-- The book after a list of steps.
unfoldable pub after_steps : List ℕ → Book → List Step → Book
after_steps ds b [] = b
after_steps ds b (s ∷ ss) = after_steps ds (after_step ds b s) ss

-- The calls that a list of steps from a book on is.
unfoldable pub all_calls : List ℕ → Book → List Step → List Call
all_calls ds b [] = []
all_calls ds b (s ∷ ss) = step_calls ds b s ++ all_calls ds (after_step ds b s) ss
