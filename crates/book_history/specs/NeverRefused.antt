-- That a history never meets a refusal.
use Rattle.std.specs.Prelude.{ℕ, List, ◌≢◌}
use Rattle.error.specs.Refusal.{Answer, accepted, refused}
use Rattle.book_statements.specs.Calls.{Call, Answers, done, asked, changed}

-- An answer is not refused with a number.
unfoldable pub NotRefused : {A : Type 0} → ℕ → Answer A → Type 0
NotRefused number (accepted x) = Unit {0}
NotRefused number (refused m) = m ≢ number

-- Nor is any answer to a list of calls.
unfoldable pub NeverRefused : ℕ → {cs : List Call} → Answers cs → Type 0
NeverRefused number done = Unit {0}
NeverRefused number (asked a rest) = NotRefused number a × NeverRefused number rest
NeverRefused number (changed a rest) = NotRefused number a × NeverRefused number rest
