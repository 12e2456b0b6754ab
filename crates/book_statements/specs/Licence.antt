-- The licence's sentence, said of calls and their answers alone: an enquiry returns each recorded deposit or is refused, and an empty one
-- states that nothing was received.
use Rattle.std.specs.Prelude.{ℕ, ◌≤◌, ◌<◌, true, List, ◌⊎◌, ◌≡◌, length}
use Rattle.error.specs.Refusal.{Answer, accepted, refused, shape_bad, key_beyond, list_too_short}
use Rattle.book_limits.specs.Limits.{out_of_shape}
use Rattle.book_statements.specs.Calls.{Enquiry, read, Said, Call, Answers, done, asked, changed}
use Rattle.book_statements.specs.Recorded.{recorded_after}

-- An answer to an enquiry on a book with a body of so many bytes and so many heads, when some numbers are recorded for each key: a read
-- tells exactly those of its key, or is refused: with 1 only where the lengths break the limits, with 2 only for a key beyond the heads,
-- with 34 only where the list lent is too short for what is recorded.
unfoldable pub AnsweredBy : ℕ → ℕ → (q : Enquiry) → Answer (Said q) → (ℕ → List ℕ) → Type 0
AnsweredBy size heads (read key room) (accepted l) recorded = l.numbers ≡ recorded key
AnsweredBy size heads (read key room) (refused number) recorded =
    ((number ≡ shape_bad) × (out_of_shape size heads ≡ true))
    ⊎ (((number ≡ key_beyond) × (heads ≤ key)) ⊎ ((number ≡ list_too_short) × (room < length (recorded key))))

-- The answers to a list of calls on a book with a body of so many bytes and so many heads keep the licence's sentence, when some numbers
-- are recorded for each key before them: each enquiry's is by what is recorded then.
unfoldable pub Licensed : ℕ → ℕ → (ℕ → List ℕ) → {cs : List Call} → Answers cs → Type 0
Licensed size heads before done = Unit {0}
Licensed size heads before (asked {q = q} a rest) = AnsweredBy size heads q a before × Licensed size heads before rest
Licensed size heads before (changed {c = c} a rest) = Licensed size heads (λ key. recorded_after key c a (before key)) rest
