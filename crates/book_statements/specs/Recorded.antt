-- What is recorded for a key (the licence's "recorded deposit"), told by calls and their answers alone.
use Rattle.std.specs.Prelude.{ℕ, cond, List, [], ◌∷◌, ◌++◌, eqb}
use Rattle.error.specs.Refusal.{Answer, accepted, refused}
use Rattle.book_statements.specs.Calls.{Change, load, append, drop, key_of_change, Made, Call, Answers, done, asked, changed}

-- What is recorded after an accepted change of the key: a load records its list, an append its number, and a drop ends the record.
unfoldable pub recorded_by : Change → List ℕ → List ℕ
recorded_by (load fit key ns) before = before ++ ns
recorded_by (append key n) before = before ++ (n ∷ [])
recorded_by (drop key) before = []

-- What is recorded for a key after a change and its answer: a change that is turned back, or of another key, records nothing.
unfoldable pub recorded_after : ℕ → (c : Change) → Answer (Made c) → List ℕ → List ℕ
recorded_after key c (refused number) before = before
recorded_after key c (accepted told) before = cond (eqb (key_of_change c) key) (recorded_by c before) before

-- What is recorded for a key by the answers to a list of calls, in order: an enquiry records nothing.
unfoldable pub recorded : ℕ → {cs : List Call} → Answers cs → List ℕ → List ℕ
recorded key done before = before
recorded key (asked a rest) before = recorded key rest before
recorded key (changed {c = c} a rest) before = recorded key rest (recorded_after key c a before)
