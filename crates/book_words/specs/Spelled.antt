-- Calls and what they tell as words spell them, kind by kind, and as the calls of an account book.
use Rattle.std.specs.Prelude.{ℕ, List, [], ◌∷◌}
use Rattle.error.specs.Refusal.{Answer, answered}
use Rattle.book_rules.specs.declared.places.SlabFit.{SlabFit}
use Rattle.book_rules.specs.Outcomes.{Loaded, Appended, Listed, Dropped}
use Rattle.book_statements.specs.Calls as Calls
use Rattle.book_statements.specs.Calls.{Call, ask, change, Answers, done, asked, changed}

-- A call that words spell, with its arguments.
pub data SpelledCall : Type 0 where
  load : SlabFit → ℕ → List ℕ → SpelledCall
  append : ℕ → ℕ → SpelledCall
  read : ℕ → ℕ → SpelledCall
  drop : ℕ → SpelledCall

-- What an accepted one tells.
pub data SpelledTold : Type 0 where
  loaded : Loaded → SpelledTold
  appended : Appended → SpelledTold
  listed : Listed → SpelledTold
  dropped : Dropped → SpelledTold

-- The call of an account book that it is.
abbrev pub call_in : SpelledCall → Call
call_in (load fit key ns) = change (Calls.load fit key ns)
call_in (append key n) = change (Calls.append key n)
call_in (read key room) = ask (Calls.read key room)
call_in (drop key) = change (Calls.drop key)

-- The calls that some are.
unfoldable pub calls_in : List SpelledCall → List Call
calls_in [] = []
calls_in (c ∷ cs) = call_in c ∷ calls_in cs

-- The answers to them in one list, each as it is spelled.
unfoldable pub flat : (cs : List SpelledCall) → Answers (calls_in cs) → List (Answer SpelledTold)
unfolding calls_in
flat [] done = []
flat (load fit key ns ∷ cs) (changed a rest) = answered loaded a ∷ flat cs rest
flat (append key n ∷ cs) (changed a rest) = answered appended a ∷ flat cs rest
flat (read key room ∷ cs) (asked a rest) = answered listed a ∷ flat cs rest
flat (drop key ∷ cs) (changed a rest) = answered dropped a ∷ flat cs rest
