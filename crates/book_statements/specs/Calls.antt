-- The calls of an account book: enquiries, which leave the book as it is, and changes; what each tells, and lists of calls. A book may be
-- any: what it answers and does is an argument here.
use Rattle.std.specs.Prelude.{ℕ, List, [], ◌∷◌}
use Rattle.error.specs.Refusal.{Answer}
use Rattle.book_rules.specs.declared.places.SlabFit.{SlabFit}
use Rattle.book_rules.specs.Outcomes.{Loaded, Appended, Listed, Dropped, OutcomeOf, book_after, answer_of}

-- An enquiry, with its arguments: a read lends a list with room for some numbers.
pub data Enquiry : Type 0 where
  read : ℕ → ℕ → Enquiry

-- A change, with its arguments: a load has a rule for its slab, with a spare slot or tight.
pub data Change : Type 0 where
  load : SlabFit → ℕ → List ℕ → Change
  append : ℕ → ℕ → Change
  drop : ℕ → Change

-- A call.
pub data Call : Type 0 where
  ask : Enquiry → Call
  change : Change → Call

-- The key of a change.
abbrev pub key_of_change : Change → ℕ
key_of_change (load fit key ns) = key
key_of_change (append key n) = key
key_of_change (drop key) = key

-- What an accepted enquiry tells.
abbrev pub Said : Enquiry → Type 0
Said (read key room) = Listed

-- What an accepted change tells.
abbrev pub Made : Change → Type 0
Made (load fit key ns) = Loaded
Made (append key n) = Appended
Made (drop key) = Dropped

-- A book as calls see it: what it answers to each enquiry, and what each change does to it.
pub record Serves (B : Type 0) : Type 0 where
  pub asks : B → (q : Enquiry) → Answer (Said q)
  pub does : B → (c : Change) → Answer (OutcomeOf B (Made c))

-- The answers to a list of calls: one for each, of its kind.
pub data Answers : List Call → Type 0 where
  done : Answers []
  asked : {q : Enquiry} {cs : List Call} → Answer (Said q) → Answers cs → Answers (ask q ∷ cs)
  changed : {c : Change} {cs : List Call} → Answer (Made c) → Answers cs → Answers (change c ∷ cs)

-- The book after a list of calls.
unfoldable pub after_calls : {B : Type 0} → Serves B → B → List Call → B
after_calls k b [] = b
after_calls k b (ask q ∷ cs) = after_calls k b cs
after_calls k b (change c ∷ cs) = after_calls k (book_after b (k.does b c)) cs

-- The answers to a list of calls, each on the book that those before it left.
unfoldable pub answers_to : {B : Type 0} (k : Serves B) (b : B) (cs : List Call) → Answers cs
answers_to k b [] = done
answers_to k b (ask q ∷ cs) = asked (k.asks b q) (answers_to k b cs)
answers_to k b (change c ∷ cs) = changed (answer_of (k.does b c)) (answers_to k (book_after b (k.does b c)) cs)
