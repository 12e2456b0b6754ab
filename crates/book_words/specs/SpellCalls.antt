-- Lists of calls, spelled as words: kind, key, and one word more, then a load's numbers.
use Rattle.std.specs.Prelude.{ℕ, ◌+◌, Bool, true, cond, List, [], ◌∷◌, leb, eqb, length, take as first_of, drop as behind}
use Rattle.std.proofs.Math.Option.{Option, none}
use Rattle.book_rules.specs.declared.places.SlabFit.{SlabFit}
use Rattle.book_rules.specs.declared.places.SlabFit.TheVariants.{Spare, Tight}
use Rattle.book_words.specs.Spelled.{SpelledCall, load, append, read, drop}
use Rattle.book_words.specs.Words.{Begins, begins, word, spell_all, read_all}

-- The kind of a load, by the rule for its slab.
unfoldable pub load_kind : SlabFit → ℕ
load_kind Spare = 0
load_kind Tight = 4

-- The words of a call: the third is a load's count, an append's number, a read's room, and 0 of a drop.
unfoldable pub spell_call : SpelledCall → List ℕ
spell_call (load fit key ns) = load_kind fit ∷ key ∷ length ns ∷ ns
spell_call (append key n) = 1 ∷ key ∷ n ∷ []
spell_call (read key room) = 2 ∷ key ∷ room ∷ []
spell_call (drop key) = 3 ∷ key ∷ 0 ∷ []

-- The words of a list of calls.
abbrev pub spell_calls : List SpelledCall → List ℕ
spell_calls cs = spell_all spell_call cs

-- Whether a kind is that of a load, and then the rule for its slab.
unfoldable pub is_load : ℕ → Bool
is_load kind = cond (eqb kind 0) true (eqb kind 4)

unfoldable pub fit_of : ℕ → SlabFit
fit_of kind = cond (eqb kind 0) Spare Tight

-- A load of so many of the numbers behind, where there are as many.
abbrev pub load_of : SlabFit → ℕ → ℕ → List ℕ → Option (Begins SpelledCall)
load_of fit key count rest = cond (leb count (length rest)) (begins (load fit key (first_of count rest)) (behind count rest)) none

-- The call of a kind, a key and a third word, with the words behind: none of an unknown kind.
unfoldable pub call_of : ℕ → ℕ → ℕ → List ℕ → Option (Begins SpelledCall)
call_of kind key third rest =
    cond (is_load kind) (load_of (fit_of kind) key third rest)
    (cond (eqb kind 1) (begins (append key third) rest)
    (cond (eqb kind 2) (begins (read key third) rest)
    (cond (eqb kind 3) (cond (eqb third 0) (begins (drop key) rest) none) none)))

-- The call that some words begin with.
unfoldable pub call_at : List ℕ → Option (Begins SpelledCall)
call_at ws = word ws (λ kind ws. word ws (λ key ws. word ws (λ third rest. call_of kind key third rest)))

-- The calls that some words spell.
abbrev pub calls_of : List ℕ → Option (List SpelledCall)
calls_of ws = read_all call_at (length ws) ws

-- The most words that the answer to a call has, a read's room counted in full.
unfoldable pub answer_room : SpelledCall → ℕ
answer_room (load fit key ns) = 3
answer_room (append key n) = 7
answer_room (read key room) = 5 + room
answer_room (drop key) = 3

-- The most words that the answers to a list of calls have.
unfoldable pub answers_room : List SpelledCall → ℕ
answers_room [] = 0
answers_room (c ∷ cs) = answer_room c + answers_room cs
