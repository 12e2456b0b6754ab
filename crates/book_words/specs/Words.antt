-- Lists spelled as words, one element behind the other, and read back.
use Rattle.std.specs.Prelude.{ℕ, zero, suc, List, [], ◌∷◌, ◌++◌}
use Rattle.std.proofs.Math.Option.{Option, none, some}

-- What some words begin with, and the words behind it.
pub record Begins (A : Type 0) : Type 0 where
  pub first : A
  pub rest : List ℕ

-- An element, and the words behind it.
abbrev pub begins : {A : Type 0} → A → List ℕ → Option (Begins A)
begins x rest = some (record { first = x; rest = rest })

-- The first of some words, and what is read by it and the words behind: none where there is no word.
unfoldable pub word : {A : Type 0} → List ℕ → (ℕ → List ℕ → Option A) → Option A
word [] more = none
word (w ∷ ws) more = more w ws

-- The words of a list: those of each element, in order.
unfoldable pub spell_all : {A : Type 0} → (A → List ℕ) → List A → List ℕ
spell_all spell [] = []
spell_all spell (x ∷ xs) = spell x ++ spell_all spell xs

-- An element before others, where they are read.
unfoldable pub before : {A : Type 0} → A → Option (List A) → Option (List A)
before x none = none
before x (some xs) = some (x ∷ xs)

-- The first element of some words before the others, which are read by `more`.
unfoldable pub read_on : {A : Type 0} → Option (Begins A) → (List ℕ → Option (List A)) → Option (List A)
read_on none more = none
read_on (some b) more = before b.first (more b.rest)

-- Nothing is left of some words, or else something is read of them.
unfoldable pub at_end : {A : Type 0} → List ℕ → Option (List A) → Option (List A)
at_end [] other = some []
at_end (w ∷ ws) other = other

-- Words read back, element by element, by what reads one: none where some word is left that begins no element. The number bounds the
-- elements.
unfoldable pub read_all : {A : Type 0} → (List ℕ → Option (Begins A)) → ℕ → List ℕ → Option (List A)
read_all reader zero ws = at_end ws none
read_all reader (suc most) ws = at_end ws (read_on (reader ws) (λ rest. read_all reader most rest))
