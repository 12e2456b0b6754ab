-- The words of a line, and what reading them as numbers into a list answers and leaves.
use Rattle.std.specs.Prelude.{ℕ, ◌+◌, ◌-◌, ◌≤◌, ◌<◌, cond, List, [], ◌∷◌, ◌≡◌, leb, ltb, length, take, drop, set, get_or, Result, Ok, Err}
use Rattle.std.proofs.Math.Option.{Option, none, some}
use Rattle.decimal.specs.Decimal.{read_decimal}
use Rattle.decimal.specs.declared.DecimalError.{DecimalError}
use Rattle.decimal.specs.declared.DecimalError.TheVariants.{NotANumber as no_number, TooLarge as large_number}
use Rattle.decimal.specs.declared.words.NumbersError.{NumbersError}
use Rattle.decimal.specs.declared.words.NumbersError.TheVariants.{TooMany, NotANumber, TooLarge}

-- A word of a line: where it begins, and where it ends.
pub record Word : Type 0 where
  pub start : ℕ
  pub end : ℕ

abbrev pub word_at : ℕ → ℕ → Word
word_at start end = record { start = start; end = end }

-- The words of a text that stands at an index of its line. Spaces, and bytes below them, are between words; where the text goes on with a
-- word, its beginning is given.
unfoldable pub words_in : Option ℕ → ℕ → List ℕ → List Word
words_in none i [] = []
words_in (some start) i [] = word_at start i ∷ []
words_in none i (b ∷ bs) = cond (leb b 32) (words_in none (i + 1) bs) (words_in (some i) (i + 1) bs)
words_in (some start) i (b ∷ bs) = cond (leb b 32) (word_at start i ∷ words_in none (i + 1) bs) (words_in (some start) (i + 1) bs)

-- The words of a line from an index on.
abbrev pub words_from : List ℕ → ℕ → List Word
words_from line at = words_in none at (drop at line)

-- What reading words answers, and the list afterwards.
pub record TakenWords : Type 0 where
  pub answer : Result ℕ NumbersError
  pub list : List ℕ

-- A word goes to its place in a list, and those behind it follow; what isn't a number, is too large or finds no room ends it.
unfoldable pub take_word : Result ℕ DecimalError → ℕ → ℕ → List ℕ → ℕ → (List ℕ → TakenWords) → TakenWords
take_word (Ok n) start end list count more =
    cond (ltb count (length list)) (more (set list count n)) (record { answer = Err TooMany; list = list })
take_word (Err no_number) start end list count more = record { answer = Err (NotANumber start end); list = list }
take_word (Err large_number) start end list count more = record { answer = Err (TooLarge start end); list = list }

-- Words of a line go to a list, behind so many numbers.
unfoldable pub take_words : List ℕ → List ℕ → ℕ → List Word → TakenWords
take_words line list count [] = record { answer = Ok count; list = list }
take_words line list count (w ∷ ws) =
    take_word (read_decimal (take (w.end - w.start) (drop w.start line))) w.start w.end list count
    (λ new. take_words line new (count + 1) ws)

-- What comes of a word that was put, with the list then, or of one that ended the reading.
unfoldable pub after_word : Result Unit NumbersError → List ℕ → (List ℕ → TakenWords) → TakenWords
after_word (Ok _) list more = more list
after_word (Err why) list more = record { answer = Err why; list = list }

-- An index is where the next word of a line begins from another index on, or the line's end.
pub record Skips (line : List ℕ) (from r : ℕ) : Type 0 where
  pub after : from ≤ r
  pub inside : r ≤ length line
  pub same : words_from line from ≡ words_from line r
  pub begins : r < length line → 32 < get_or line r 0

-- An index is the end of the word of a line that begins at another.
pub record Ends (line : List ℕ) (start r : ℕ) : Type 0 where
  pub after : start < r
  pub inside : r ≤ length line
  pub whole : words_in (some start) (start + 1) (drop (start + 1) line) ≡ word_at start r ∷ words_from line r
