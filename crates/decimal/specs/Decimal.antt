-- Numbers in decimal, as ASCII text, and how a word is read as one.
use Rattle.std.specs.Prelude.{ℕ, ◌+◌, ◌-◌, ◌*◌, ◌^◌, Bool, true, false, cond, ◌&&◌, List, [], ◌∷◌, leb, ltb, Result, Ok, Err}
use Rattle.decimal.specs.declared.DecimalError.{DecimalError}
use Rattle.decimal.specs.declared.DecimalError.TheVariants.{NotANumber, TooLarge}

-- A byte is a decimal digit: `0`, which is 48, to `9`, which is 57.
abbrev pub is_digit : ℕ → Bool
is_digit b = leb 48 b && leb b 57

-- Each of some bytes is a digit.
unfoldable pub all_digits : List ℕ → Bool
all_digits [] = true
all_digits (b ∷ bs) = is_digit b && all_digits bs

-- Some bytes are a number: there is one at least, and each is a digit.
unfoldable pub is_number : List ℕ → Bool
is_number [] = false
is_number (b ∷ bs) = all_digits (b ∷ bs)

-- The value of some digits behind others that are worth `before`: each makes what is before it worth ten times as much.
unfoldable pub value_from : ℕ → List ℕ → ℕ
value_from before [] = before
value_from before (b ∷ bs) = value_from (before * 10 + (b - 48)) bs

-- The value of some digits, the most significant first.
abbrev pub value_of : List ℕ → ℕ
value_of bs = value_from 0 bs

-- A number, where 64 bits hold it.
unfoldable pub in64_bits : ℕ → Result ℕ DecimalError
in64_bits n = cond (ltb n (2 ^ 64)) (Ok n) (Err TooLarge)

-- Reading a word: what isn't a number is refused, and so is a number that 64 bits don't hold.
unfoldable pub read_decimal : List ℕ → Result ℕ DecimalError
read_decimal bs = cond (is_number bs) (in64_bits (value_of bs)) (Err NotANumber)
