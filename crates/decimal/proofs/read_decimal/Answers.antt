-- What is empty or has another byte is no number.
use Rattle.std.proofs.Common.{◌≡◌, ◌∙◌, sym, ap, refl, ℕ, Bool, true, false, cond, List, [], ◌∷◌, length, Err, arith}
use Rattle.std.specs.Bool.{◌==◌}
use Rattle.std.proofs.lemmas.Bool.{eqb-true}
use Rattle.decimal.specs.Decimal.{all_digits, is_number, value_of, in64_bits, read_decimal}
use Rattle.decimal.specs.declared.DecimalError.TheVariants.{NotANumber}
use Rattle.decimal.proofs.read_decimal.Goals as goal
use Rattle.decimal.proofs.read_decimal.Goals.{then-is_empty-via-then-is_empty, then-is_empty-via-else-is_empty+then-not-all_digits}

-- nothing is no number
empty : (word : List ℕ) → true ≡ (length word == 0) → Err NotANumber ≡ read_decimal word
unfolding read_decimal is_number
empty [] h = refl
empty (b ∷ bs) h = let none = eqb-true (length (b ∷ bs)) 0 (sym h) in absurd (omega arith)

-- what isn't empty is a number where each byte is a digit
others : (word : List ℕ) (t : Bool) → false ≡ (length word == 0) → t ≡ all_digits word
    → cond t (in64_bits (value_of word)) (Err NotANumber) ≡ read_decimal word
unfolding read_decimal is_number
others [] t h e = cc
others (b ∷ bs) t h e = ap (λ (u : Bool). cond u (in64_bits (value_of (b ∷ bs))) (Err NotANumber)) e

pub returns-then-is_empty : goal.returns-then-is_empty
returns-then-is_empty c =
    elim c.then-is_empty.branch [
      | then-is_empty-via-then-is_empty w ↦ empty c.args.word.now w.if-is_empty.ensures
      | then-is_empty-via-else-is_empty+then-not-all_digits w ↦
          others c.args.word.now false w.if-is_empty.ensures w.if-not-all_digits.ensures
    ]

pub returns : goal.returns
returns c = c.value_of.ensures ∙ others c.args.word.now true c.if-is_empty.ensures c.if-not-all_digits.ensures
