use Rattle.std.proofs.Common.{◌≡◌, ℕ, ◌^◌, ◌<◌, ◌≤◌, true, eqb, inl, inr, sym, ◌∙◌, arith, bit_and}
use Rattle.std.proofs.lemmas.Bool.{cases_Bool, false≢true, eq-eqb}
use Rattle.std.specs.Int.{from_bool}
use Rattle.scripthash_words.specs.Words.{has_end}
use Rattle.scripthash_words.proofs.LawsValues.{some_end}
use Rattle.scripthash_words.proofs.values.unended.Goals as goal

-- what the test of the four top bits tells
tested : (x r : ℕ) → x < 2 ^ 32 → r ≡ from_bool (eqb (bit_and x 2155905152) 2155905152) → (r ≡ 0 → has_end x ≡ true) × (r ≤ 1)
tested x r l h =
    elim (cases_Bool (eqb (bit_and x 2155905152) 2155905152)) [
      | inl e ↦ (let one : r ≡ 1 = h ∙ (rw e) in (λ z. absurd (omega arith), omega arith))
      | inr e ↦ (let none : r ≡ 0 = h ∙ (rw e) in (λ z. some_end x l (λ q. false≢true (sym e ∙ eq-eqb _ _ q)), omega arith))
    ]

pub returns : goal.returns
returns c = tested c.args.x c.from.result (omega arith) c.from.ensures
