-- The product and the sum are what comes next where 64 bits hold them; where they don't, the value of all passes 64 bits.
use Rattle.std.proofs.Common.{◌≡◌, ℕ, ◌*◌, ◌^◌, ◌<◌, ◌≤◌, ◌+◌, Option, Some, None, Ok, Err, ap, sym, ◌∙◌, arith}
use Rattle.std.specs.Option.{SomeIff, ok_or}
use Rattle.std.proofs.lemmas.Result.{err_from_is_err_and}
use Rattle.decimal.specs.declared.DecimalError.TheVariants.{TooLarge}
use Rattle.decimal.proofs.LawsDecimal.{too_large, value_ends, value_step, fits}
use Rattle.decimal.proofs.value_of.Goals as goal

-- a checked number that is missing passes 64 bits
passed : {E : Type 0} (o : Option ℕ) (n : ℕ) (d e : E) → SomeIff o (n < 2 ^ 64) n → Err e ≡ ok_or o d → (2 ^ 64 ≤ n) × (e ≡ d)
passed None n d e h q = (omega arith, cc)
passed (Some x) n d e h q = cc

-- a checked number that is there is the number
held : (o : Option ℕ) (n x : ℕ) → SomeIff o (n < 2 ^ 64) n → o ≡ Some x → (n < 2 ^ 64) × (x ≡ n)
held None n x h q = cc
held (Some y) n x h q = let e : y ≡ x = cc in (h.0, sym e ∙ h.1)

pub returns-in_err-tens : goal.returns-in_err-tens
returns-in_err-tens c =
    let p = err_from_is_err_and c.from_residual.result c.from_residual.ensures.1 in
    let f = passed c.checked_mul.result (c.loop-b.value * 10) TooLarge _ c.checked_mul.ensures c.in_err-tens.ensures.value in
    rw (p.1, p.2, f.1)
    (sym (too_large c.args.word.now c.loop-b.value c.loop-b.b-index c.loop-b.invariant.0 c.loop-b-test.true (omega (arith, f.0))))

pub returns-in_err-value : goal.returns-in_err-value
returns-in_err-value c =
    let p = err_from_is_err_and c.from_residual-in_err-value.result c.from_residual-in_err-value.ensures.1 in
    let t = held c.checked_mul.result (c.loop-b.value * 10) c.in_ok-tens.tens c.checked_mul.ensures c.in_ok-tens.ensures.ok_part in
    let f = passed c.checked_add.result (c.in_ok-tens.tens + c.digit_of-digit.result) TooLarge _ c.checked_add.ensures c.in_err-value.ensures.value in
    rw (p.1, p.2, f.1)
    (sym
    (too_large c.args.word.now c.loop-b.value c.loop-b.b-index c.loop-b.invariant.0 c.loop-b-test.true
    (omega (arith, f.0, t.1, c.digit_of-digit.ensures))))

pub loop-b-preserved : goal.loop-b-preserved
loop-b-preserved c =
    let t = held c.checked_mul.result (c.loop-b.value * 10) c.in_ok-tens.tens c.checked_mul.ensures c.in_ok-tens.ensures.ok_part in
    let v = held c.checked_add.result (c.in_ok-tens.tens + c.digit_of-digit.result) c.in_ok-value.value c.checked_add.ensures c.in_ok-value.ensures.ok_part in
    let next = value_step c.args.word.now c.loop-b.value c.loop-b.b-index c.loop-b-test.true in
    (rw (v.1, t.1, c.digit_of-digit.ensures) (sym next ∙ c.loop-b.invariant.0), omega (arith, v.0, v.1))

pub returns : goal.returns
returns c =
    let v = value_ends c.args.word.now c.loop-b.value c.loop-b.b-index (omega arith) c.loop-b.invariant.0 in
    ap Ok v ∙ sym (fits _ (omega (arith, v)))
