-- `next_fk` meets its contract: a byte below 128 is a form by itself, or the end of one of two bytes, and any other form is read; what was
-- read is judged by `stored_number`.
use Prim.Native.Nat.{ℕ, ◌+◌, ◌*◌, ◌%◌}
use mathlib.Core.Path.{◌≡◌, sym, ap, ◌∙◌}
use native.Mathlib.Omega.{arith}
use lib.ListN.{drop, get_or}
use Rattle.std.proofs.lemmas.Result.{err_from_is_err_and}
use Rattle.error.specs.Refusal.{accepted}
use Rattle.error.proofs.LawsAnswer.{was_refused}
use Rattle.buffer.proofs.LawsBytes.{part_to_end}
use Rattle.compact.specs.Uleb128.{read_uleb, number_read}
use Rattle.compact.proofs.LawsPadded.{number_back}
use Rattle.compact.proofs.LawsReadFrom.{read_byte_at, read_two_at}
use Rattle.scripthash_stream.specs.Stream.{stored_number}
use Rattle.scripthash_stream.proofs.LawsScan.{next_is, next_refused}
use Rattle.scripthash_stream.proofs.stream.next_fk.Goals as goal

pub returns-then-d-lt128 : goal.returns-then-d-lt128
returns-then-d-lt128 c =
    let byte : read_uleb (drop c.args.off c.args.buf.now) ≡ accepted (record { value = get_or c.args.buf.now c.args.off 0; len = 1 }) =
    read_byte_at c.args.buf.now c.args.off (omega arith) (omega arith) in
    c.stored_number.ensures
    ∙ ap (λ (d : ℕ). stored_number c.args.prev (record { value = d; len = 1 })) c.from-d.ensures
    ∙ sym (next_is c.args.prev (drop c.args.off c.args.buf.now) (record { value = get_or c.args.buf.now c.args.off 0; len = 1 }) byte)

pub returns-then-e-lt128 : goal.returns-then-e-lt128
returns-then-e-lt128 c =
    let x = get_or c.args.buf.now c.args.off 0 in
    let y = get_or c.args.buf.now (c.args.off + 1) 0 in
    let two : read_uleb (drop c.args.off c.args.buf.now) ≡ accepted (record { value = x % 128 + 128 * y; len = 2 }) =
    read_two_at c.args.buf.now c.args.off (omega arith) (omega (arith, c.from-d.ensures)) (omega (arith, c.from-e.ensures)) in
    let same : c.from-d.result % 128 + 128 * c.from-e.result ≡ x % 128 + 128 * y = omega (arith, c.from-d.ensures, c.from-e.ensures) in
    c.stored_number-then-e-lt128.ensures
    ∙ ap (λ (d : ℕ). stored_number c.args.prev (record { value = d; len = 2 })) same
    ∙ sym (next_is c.args.prev (drop c.args.off c.args.buf.now) (record { value = x % 128 + 128 * y; len = 2 }) two)

pub returns-in_err-form : goal.returns-in_err-form
returns-in_err-form c =
    let p = err_from_is_err_and c.from_residual.result c.from_residual.ensures.1 in
    let read = rw (part_to_end c.args.buf.now c.args.off) at c.in_err-form.ensures in
    rw (p.1, p.2) (sym (next_refused c.args.prev (drop c.args.off c.args.buf.now) (was_refused number_read _ (sym read))))

pub returns : goal.returns
returns c =
    let read = rw (part_to_end c.args.buf.now c.args.off) at c.in_ok-form.ensures in
    c.stored_number-2.ensures
    ∙ sym (next_is c.args.prev (drop c.args.off c.args.buf.now) (record { value = c.in_ok-form.form.value; len = c.in_ok-form.form.len })
    (number_back (drop c.args.off c.args.buf.now) (sym read)))
