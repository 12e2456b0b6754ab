-- `measure_fks` meets its contract: each way on from a number is one law of `LawsEncode`.
use Prim.Native.Nat.{ℕ, ◌+◌, ◌-◌, ◌^◌, ◌≤◌, ◌<◌}
use mathlib.Core.List.{[], ◌∷◌}
use mathlib.Core.Path.{◌≡◌, sym, ◌∙◌}
use native.Mathlib.Omega.{arith}
use borrow.Author.Rules.{rules}
use lib.ListN.{drop, get_or, drop_of_length-le}
use Rattle.std.proofs.lemmas.Result.{err_from_is_err_and}
use Rattle.error.specs.Refusal.{accepted}
use Rattle.error.proofs.LawsAnswer.{accepted_inj}
use Rattle.compact.specs.Uleb128.{uleb_len}
use Rattle.compact.proofs.LawsLength.{len_at_most}
use Rattle.scripthash_stream.specs.Stream.{Rising, judged}
use Rattle.scripthash_stream.proofs.LawsStream.{front}
use Rattle.scripthash_stream.proofs.LawsEncode.{measured_start, measured_end, measured_more, measured_refused, judged_accepted}
use Rattle.scripthash_stream.proofs.encode.measure_fks.Goals as goal

-- What is known of a number that was accepted behind `prev`, and of the length of its form.
record Accepted (prev fk more : ℕ) : Type 0 where
  below : fk < 2 ^ 63
  short : more ≤ 10

was_judged : (prev fk more : ℕ) → fk < 2 ^ 64 → judged prev (fk ∷ []) (accepted (uleb_len (fk - prev))) ≡ accepted more → Accepted prev fk more
unfolding Rising
was_judged prev fk more _ is =
    let h = judged_accepted prev (fk ∷ []) (accepted (uleb_len (fk - prev))) is in
    let below : fk < 2 ^ 63 = h.0.1 in
    let same = accepted_inj h.1 in
    record { below = below; short = omega (arith, len_at_most (fk - prev) (omega arith)) }

pub loop-fk-init : goal.loop-fk-init
loop-fk-init c = record { small = search rules; short = search rules; answers = measured_start c.args.fks.now }

pub returns-in_err-len : goal.returns-in_err-len
returns-in_err-len c =
    let p = err_from_is_err_and c.from_residual.result c.from_residual.ensures.1 in
    let fk = get_or c.args.fks.now c.loop-fk.fk-index 0 in
    let rest = drop (c.loop-fk.fk-index + 1) c.args.fks.now in
    rw (p.1, p.2) (sym (measured_refused c.loop-fk.len c.loop-fk.prev fk rest (sym c.in_err-len.ensures))
    ∙ (rw (front c.args.fks.now c.loop-fk.fk-index (omega arith)) at c.loop-fk.invariant.answers))

pub overflow_add-len : goal.overflow_add-len
overflow_add-len c =
    let fk = get_or c.args.fks.now c.loop-fk.fk-index 0 in
    omega (arith, (was_judged c.loop-fk.prev fk c.in_ok-len.field-0 (omega arith) (sym c.in_ok-len.ensures)).short)

pub loop-fk-preserved : goal.loop-fk-preserved
loop-fk-preserved c =
    let fk = get_or c.args.fks.now c.loop-fk.fk-index 0 in
    let rest = drop (c.loop-fk.fk-index + 1) c.args.fks.now in
    let good = was_judged c.loop-fk.prev fk c.in_ok-len.field-0 (omega arith) (sym c.in_ok-len.ensures) in
    record {
      small = good.below;
      short = omega (arith, good.short);
      answers = sym (measured_more c.loop-fk.len c.loop-fk.prev fk rest (sym c.in_ok-len.ensures))
          ∙ (rw (front c.args.fks.now c.loop-fk.fk-index (omega arith)) at c.loop-fk.invariant.answers);
    }

pub returns : goal.returns
returns c =
    let end : drop c.loop-fk.fk-index c.args.fks.now ≡ [] = drop_of_length-le c.args.fks.now {i = c.loop-fk.fk-index} (omega arith) in
    sym (measured_end c.loop-fk.len c.loop-fk.prev) ∙ (rw end at c.loop-fk.invariant.answers)
