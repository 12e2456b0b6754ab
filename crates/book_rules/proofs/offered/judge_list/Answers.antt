-- `judge_list`: each number is judged behind the one before it, and its form has at most ten bytes.
use Prim.Native.Nat.{ℕ, ◌+◌, ◌-◌, ◌^◌, ◌≤◌, ◌<◌}
use mathlib.Core.List.{[]}
use mathlib.Core.Path.{◌≡◌, sym, ◌∙◌}
use native.Mathlib.Omega.{arith}
use borrow.Author.Rules.{rules}
use lib.Dec.{eqb}
use lib.ListN.{drop, get_or, drop_of_length-le}
use Rattle.std.proofs.lemmas.Result.{err_from_is_err_and}
use Rattle.error.specs.Refusal.{accepted}
use Rattle.error.proofs.LawsAnswer.{accepted_inj}
use Rattle.compact.specs.Uleb128.{uleb_len}
use Rattle.compact.proofs.LawsLength.{len_at_most}
use Rattle.scripthash_stream.proofs.LawsStream.{front}
use Rattle.book_rules.specs.Offered.{offered_number}
use Rattle.book_rules.proofs.LawsOffered.{offered_on, from_start, from_end, from_more, from_refused}
use Rattle.book_rules.proofs.offered.judge_list.Goals as goal

-- an accepted number is below 2^62, and its form has at most 10 bytes
known : (prev fk more : ℕ) → accepted more ≡ offered_number (eqb prev 0) prev fk (accepted (uleb_len (fk - prev)))
    → (fk < 2 ^ 62) × (more ≤ 10)
known prev fk more e =
    let (rises, low, same) = offered_on (eqb prev 0) prev fk (accepted (uleb_len (fk - prev))) (sym e) in
    (low, omega (arith, accepted_inj same, len_at_most (fk - prev) (omega arith)))

pub loop-fk-init : goal.loop-fk-init
loop-fk-init c = record { small = search rules; short = search rules; resumed = from_start c.args.fks.now }

pub returns-in_err-len : goal.returns-in_err-len
returns-in_err-len c =
    let l = c.loop-fk in
    let fks = c.args.fks.now in
    let p = err_from_is_err_and c.from_residual.result c.from_residual.ensures.1 in
    rw (p.1, p.2)
    (sym (from_refused l.len l.prev (get_or fks l.fk-index 0) (drop (l.fk-index + 1) fks) (sym c.in_err-len.ensures))
    ∙ (rw (front fks l.fk-index (omega arith)) at l.invariant.resumed))

pub overflow_add-len : goal.overflow_add-len
overflow_add-len c = omega (arith, (known c.loop-fk.prev (get_or c.args.fks.now c.loop-fk.fk-index 0) c.in_ok-len.field-0 c.in_ok-len.ensures).1)

pub loop-fk-preserved : goal.loop-fk-preserved
loop-fk-preserved c =
    let l = c.loop-fk in
    let fks = c.args.fks.now in
    let fk = get_or fks l.fk-index 0 in
    let (low, few) = known l.prev fk c.in_ok-len.field-0 c.in_ok-len.ensures in
    record {
      small = low;
      short = omega (arith, few);
      resumed = sym (from_more l.len l.prev fk (drop (l.fk-index + 1) fks) (sym c.in_ok-len.ensures))
          ∙ (rw (front fks l.fk-index (omega arith)) at l.invariant.resumed);
    }

pub returns : goal.returns
returns c =
    let l = c.loop-fk in
    let fks = c.args.fks.now in
    let end : drop l.fk-index fks ≡ [] = drop_of_length-le fks {i = l.fk-index} (omega arith) in
    sym (from_end l.len l.prev) ∙ (rw end at l.invariant.resumed)
