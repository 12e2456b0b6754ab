-- `next_call` meets its contract: a law for each way out.
use Rattle.std.proofs.Common.{Bool, true, false, ◌≡◌, sym, ◌∙◌, arith, get_or}
use Rattle.book_words.specs.SpellCalls.{is_load}
use Rattle.book_words.proofs.LawsCalls.{call_short}
use Rattle.book_calls.proofs.LawsSteps.{nowhere, next_load_short, next_load, next_other, next_drop_bad, next_drop, next_plain}
use Rattle.book_calls.proofs.words.next_call.Goals as goal

pub returns-then-calls-at-lt3 : goal.returns-then-calls-at-lt3
returns-then-calls-at-lt3 c = nowhere c.args.calls.now c.args.at (call_short c.args.calls.now c.args.at (omega arith))

pub returns-then-calls-from : goal.returns-then-calls-from
returns-then-calls-from c =
    let known : (t : Bool) → c.is_load.result ≡ t → is_load (get_or c.args.calls.now c.args.at 0) ≡ t =
    λ t e.
    sym c.is_load.ensures ∙ e in
    next_load_short c.args.calls.now c.args.at (omega arith)
    (known true c.if-is_load.true) c.if-calls-from.true

pub returns-then-is_load : goal.returns-then-is_load
returns-then-is_load c =
    let known : (t : Bool) → c.is_load.result ≡ t → is_load (get_or c.args.calls.now c.args.at 0) ≡ t =
    λ t e.
    sym c.is_load.ensures ∙ e in
    next_load c.args.calls.now c.args.at (omega arith)
    (known true c.if-is_load.true) c.if-calls-from.false

pub returns-then-kind-gt-DROP : goal.returns-then-kind-gt-DROP
returns-then-kind-gt-DROP c =
    let known : (t : Bool) → c.is_load.result ≡ t → is_load (get_or c.args.calls.now c.args.at 0) ≡ t =
    λ t e.
    sym c.is_load.ensures ∙ e in
    next_other c.args.calls.now c.args.at (omega arith)
    (known false c.if-is_load.false) c.if-kind-gt-DROP.true

pub returns-then-third-ne0 : goal.returns-then-third-ne0
returns-then-third-ne0 c =
    next_drop_bad c.args.calls.now c.args.at (omega arith) c.if-kind-eq-DROP.true c.if-third-ne0.true

pub returns-else-third-ne0 : goal.returns-else-third-ne0
returns-else-third-ne0 c =
    next_drop c.args.calls.now c.args.at (omega arith) c.if-kind-eq-DROP.true c.if-third-ne0.false

pub returns-else-kind-eq-DROP : goal.returns-else-kind-eq-DROP
returns-else-kind-eq-DROP c =
    let known : (t : Bool) → c.is_load.result ≡ t → is_load (get_or c.args.calls.now c.args.at 0) ≡ t =
    λ t e.
    sym c.is_load.ensures ∙ e in
    next_plain c.args.calls.now c.args.at (omega arith) (known false c.if-is_load.false)
    c.if-kind-gt-DROP.false c.if-kind-eq-DROP.false
