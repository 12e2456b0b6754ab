-- `room_behind` meets its contract: a law for each way out.
use Rattle.std.proofs.Common.{arith}
use Rattle.book_calls.proofs.LawsSteps.{read_short, read_fits, append_short, append_fits, other_short, other_fits}
use Rattle.book_calls.proofs.words.room_behind.Goals as goal

pub returns-then-left-lt5 : goal.returns-then-left-lt5
returns-then-left-lt5 c =
    let args = c.args in
    read_short args.kind args.third args.left c.if-kind-eq-READ.true (omega arith)

pub returns-then-left-third : goal.returns-then-left-third
returns-then-left-third c =
    let args = c.args in
    read_short args.kind args.third args.left c.if-kind-eq-READ.true (omega arith)

pub returns-then-kind-eq-READ : goal.returns-then-kind-eq-READ
returns-then-kind-eq-READ c =
    let args = c.args in
    read_fits args.kind args.third args.left c.if-kind-eq-READ.true (omega arith)

pub returns-then-left-lt7 : goal.returns-then-left-lt7
returns-then-left-lt7 c =
    let args = c.args in
    append_short args.kind args.third args.left c.if-kind-eq-APPEND.true c.if-left-lt7.true

pub returns-then-kind-eq-APPEND : goal.returns-then-kind-eq-APPEND
returns-then-kind-eq-APPEND c =
    let args = c.args in
    append_fits args.kind args.third args.left c.if-kind-eq-APPEND.true (omega arith)

pub returns-then-left-lt3 : goal.returns-then-left-lt3
returns-then-left-lt3 c =
    let args = c.args in
    other_short args.kind args.third args.left c.if-kind-eq-READ.false c.if-kind-eq-APPEND.false c.if-left-lt3.true

pub returns : goal.returns
returns c =
    let args = c.args in
    other_fits args.kind args.third args.left c.if-kind-eq-READ.false c.if-kind-eq-APPEND.false (omega arith)
