-- `above_ceiling` meets its contract: no reserve before the one that is judged is above its ceiling.
use Rattle.std.proofs.Common.{sym, rules}
use Rattle.book_start.proofs.LawsMaking.{none_over, over_step, over_yes}
use Rattle.book_start.proofs.making.above_ceiling.Goals as goal

pub loop-d-init : goal.loop-d-init
loop-d-init c = (search rules, none_over _)

pub returns-then-counts-d : goal.returns-then-counts-d
returns-then-counts-d c =
    sym (over_yes c.args.counts.now c.loop-d.d c.loop-d-test.true c.if-counts-d.true)

pub loop-d-preserved : goal.loop-d-preserved
loop-d-preserved c =
    let l = c.loop-d in
    (search rules, over_step c.args.counts.now l.d c.loop-d-test.true l.invariant.1 c.if-counts-d.false)
