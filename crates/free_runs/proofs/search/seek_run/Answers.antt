use Rattle.std.proofs.Common.{sym, ◌∙◌, arith}
use Rattle.free_runs.proofs.LawsSought.{run_strays}
use Rattle.free_runs.proofs.LawsStack.{ends_many}
use Rattle.free_runs.proofs.LawsTaken.{run_short}
use Rattle.free_runs.proofs.search.seek_run.Goals as goal

pub returns-then-count-mark : goal.returns-then-count-mark
returns-then-count-mark c =
    let a = c.args in
    sym (run_strays a.mark a.count a.body.now a.head a.pages
    (ends_many a.mark a.count a.body.now a.head c.requires.some_below c.if-count-mark.true))

pub returns-then-passes : goal.returns-then-passes
returns-then-passes c =
    let a = c.args in
    sym (run_short a.mark a.count a.body.now a.head a.pages (omega arith) (sym c.passes.ensures ∙ c.if-passes.true))

pub returns : goal.returns
returns c =
    let a = c.args in sym (run_strays a.mark a.count a.body.now a.head a.pages (sym c.passes.ensures ∙ c.if-passes.false))
