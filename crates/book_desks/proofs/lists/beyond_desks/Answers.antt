use Rattle.std.proofs.Common.{◌||◌, ℕ, ◌+◌, leb, drop, sym, ap, ◌∙◌, arith}
use Rattle.book_desks.specs.Desks.{beyond_desks}
use Rattle.book_desks.proofs.LawsDesks.{beyond_step, beyond_end}
use Rattle.book_desks.proofs.lists.beyond_desks.Goals as goal

pub loop-desk-preserved : goal.loop-desk-preserved
loop-desk-preserved c =
    let l = c.loop-desk in
    let ds = c.args.desks.now in
    ap (λ (t : ℕ). leb 16 t || beyond_desks (drop (l.desk-index + 1) ds)) c.max-top.ensures
    ∙ beyond_step ds l.top l.desk-index c.loop-desk-test.true ∙ l.invariant

pub returns : goal.returns
returns c =
    let l = c.loop-desk in
    sym (beyond_end c.args.desks.now l.top l.desk-index (omega arith) c.loop-desk-test.false) ∙ l.invariant
