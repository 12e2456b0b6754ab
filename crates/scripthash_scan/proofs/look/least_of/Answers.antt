-- One byte more.
use Rattle.scripthash_scan.proofs.LawsLongest.{row_next}
use Rattle.scripthash_scan.proofs.look.least_of.Goals as goal

pub loop-k-preserved : goal.loop-k-preserved
loop-k-preserved g c =
    let l = c.loop-k in
    row_next c.args.buf.now c.args.i l.k l.least c.min-least.result l.invariant c.min-least.ensures
