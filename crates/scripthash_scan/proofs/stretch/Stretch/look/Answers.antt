-- One byte more, and all of them.
use Rattle.std.proofs.Common.{arith}
use Rattle.scripthash_scan.specs.Weights.{in_a_row}
use Rattle.scripthash_scan.proofs.LawsLongest.{looked_next}
use Rattle.scripthash_scan.proofs.stretch.Stretch.look.Goals as goal

pub loop-i-preserved : goal.loop-i-preserved
loop-i-preserved g c =
    let l = c.loop-i in
    let a = c.args.self.now in
    looked_next a.buf.now (in_a_row g.row.N a.buf.now) a.from l.i l.least l.most c.min-least.result c.max-most.result c.least_of.result
    l.invariant (omega arith, omega arith) (omega arith) c.least_of.ensures
