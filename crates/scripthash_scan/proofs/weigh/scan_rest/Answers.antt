-- The weights are the differences where all tests hold.
use Rattle.std.proofs.Common.{arith}
use Rattle.scripthash_forms.specs.Quick.{QuickEnd}
use Rattle.scripthash_scan.proofs.LawsWeigh.{weighed_ends}
use Rattle.scripthash_scan.proofs.weigh.scan_rest.Goals as goal

pub returns : goal.returns
unfolding QuickEnd
returns c h =
    let a = c.args in
    let to = c.in_ok-to.to in
    let end = c.in_ok-to.ensures in
    let told = c.in_ok-more.ensures in
    weighed_ends a.buf.now a.from a.prev a.count to c.in_ok-more.more (omega arith) end.onward end.within told.1
    (omega (arith, end.same)) told.0 (omega arith) c.requires.2 (omega arith)
