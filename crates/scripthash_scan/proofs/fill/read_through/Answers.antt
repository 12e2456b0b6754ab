-- What the one pass tells, and the copy of its numbers.
use Rattle.std.proofs.Common.{arith}
use Rattle.scripthash_scan.proofs.LawsFill.{short_summed}
use Rattle.scripthash_scan.proofs.fill.read_through.Goals as goal

pub returns : goal.returns
returns c =
    let a = c.args in
    let end = c.sum_forms-end in
    short_summed end.result.taken end.result.last a.n a.buf.now _ end.ensures (omega arith) (omega arith) a.top a.out.now _ (omega arith)
    (omega arith) c.copy_fks.ensures
