use Rattle.std.proofs.Common.{arith}
use Rattle.scripthash_forms.proofs.LawsTries.{part_summed}
use Rattle.scripthash_forms.proofs.parts.decode_through.Goals as goal

pub returns : goal.returns
returns c =
    let a = c.args in
    let end = c.sum_forms-end in
    part_summed end.result.taken end.result.last a.from a.prev a.n a.buf.now _ a.out.now _ a.at end.ensures (omega arith) (omega arith)
    c.copy_fks.ensures
