use Rattle.std.proofs.Common.{arith}
use Rattle.scripthash_forms.proofs.LawsTries.{part_more}
use Rattle.scripthash_forms.proofs.parts.+decode_parts.Goals as goal

pub returns : goal.returns
returns t c =
    let a = c.args in
    let s = c.sum_forms-end in
    let more = c.decode_parts-taken in
    part_more 256 s.result.taken s.result.last more.result a.from a.prev a.n a.at a.buf.now _ a.out.now _ _ s.ensures (omega arith)
    (omega arith) (omega arith) (omega arith) (omega arith) c.copy_fks.ensures more.ensures
