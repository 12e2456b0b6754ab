use Rattle.std.proofs.Common.{length, ◌-◌, arith}
use Rattle.scripthash_words.proofs.LawsFilling.{filling_end}
use Rattle.scripthash_words.proofs.fill.fill_parts.Goals as goal

pub returns : goal.returns
returns c =
    let l = c.loop-done in
    let a = c.args in
    let n = length a.out.now in
    (l.invariant.kept, λ e. filling_end a.buf.now a.first.len a.first.fk n a.out.now 0 l.i l.sum (n - l.done) l.out l.done l.invariant.filling (omega arith))
