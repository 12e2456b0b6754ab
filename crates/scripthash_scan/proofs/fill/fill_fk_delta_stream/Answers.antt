-- A stream that scans is read whole, by whichever way.
use Rattle.std.proofs.Common.{arith}
use Rattle.scripthash_forms.proofs.LawsTries.{quick_right}
use Rattle.scripthash_scan.proofs.LawsFill.{filled, filled_front}
use Rattle.scripthash_scan.proofs.fill.fill_fk_delta_stream.Goals as goal

pub returns-then-one_byte_forms : goal.returns-then-one_byte_forms
returns-then-one_byte_forms c s e h =
    let a = c.args in
    let forms = c.one_byte_forms.ensures c.if-one_byte_forms.true in
    let sums = c.sum_bytes in
    filled a.n a.buf.now a.out.now _ s e h
    (quick_right sums.result a.out.now _ _ sums.ensures.1 (omega (arith, forms.some, sums.ensures.0))).1

pub returns : goal.returns
returns c s e h =
    let a = c.args in
    filled_front a.n a.buf.now a.out.now c.fill_all.new.out s e (c.fill_all.ensures s e)
