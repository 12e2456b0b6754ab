-- The sum of the bytes is the last number, and the reading is the whole one.
use Rattle.std.proofs.Common.{arith}
use Rattle.scripthash_scan.proofs.LawsFill.{short_told}
use Rattle.scripthash_scan.proofs.fill.read_bytes.Goals as goal

pub returns : goal.returns
returns c =
    let a = c.args in
    let forms = c.requires.0 in
    short_told a.n c.sum_of_bytes.result c.sum_bytes.result a.n a.top a.buf.now a.out.now _ c.sum_of_bytes.ensures forms.some
    (omega arith) c.requires.1 (omega (arith, forms.some, c.sum_bytes.ensures.0)) c.sum_bytes.ensures.1
