-- The first forms are scanned, and those behind them.
use Rattle.std.proofs.Common.{arith}
use Rattle.std.proofs.lemmas.Option.{IfSome_then}
use Rattle.scripthash_forms.proofs.LawsTries.{quick_end_parts}
use Rattle.scripthash_scan.proofs.weigh.scan_by_weights.Goals as goal

pub returns : goal.returns
returns c =
    let a = c.args in
    let first = c.sum_forms-first in
    IfSome_then c.scan_rest.result c.scan_rest.ensures (λ end e.
    quick_end_parts a.n c.leading-lead.result first.result.taken first.result.last end.taken end.last a.buf.now
    (omega (arith, c.leading-lead.ensures)) (omega arith) first.ensures.ends e)
