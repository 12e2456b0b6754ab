-- All forms are summed up, or all is read in two passes.
use Rattle.std.proofs.Common.{◌≡◌, length, arith, rules}
use Rattle.scripthash_scan.proofs.LawsFill.{filled, filled_whole, filled_summed}
use Rattle.scripthash_scan.proofs.fill.fill_singly.Goals as goal

pub returns-then-end-eq0 : goal.returns-then-end-eq0
returns-then-end-eq0 c s e =
    let a = c.args in
    let before = c.sum_forms-end.new.space in
    let size : length before ≡ a.n = search rules in
    filled_whole a.n a.buf.now before _ s e size (filled a.n a.buf.now before _ s e (omega arith) c.decode_in_two_passes.ensures.list)

pub returns-else-end-eq0 : goal.returns-else-end-eq0
returns-else-end-eq0 c s e =
    let a = c.args in
    let end = c.sum_forms-end in
    filled_summed end.result.taken end.result.last a.n a.buf.now end.new.space s e end.ensures (omega arith) (search rules)
