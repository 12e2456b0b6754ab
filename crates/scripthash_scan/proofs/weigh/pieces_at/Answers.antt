-- One piece more.
use Rattle.std.proofs.Common.{◌≢◌, ◌-◌, ◌<◌, length, arith, get_or-set_other, get_or-set_same, below_more}
use Rattle.std.proofs.Math.ListN.{length-set}
use Rattle.scripthash_scan.proofs.LawsTotals.{behind_more}
use Rattle.scripthash_scan.proofs.weigh.pieces_at.Goals as goal

pub loop-k-preserved : goal.loop-k-preserved
loop-k-preserved g c =
    let l = c.loop-k in
    let a = c.args in
    let before = l.invariant.1 (l.k - 1) (omega arith) in
    let lt : l.k < length l.pieces = omega arith in (
      simp length-set l.invariant.0,
      below_more _ _ (λ j h. let ne : j ≢ l.k = omega arith in rw get_or-set_other (l.invariant.1 j h))
          (rw get_or-set_same (
            behind_more a.buf.now a.i l.k (omega arith) before.0 c.behind.ensures.0,
            omega (arith, before.1, c.behind.ensures.1),
          )),
    )
