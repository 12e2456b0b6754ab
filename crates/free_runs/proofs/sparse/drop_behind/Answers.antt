use Rattle.std.proofs.Common.{◌≡◌, ℕ, subst, arith}
use Rattle.free_runs.proofs.LawsSparse.{Sifting, sift_none, sift_keeps, sift_drops, sift_done}
use Rattle.free_runs.proofs.sparse.drop_behind.Goals as goal
use Rattle.free_runs.proofs.sparse.drop_behind.Goals.{then-page-end, else-page-end}

pub loop-i-init : goal.loop-i-init
loop-i-init c = sift_none _ _

pub loop-i-preserved : goal.loop-i-preserved
loop-i-preserved c =
    let l = c.loop-i in
    elim c.if-page-end.branch [
      | then-page-end w ↦ rw (w.kept-is, w.stay-is) (sift_keeps _ _ _ _ _ l.invariant (omega arith))
      | else-page-end w ↦ rw (w.kept-is, w.stay-is) (sift_drops _ _ _ _ _ l.invariant w.if-page-end.false)
    ]

pub returns : goal.returns
returns c =
    let l = c.loop-i in
    let z : l.i ≡ c.args.count = omega arith in
    sift_done _ _ _ _ _ (subst (λ (i : ℕ). Sifting c.args.end c.args.kept.now l.kept i l.stay) z l.invariant)
