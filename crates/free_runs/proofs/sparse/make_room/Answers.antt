use Rattle.std.proofs.Common.{arith}
use Rattle.free_runs.proofs.LawsSparse.{kept_all, kept_below, kept_nothing}
use Rattle.free_runs.proofs.sparse.make_room.Goals as goal

pub loop-count-init : goal.loop-count-init
loop-count-init c = record { room = c.requires.room; keeps = kept_all _ _ _ _ c.requires.forward }

pub returns-then-end-from-le-WINDOW : goal.returns-then-end-from-le-WINDOW
returns-then-end-from-le-WINDOW c = record { keeps = kept_nothing _ _ _ _ _ _ _ c.loop-count.invariant.keeps 0; free = omega arith }

pub loop-count-smaller : goal.loop-count-smaller
loop-count-smaller c = let l = c.loop-count.invariant.keeps.low in omega arith

pub loop-count-preserved : goal.loop-count-preserved
loop-count-preserved c =
    let l = c.loop-count in
    let b = c.drop_behind-count.ensures in
    let f = b.fewer in
    let low = l.invariant.keeps.low in
    record { room = omega arith; keeps = kept_below _ _ _ _ _ _ _ l.invariant.keeps _ _ _ (omega arith) (omega arith) b }

pub returns : goal.returns
returns c = record { keeps = c.loop-count.invariant.keeps; free = omega arith }
