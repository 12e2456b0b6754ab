use Rattle.std.proofs.Common.{length, ◌≡◌, ◌+◌, ◌-◌, arith}
use Rattle.free_runs.proofs.LawsSparse.{least_none, least_step}
use Rattle.free_runs.proofs.sparse.least_from.Goals as goal

pub loop-x-init : goal.loop-x-init
loop-x-init c =
    let a = c.args in
    let z : a.page + (a.end - a.page) ≡ a.end = omega arith in
    record { high = omega arith; so_far = rw z (least_none a.kept.now a.page a.end c.requires) }

pub loop-x-preserved : goal.loop-x-preserved
loop-x-preserved c =
    let l = c.loop-x in
    let a = c.args in
    let fits = c.type_inv.kept l.x-index in
    let e = c.min-least.ensures in
    record {
      high = omega arith;
      so_far = rw e (least_step a.kept.now a.page a.end l.x-index l.least _ l.invariant.so_far (omega arith) (omega arith) (omega arith));
    }

pub returns : goal.returns
returns c =
    let l = c.loop-x in
    let z : l.x-index ≡ length c.args.kept.now = omega arith in
    rw z at l.invariant.so_far
