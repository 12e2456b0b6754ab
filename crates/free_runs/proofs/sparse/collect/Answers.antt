use Rattle.std.proofs.Common.{◌≡◌, ◌+◌, ◌-◌, arith}
use Rattle.std.proofs.Math.Nat.{sub-zero}
use Rattle.free_runs.proofs.LawsWalk.{ends_page, walked_none, walked_next}
use Rattle.free_runs.proofs.LawsSparse.{collect_none, collect_one, collect_done}
use Rattle.free_runs.proofs.sparse.collect.Goals as goal

pub loop-walked-init : goal.loop-walked-init
loop-walked-init c =
    record {
      passes = rw (sub-zero c.args.list.now.count) c.requires.judged;
      going = rw (sub-zero c.args.list.now.count) (collect_none _ _ _ _ c.told-kept c.requires.forward);
    }

pub keep-room-requires : goal.keep-room-requires
keep-room-requires c =
    let g = c.loop-walked.invariant.going in record { room = g.room; forward = g.low }

pub get_u64-at-requires : goal.get_u64-at-requires
get_u64-at-requires c =
    let l = c.loop-walked in
    let s = (ends_page c.args.list.now.mark c.args.list.now.body.now (c.args.list.now.count - l._walked) l.at (omega arith) l.invariant.passes).0.ends in
    let p = c.args.list.now.within in
    omega arith

pub loop-walked-preserved : goal.loop-walked-preserved
loop-walked-preserved c =
    let l = c.loop-walked in
    let a = c.args in
    let list = a.list.now in
    let s = ends_page list.mark list.body.now (list.count - l._walked) l.at (omega arith) l.invariant.passes in
    let z : list.count - (l._walked + 1) ≡ list.count - l._walked - 1 = omega arith in
    rw c.get_u64-at.ensures
    (record {
      passes = rw z s.1;
      going = collect_one _ _ _ l.kept _ l.room.count _ l.room.end _ l.at _ s.0.aligned
          (rw (walked_next list.mark list.body.now list.count l._walked l.at (omega arith)) at l.invariant.going) c.keep-room.ensures;
    })

pub returns : goal.returns
returns c =
    let l = c.loop-walked in
    let z : c.args.list.now.count - l._walked ≡ 0 = omega arith in
    collect_done _ _ _ _ _ _ (rw (z, walked_none c.args.list.now.mark c.args.list.now.body.now l.at) at l.invariant.going)
