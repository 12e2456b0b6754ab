use Rattle.std.proofs.Common.{◌≡◌, ◌+◌, ◌-◌, arith}
use Rattle.std.proofs.Math.Nat.{sub-zero}
use Rattle.free_runs.proofs.LawsWalk.{ends_page}
use Rattle.free_runs.proofs.LawsLinks.{passed_none, passed_one, passed_to, below_run, behind_run}
use Rattle.free_runs.proofs.unlinking.pass_over.Goals as goal
use Rattle.free_runs.proofs.unlinking.pass_over.Goals.{then-at-from-via-then-at-from, then-at-from-via-else-at-from+then-at-end}

pub loop-passed-init : goal.loop-passed-init
loop-passed-init c = rw (sub-zero c.args.list.now.count) (passed_none _ _ _ _ _ _ c.requires)

pub returns-then-at-from : goal.returns-then-at-from
returns-then-at-from c =
    let a = c.args in
    let l = c.loop-passed in
    elim c.then-at-from.branch [
      | then-at-from-via-then-at-from w ↦ passed_to _ _ _ _ _ _ _ _ l.invariant (λ h. below_run a.from a.end l.at w.if-at-from.true)
      | then-at-from-via-else-at-from+then-at-end w ↦ passed_to _ _ _ _ _ _ _ _ l.invariant (λ h. behind_run a.from a.end l.at w.if-at-end.true)
    ]

pub get_u64-at-requires : goal.get_u64-at-requires
get_u64-at-requires c =
    let l = c.loop-passed in
    let s = (ends_page c.args.list.now.mark c.args.list.now.body.now (c.args.list.now.count - l.passed) l.at (omega arith) l.invariant.ends).0.ends in
    let p = c.args.list.now.within in
    omega arith

pub loop-passed-preserved : goal.loop-passed-preserved
loop-passed-preserved c =
    let l = c.loop-passed in
    let z : c.args.list.now.count - (l.passed + 1) ≡ c.args.list.now.count - l.passed - 1 = omega arith in
    rw (c.get_u64-at.ensures, z)
    (passed_one _ _ _ _ _ _ l.at (c.args.list.now.count - l.passed) l.invariant (omega arith) (omega arith) (omega arith))

pub returns : goal.returns
returns c =
    let l = c.loop-passed in
    let z : c.args.list.now.count - l.passed ≡ 0 = omega arith in
    passed_to _ _ _ _ _ _ _ _ (rw z at l.invariant) (λ h. absurd (omega arith))
