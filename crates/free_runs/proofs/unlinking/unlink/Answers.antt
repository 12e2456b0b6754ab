use Rattle.std.proofs.Common.{◌≡◌, ℕ, ◌-◌, ◌<◌, ◌≤◌, length, sym, ap, ◌∙◌, subst, arith}
use Rattle.scripthash_free.specs.FreeList.{next_of}
use Rattle.free_runs.specs.Runs.{left_of}
use Rattle.free_runs.specs.PageList.{walked, top_of, relinked}
use Rattle.free_runs.specs.Steps.{PassedOver}
use Rattle.free_runs.proofs.LawsWalk.{ends_page}
use Rattle.free_runs.proofs.LawsLinks.{skipped_top, still_ends, still_long, link_step}
use Rattle.free_runs.proofs.unlinking.unlink.Goals as goal

pub get_u64-link-requires : goal.get_u64-link-requires
get_u64-link-requires c =
    let l = c.loop-left in
    let e = (ends_page c.args.mark l.body l.left l.at (omega arith) l.invariant.passes).0.ends in
    let p = c.requires.0 in
    let long = l.invariant.long in
    omega arith

pub pass_over-over-requires : goal.pass_over-over-requires
pass_over-over-requires c =
    let l = c.loop-left in
    rw c.get_u64-link.ensures (ends_page c.args.mark l.body l.left l.at (omega arith) l.invariant.passes).1

pub relink-requires : goal.relink-requires
relink-requires c =
    let l = c.loop-left in
    let e = (ends_page c.args.mark l.body l.left l.at (omega arith) l.invariant.passes).0.ends in
    let p = c.requires.0 in
    let long = l.invariant.long in
    record { inside = omega arith; link_is = c.get_u64-link.ensures }

pub loop-left-preserved : goal.loop-left-preserved
loop-left-preserved c =
    let l = c.loop-left in
    let a = c.args in
    let to = c.pass_over-over.result.at in
    let rest = c.pass_over-over.result.left in
    let passes = l.invariant.passes in
    let p = c.requires.0 in
    let long = l.invariant.long in
    let within : a.mark ≤ length l.body = omega arith in
    let more : 0 < l.left = omega arith in
    let keeps = l.invariant.stays more in
    let over : PassedOver a.mark l.body a.from a.end (next_of l.body l.at) (l.left - 1) to rest
    = subst (λ (o : ℕ). PassedOver a.mark l.body a.from a.end o (l.left - 1) to rest) c.get_u64-link.ensures c.pass_over-over.ensures in
    rw c.relink.ensures
    (record {
      long = still_long a.mark l.body within a.from a.end l.at l.left passes more keeps to rest over ∙ long;
      passes = still_ends a.mark l.body within a.from a.end l.at l.left passes more keeps to rest over;
      stays = over.stays;
      links = link_step a.mark l.body within a.from a.end l.at l.left passes more keeps to rest over ∙ l.invariant.links;
    })

pub returns-clause-top : goal.returns-clause-top
returns-clause-top c =
    let k = c.pass_over-first.ensures in
    sym (skipped_top _ _ _ _ _ _ _ _ k) ∙ ap top_of k.same

pub returns-clause-links : goal.returns-clause-links
unfolding walked left_of relinked
returns-clause-links c =
    let l = c.loop-left in
    let z : l.left ≡ 0 = omega arith in
    rw z at l.invariant.links
