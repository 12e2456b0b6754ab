use Rattle.std.proofs.Common.{◌≡◌, ℕ, ◌+◌, ◌-◌, List, sym, ◌∙◌, subst, true≢false, arith}
use Rattle.std.proofs.Math.Nat.{sub-zero}
use Rattle.scripthash_free.specs.FreeList.{next_of}
use Rattle.scripthash_free.proofs.LawsBlock.{block_stands}
use Rattle.free_runs.specs.PageList.{walked}
use Rattle.free_runs.specs.Freed.{pages_of}
use Rattle.free_runs.proofs.LawsWalk.{ends_none, ends_next, ends_strays, walked_none, walked_next}
use Rattle.free_runs.proofs.LawsOverlaid.{Overlaying, overlaying_none, overlaying_one, overlaying_done}
use Rattle.free_runs.proofs.overlaid.overlay_pages.Goals as goal

pub loop-walked-init : goal.loop-walked-init
loop-walked-init c = record { tells = rw (sub-zero c.args.list.now.count); going = rw (sub-zero c.args.list.now.count) (overlaying_none _ _ c.told-words) }

pub returns-then-not-is_page : goal.returns-then-not-is_page
returns-then-not-is_page c =
    let l = c.loop-walked in
    let all = sym (ends_strays c.args.list.now.mark c.args.list.now.body.now (c.args.list.now.count - l._walked) l.at (omega arith)
    (sym c.is_page.ensures ∙ c.if-not-is_page.true))
    ∙ l.invariant.tells in
    record { passed = all; overlays = λ e. absurd (true≢false (sym e ∙ sym all)) }

pub get_u64-at-requires : goal.get_u64-at-requires
get_u64-at-requires c =
    let s = (block_stands 8 c.loop-walked.at c.args.list.now.mark (sym c.is_page.ensures ∙ c.if-not-is_page.false)).ends in
    let p = c.args.list.now.within in
    omega arith

pub loop-walked-preserved : goal.loop-walked-preserved
loop-walked-preserved c =
    let l = c.loop-walked in
    let a = c.args in
    let list = a.list.now in
    let yes = sym c.is_page.ensures ∙ c.if-not-is_page.false in
    let os = pages_of list in
    rw c.get_u64-at.ensures
    (record {
      tells = sym (ends_next list.mark list.body.now list.count l._walked l.at (omega arith) yes) ∙ l.invariant.tells;
      going = subst
          (λ (w : List ℕ). Overlaying os a.words.now w (walked (list.count - (l._walked + 1)) list.body.now (next_of list.body.now l.at)))
          (sym c.set_flag.ensures)
          (overlaying_one _ _ l.words l.at _ (rw (walked_next list.mark list.body.now list.count l._walked l.at (omega arith)) at
          l.invariant.going));
    })

pub returns : goal.returns
returns c =
    let l = c.loop-walked in
    let z : c.args.list.now.count - l._walked ≡ 0 = omega arith in
    record {
      passed = sym (ends_none c.args.list.now.mark c.args.list.now.body.now l.at) ∙ (rw z at l.invariant.tells);
      overlays = λ e. overlaying_done _ _ _ (rw (z, walked_none c.args.list.now.mark c.args.list.now.body.now l.at) at l.invariant.going);
    }
