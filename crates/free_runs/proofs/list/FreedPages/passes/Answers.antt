use Rattle.std.proofs.Common.{◌≡◌, ◌-◌, sym, ◌∙◌, arith}
use Rattle.std.proofs.Math.Nat.{sub-zero}
use Rattle.scripthash_free.proofs.LawsBlock.{block_stands}
use Rattle.free_runs.proofs.LawsWalk.{ends_none, ends_next, ends_strays}
use Rattle.free_runs.proofs.list.FreedPages.passes.Goals as goal

pub loop-walked-init : goal.loop-walked-init
loop-walked-init c = rw (sub-zero c.args.self.now.count)

pub returns-then-not-is_page : goal.returns-then-not-is_page
returns-then-not-is_page c =
    let l = c.loop-walked in
    sym (ends_strays c.args.self.now.mark c.args.self.now.body.now (c.args.self.now.count - l._walked) l.at (omega arith) (sym c.is_page.ensures ∙ c.if-not-is_page.true))
    ∙ l.invariant

pub get_u64-at-requires : goal.get_u64-at-requires
get_u64-at-requires c =
    let s = (block_stands 8 c.loop-walked.at c.args.self.now.mark (sym c.is_page.ensures ∙ c.if-not-is_page.false)).ends in
    let p = c.args.self.now.within in
    omega arith

pub loop-walked-preserved : goal.loop-walked-preserved
loop-walked-preserved c =
    let l = c.loop-walked in
    rw c.get_u64-at.ensures
    (sym (ends_next c.args.self.now.mark c.args.self.now.body.now c.args.self.now.count l._walked l.at (omega arith) (sym c.is_page.ensures ∙ c.if-not-is_page.false))
    ∙ l.invariant)

pub returns : goal.returns
returns c =
    let l = c.loop-walked in
    let z : c.args.self.now.count - l._walked ≡ 0 = omega arith in
    sym (ends_none c.args.self.now.mark c.args.self.now.body.now l.at) ∙ (rw z at l.invariant)
