-- `claim_pages` meets its contract.
use Rattle.std.proofs.Common.{ℕ, ◌-◌, ◌*◌, ◌≤◌, ◌<◌, List, sym, subst, ◌∙◌, arith, length}
use Rattle.scripthash_layout.specs.Sizes.{page_class}
use Rattle.scripthash_free.proofs.LawsBlock.{block_stands}
use Rattle.book_keys.specs.Keys.{body_ground, Ground}
use Rattle.book_keys.specs.Steps.{PagesLeft}
use Rattle.book_start.specs.Units.{units_of}
use Rattle.book_start.proofs.LawsBits.{units_long}
use Rattle.book_start.proofs.LawsShown.{shown_long, PageTurn, page_turn, pages_turn, pages_shared, pages_few, pages_end_lem}
use Rattle.book_start.proofs.claiming.claim_pages.Goals as goal

pub claim_block-requires : goal.claim_block-requires
claim_block-requires c =
    let s : Ground = body_ground c.args.body.now c.args.mark in
    let work : List ℕ = units_of c.loop-left.work in
    let more : 0 < c.loop-left.left = let h = c.loop-left-test.true in omega arith in
    let turn : PageTurn s c.loop-left.off c.loop-left.left c.loop-left.invariant.offs =
    page_turn s c.loop-left.off c.loop-left.left c.loop-left.invariant.offs more c.loop-left.invariant.rest in
    let long : c.args.mark ≤ 16 * length work =
    let e = c.loop-left.invariant.same in
    let now = units_long c.loop-left.work in
    let then = units_long c.args.work.now in
    let p = shown_long c.args.mark (units_of c.args.work.now) c.requires.shown in
    omega arith in
    record { mark = c.args.mark; stands = turn.stands; long = long }

pub returns-then-not-claim_block : goal.returns-then-not-claim_block
returns-then-not-claim_block c whole p units lent claims m =
    let s : Ground = body_ground c.args.body.now c.args.mark in
    let work : List ℕ = units_of c.loop-left.work in
    let more : 0 < c.loop-left.left = let h = c.loop-left-test.true in omega arith in
    let b = c.claim_block in
    pages_shared units lent claims _ s _ c.loop-left.off c.loop-left.left work
    (c.loop-left.invariant.goes whole p units lent claims m)
    more _
    (sym b.ensures.free ∙ c.if-not-claim_block.true) b.ensures.list

pub next_page-off-requires : goal.next_page-off-requires
next_page-off-requires c =
    let s : Ground = body_ground c.args.body.now c.args.mark in
    let more : 0 < c.loop-left.left = let h = c.loop-left-test.true in omega arith in
    let turn : PageTurn s c.loop-left.off c.loop-left.left c.loop-left.invariant.offs =
    page_turn s c.loop-left.off c.loop-left.left c.loop-left.invariant.offs more c.loop-left.invariant.rest in
    let e = (block_stands page_class c.loop-left.off c.args.mark turn.stands).ends in
    let w = c.loop-left.invariant.rest.within in
    omega arith

pub loop-left-preserved : goal.loop-left-preserved
loop-left-preserved c =
    let s : Ground = body_ground c.args.body.now c.args.mark in
    let work : List ℕ = units_of c.loop-left.work in
    let more : 0 < c.loop-left.left = let h = c.loop-left-test.true in omega arith in
    let turn : PageTurn s c.loop-left.off c.loop-left.left c.loop-left.invariant.offs =
    page_turn s c.loop-left.off c.loop-left.left c.loop-left.invariant.offs more c.loop-left.invariant.rest in
    let b = c.claim_block in
    let next = c.next_page-off.result in
    let left = c.loop-left.left in
    let free = sym b.ensures.free ∙ c.if-not-claim_block.false in
    record {
      same = b.auto.work ∙ c.loop-left.invariant.same;
      offs = turn.behind;
      rest = subst (λ (n : ℕ). PagesLeft s n (left - 1) turn.behind) (sym c.next_page-off.ensures) turn.rest;
      goes = λ whole p units lent claims m.
          pages_turn units lent claims _ s _ c.loop-left.off left work (c.loop-left.invariant.goes whole p units lent claims m) more _
          next c.next_page-off.ensures free b.ensures.list;
    }

pub overflow_mul-result : goal.overflow_mul-result
overflow_mul-result c =
    let l = c.loop-left in
    let a = c.args in
    let w = c.requires.shown in
    let few = pages_few w.units w.lent w.claims _ (body_ground a.body.now a.mark) a.pages l.off l.left
    (units_of l.work)
    (l.invariant.goes c.requires.offs c.requires.left w.units w.lent w.claims w.shows) (omega arith) in
    omega arith

pub returns : goal.returns
returns c whole p units lent claims m =
    let l = c.loop-left in
    let a = c.args in
    pages_end_lem units lent claims _ (body_ground a.body.now a.mark) a.pages l.off l.left (units_of l.work)
    (l.invariant.goes whole p units lent claims m) (omega arith)
