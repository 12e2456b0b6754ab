-- `run_at_mark` meets its contract: the run's end against the body's decides, and the gap can be carved. Assumes nothing.
use Rattle.scripthash_free.specs.FreeList.{lists}
use Rattle.book_space.specs.Space.{Space, space}
use Rattle.book_space.proofs.LawsSteps.{takes_yes, takes_no}
use Rattle.book_space.proofs.LawsTake.{run_yes, run_no}
use borrow.Author.Rules.{rules}
use Rattle.book_space.proofs.take.run_at_mark.Statement.{statement}
use Rattle.book_space.proofs.take.run_at_mark.Tie as tie

-- the space before
module _ (t : tie.Start) where
  abbrev before : Space
  before = space t.args.body.now t.args.mark.now t.args.free.now

overflow_sub-from : tie.Need-overflow_sub-from
overflow_sub-from c = search rules

overflow_add-from : tie.Need-overflow_add-from
overflow_add-from c = search rules

overflow_mul-from : tie.Need-overflow_mul-from
overflow_mul-from c = search rules

overflow_mul-end : tie.Need-overflow_mul-end
overflow_mul-end c = search rules

overflow_add-end : tie.Need-overflow_add-end
overflow_add-end c = search rules

returns-then-body-end : tie.Need-returns-then-body-end
returns-then-body-end c =
    let start = c.before.before.before in
    let answer = run_no start.args.pages (before start) start.requires.shape c.if-body-end.true in
    takes_no (before start) _ answer

gap_end-to-requires : tie.Need-gap_end-to-requires
gap_end-to-requires c κs = search rules

carve_lent-requires : tie.Need-carve_lent-requires
carve_lent-requires c κs = search rules

shape_of-body : tie.Need-shape_of-body
shape_of-body c = search rules

returns : tie.Need-returns
returns c =
    let t = c.before.before.before.before.before.before in
    let start = t.before.before.before in
    let l = lists c.before.before.carve_lent.new.body c.before.before.carve_lent.new.heads in
    let gap = c.before.before.before.before.before.gap_end-to.ensures in
    let carved = rw gap at c.before.before.carve_lent.ensures.1 in
    let answer = run_yes start.args.pages (before start) start.requires.shape l carved t.if-body-end.false in
    takes_yes (before start) _ answer

pub run_at_mark_spec : {M : Type 1} → statement M
run_at_mark_spec =
    tie.close
    (tie.spec
    overflow_sub-from
    overflow_add-from
    overflow_mul-from
    overflow_mul-end
    overflow_add-end
    returns-then-body-end
    gap_end-to-requires
    carve_lent-requires
    shape_of-body
    returns)
