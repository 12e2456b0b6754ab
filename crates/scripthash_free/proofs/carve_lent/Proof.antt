-- `carve_lent` meets its contract: the test of the gap decides. Assumes nothing.
use mathlib.Core.Path.{◌≡◌, sym, ◌∙◌}
use mathlib.Core.Bool.{true}
use native.Mathlib.Omega.{arith}
use lib.ListN.{length}
use borrow.Author.Tests.{not-true, not-false}
use Rattle.error.proofs.LawsAnswer.{answered_yes, answered_no}
use Rattle.scripthash_free.specs.Answers.{was_done}
use Rattle.scripthash_free.specs.FreeList.{Lists, lists, is_gap}
use Rattle.scripthash_free.proofs.LawsBlock.{Gap, gap_lies}
use Rattle.scripthash_free.proofs.LawsFree.{after_accepted, after_refused, carve_yes, carve_no}
use Rattle.scripthash_free.proofs.LawsGap.{gap_left}
use borrow.Author.Rules.{rules}
use Rattle.scripthash_free.proofs.carve_lent.Statement.{statement}
use Rattle.scripthash_free.proofs.carve_lent.Tie as tie

-- a gap that passed its test
module _ (t : tie.Else-not-is_gap) where
  abbrev start : tie.Start
  start = t.before.before.before

  abbrev whole : Lists
  whole = lists start.args.body.now start.args.heads.now

  passed : is_gap start.args.from start.args.to (length start.args.body.now) ≡ true
  passed = sym t.before.is_gap.ensures ∙ not-false _ t.if-not-is_gap.false-raw

is_gap-requires : tie.Need-is_gap-requires
is_gap-requires c κs = search rules

returns-then-not-is_gap : tie.Need-returns-then-not-is_gap
returns-then-not-is_gap c =
    let a = c.before.before.before.args in
    let l = lists a.body.now a.heads.now in
    let answer = carve_no a.from a.to l (sym c.before.is_gap.ensures ∙ not-true _ c.if-not-is_gap.true-raw) in
    (sym (answered_no was_done _ answer), sym (after_refused _ l answer))

push_largest-rest-requires : tie.Need-push_largest-rest-requires
push_largest-rest-requires c κs =
    let t = c.before.before.before in
    let g : Gap (start t).args.from (start t).args.to _ = gap_lies _ _ _ (passed t) c.before.before.if-from-to.true in
    (omega arith, g.ends)

push_smaller-requires : tie.Need-push_smaller-requires
push_smaller-requires c κs =
    let t = c.before.before.before.before.before.before.before.before in
    let g : Gap (start t).args.from (start t).args.to _ =
    gap_lies _ _ _ (passed t) c.before.before.before.before.before.before.before.if-from-to.true in
    let r = c.before.before.before.before.push_largest-rest.ensures.0 in
    (r.0, omega (arith, g.ends), r.1)

shape_of-body : tie.Need-shape_of-body
shape_of-body c = search rules

returns-then-from-to : tie.Need-returns-then-from-to
returns-then-from-to c =
    let p = c.before.before.before.before.before.before.before in
    let t = p.before.before.before.before in
    let answer = carve_yes (start t).args.from (start t).args.to (whole t) (passed t) in (
      sym (answered_yes was_done _ answer),
      c.before.before.push_smaller.ensures ∙ p.push_largest-rest.ensures.1
          ∙ sym (after_accepted _ (whole t) answer),
    )

returns-else-from-to : tie.Need-returns-else-from-to
returns-else-from-to c =
    let t = c.before in
    let answer = carve_yes (start t).args.from (start t).args.to (whole t) (passed t) in (
      sym (answered_yes was_done _ answer),
      sym (gap_left (start t).args.from (start t).args.to (whole t) (omega arith))
          ∙ sym (after_accepted _ (whole t) answer),
    )

pub carve_lent_spec : {M : Type 1} → statement M
carve_lent_spec =
    tie.close
    (tie.spec
    is_gap-requires
    returns-then-not-is_gap
    push_largest-rest-requires
    push_smaller-requires
    shape_of-body
    returns-then-from-to
    returns-else-from-to)
