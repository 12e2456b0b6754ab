-- `push_lent` meets its contract: the test of the block decides. Assumes nothing.
use mathlib.Core.Path.{sym, ◌∙◌}
use native.Mathlib.Omega.{arith}
use Rattle.error.proofs.LawsAnswer.{answered_yes, answered_no}
use Rattle.scripthash_free.specs.FreeList.{lists}
use Rattle.scripthash_free.specs.Answers.{was_done}
use Rattle.scripthash_free.proofs.LawsBlock.{bytes_from_16, Standing, block_stands}
use Rattle.scripthash_free.proofs.LawsFree.{after_accepted, after_refused, push_yes, push_no}
use borrow.Author.Rules.{rules}
use Rattle.scripthash_free.proofs.push_lent.Statement.{statement}
use Rattle.scripthash_free.proofs.push_lent.Tie as tie

is_block-requires : tie.Need-is_block-requires
is_block-requires c κs = search rules

put_free_head-requires : tie.Need-put_free_head-requires
put_free_head-requires c κs =
    let t = c.before.before in
    let a = t.before.before.before.args in
    let s : Standing a.class a.off _ = block_stands _ _ _ (sym t.before.is_block.ensures ∙ t.if-is_block.true) in
    (s.class_to_8, omega (arith, bytes_from_16 a.class))

shape_of-body-then-is_block : tie.Need-shape_of-body-then-is_block
shape_of-body-then-is_block c = search rules

returns-then-is_block : tie.Need-returns-then-is_block
returns-then-is_block c =
    let t = c.before.before.before.before.before in
    let a = t.before.before.before.args in
    let l = lists a.body.now a.heads.now in
    let answer = push_yes a.class a.off l (sym t.before.is_block.ensures ∙ t.if-is_block.true) in
    (sym (answered_yes was_done _ answer), c.before.before.put_free_head.ensures ∙ sym (after_accepted _ l answer))

returns : tie.Need-returns
returns c =
    let a = c.before.before.before.args in
    let l = lists a.body.now a.heads.now in
    let answer = push_no a.class a.off l (sym c.before.is_block.ensures ∙ c.if-is_block.false) in
    (sym (answered_no was_done _ answer), sym (after_refused _ l answer))

pub push_lent_spec : {M : Type 1} → statement M
push_lent_spec =
    tie.close (tie.spec is_block-requires put_free_head-requires shape_of-body-then-is_block returns-then-is_block returns)
