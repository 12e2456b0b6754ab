-- `release_block` meets its contract: the block stands within the body, so its push is done. Assumes nothing.
use Rattle.scripthash_free.specs.FreeList.{lists}
use Rattle.book_space.specs.Space.{space}
use Rattle.book_space.proofs.LawsSteps.{release_pushed}
use borrow.Author.Rules.{rules}
use Rattle.book_space.proofs.release.release_block.Statement.{statement}
use Rattle.book_space.proofs.release.release_block.Tie as tie

push_lent-requires : tie.Need-push_lent-requires
push_lent-requires c κs = search rules

shape_of-body : tie.Need-shape_of-body
shape_of-body c = search rules

returns : tie.Need-returns
returns c mark =
    let start = c.before.before.before.before.before.before in
    let a = start.args in
    let push = c.before.before.push_lent in
    release_pushed a.class a.off (space a.body.now mark a.free.now) (lists push.new.body push.new.heads) start.requires
    push.ensures.1

pub release_block_spec : {M : Type 1} → statement M
release_block_spec = tie.close (tie.spec push_lent-requires shape_of-body returns)
