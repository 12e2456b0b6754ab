-- `shape_broken` meets its contract: the lengths, and then the mark. Assumes nothing.
use mathlib.Core.Path.{sym, ◌∙◌}
use borrow.Author.Rules.{rules}
use Rattle.book_space.specs.Space.{shape_broken}
use Rattle.book_space.proofs.shape.shape_broken.Statement.{statement}
use Rattle.book_space.proofs.shape.shape_broken.Tie as tie

out_of_shape-requires : tie.Need-out_of_shape-requires
out_of_shape-requires c κs = search rules

returns-then-out_of_shape : tie.Need-returns-then-out_of_shape
unfolding shape_broken
returns-then-out_of_shape c free = rw (sym c.before.out_of_shape.ensures ∙ c.if-out_of_shape.true)

mark_bad-requires : tie.Need-mark_bad-requires
mark_bad-requires c κs = search rules

returns : tie.Need-returns
unfolding shape_broken
returns c free = let t = c.before in rw (sym t.before.out_of_shape.ensures ∙ t.if-out_of_shape.false) c.mark_bad.ensures

pub shape_broken_spec : {M : Type 1} → statement M
shape_broken_spec = tie.close (tie.spec out_of_shape-requires returns-then-out_of_shape mark_bad-requires returns)
