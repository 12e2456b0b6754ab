-- `out_of_shape` meets its contract, test by test. Assumes nothing.
use borrow.Author.Tests.{lt-ltb, le-ltb, eq-eqb, ne_eqb}
use Rattle.book_limits.specs.Limits.{out_of_shape}
use Rattle.book_space.proofs.shape.out_of_shape.Statement.{statement}
use Rattle.book_space.proofs.shape.out_of_shape.Tie as tie

returns-then-size-ne0 : tie.Need-returns-then-size-ne0
unfolding out_of_shape
returns-then-size-ne0 c = simp (ne_eqb _ _ c.if-size-ne0.true)

returns-then-size-lt-LEAST_BODY : tie.Need-returns-then-size-lt-LEAST_BODY
unfolding out_of_shape
returns-then-size-lt-LEAST_BODY c = simp (eq-eqb _ _ c.before.if-size-ne0.false, lt-ltb _ _ c.if-size-lt-LEAST_BODY.true)

returns-then-size-gt-MOST_BODY : tie.Need-returns-then-size-gt-MOST_BODY
unfolding out_of_shape
returns-then-size-gt-MOST_BODY c = simp (eq-eqb _ _ c.before.before.if-size-ne0.false, le-ltb _ _ c.before.if-size-lt-LEAST_BODY.false, lt-ltb _ _ c.if-size-gt-MOST_BODY.true)

returns-then-heads-eq0 : tie.Need-returns-then-heads-eq0
unfolding out_of_shape
returns-then-heads-eq0 c =
    let t = c.before.before in
    simp (eq-eqb _ _ t.before.if-size-ne0.false, le-ltb _ _ t.if-size-lt-LEAST_BODY.false, le-ltb _ _ c.before.if-size-gt-MOST_BODY.false, eq-eqb _ _ c.if-heads-eq0.true)

returns : tie.Need-returns
unfolding out_of_shape
returns c =
    let t = c.before.before in
    simp (eq-eqb _ _ t.before.if-size-ne0.false, le-ltb _ _ t.if-size-lt-LEAST_BODY.false, le-ltb _ _ c.before.if-size-gt-MOST_BODY.false, ne_eqb _ _ c.if-heads-eq0.false)

pub out_of_shape_spec : {M : Type 1} → statement M
out_of_shape_spec = tie.close (tie.spec returns-then-size-ne0 returns-then-size-lt-LEAST_BODY returns-then-size-gt-MOST_BODY returns-then-heads-eq0 returns)
