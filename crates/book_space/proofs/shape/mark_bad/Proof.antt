-- `mark_bad` meets its contract, test by test. Assumes nothing.
use borrow.Author.Tests.{lt-ltb, le-ltb, eq-eqb, ne_eqb}
use Rattle.book_space.specs.Space.{mark_bad}
use Rattle.book_space.proofs.shape.mark_bad.Statement.{statement}
use Rattle.book_space.proofs.shape.mark_bad.Tie as tie

returns-then-mark-ne0 : tie.Need-returns-then-mark-ne0
unfolding mark_bad
returns-then-mark-ne0 c = simp (ne_eqb _ _ c.if-mark-ne0.true)

returns-then-mark-lt-SH_PREFIX_PAGE : tie.Need-returns-then-mark-lt-SH_PREFIX_PAGE
unfolding mark_bad
returns-then-mark-lt-SH_PREFIX_PAGE c = simp (eq-eqb _ _ c.before.if-mark-ne0.false, lt-ltb _ _ c.if-mark-lt-SH_PREFIX_PAGE.true)

returns : tie.Need-returns
unfolding mark_bad
returns c = simp (eq-eqb _ _ c.before.if-mark-ne0.false, le-ltb _ _ c.if-mark-lt-SH_PREFIX_PAGE.false)

pub mark_bad_spec : {M : Type 1} → statement M
mark_bad_spec = tie.close (tie.spec returns-then-mark-ne0 returns-then-mark-lt-SH_PREFIX_PAGE returns)
