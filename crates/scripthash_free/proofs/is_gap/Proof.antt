-- `is_gap` meets its contract, test by test. Assumes nothing.
use borrow.Author.Tests.{le-leb, lt-leb, eq-eqb, ne_eqb}
use Rattle.scripthash_free.specs.FreeList.{is_gap}
use Rattle.scripthash_free.proofs.is_gap.Statement.{statement}
use Rattle.scripthash_free.proofs.is_gap.Tie as tie

returns-then-to-from : tie.Need-returns-then-to-from
unfolding is_gap
returns-then-to-from c = simp (le-leb _ _ c.if-to-from.true)

returns-then-from-ne0 : tie.Need-returns-then-from-ne0
unfolding is_gap
returns-then-from-ne0 c = simp (lt-leb _ _ c.before.if-to-from.false, ne_eqb _ _ c.if-from-ne0.true)

returns-then-from-lt-SH_PREFIX_PAGE : tie.Need-returns-then-from-lt-SH_PREFIX_PAGE
unfolding is_gap
returns-then-from-lt-SH_PREFIX_PAGE c = simp (lt-leb _ _ c.before.before.if-to-from.false, eq-eqb _ _ c.before.if-from-ne0.false, lt-leb _ _ c.if-from-lt-SH_PREFIX_PAGE.true)

returns : tie.Need-returns
unfolding is_gap
returns c = simp (lt-leb _ _ c.before.before.if-to-from.false, eq-eqb _ _ c.before.if-from-ne0.false, le-leb _ _ c.if-from-lt-SH_PREFIX_PAGE.false)

pub is_gap_spec : {M : Type 1} → statement M
is_gap_spec = tie.close (tie.spec returns-then-to-from returns-then-from-ne0 returns-then-from-lt-SH_PREFIX_PAGE returns)
