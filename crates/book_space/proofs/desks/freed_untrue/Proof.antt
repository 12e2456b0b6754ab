-- `freed_untrue` meets its contract, test by test. Assumes nothing.
use borrow.Author.Tests.{eq-eqb, ne_eqb}
use Rattle.book_space.proofs.desks.freed_untrue.Statement.{statement}
use Rattle.book_space.proofs.desks.freed_untrue.Tie as tie

returns-then-head-eq0 : tie.Need-returns-then-head-eq0
returns-then-head-eq0 c = rw (eq-eqb c.before.args.head 0 c.if-head-eq0.true)

returns : tie.Need-returns
returns c = rw (ne_eqb c.before.args.head 0 c.if-head-eq0.false)

pub freed_untrue_spec : {M : Type 1} → statement M
freed_untrue_spec = tie.close (tie.spec returns-then-head-eq0 returns)
