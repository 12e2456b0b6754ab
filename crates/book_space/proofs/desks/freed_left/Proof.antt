-- `freed_left` meets its contract, test by test. Assumes nothing.
use native.Mathlib.Omega.{arith}
use borrow.Author.Tests.{eq-eqb, ne_eqb}
use borrow.Author.Rules.{rules}
use Rattle.book_space.proofs.desks.freed_left.Statement.{statement}
use Rattle.book_space.proofs.desks.freed_left.Tie as tie

returns-then-head-eq0 : tie.Need-returns-then-head-eq0
returns-then-head-eq0 c = rw (eq-eqb c.before.args.head 0 c.if-head-eq0.true)

returns-then-freed-eq0 : tie.Need-returns-then-freed-eq0
returns-then-freed-eq0 c = rw (ne_eqb c.before.before.args.head 0 c.before.if-head-eq0.false) (omega arith)

overflow_sub-result : tie.Need-overflow_sub-result
overflow_sub-result c = search rules

returns : tie.Need-returns
returns c = rw (ne_eqb c.before.before.args.head 0 c.before.if-head-eq0.false)

pub freed_left_spec : {M : Type 1} → statement M
freed_left_spec = tie.close (tie.spec returns-then-head-eq0 returns-then-freed-eq0 overflow_sub-result returns)
