-- `linked_off` meets its contract: the next page's offset decides. Assumes nothing.
use borrow.Author.Tests.{eq-eqb, ne_eqb}
use Rattle.scripthash_pages.proofs.pack.linked_off.Statement.{statement}
use Rattle.scripthash_pages.proofs.pack.linked_off.Tie as tie

returns-then-next-eq0 : tie.Need-returns-then-next-eq0
returns-then-next-eq0 c = rw (eq-eqb c.before.args.next 0 c.if-next-eq0.true)

returns : tie.Need-returns
returns c = rw (ne_eqb c.before.args.next 0 c.if-next-eq0.false)

pub linked_off_spec : {M : Type 1} → statement M
linked_off_spec = tie.close (tie.spec returns-then-next-eq0 returns)
