-- `total_with` meets its contract: a law for each way out. Assumes nothing.
use mathlib.Core.Path.{sym}
use native.Mathlib.Omega.{arith}
use borrow.Author.Rules.{rules}
use Rattle.book_blocks.proofs.LawsTotals.{total_unknown, total_counts, total_ends}
use Rattle.book_blocks.proofs.page.total_with.Statement.{statement}
use Rattle.book_blocks.proofs.page.total_with.Tie as tie

returns-then-creates-eq0 : tie.Need-returns-then-creates-eq0
returns-then-creates-eq0 c = sym (total_unknown c.before.args.creates c.if-creates-eq0.true)

returns-then-creates-eq4294967295 : tie.Need-returns-then-creates-eq4294967295
returns-then-creates-eq4294967295 c = sym (total_ends c.before.before.args.creates (omega arith))

overflow_add-result : tie.Need-overflow_add-result
overflow_add-result c = search rules

returns : tie.Need-returns
returns c = sym (total_counts c.before.before.args.creates c.before.if-creates-eq0.false (omega arith))

pub total_with_spec : {M : Type 1} → statement M
total_with_spec = tie.close (tie.spec returns-then-creates-eq0 returns-then-creates-eq4294967295 overflow_add-result returns)
