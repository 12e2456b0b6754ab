-- `judge_take` meets its contract: the counts, and then the rule. Assumes nothing.
use mathlib.Core.Path.{sym, ◌∙◌}
use native.Mathlib.Omega.{arith}
use Rattle.book_desks.proofs.LawsCounts.{counts_low}
use Rattle.book_space.specs.Steps.{judged_number}
use borrow.Author.Rules.{rules}
use Rattle.book_space.proofs.desks.judge_take.Statement.{statement}
use Rattle.book_space.proofs.desks.judge_take.Tie as tie

counts_high-requires : tie.Need-counts_high-requires
counts_high-requires c κs = search rules

returns-then-counts_high : tie.Need-returns-then-counts_high
unfolding judged_number
returns-then-counts_high c = rw (sym c.before.counts_high.ensures ∙ c.if-counts_high.true)

permission-requires : tie.Need-permission-requires
permission-requires c κs =
    let start = c.before.before in
    let pre = start.requires in
    let low = sym c.before.counts_high.ensures ∙ c.if-counts_high.false in
    let freed = (counts_low start.args.end start.args.counts.now low).freed in
    record {
      low = low;
      known = pre.known;
      body = pre.body;
      asked = pre.asked;
      left = omega (arith, freed, pre.left, pre.body);
      within = pre.within;
    }

returns : tie.Need-returns
unfolding judged_number
returns c = rw (sym c.before.before.counts_high.ensures ∙ c.before.if-counts_high.false) c.permission.ensures

pub judge_take_spec : {M : Type 1} → statement M
judge_take_spec = tie.close (tie.spec counts_high-requires returns-then-counts_high permission-requires returns)
