-- `peek_run` meets its contract: the run's end against the body's decides. Assumes nothing.
use Prim.Native.Nat.{◌+◌, ◌*◌}
use mathlib.Core.Path.{sym}
use borrow.Author.Tests.{lt-ltb, le-ltb}
use Rattle.error.proofs.LawsAnswer.{refuse_yes, refuse_no}
use Rattle.scripthash_layout.specs.Sizes.{page_size}
use Rattle.book_limits.specs.Limits.{page_after}
use Rattle.book_space.specs.Steps.{mark_after_run}
use borrow.Author.Rules.{rules}
use Rattle.book_space.proofs.desks.peek_run.Statement.{statement}
use Rattle.book_space.proofs.desks.peek_run.Tie as tie

overflow_sub-from : tie.Need-overflow_sub-from
overflow_sub-from c = search rules

overflow_add-from : tie.Need-overflow_add-from
overflow_add-from c = search rules

overflow_mul-from : tie.Need-overflow_mul-from
overflow_mul-from c = search rules

overflow_mul-end : tie.Need-overflow_mul-end
overflow_mul-end c = search rules

overflow_add-end : tie.Need-overflow_add-end
overflow_add-end c = search rules

returns-then-size-end : tie.Need-returns-then-size-end
unfolding mark_after_run
returns-then-size-end c =
    let a = c.before.args in
    sym (refuse_yes _ _ _ (lt-ltb a.size (page_after a.mark + a.pages * page_size) c.if-size-end.true))

returns : tie.Need-returns
unfolding mark_after_run
returns c =
    let a = c.before.args in
    sym (refuse_no _ _ _ (le-ltb a.size (page_after a.mark + a.pages * page_size) c.if-size-end.false))

pub peek_run_spec : {M : Type 1} → statement M
peek_run_spec = tie.close (tie.spec overflow_sub-from overflow_add-from overflow_mul-from overflow_mul-end overflow_add-end returns-then-size-end returns)
