-- `pop_end` meets its contract. Assumes nothing.
use mathlib.Core.Path.{◌≡◌}
use native.Mathlib.Omega.{arith}
use borrow.Author.Tests.{eq-eqb, ne_eqb}
use Rattle.scripthash_layout.specs.Sizes.{page_class}
use Rattle.book_limits.specs.Limits.{pop_end}
use Rattle.book_space.proofs.take.pop_end.Statement.{statement}
use Rattle.book_space.proofs.take.pop_end.Tie as tie

returns-then-class-eq-SH_PAGE_SLAB_CLASS : tie.Need-returns-then-class-eq-SH_PAGE_SLAB_CLASS
unfolding pop_end
returns-then-class-eq-SH_PAGE_SLAB_CLASS c = rw (eq-eqb c.before.args.class page_class (omega arith))

returns-then-mark-lt-SLABS_END : tie.Need-returns-then-mark-lt-SLABS_END
unfolding pop_end
returns-then-mark-lt-SLABS_END c =
    let a = c.before.before.args in
    rw (ne_eqb a.class page_class (λ (e : a.class ≡ page_class). omega arith)) (omega arith)

returns : tie.Need-returns
unfolding pop_end
returns c =
    let a = c.before.before.args in
    rw (ne_eqb a.class page_class (λ (e : a.class ≡ page_class). omega arith)) (omega arith)

pub pop_end_spec : {M : Type 1} → statement M
pop_end_spec = tie.close (tie.spec returns-then-class-eq-SH_PAGE_SLAB_CLASS returns-then-mark-lt-SLABS_END returns)
