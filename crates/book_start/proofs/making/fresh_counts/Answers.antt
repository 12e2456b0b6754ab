-- `fresh_counts` meets its contract: so far the limits of the desks passed are filled in.
use Rattle.std.proofs.Common.{ℕ, ◌≡◌, subst, arith}
use Rattle.book_start.specs.Making.{limits_of}
use Rattle.book_start.proofs.LawsMaking.{Filled, filled_all}
use Rattle.book_start.proofs.making.fresh_counts.Goals as goal

pub returns : goal.returns
returns c =
    let l = c.loop-d in
    let a = c.args in
    let e : l.d ≡ 16 = omega arith in
    filled_all (limits_of a.reserve.now a.ceiling.now) l.words
    (subst (λ (n : ℕ). Filled (limits_of a.reserve.now a.ceiling.now) l.words n) e l.invariant.1)
