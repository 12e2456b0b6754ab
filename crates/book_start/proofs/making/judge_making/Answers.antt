-- `judge_making` meets its contract, test by test.
use Prim.Native.Nat.{ℕ, ◌-◌, ◌/◌, ◌≤◌}
use mathlib.Core.Bool.{Bool, true, false}
use mathlib.Core.List.{List}
use mathlib.Core.Path.{◌≡◌, sym, ap, ◌∙◌}
use native.Mathlib.Omega.{arith}
use borrow.Author.Tests.{lt-ltb, le-ltb}
use lib.Dec.{ltb}
use Rattle.book_limits.specs.Limits.{out_of_shape}
use Rattle.book_limits.proofs.LawsLimits.{in_shape}
use Rattle.book_desks.specs.Desks.{desks, Limits, lacks, list_bad, reserve_high}
use Rattle.book_desks.specs.Counts.{held_in, limits_in, fresh_counts, counts_high}
use Rattle.book_desks.proofs.LawsCounts.{counts_low}
use Rattle.book_start.proofs.LawsMaking.{number_shape, number_high, number_list, number_few, number_over, number_none}
use Rattle.book_start.proofs.making.judge_making.Goals as goal

-- what holds of the counts of a making holds of fresh counts
high : (size : ℕ) (counts : List ℕ) (l : Limits) {told : Bool} → counts ≡ fresh_counts l → told ≡ counts_high size counts
    → counts_high size (fresh_counts l) ≡ told
high size counts l is e = ap (counts_high size) (sym is) ∙ sym e

lacking : (counts : List ℕ) (l : Limits) {told : ℕ} → counts ≡ fresh_counts l → told ≡ lacks (limits_in counts) (held_in counts)
    → lacks (limits_in (fresh_counts l)) (held_in (fresh_counts l)) ≡ told
lacking counts l is e = ap (λ (cs : List ℕ). lacks (limits_in cs) (held_in cs)) (sym is) ∙ sym e

over : (counts : List ℕ) (l : Limits) {told : Bool} → counts ≡ fresh_counts l → told ≡ reserve_high desks (limits_in counts)
    → reserve_high desks (limits_in (fresh_counts l)) ≡ told
over counts l is e = ap (λ (cs : List ℕ). reserve_high desks (limits_in cs)) (sym is) ∙ sym e

pub returns-then-out_of_shape : goal.returns-then-out_of_shape
returns-then-out_of_shape c l is =
    number_shape c.args.desks.now c.args.size c.args.heads l (sym c.out_of_shape.ensures ∙ c.if-out_of_shape.true)

pub returns-then-counts_high : goal.returns-then-counts_high
returns-then-counts_high c l is =
    number_high c.args.desks.now c.args.size c.args.heads l (sym c.out_of_shape.ensures ∙ c.if-out_of_shape.false)
    (high c.args.size c.args.counts.now l is c.counts_high.ensures ∙ c.if-counts_high.true)

pub returns-then-list_bad : goal.returns-then-list_bad
returns-then-list_bad c l is =
    number_list c.args.desks.now c.args.size c.args.heads l (sym c.out_of_shape.ensures ∙ c.if-out_of_shape.false)
    (high c.args.size c.args.counts.now l is c.counts_high.ensures ∙ c.if-counts_high.false) (sym c.list_bad.ensures ∙ c.if-list_bad.true)

pub overflow_sub-size : goal.overflow_sub-size
overflow_sub-size c =
    let s = (in_shape c.args.size c.args.heads (sym c.out_of_shape.ensures ∙ c.if-out_of_shape.false)).least in omega arith

pub sum_of_lacks-requires : goal.sum_of_lacks-requires
sum_of_lacks-requires c =
    let most = (in_shape c.args.size c.args.heads (sym c.out_of_shape.ensures ∙ c.if-out_of_shape.false)).most in
    let low = counts_low c.args.size c.args.counts.now (sym c.counts_high.ensures ∙ c.if-counts_high.false) in
    λ d h. let r = low.reserve d h in omega arith

pub returns-then-size-sum_of_lacks : goal.returns-then-size-sum_of_lacks
returns-then-size-sum_of_lacks c l is =
    number_few c.args.desks.now c.args.size c.args.heads l (sym c.out_of_shape.ensures ∙ c.if-out_of_shape.false)
    (high c.args.size c.args.counts.now l is c.counts_high.ensures ∙ c.if-counts_high.false) (sym c.list_bad.ensures ∙ c.if-list_bad.false)
    (lt-ltb (c.args.size / 4096 - 1) (lacks (limits_in (fresh_counts l)) (held_in (fresh_counts l)))
    (let n = lacking c.args.counts.now l is c.sum_of_lacks.ensures in let h = c.if-size-sum_of_lacks.true in omega arith))

pub returns-then-above_ceiling : goal.returns-then-above_ceiling
returns-then-above_ceiling c l is =
    number_over c.args.desks.now c.args.size c.args.heads l (sym c.out_of_shape.ensures ∙ c.if-out_of_shape.false)
    (high c.args.size c.args.counts.now l is c.counts_high.ensures ∙ c.if-counts_high.false) (sym c.list_bad.ensures ∙ c.if-list_bad.false)
    (le-ltb (c.args.size / 4096 - 1) (lacks (limits_in (fresh_counts l)) (held_in (fresh_counts l)))
    (let n = lacking c.args.counts.now l is c.sum_of_lacks.ensures in let h = c.if-size-sum_of_lacks.false in omega arith))
    (over c.args.counts.now l is c.above_ceiling.ensures ∙ c.if-above_ceiling.true)

pub returns : goal.returns
returns c l is =
    number_none c.args.desks.now c.args.size c.args.heads l (sym c.out_of_shape.ensures ∙ c.if-out_of_shape.false)
    (high c.args.size c.args.counts.now l is c.counts_high.ensures ∙ c.if-counts_high.false) (sym c.list_bad.ensures ∙ c.if-list_bad.false)
    (le-ltb (c.args.size / 4096 - 1) (lacks (limits_in (fresh_counts l)) (held_in (fresh_counts l)))
    (let n = lacking c.args.counts.now l is c.sum_of_lacks.ensures in let h = c.if-size-sum_of_lacks.false in omega arith))
    (over c.args.counts.now l is c.above_ceiling.ensures ∙ c.if-above_ceiling.false)
