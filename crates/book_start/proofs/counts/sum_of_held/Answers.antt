-- `sum_of_held` meets its contract: so far it has the pages of the desks passed.
use Rattle.std.proofs.Common.{ℕ, ◌≡◌, refl, sym, ap, ◌∙◌, arith, rules}
use Rattle.book_desks.specs.Desks.{desks, desk_count, sum_to}
use Rattle.book_desks.specs.Counts.{held_count, held_in}
use Rattle.book_desks.proofs.LawsSums.{sum_none, sum_step, sum_same}
use Rattle.book_desks.proofs.LawsCounts.{held_at_lem}
use Rattle.book_start.proofs.counts.sum_of_held.Goals as goal

pub loop-d-init : goal.loop-d-init
loop-d-init c = (search rules, sum_none _, search rules)

pub loop-d-preserved : goal.loop-d-preserved
loop-d-preserved c =
    let l = c.loop-d in
    let small = c.requires l.d c.loop-d-test.true in
    (search rules, sum_step (λ i. held_count i c.args.counts.now) l.d l.sum _ l.invariant.1 refl, omega arith)

pub returns : goal.returns
returns c =
    let l = c.loop-d in
    let words = c.args.counts.now in
    let e : l.d ≡ 16 = omega arith in
    l.invariant.1 ∙ ap (λ (n : ℕ). sum_to n (λ i. held_count i words)) e
    ∙ sum_same desks (λ i. held_count i words) (λ i. desk_count i (held_in words)) (λ i h. sym (held_at_lem words i h))
