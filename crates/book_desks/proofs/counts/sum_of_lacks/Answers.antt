use Rattle.std.proofs.Common.{◌≡◌, ℕ, ◌-◌, get_or, sym, ap, ◌∙◌, arith, rules}
use Rattle.book_desks.specs.Desks.{desks, sum_to}
use Rattle.book_desks.specs.Counts.{held_at, reserve_at}
use Rattle.book_desks.proofs.LawsSums.{sum_none, sum_step, sum_least}
use Rattle.book_desks.proofs.LawsCounts.{lacks_in}
use Rattle.book_desks.proofs.counts.sum_of_lacks.Goals as goal

pub returns-then-sum_of_reserves-eq0 : goal.returns-then-sum_of_reserves-eq0
returns-then-sum_of_reserves-eq0 c =
    let words = c.args.counts.now in
    let most = sum_least desks (λ d. get_or words (reserve_at d) 0 - get_or words (held_at d) 0) (λ d. get_or words (reserve_at d) 0)
    (λ d h. omega arith) in
    let none' : sum_to desks (λ d. get_or words (reserve_at d) 0 - get_or words (held_at d) 0) ≡ 0
    = omega (arith, most, c.sum_of_reserves.ensures, c.if-sum_of_reserves-eq0.true) in
    sym (lacks_in words ∙ none')

pub loop-d-init : goal.loop-d-init
loop-d-init c = (sum_none _, search rules)

pub loop-d-preserved : goal.loop-d-preserved
loop-d-preserved c =
    let l = c.loop-d in
    let words = c.args.counts.now in
    let small = c.requires l.d c.loop-d-test.true in (
      sum_step (λ d. get_or words (reserve_at d) 0 - get_or words (held_at d) 0) l.d l.sum c.saturating_sub-sum.result l.invariant.0
          c.saturating_sub-sum.ensures,
      omega (arith, small, c.saturating_sub-sum.ensures),
    )

pub returns : goal.returns
returns c =
    let l = c.loop-d in
    let words = c.args.counts.now in
    let e : l.d ≡ 16 = omega arith in
    l.invariant.0 ∙ ap (λ (n : ℕ). sum_to n (λ d. get_or words (reserve_at d) 0 - get_or words (held_at d) 0)) e ∙ sym (lacks_in words)
