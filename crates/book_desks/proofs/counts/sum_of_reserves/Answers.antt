use Rattle.std.proofs.Common.{◌≡◌, ◌+◌, ◌≤◌, ◌<◌, ◌^◌, ◌*◌, sum, get_or, take, drop, arith, rules}
use Rattle.book_desks.specs.Desks.{sum_to}
use Rattle.book_desks.proofs.LawsSums.{sum_part, sum_most}
use Rattle.book_desks.proofs.counts.sum_of_reserves.Goals as goal

pub sum-requires-clause-fits : goal.sum-requires-clause-fits
sum-requires-clause-fits c =
    let words = c.args.counts.now in
    let e : sum (take 16 (drop 17 words)) ≡ sum_to 16 (λ d. get_or words (17 + d) 0) = sum_part 16 17 words (omega arith) in
    let most : sum_to 16 (λ d. get_or words (17 + d) 0) ≤ 16 * 2 ^ 29 = sum_most 16 (2 ^ 29) (λ d. get_or words (17 + d) 0) c.requires in
    let low : sum (take 16 (drop 17 words)) < 2 ^ 64 = omega arith in
    search (rules, low)

pub returns : goal.returns
returns c =
    let words = c.args.counts.now in
    let e : sum (take 16 (drop 17 words)) ≡ sum_to 16 (λ d. get_or words (17 + d) 0) = sum_part 16 17 words (omega arith) in
    search (rules, e)
