-- No byte ends more than one form.
use Rattle.std.proofs.Common.{◌≡◌, ◌*◌, ◌≤◌, Bool, true, false, cond, length, sum_by, arith, rules}
use Rattle.std.proofs.lemmas.List.Sums.{sum_by-le}
use Rattle.std.proofs.iter.runs.Made.{chains}
use Rattle.compact.specs.Uleb128.{goes_on}
use Rattle.scripthash_words.specs.Words.{end_one}
use Rattle.scripthash_scan.proofs.ends.ends_in.Goals as goal

one_most : (g : Bool) → cond g 0 1 ≤ 1
one_most true = omega arith
one_most false = omega arith

pub returns-clause-few : goal.returns-clause-few
returns-clause-few c =
    let bs = c.args.bytes.now in
    let most : sum_by end_one bs ≤ length bs * 1 = sum_by-le end_one 1 bs (λ k d h. one_most (goes_on _)) in
    let is : c.sum.result ≡ sum_by end_one bs = search (rules, chains) in
    omega (arith, most, is)
