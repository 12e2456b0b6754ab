use Rattle.std.proofs.Common.{◌/◌, ltb, take, ◌∙◌, arith, rules, tests}
use Rattle.std.proofs.lemmas.Iterator.{YieldsList-from_slice}
use Rattle.std.proofs.lemmas.Iterator.Search.{any_from_yields_List}
use Rattle.book_desks.specs.Counts.{counts_high}
use Rattle.book_desks.proofs.LawsSums.{above_list}
use Rattle.book_desks.proofs.counts.counts_high.Goals as goal

pub returns : goal.returns
unfolding counts_high
returns c =
    let words = c.args.counts.now in
    let most = c.args.size / 4096 in
    any_from_yields_List (ltb most) _ _ c.any.result c.any.ensures.ran (YieldsList-from_slice (take 33 words) (search rules))
    (λ x b q k. search (rules, tests))
    ∙ above_list most 33 words (omega arith)
