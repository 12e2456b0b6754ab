use Rattle.std.proofs.Common.{sym, ◌∙◌, arith}
use Rattle.book_desks.proofs.LawsJudged.{held_small, reserves_small, lacks_small, judged_past, judged_into, judged_none}
use Rattle.book_desks.proofs.counts.permission.Goals as goal

pub past_ceiling-requires : goal.past_ceiling-requires
past_ceiling-requires c = omega (arith, held_small c.requires, c.requires.asked)

pub returns-then-past_ceiling : goal.returns-then-past_ceiling
returns-then-past_ceiling c = judged_past c.requires (sym c.past_ceiling.ensures ∙ c.if-past_ceiling.true)

pub sum_of_lacks-lacking-requires : goal.sum_of_lacks-lacking-requires
sum_of_lacks-lacking-requires c = reserves_small c.requires

pub overflow_add-had : goal.overflow_add-had
overflow_add-had c = omega (arith, reserves_small c.requires c.args.desk c.requires.known, c.requires.left, c.requires.body)

pub overflow_add-held-2 : goal.overflow_add-held-2
overflow_add-held-2 c = omega (arith, held_small c.requires, c.requires.asked)

pub overflow_add-lacking : goal.overflow_add-lacking
overflow_add-lacking c = omega (arith, reserves_small c.requires c.args.desk c.requires.known, lacks_small c.requires)

pub returns-then-had-saturating_sub : goal.returns-then-had-saturating_sub
returns-then-had-saturating_sub c = judged_into c.requires (sym c.past_ceiling.ensures ∙ c.if-past_ceiling.false) (omega arith)

pub returns : goal.returns
returns c = judged_none c.requires (sym c.past_ceiling.ensures ∙ c.if-past_ceiling.false) (omega arith)
