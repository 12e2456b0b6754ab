use Rattle.std.proofs.Common.{arith}
use Rattle.scripthash_words.proofs.LawsValues.{value_one, value_two, value_three, value_four}
use Rattle.scripthash_words.proofs.values.value_of.Goals as goal

pub returns-then-x-lt128 : goal.returns-then-x-lt128
returns-then-x-lt128 c = value_one c.args.x (omega arith)

pub returns-then-x-lt128-2 : goal.returns-then-x-lt128-2
returns-then-x-lt128-2 c = value_two c.args.x (omega arith) (omega arith)

pub returns-then-x-lt128-3 : goal.returns-then-x-lt128-3
returns-then-x-lt128-3 c = value_three c.args.x (omega arith) (omega arith) (omega arith)

pub returns : goal.returns
returns c = value_four c.args.x (omega arith) (omega arith) (omega arith)
