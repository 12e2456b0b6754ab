-- The library's `all` tests each byte.
use Rattle.std.proofs.Common.{rules}
use Rattle.decimal.proofs.LawsDecimal.{digits_are}
use Rattle.decimal.proofs.all_digits.Goals as goal

pub returns : goal.returns
returns c = digits_are c.args.word.now c.all.result (search rules)
