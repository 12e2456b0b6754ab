-- `with_spare` meets its contract: below 256 the next count decides, and from there on the count itself.
use mathlib.Core.Path.{sym}
use native.Mathlib.Omega.{arith}
use Rattle.scripthash_slabs.proofs.LawsClass.{slack_next, slack_from}
use Rattle.scripthash_slabs.proofs.class.with_spare.Goals as goal

pub returns-then-n : goal.returns-then-n
returns-then-n c = sym (slack_next c.args.n (λ z. omega arith))

pub returns-else-n : goal.returns-else-n
returns-else-n c = sym (slack_from c.args.n (omega arith))
