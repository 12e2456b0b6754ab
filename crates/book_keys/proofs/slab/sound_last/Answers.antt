-- `sound_last` meets its contract.
use Rattle.std.proofs.Common.{lt-ltb, arith}
use Rattle.book_keys.specs.Steps.{sound_last}
use Rattle.book_keys.proofs.slab.sound_last.Goals as goal

pub returns-then-fk-ne0 : goal.returns-then-fk-ne0
unfolding sound_last
returns-then-fk-ne0 c = rw (lt-ltb 0 c.args.fk (omega arith))

pub returns-else-fk-ne0 : goal.returns-else-fk-ne0
unfolding sound_last
returns-else-fk-ne0 c = rw c.if-fk-ne0.false
