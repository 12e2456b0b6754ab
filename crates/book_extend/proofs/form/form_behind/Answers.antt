-- `form_behind` meets its contract: test by test.
use Rattle.std.proofs.Common.{arith}
use Rattle.book_extend.proofs.form.form_behind.Goals as goal

pub returns-then-n-fk : goal.returns-then-n-fk
returns-then-n-fk c = λ above low. omega (arith, above, c.if-n-fk.true)

pub returns-then-n-ge-NUMBER_RANGE : goal.returns-then-n-ge-NUMBER_RANGE
returns-then-n-ge-NUMBER_RANGE c = λ above low. omega (arith, low, c.if-n-ge-NUMBER_RANGE.true)

pub returns : goal.returns
returns c = (omega arith, omega arith, c.uleb128_len.ensures)
