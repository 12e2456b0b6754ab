-- `with_bit` meets its contract: the bit is there, or its weight is added.
use Rattle.std.proofs.Common.{arith}
use Rattle.book_start.proofs.LawsBits.{bit_set, bit_stays, bit_fits, weight_is}
use Rattle.book_start.proofs.units.with_bit.Goals as goal

pub returns-then-w-bit-ne0 : goal.returns-then-w-bit-ne0
returns-then-w-bit-ne0 c = let a = c.args in bit_stays a.w a.bit (omega arith) (omega arith) c.if-w-bit-ne0.true

pub overflow_add-result : goal.overflow_add-result
overflow_add-result c =
    let a = c.args in
    let fits = bit_fits a.w a.bit (omega arith) (omega arith) c.if-w-bit-ne0.false in
    let weight = weight_is a.bit (omega arith) in
    omega arith

pub returns : goal.returns
returns c =
    let a = c.args in
    rw (weight_is a.bit (omega arith)) (bit_set a.w a.bit (omega arith) (omega arith) c.if-w-bit-ne0.false)
