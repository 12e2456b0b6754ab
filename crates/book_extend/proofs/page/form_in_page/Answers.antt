-- `form_in_page` meets its contract: the form behind the last number, and then the room.
use Rattle.std.proofs.Common.{◌-◌, arith}
use Rattle.compact.proofs.LawsLength.{len_at_most}
use Rattle.book_extend.proofs.page.form_in_page.Goals as goal

pub returns-in_err-len : goal.returns-in_err-len
returns-in_err-len c = rw c.from_residual.ensures (λ above low. absurd (c.in_err-len.ensures above low))

pub overflow_add-taken-2 : goal.overflow_add-taken-2
overflow_add-taken-2 c =
    let form = c.in_ok-len.ensures in
    omega (arith, c.requires, form.2, len_at_most (c.args.n - c.args.fk) (omega arith))

pub returns-then-taken-len-gt-SH_PAGE_SIZE : goal.returns-then-taken-len-gt-SH_PAGE_SIZE
returns-then-taken-len-gt-SH_PAGE_SIZE c = λ above low. omega (arith, c.if-taken-len-gt-SH_PAGE_SIZE.true, c.in_ok-len.ensures.2)

pub returns : goal.returns
returns c =
    let form = c.in_ok-len.ensures in
    record { above = form.0; low = form.1; form = form.2; room = omega (arith, c.if-taken-len-gt-SH_PAGE_SIZE.false) }
