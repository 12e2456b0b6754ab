-- `form_in_slab` meets its contract: the form behind the last number, and then the room.
use Rattle.std.proofs.Common.{ℕ, ◌+◌, ◌-◌, ◌≤◌, ◌≡◌, sym, ap, ◌∙◌, arith}
use borrow.Author.Tests.{not-true, not-false}
use Rattle.compact.proofs.LawsLength.{len_at_most}
use Rattle.book_rules.specs.Places.{stays}
use Rattle.book_extend.proofs.slab.form_in_slab.Goals as goal

pub returns-in_err-len : goal.returns-in_err-len
returns-in_err-len c = rw c.from_residual.ensures (λ above low. absurd (c.in_err-len.ensures above low))

pub overflow_add-taken : goal.overflow_add-taken
overflow_add-taken c = omega (arith, c.in_ok-len.ensures.2, len_at_most (c.args.n - c.args.fk) (omega arith), c.requires.2)

pub stays-requires : goal.stays-requires
stays-requires c =
    (c.requires.0, omega (arith, c.in_ok-len.ensures.2, len_at_most (c.args.n - c.args.fk) (omega arith), c.requires.2))

pub returns-then-not-stays : goal.returns-then-not-stays
returns-then-not-stays c = λ above low.
    let a = c.args in
    ap (λ (len : ℕ). stays a.class (a.used + 1) (a.taken + len)) (sym c.in_ok-len.ensures.2)
    ∙ ap (λ (held : ℕ). stays a.class (held + 1) (a.taken + c.in_ok-len.len)) (sym c.from.ensures)
    ∙ sym c.stays.ensures ∙ not-true _ c.if-not-stays.true-raw

pub returns : goal.returns
returns c =
    let a = c.args in
    let form = c.in_ok-len.ensures in
    record {
      above = form.0;
      low = form.1;
      form = form.2;
      holds = ap (λ (held : ℕ). stays a.class (held + 1) (a.taken + c.in_ok-len.len)) (sym c.from.ensures)
          ∙ sym c.stays.ensures ∙ not-false _ c.if-not-stays.false-raw;
    }
