use Rattle.std.proofs.Common.{refl, arith}
use Rattle.scripthash_forms.proofs.LawsForms.{three_carried, form_more, form_last}
use Rattle.scripthash_forms.proofs.forms.long_form.Goals as goal

pub returns-then-b3-lt128 : goal.returns-then-b3-lt128
returns-then-b3-lt128 c =
    let r = c.with_last in
    form_last (three_carried c.requires) refl (omega arith) (omega arith) r.result.value r.result.len (omega arith) r.ensures.0 r.ensures.1

pub returns-then-b4-lt128 : goal.returns-then-b4-lt128
returns-then-b4-lt128 c =
    let four = form_more (three_carried c.requires) refl (omega arith) (omega arith) c.with_more-v3.result (omega arith)
    (omega (arith, c.type_inv.bytes 3)) c.with_more-v3.ensures.0 in
    let r = c.with_last-then-b4-lt128 in
    form_last four refl (omega arith) (omega arith) r.result.value r.result.len (omega arith) r.ensures.0 r.ensures.1

pub returns-then-b5-lt128 : goal.returns-then-b5-lt128
returns-then-b5-lt128 c =
    let four = form_more (three_carried c.requires) refl (omega arith) (omega arith) c.with_more-v3.result (omega arith)
    (omega (arith, c.type_inv.bytes 3)) c.with_more-v3.ensures.0 in
    let five = form_more four refl (omega arith) (omega arith) c.with_more-v4.result (omega arith) (omega (arith, c.type_inv.bytes 4))
    c.with_more-v4.ensures.0 in
    let r = c.with_last-then-b5-lt128 in
    form_last five refl (omega arith) (omega arith) r.result.value r.result.len (omega arith) r.ensures.0 r.ensures.1
