use Rattle.std.proofs.Common.{refl, arith}
use Rattle.scripthash_forms.proofs.LawsForms.{form_start, form_more, form_last}
use Rattle.scripthash_forms.proofs.forms.short_form.Goals as goal

pub returns-then-b0-lt128 : goal.returns-then-b0-lt128
returns-then-b0-lt128 c =
    form_last (form_start c.args.bytes.now 0) refl (omega arith) (omega arith) c.with_last.result.value c.with_last.result.len (omega arith)
    (omega arith) c.with_last.ensures.1

pub returns-then-b1-lt128 : goal.returns-then-b1-lt128
returns-then-b1-lt128 c =
    let one = form_more (form_start c.args.bytes.now 0) refl (omega arith) (omega arith) c.with_more-v0.result (omega arith)
    (omega (arith, c.type_inv.bytes 0)) (omega arith) in
    let r = c.with_last-then-b1-lt128 in
    form_last one refl (omega arith) (omega arith) r.result.value r.result.len (omega arith) r.ensures.0 r.ensures.1

pub returns-then-b2-lt128 : goal.returns-then-b2-lt128
returns-then-b2-lt128 c =
    let one = form_more (form_start c.args.bytes.now 0) refl (omega arith) (omega arith) c.with_more-v0.result (omega arith)
    (omega (arith, c.type_inv.bytes 0)) (omega arith) in
    let two = form_more one refl (omega arith) (omega arith) c.with_more-v1.result (omega arith) (omega (arith, c.type_inv.bytes 1))
    c.with_more-v1.ensures.0 in
    let r = c.with_last-then-b2-lt128 in
    form_last two refl (omega arith) (omega arith) r.result.value r.result.len (omega arith) r.ensures.0 r.ensures.1
