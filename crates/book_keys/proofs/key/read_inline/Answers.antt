-- `read_inline` meets its contract.
use Rattle.std.proofs.Common.{refl, sym, arith, ◌∙◌}
use borrow.Author.Tests.{eqb-true, eqb-false}
use Rattle.buffer.proofs.LawsBytes.{overwrite_one}
use Rattle.book_keys.proofs.LawsSound.{soundly_yes}
use Rattle.book_keys.proofs.LawsContent.{content_inline}
use Rattle.book_keys.proofs.LawsListed.{read_short, read_listed}
use Rattle.book_keys.proofs.key.read_inline.Goals as goal

pub returns-then-is_empty : goal.returns-then-is_empty
returns-then-is_empty c s used =
    let a = c.args in
    read_short a.out.now _ _ _ (soundly_yes _ (content_inline s a.entry used)) (omega (arith, eqb-true _ 0 (sym c.is_empty.ensures ∙ c.if-is_empty.true))) refl

pub returns : goal.returns
returns c s used =
    let a = c.args in
    read_listed a.out.now _ _ _ (soundly_yes _ (content_inline s a.entry used)) _ refl (omega (arith, eqb-false _ 0 (sym c.is_empty.ensures ∙ c.if-is_empty.false)))
    (sym (overwrite_one a.out.now 0 a.entry (omega (arith, eqb-false _ 0 (sym c.is_empty.ensures ∙ c.if-is_empty.false)))))
