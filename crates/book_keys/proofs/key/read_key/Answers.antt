-- `read_key` meets its contract: the word unpacks, and then its place decides.
use Rattle.std.proofs.Common.{refl, sym, ap, ◌∙◌, subst}
use Rattle.error.specs.Refusal.{Answer}
use Rattle.scripthash_layout.specs.AnswersHead.{unpack_answer}
use Rattle.book_keys.specs.Keys.{Content, body_ground}
use Rattle.book_keys.specs.Steps.{KeyRead}
use Rattle.book_keys.specs.Answers.{counts_answer}
use Rattle.book_keys.proofs.LawsContent.{content_at_lem, content_nowhere}
use Rattle.book_keys.proofs.LawsListed.{read_unsound}
use Rattle.book_keys.proofs.key.read_key.Goals as goal

pub returns-in_default : goal.returns-in_default
returns-in_default c =
    let a = c.args in
    record {
      answer = (read_unsound a.out.now _ _
          (content_nowhere (body_ground a.body.now a.mark) a.word (sym c.in_default.ensures)) refl).0;
      list = (read_unsound a.out.now _ _
          (content_nowhere (body_ground a.body.now a.mark) a.word (sym c.in_default.ensures)) refl).1;
    }

pub returns : goal.returns
returns c =
    let a = c.args in
    let r = c.read_place in
    let told = content_at_lem (body_ground a.body.now a.mark) a.word c.in-Ok.place (sym c.in-Ok.ensures) in
    record {
      answer = (subst (λ (x : Answer Content). KeyRead (counts_answer r.result) a.out.now r.new.out x) (sym told) r.ensures).0;
      list = (subst (λ (x : Answer Content). KeyRead (counts_answer r.result) a.out.now r.new.out x) (sym told) r.ensures).1;
    }
