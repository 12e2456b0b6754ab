-- `key_length` meets its contract: the word unpacks, and then its place decides.
use Rattle.std.proofs.Common.{sym, ap, ◌∙◌}
use Rattle.error.specs.Refusal.{answered}
use Rattle.error.proofs.LawsAnswer.{answered_no}
use Rattle.scripthash_layout.specs.AnswersHead.{unpack_answer}
use Rattle.book_keys.specs.Keys.{body_ground}
use Rattle.book_keys.specs.Steps.{length_of}
use Rattle.book_keys.proofs.LawsContent.{content_at_lem, content_nowhere}
use Rattle.book_keys.proofs.lengths.key_length.Goals as goal

pub returns-in_default : goal.returns-in_default
returns-in_default c =
    sym (answered_no length_of _
    (content_nowhere (body_ground c.args.body.now c.args.mark) c.args.word (sym c.in_default.ensures)))

pub returns : goal.returns
returns c =
    c.place_length.ensures
    ∙ ap (answered length_of)
    (sym (content_at_lem (body_ground c.args.body.now c.args.mark) c.args.word c.in-Ok.place (sym c.in-Ok.ensures)))
