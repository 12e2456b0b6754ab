-- `claim_key` meets its contract: its word tells a place, or nothing.
use mathlib.Core.Path.{sym, ap, ◌∙◌}
use Rattle.error.specs.Refusal.{Answer}
use Rattle.scripthash_layout.specs.AnswersHead.{unpack_answer}
use Rattle.book_keys.specs.Keys.{Content, content, body_ground}
use Rattle.book_keys.proofs.LawsContent.{content_at_lem, content_nowhere}
use Rattle.book_start.specs.Start.{claim_content}
use Rattle.book_start.proofs.LawsShown.{claims_unfit, word_unfit}
use Rattle.book_start.proofs.claiming.claim_key.Goals as goal

pub returns-in_default : goal.returns-in_default
returns-in_default c units lent claims m =
    let s = body_ground c.args.body.now c.args.mark in
    claims_unfit units c.args.mark lent _ claims _ m
    (word_unfit claims (content s c.args.word)
    (content_nowhere s c.args.word (sym c.unpack8.ensures ∙ ap unpack_answer c.in_default.is)))

pub returns : goal.returns
returns c units lent claims m =
    let s = body_ground c.args.body.now c.args.mark in
    let r = c.claim_place.ensures units lent claims m in
    record {
      claims = r.claims;
      shows = r.shows;
      told = ap (λ (x : Answer Content). claim_content claims x)
          (content_at_lem s c.args.word c.in-Ok.place (sym c.unpack8.ensures ∙ ap unpack_answer c.in-Ok.is))
          ∙ r.told;
      took = r.took;
    }
