-- `claim_chain` meets its contract: the chain is walked, then its pages are claimed.
use Prim.Native.Nat.{ℕ}
use mathlib.Core.Bool.{false}
use mathlib.Core.Path.{◌≡◌, sym, ap, ◌∙◌}
use Rattle.error.specs.Refusal.{accepted}
use Rattle.error.proofs.LawsAnswer.{was_accepted, was_refused}
use Rattle.scripthash_layout.specs.declared.head.ShHeadValue.TheVariants.{Extent}
use Rattle.book_keys.specs.Keys.{Chain, chain_at, content_at, body_ground}
use Rattle.book_keys.specs.Steps.{ChainEndOf, chain_end_of}
use Rattle.book_keys.specs.Answers.{chain_answer}
use Rattle.book_keys.proofs.LawsSound.{was_sound, was_unsound}
use Rattle.book_keys.proofs.LawsContent.{content_pages, content_no_pages}
use Rattle.book_keys.proofs.LawsNext.{chain_left}
use Rattle.book_start.proofs.LawsShown.{content_unfit, content_fit, claims_unfit}
use Rattle.book_start.proofs.claiming.claim_chain.Goals as goal

pub returns-in_default : goal.returns-in_default
returns-in_default c units lent claims m =
    let s = body_ground c.args.body.now c.args.mark in
    let stop = was_refused (chain_end_of false) _ (sym c.chain_end.ensures ∙ ap chain_answer c.in_default.is) in
    claims_unfit units c.args.mark lent _ claims _ m (content_unfit claims (content_at s (Extent c.args.last))
    (content_no_pages s c.args.last (was_unsound _ stop).1))

pub claim_pages-requires : goal.claim_pages-requires
claim_pages-requires c =
    let s = body_ground c.args.body.now c.args.mark in
    let got = was_accepted (chain_end_of false) _ (sym c.chain_end.ensures ∙ ap chain_answer c.in-Ok.is) in
    let end : ChainEndOf = record {
      first = c.in-Ok.field-0.first;
      length = c.in-Ok.field-0.length;
      pages = c.in-Ok.field-0.pages;
      padded = c.in-Ok.field-0.padded;
    } in
    record {
      shown = c.requires.shown;
      offs = got.0.offs;
      left = chain_left false s c.args.last got.0 end c.requires.within (was_sound _ got.1) got.2;
    }

pub returns : goal.returns
returns c units lent claims m =
    let s = body_ground c.args.body.now c.args.mark in
    let got = was_accepted (chain_end_of false) _ (sym c.chain_end.ensures ∙ ap chain_answer c.in-Ok.is) in
    let end : ChainEndOf = record {
      first = c.in-Ok.field-0.first;
      length = c.in-Ok.field-0.length;
      pages = c.in-Ok.field-0.pages;
      padded = c.in-Ok.field-0.padded;
    } in
    let left = chain_left false s c.args.last got.0 end c.requires.within (was_sound _ got.1) got.2 in
    let gives = content_fit claims (content_at s (Extent c.args.last)) (content_pages s c.args.last got.0 (was_sound _ got.1)) in
    let r = c.claim_pages.ensures got.0.offs left units lent claims m in
    record { claims = r.claims; shows = r.shows; told = gives ∙ r.told; took = r.took }
