-- `chain_pages` meets its contract: the chain is walked.
use mathlib.Core.Bool.{false}
use mathlib.Core.Path.{sym, ap, ◌∙◌}
use Rattle.error.proofs.LawsAnswer.{was_accepted, was_refused}
use Rattle.book_keys.specs.Keys.{body_ground}
use Rattle.book_keys.specs.Steps.{ChainEndOf, chain_end_of}
use Rattle.book_keys.specs.Answers.{chain_answer}
use Rattle.book_keys.proofs.LawsSound.{was_sound, was_unsound}
use Rattle.book_start.proofs.LawsTally.{pages_chain, pages_unsound}
use Rattle.book_start.proofs.counts.chain_pages.Goals as goal

pub returns-in_default : goal.returns-in_default
returns-in_default c =
    let stop = was_refused (chain_end_of false) _ (sym c.chain_end.ensures ∙ ap chain_answer c.in_default.is) in
    pages_unsound (body_ground c.args.body.now c.args.mark) c.args.last _ (was_unsound _ stop).1

pub returns : goal.returns
returns c =
    let got = was_accepted (chain_end_of false) _ (sym c.chain_end.ensures ∙ ap chain_answer c.in-Ok.is) in
    sym (ap (λ (e : ChainEndOf). e.pages) got.2)
    ∙ pages_chain (body_ground c.args.body.now c.args.mark) c.args.last got.0 (was_sound _ got.1)
