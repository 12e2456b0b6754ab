-- `chain_length` meets its contract: the chain decides, and tells how many numbers it has.
use Rattle.std.proofs.Common.{false, sym, ap, ◌∙◌}
use Rattle.std.proofs.lemmas.Result.{err_from_is_err_and}
use Rattle.error.specs.Refusal.{Answer, accepted}
use Rattle.error.proofs.LawsAnswer.{was_accepted, was_refused, answered_yes, answered_no}
use Rattle.book_keys.specs.Keys.{soundly, Chain, chain_at, Ground, body_ground}
use Rattle.book_keys.specs.Steps.{ChainEndOf, chain_end_of, length_of}
use Rattle.book_keys.specs.Answers.{chain_answer}
use Rattle.book_keys.proofs.LawsSound.{passed_on, was_sound, was_unsound, soundly_yes, soundly_no}
use Rattle.book_keys.proofs.LawsContent.{content_pages, content_no_pages}
use Rattle.book_keys.proofs.lengths.chain_length.Goals as goal

pub returns-in_err-length : goal.returns-in_err-length
returns-in_err-length c =
    let p = err_from_is_err_and c.from_residual.result c.from_residual.ensures.1 in
    let s : Ground = body_ground c.args.body.now c.args.mark in
    rw (p.1, p.2)
    (passed_on (chain_end_of false) (chain_at s c.args.last) length_of _ c.in_err-length.ensures
    (λ m stop. (m, content_no_pages s c.args.last stop)))

pub returns : goal.returns
returns c =
    let s : Ground = body_ground c.args.body.now c.args.mark in
    let chain : Answer Chain = chain_at s c.args.last in
    let got = was_accepted (chain_end_of false) (soundly chain) (sym c.in_ok-length.ensures) in
    ap (λ (x : ChainEndOf). accepted x.length) (sym got.2)
    ∙ sym (answered_yes length_of _ (soundly_yes _ (content_pages s c.args.last got.0 (was_sound chain got.1))))
