-- `read_chain` meets its contract: the whole chain is judged, then the room, and then it is read.
use Rattle.std.proofs.Common.{◌≤◌, true, ◌≡◌, refl, sym, ap, ◌∙◌, arith, length}
use Rattle.std.proofs.lemmas.Result.{err_from_is_err_and}
use Rattle.error.specs.Refusal.{accepted}
use Rattle.error.proofs.LawsAnswer.{was_accepted, was_refused}
use Rattle.book_keys.specs.Keys.{soundly, Chain, chain_at, Ground, body_ground}
use Rattle.book_keys.specs.Steps.{ChainEndOf, chain_end_of, if_asked}
use Rattle.book_keys.specs.Answers.{chain_answer}
use Rattle.book_keys.proofs.LawsSound.{was_sound, unsound_told, soundly_yes, soundly_no}
use Rattle.book_keys.proofs.LawsContent.{in_pages, content_pages, content_no_pages}
use Rattle.book_keys.proofs.LawsListed.{read_unsound, read_short, read_listed}
use Rattle.book_keys.proofs.chain.read_chain.Goals as goal

pub returns-in_err-first : goal.returns-in_err-first
returns-in_err-first c =
    let p = err_from_is_err_and c.from_residual.result c.from_residual.ensures.1 in
    let a = c.args in
    let s : Ground = body_ground a.body.now a.mark in
    let bad = unsound_told (chain_at s a.last) (sym (was_refused (chain_end_of true) _ (sym c.in_err-first.ensures))) in
    rw (p.1, p.2, bad.0) (read_unsound a.out.now _ _ (soundly_no _ (content_no_pages s a.last bad.2)) refl)

pub returns-then-out-length : goal.returns-then-out-length
returns-then-out-length c =
    let s : Ground = body_ground c.args.body.now c.args.mark in
    let k = was_accepted (chain_end_of true) (soundly (chain_at s c.args.last)) (sym c.in_ok-first.ensures) in
    let size = ap (λ (x : ChainEndOf). x.length) k.2 in
    read_short c.args.out.now _ _ (in_pages k.0)
    (soundly_yes _ (content_pages s c.args.last k.0 (was_sound _ k.1)))
    (omega (arith, c.if-out-length.true, size)) refl

pub returns : goal.returns
unfolding if_asked
returns c =
    let s : Ground = body_ground c.args.body.now c.args.mark in
    let k = was_accepted (chain_end_of true) (soundly (chain_at s c.args.last)) (sym c.in_ok-first.ensures) in
    let size = ap (λ (x : ChainEndOf). x.length) k.2 in
    let fits : length k.0.numbers ≤ length c.args.out.now = omega (arith, c.if-out-length.false, size) in
    read_listed c.args.out.now _ _ (in_pages k.0)
    (soundly_yes _ (content_pages s c.args.last k.0 (was_sound _ k.1))) _
    (ap (λ (x : ChainEndOf). record { length = x.length; pages = x.pages; padded = x.padded }) k.2) fits
    (c.chain_into.ensures k.0 k.1 (sym (ap (λ (x : ChainEndOf). x.first) k.2)) fits)
