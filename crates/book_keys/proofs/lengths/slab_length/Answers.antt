-- `slab_length` meets its contract: the slab decides, and its head says how many numbers it has.
use Rattle.std.proofs.Common.{◌≡◌, sym, ap, ◌∙◌}
use Rattle.std.proofs.lemmas.Result.{err_from_is_err_and}
use Rattle.error.specs.Refusal.{Answer, accepted}
use Rattle.error.proofs.LawsAnswer.{was_accepted, was_refused, answered_yes, answered_no}
use Rattle.scripthash_stream.specs.Stream.{Scan, end_from}
use Rattle.scripthash_stream.specs.Answers.{scan_answer}
use Rattle.book_keys.specs.Keys.{soundly, slab_scan, Ground, body_ground}
use Rattle.book_keys.specs.Steps.{length_of}
use Rattle.book_keys.proofs.LawsSound.{passed_on, was_sound, was_unsound, soundly_yes, soundly_no}
use Rattle.book_keys.proofs.LawsSlab.{slab_sound}
use Rattle.book_keys.proofs.LawsContent.{content_slab, content_no_slab}
use Rattle.book_keys.proofs.lengths.slab_length.Goals as goal

pub returns-in_err-slab_end : goal.returns-in_err-slab_end
returns-in_err-slab_end c =
    let p = err_from_is_err_and c.from_residual.result c.from_residual.ensures.1 in
    let s : Ground = body_ground c.args.body.now c.args.mark in
    rw (p.1, p.2)
    (passed_on (end_from 0) (slab_scan s c.args.class c.args.used c.args.off) length_of _ c.in_err-slab_end.ensures
    (λ m stop. (m, content_no_slab s c.args.class c.args.used c.args.off stop)))

pub returns : goal.returns
returns c =
    let a = c.args in
    let s : Ground = body_ground a.body.now a.mark in
    let scan : Answer Scan = slab_scan s a.class a.used a.off in
    let got = was_accepted (end_from 0) (soundly scan) (sym c.in_ok-slab_end.ensures) in
    let is : scan ≡ accepted got.0 = was_sound scan got.1 in
    ap accepted (c.from.ensures ∙ sym (slab_sound s a.class a.used a.off got.0 is).counted)
    ∙ sym (answered_yes length_of _ (soundly_yes _ (content_slab s a.class a.used a.off got.0 is)))
