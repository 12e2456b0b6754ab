-- `slab_list` meets its contract: the try at a short list, or the slab judged and then read; then its padded numbers are counted.
use Rattle.std.proofs.Common.{ℕ, ◌≤◌, ◌<◌, List, ◌≡◌, sym, refl, ap, ◌∙◌, arith, length}
use Rattle.std.proofs.lemmas.Result.{err_from_is_err_and}
use Rattle.error.specs.Refusal.{accepted}
use Rattle.error.proofs.LawsAnswer.{was_accepted, was_refused}
use Rattle.buffer.specs.Bytes.{overwrite}
use Rattle.scripthash_stream.specs.Stream.{Scan, End, end_from}
use Rattle.scripthash_stream.specs.Answers.{scan_answer}
use Rattle.book_keys.specs.Keys.{soundly}
use Rattle.book_keys.specs.Steps.{slab_read}
use Rattle.book_keys.proofs.LawsSound.{was_sound, unsound_told}
use Rattle.book_keys.proofs.LawsListed.{short_left, slab_unsound, slab_counted, slab_too_long, slab_listed, slab_tried, slab_within}
use Rattle.book_keys.proofs.slab.slab_list.Goals as goal

pub slab_counts-requires : goal.slab_counts-requires
slab_counts-requires c =
    let a = c.args in
    let w = slab_tried a.slab.now a.used _ a.out.now _ c.in-Some.ensures in
    omega (arith, slab_within a.slab.now a.used w.scanned w.is, w.size)

pub returns-in-Some : goal.returns-in-Some
returns-in-Some c s class off here bytes =
    let a = c.args in
    let w = slab_tried a.slab.now a.used _ a.out.now _ c.in-Some.ensures in
    let read = slab_listed s class a.used off a.slab.now a.out.now _ here bytes w.scanned w.is w.fits w.written in
    (c.slab_counts.ensures w.scanned w.is w.size ∙ read.0, read.1)

pub returns-in_err-taken : goal.returns-in_err-taken
returns-in_err-taken c s class off here bytes =
    let a = c.args in
    let p = err_from_is_err_and c.from_residual.result c.from_residual.ensures.1 in
    let kept = short_left _ a.out.now _ _ c.in_default.ensures refl in
    let bad = unsound_told (slab_read a.slab.now a.used) (sym (was_refused (end_from 0) _ (sym c.in_err-taken.ensures))) in
    rw (p.1, p.2, bad.0) (slab_unsound s class a.used off a.slab.now a.out.now _ here bytes bad.2 kept)

pub returns-then-out-from : goal.returns-then-out-from
returns-then-out-from c s class off here bytes =
    let a = c.args in
    let kept = short_left _ a.out.now _ _ c.in_default.ensures refl in
    let found = was_accepted (end_from 0) (soundly (slab_read a.slab.now a.used)) (sym c.in_ok-taken.ensures) in
    slab_too_long s class a.used off a.slab.now a.out.now _ here bytes found.0 (was_sound _ found.1)
    (omega (arith, c.from.ensures, c.if-out-from.true, ap length kept)) kept

pub slab_counts-requires-2 : goal.slab_counts-requires-2
slab_counts-requires-2 c =
    let a = c.args in
    let found = was_accepted (end_from 0) (soundly (slab_read a.slab.now a.used)) (sym c.in_ok-taken.ensures) in
    omega (arith, slab_within a.slab.now a.used found.0 (was_sound _ found.1), ap (λ (e : End). e.taken) found.2)

pub returns : goal.returns
returns c s class off here bytes =
    let a = c.args in
    let kept = short_left _ a.out.now _ _ c.in_default.ensures refl in
    let found = was_accepted (end_from 0) (soundly (slab_read a.slab.now a.used)) (sym c.in_ok-taken.ensures) in
    let is = was_sound _ found.1 in
    let counted = slab_counted s class a.used off a.slab.now a.out.now a.out.now here bytes found.0 is in
    let fits : length found.0.numbers ≤ length a.out.now = omega (arith, c.from.ensures, c.if-out-from.false, ap length kept, counted) in
    let read =
    slab_listed s class a.used off a.slab.now a.out.now _ here bytes found.0 is fits
    (c.fill_slab.ensures a.used found.0 is (omega (arith, c.from.ensures, c.if-out-from.false, counted))
    ∙ ap (λ (l : List ℕ). overwrite l 0 found.0.numbers) kept) in
    (c.slab_counts-2.ensures found.0 is (ap (λ (e : End). e.taken) found.2) ∙ read.0, read.1)
