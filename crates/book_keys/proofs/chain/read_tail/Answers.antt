-- `read_tail` meets its contract: the header decides, then the scan, and the last number.
use Rattle.std.proofs.Common.{◌≡◌, sym, ap, ◌∙◌}
use borrow.Author.Tests.{not-true, not-false}
use Rattle.std.proofs.lemmas.Result.{err_from_is_err_and}
use Rattle.error.specs.Refusal.{Answer, accepted, and_then, answered}
use Rattle.error.proofs.LawsAnswer.{then_yes, then_no}
use Rattle.scripthash_stream.specs.Stream.{Scan, End, end_from}
use Rattle.scripthash_stream.specs.Answers.{scan_answer}
use Rattle.scripthash_pages.specs.Entries.{page_scan}
use Rattle.book_keys.specs.Keys.{Last}
use Rattle.book_keys.specs.Steps.{last_read, tail_read, tail_end_of}
use Rattle.book_keys.specs.Answers.{last_page_answer}
use Rattle.book_keys.proofs.LawsSound.{was_sound, unsound_told, turned_back, let_through, last_sound, end_refused, end_unsound, end_sound}
use Rattle.book_keys.proofs.LawsPages.{tail_no, tail_by_last}
use Rattle.book_keys.proofs.chain.read_tail.Goals as goal

pub returns-in_err-first : goal.returns-in_err-first
returns-in_err-first c =
    let p = err_from_is_err_and c.from_residual.result c.from_residual.ensures.1 in
    let bad = unsound_told (last_read c.args.page.now) c.in_err-first.ensures in
    rw (p.1, p.2, bad.0) (turned_back tail_end_of _ (tail_no c.args.page.now bad.2))

pub returns-in_default : goal.returns-in_default
returns-in_default c =
    let head : Last = record { first = c.in_ok-first.field-0.first; creates = c.in_ok-first.field-0.creates } in
    let is : last_read c.args.page.now ≡ accepted head = was_sound _ (sym c.in_ok-first.ensures) in
    let scanned : Answer Scan = page_scan c.args.page.now in
    let fine : tail_read c.args.page.now ≡ and_then (last_sound scanned) (λ s. accepted (record { scan = s; last = head })) = tail_by_last c.args.page.now head is in
    turned_back tail_end_of _
    (fine ∙ then_no (last_sound scanned) _
    (end_refused scanned (sym c.in_default.ensures)))

pub returns-then-not-sound_last : goal.returns-then-not-sound_last
returns-then-not-sound_last c =
    let head : Last = record { first = c.in_ok-first.field-0.first; creates = c.in_ok-first.field-0.creates } in
    let is : last_read c.args.page.now ≡ accepted head = was_sound _ (sym c.in_ok-first.ensures) in
    let scanned : Answer Scan = page_scan c.args.page.now in
    let fine : tail_read c.args.page.now ≡ and_then (last_sound scanned) (λ s. accepted (record { scan = s; last = head })) = tail_by_last c.args.page.now head is in
    let end : End = record { taken = c.in-Ok.field-0.taken; last = c.in-Ok.field-0.last } in
    let end_is : answered (end_from 0) scanned ≡ accepted end = sym c.in-Ok.ensures in
    turned_back tail_end_of _
    (fine ∙ then_no (last_sound scanned) _
    (end_unsound scanned end end_is (sym c.sound_last.ensures ∙ not-true _ c.if-not-sound_last.true-raw)))

pub returns : goal.returns
returns c =
    let head : Last = record { first = c.in_ok-first.field-0.first; creates = c.in_ok-first.field-0.creates } in
    let is : last_read c.args.page.now ≡ accepted head = was_sound _ (sym c.in_ok-first.ensures) in
    let scanned : Answer Scan = page_scan c.args.page.now in
    let fine : tail_read c.args.page.now ≡ and_then (last_sound scanned) (λ s. accepted (record { scan = s; last = head })) = tail_by_last c.args.page.now head is in
    let end : End = record { taken = c.in-Ok.field-0.taken; last = c.in-Ok.field-0.last } in
    let end_is : answered (end_from 0) scanned ≡ accepted end = sym c.in-Ok.ensures in
    let got = end_sound scanned end end_is (sym c.sound_last.ensures ∙ not-false _ c.if-not-sound_last.false-raw) in
    ap (λ (e : End). accepted (record { taken = e.taken; fk = e.last; first = head.first; creates = head.creates }))
    (sym got.3)
    ∙ let_through tail_end_of _ (fine ∙ then_yes (last_sound scanned) _ got.2)
