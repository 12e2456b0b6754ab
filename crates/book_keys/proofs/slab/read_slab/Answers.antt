-- `read_slab` meets its contract: the count in its first two bytes, then the scan of the others decide, and then the last number.
use Rattle.std.proofs.Common.{ℕ, List, ◌≡◌, sym, ap, ◌∙◌, drop}
use borrow.Author.Tests.{not-true, not-false}
use Rattle.error.specs.Refusal.{Answer, accepted, answered}
use Rattle.buffer.proofs.LawsBytes.{part_to_end}
use Rattle.scripthash_stream.specs.Stream.{Scan, End, end_from, scan}
use Rattle.scripthash_stream.specs.Answers.{scan_answer}
use Rattle.book_keys.specs.Steps.{slab_read}
use Rattle.book_keys.proofs.LawsSound.{turned_back, let_through, last_sound, end_refused, end_unsound, end_sound}
use Rattle.book_keys.proofs.LawsSlab.{slab_many, slab_other, slab_by_scan}
use Rattle.book_keys.proofs.slab.read_slab.Goals as goal

pub returns-then-used-gt-SLAB_MOST : goal.returns-then-used-gt-SLAB_MOST
returns-then-used-gt-SLAB_MOST c = turned_back (end_from 0) _ (slab_many c.args.slab.now c.args.used c.if-used-gt-SLAB_MOST.true)

pub returns-then-get_u16-used : goal.returns-then-get_u16-used
returns-then-get_u16-used c =
    let a = c.args in
    turned_back (end_from 0) _
    (slab_other a.slab.now a.used c.if-used-gt-SLAB_MOST.false (λ e. c.if-get_u16-used.true (c.get_u16.ensures ∙ e)))

pub returns-in_default : goal.returns-in_default
returns-in_default c =
    let scanned : Answer Scan = scan c.args.used (drop 2 c.args.slab.now) in
    let is : slab_read c.args.slab.now c.args.used ≡ last_sound scanned = slab_by_scan c.args.slab.now c.args.used c.if-used-gt-SLAB_MOST.false (sym c.get_u16.ensures ∙ c.if-get_u16-used.false) c.requires in
    turned_back (end_from 0) _ (is ∙ end_refused scanned (sym (rw (part_to_end c.args.slab.now 2, c.from.ensures) at c.in_default.ensures)))

pub returns-then-not-sound_last : goal.returns-then-not-sound_last
returns-then-not-sound_last c =
    let scanned : Answer Scan = scan c.args.used (drop 2 c.args.slab.now) in
    let is : slab_read c.args.slab.now c.args.used ≡ last_sound scanned = slab_by_scan c.args.slab.now c.args.used c.if-used-gt-SLAB_MOST.false (sym c.get_u16.ensures ∙ c.if-get_u16-used.false) c.requires in
    let end : End = record { taken = c.in-Ok.scanned.taken; last = c.in-Ok.scanned.last } in
    let end_is : answered (end_from 0) scanned ≡ accepted end = sym (rw (part_to_end c.args.slab.now 2, c.from.ensures) at c.in-Ok.ensures) in
    turned_back (end_from 0) _ (is ∙ end_unsound scanned end end_is
    (sym c.sound_last.ensures ∙ not-true _ c.if-not-sound_last.true-raw))

pub returns : goal.returns
returns c =
    let scanned : Answer Scan = scan c.args.used (drop 2 c.args.slab.now) in
    let is : slab_read c.args.slab.now c.args.used ≡ last_sound scanned = slab_by_scan c.args.slab.now c.args.used c.if-used-gt-SLAB_MOST.false (sym c.get_u16.ensures ∙ c.if-get_u16-used.false) c.requires in
    let end : End = record { taken = c.in-Ok.scanned.taken; last = c.in-Ok.scanned.last } in
    let end_is : answered (end_from 0) scanned ≡ accepted end = sym (rw (part_to_end c.args.slab.now 2, c.from.ensures) at c.in-Ok.ensures) in
    let got = end_sound scanned end end_is (sym c.sound_last.ensures ∙ not-false _ c.if-not-sound_last.false-raw) in
    ap accepted (sym got.3) ∙ let_through (end_from 0) _ (is ∙ got.2)
