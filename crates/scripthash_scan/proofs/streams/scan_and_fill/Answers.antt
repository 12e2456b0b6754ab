-- `scan_and_fill` meets its contract: what the scan answers decides, then the room in the list.
use mathlib.Core.Path.{sym, ap, ◌∙◌}
use native.Mathlib.Omega.{arith}
use lib.ListN.{length}
use Rattle.std.proofs.lemmas.Result.{err_from_is_err_and}
use Rattle.error.specs.Refusal.{accepted}
use Rattle.error.proofs.LawsAnswer.{was_accepted, was_refused, answered_yes, answered_no}
use Rattle.scripthash_stream.specs.Stream.{End, end_from, scan}
use Rattle.scripthash_stream.proofs.LawsDecode.{decode_refused, decode_short, decode_fits, after_refused, after_accepted}
use Rattle.scripthash_scan.proofs.streams.scan_and_fill.Goals as goal

pub returns-in_err-scanned-clause-answer : goal.returns-in_err-scanned-clause-answer
returns-in_err-scanned-clause-answer c =
    let p = err_from_is_err_and c.from_residual.result c.from_residual.ensures.1 in
    let stop = was_refused (end_from 0) (scan c.args.n c.args.buf.now) (sym c.in_err-scanned.ensures) in
    rw (p.1, p.2) (sym (answered_no (λ s. s.taken) _ (decode_refused (length c.args.out.now) c.args.n c.args.buf.now stop)))

pub returns-in_err-scanned-clause-list : goal.returns-in_err-scanned-clause-list
returns-in_err-scanned-clause-list c =
    let stop = was_refused (end_from 0) (scan c.args.n c.args.buf.now) (sym c.in_err-scanned.ensures) in
    sym (after_refused c.args.out.now _ (decode_refused (length c.args.out.now) c.args.n c.args.buf.now stop))

pub returns-then-out-n-clause-answer : goal.returns-then-out-n-clause-answer
returns-then-out-n-clause-answer c =
    let found = was_accepted (end_from 0) (scan c.args.n c.args.buf.now) (sym c.in_ok-scanned.ensures) in
    sym (answered_no (λ s. s.taken) _ (decode_short (length c.args.out.now) c.args.n c.args.buf.now found.1 (omega arith)))

pub returns-then-out-n-clause-list : goal.returns-then-out-n-clause-list
returns-then-out-n-clause-list c =
    let found = was_accepted (end_from 0) (scan c.args.n c.args.buf.now) (sym c.in_ok-scanned.ensures) in
    sym (after_refused c.args.out.now _ (decode_short (length c.args.out.now) c.args.n c.args.buf.now found.1 (omega arith)))

pub returns-clause-answer : goal.returns-clause-answer
returns-clause-answer c =
    let found = was_accepted (end_from 0) (scan c.args.n c.args.buf.now) (sym c.in_ok-scanned.ensures) in
    let answer = decode_fits (length c.args.out.now) c.args.n c.args.buf.now found.1 (omega arith) in
    ap accepted (sym (ap (λ (e : End). e.taken) found.2)) ∙ sym (answered_yes (λ s. s.taken) _ answer)

pub returns-clause-list : goal.returns-clause-list
returns-clause-list c =
    let found = was_accepted (end_from 0) (scan c.args.n c.args.buf.now) (sym c.in_ok-scanned.ensures) in
    let answer = decode_fits (length c.args.out.now) c.args.n c.args.buf.now found.1 (omega arith) in
    c.fill_fk_delta_stream.ensures found.0 found.1 (omega arith) ∙ sym (after_accepted c.args.out.now _ answer)
