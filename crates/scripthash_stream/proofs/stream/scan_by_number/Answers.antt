-- `scan_by_number` meets its contract: each way on from a number is one law of `LawsScanEnd`.
use mathlib.Core.Path.{◌≡◌, sym, ◌∙◌}
use native.Mathlib.Omega.{arith}
use borrow.Author.Rules.{rules}
use lib.ListN.{drop}
use Rattle.std.proofs.lemmas.Result.{err_from_is_err_and}
use Rattle.error.specs.Refusal.{accepted}
use Rattle.compact.specs.Uleb128.{Reading}
use Rattle.scripthash_stream.specs.Stream.{next_number}
use Rattle.scripthash_stream.proofs.LawsScan.{next_accepted, next_inside}
use Rattle.scripthash_stream.proofs.LawsScanEnd.{ends_start, ends_now, ends_next, ends_refused}
use Rattle.scripthash_stream.proofs.stream.scan_by_number.Goals as goal

pub loop-init : goal.loop-init
loop-init c = record { inside = search rules; small = search rules; ends = ends_start c.args.n c.args.buf.now }

pub returns-in_err-next : goal.returns-in_err-next
returns-in_err-next c =
    let l = c.loop in
    let p = err_from_is_err_and c.from_residual.result c.from_residual.ensures.1 in
    rw (p.1, p.2)
    (sym (ends_refused c.args.buf.now c.args.n l.off l.prev l.counter (omega arith) (sym c.in_err-next.ensures)) ∙ l.invariant.ends)

pub overflow_add-off : goal.overflow_add-off
overflow_add-off c =
    let got : Reading = record { value = c.in_ok-next.next.fk; len = c.in_ok-next.next.len } in
    omega (arith, next_inside c.args.buf.now c.loop.off c.loop.prev got c.loop.invariant.inside (sym c.in_ok-next.ensures))

pub loop-preserved : goal.loop-preserved
loop-preserved c =
    let l = c.loop in
    let buf = c.args.buf.now in
    let got : Reading = record { value = c.in_ok-next.next.fk; len = c.in_ok-next.next.len } in
    let is : next_number l.prev (drop l.off buf) ≡ accepted got = sym c.in_ok-next.ensures in
    record {
      inside = next_inside buf l.off l.prev got l.invariant.inside is;
      small = (next_accepted l.prev (drop l.off buf) got is).below;
      ends = ends_next buf c.args.n l.off l.prev l.counter got (omega arith) is ∙ l.invariant.ends;
    }

pub returns : goal.returns
returns c =
    let l = c.loop in
    sym (ends_now c.args.n l.off l.prev l.counter (drop l.off c.args.buf.now) (omega arith)) ∙ l.invariant.ends
