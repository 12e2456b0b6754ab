-- `fill_fks` meets its contract: each way on from a number is one law of `LawsFill`.
use mathlib.Core.Path.{◌≡◌, sym}
use native.Mathlib.Omega.{arith}
use borrow.Author.Rules.{rules}
use lib.ListN.{drop, length-set}
use Rattle.error.specs.Refusal.{accepted}
use Rattle.compact.specs.Uleb128.{Reading}
use Rattle.scripthash_stream.specs.Stream.{next_number}
use Rattle.scripthash_stream.proofs.LawsScan.{next_accepted, next_inside}
use Rattle.scripthash_stream.proofs.LawsFill.{left_start, left_next, left_read, left_end}
use Rattle.scripthash_stream.proofs.stream.fill_fks.Goals as goal

pub loop-k-init : goal.loop-k-init
loop-k-init c =
    record {
      room = search rules;
      inside = search rules;
      small = search rules;
      left = left_start c.args.buf.now c.args.n c.args.out.now;
    }

pub returns-in_default : goal.returns-in_default
returns-in_default c s e =
    let l = c.loop-k in
    absurd (left_read c.args.buf.now c.args.n c.args.out.now l.out l.prev l.off l.k s (omega arith) (l.invariant.left s e) (sym c.in_default.ensures))

pub overflow_add-off : goal.overflow_add-off
overflow_add-off c =
    let got : Reading = record { value = c.in-Ok.next.fk; len = c.in-Ok.next.len } in
    omega (arith, next_inside c.args.buf.now c.loop-k.off c.loop-k.prev got c.loop-k.invariant.inside (sym c.in-Ok.ensures))

pub loop-k-preserved : goal.loop-k-preserved
loop-k-preserved c =
    let l = c.loop-k in
    let buf = c.args.buf.now in
    let got : Reading = record { value = c.in-Ok.next.fk; len = c.in-Ok.next.len } in
    let is : next_number l.prev (drop l.off buf) ≡ accepted got = sym c.in-Ok.ensures in
    record {
      room = simp length-set l.invariant.room;
      inside = next_inside buf l.off l.prev got l.invariant.inside is;
      small = (next_accepted l.prev (drop l.off buf) got is).below;
      left = λ s e. left_next buf c.args.n c.args.out.now l.out l.prev l.off l.k s (omega arith) (l.invariant.left s e) got is (omega arith);
    }

pub returns : goal.returns
returns c s e =
    let l = c.loop-k in
    left_end c.args.buf.now c.args.n c.args.out.now l.out l.prev l.off l.k s (omega arith) (l.invariant.left s e)
