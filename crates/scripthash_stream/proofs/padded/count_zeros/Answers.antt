-- `count_zeros` meets its contract: the zeros of a part are added, and the last part reaches the end.
use Prim.Native.Nat.{◌+◌, ◌-◌, ◌≤◌}
use mathlib.Core.Path.{sym}
use native.Mathlib.Omega.{arith}
use borrow.Author.Rules.{rules}
use lib.ListN.{length, take, drop, length-take, length-drop}
use Rattle.scripthash_stream.proofs.LawsPadded.{zeros_part, zeros_nothing}
use Rattle.scripthash_stream.proofs.padded.count_zeros.Goals as goal

pub loop-at-init : goal.loop-at-init
loop-at-init c = record { within = search rules; small = search rules; counted = sym (zeros_nothing c.args.buf.now) }

pub loop-at-preserved : goal.loop-at-preserved
loop-at-preserved c =
    let l = c.loop-at in
    let part = zeros_part c.args.buf.now l.at (l.at + 128 - l.at) (l.at + 128) (omega arith) in
    let long : length (take (l.at + 128 - l.at) (drop l.at c.args.buf.now)) ≤ 128 = simp (length-take, length-drop) (omega arith) in
    record {
      within = omega arith;
      small = omega (arith, c.from-count.ensures, c.zeros_in.ensures.1);
      counted = omega (arith, part, c.from-count.ensures, c.zeros_in.ensures.0);
    }

pub returns : goal.returns
returns c =
    let l = c.loop-at in
    let part = zeros_part c.args.buf.now l.at (c.args.n - l.at) c.args.n (omega arith) in
    omega (arith, part, c.from.ensures, c.zeros_in-2.ensures.0)
