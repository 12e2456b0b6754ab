use Rattle.std.proofs.Common.{◌+◌, ◌^◌, ◌<◌, ◌≤◌, ℕ, List, length, drop, ap, ◌∙◌, arith, length-drop, length-set}
use Rattle.scripthash_stream.proofs.LawsScan.{next_accepted}
use Rattle.buffer.proofs.LawsBytes.{part_to_end}
use Rattle.scripthash_forms.specs.Quick.{QuickForm}
use Rattle.scripthash_forms.proofs.LawsSums.{next_sum, summed_next, summed_end, quick_sum_none}
use Rattle.scripthash_forms.proofs.forms.sum_forms.Goals as goal

-- a form that gives a number ends within the bytes
inside : (sum value len i : ℕ) (bs : List ℕ) → QuickForm value len (drop i bs) → 0 < value → sum + value < 2 ^ 63 → i ≤ length bs
    → i + len ≤ length bs
inside sum value len i bs f h b w =
    let next = next_accepted sum (drop i bs) (record { value = sum + value; len = len }) (next_sum sum value len (drop i bs) f h b) in
    let l = simp length-drop at next.len_within in
    omega arith

pub returns-then-form-eq0 : goal.returns-then-form-eq0
returns-then-form-eq0 c = quick_sum_none _ _ _ _ _

pub returns-in_default : goal.returns-in_default
returns-in_default c = quick_sum_none _ _ _ _ _

pub overflow_add-i : goal.overflow_add-i
overflow_add-i c =
    let f = c.in-Some.form in
    let form = rw (part_to_end c.args.buf.now c.loop-k.i) at c.in-Some.ensures in
    omega (arith, inside c.loop-k.sum f.value f.len c.loop-k.i c.args.buf.now form (omega arith) (omega arith) (omega arith))

pub loop-k-preserved : goal.loop-k-preserved
loop-k-preserved c =
    let l = c.loop-k in
    let a = c.args in
    let f = c.in-Some.form in
    let kept = c.keep.ensures in
    let form = rw (part_to_end a.buf.now l.i) at c.in-Some.ensures in
    let is = next_sum l.sum f.value f.len (drop l.i a.buf.now) form (omega arith) (omega arith) in record {
      within = inside l.sum f.value f.len l.i a.buf.now form (omega arith) (omega arith) (omega arith);
      below = omega arith;
      kept = ap length kept ∙ simp length-set l.invariant.kept;
      summed = rw kept (summed_next a.buf.now a.from a.prev a.n l.space l.sum l.i l.k l.invariant.summed _ is (omega arith));
    }

pub returns : goal.returns
returns c =
    let l = c.loop-k in
    let a = c.args in
    summed_end a.buf.now a.from a.prev a.n l.space l.sum l.i l.k l.invariant.summed (omega arith) l.invariant.within l.invariant.below
