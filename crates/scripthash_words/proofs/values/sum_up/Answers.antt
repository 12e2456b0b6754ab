use Rattle.std.proofs.Common.{◌≡◌, ℕ, ◌<◌, List, get_or, map, length, sym, ap, ◌∙◌, arith, length-set}
use Rattle.std.proofs.lemmas.List.{get_or-map, length-map, take_all}
use Rattle.std.proofs.Math.Nat.{zero-add}
use Rattle.scripthash_words.proofs.LawsValues.{sum_front, summing_next, summing_end}
use Rattle.scripthash_words.proofs.values.sum_up.Goals as goal

-- a difference as a number is the number at its place
number_at : {A : Type 0} (f : A → ℕ) (xs : List A) (k : ℕ) (x : A) (n : ℕ) → k < length xs → x ≡ get_or xs k x → n ≡ f x
    → n ≡ get_or (map f xs) k 0
number_at f xs k x n h e w = w ∙ ap f e ∙ sym (get_or-map f xs k x 0 h)

pub overflow_add-sum : goal.overflow_add-sum
overflow_add-sum g c =
    let f = g.T.Difference.value in
    let xs = c.args.differences.now in
    let k = c.loop-k.k in
    let is = number_at f xs k c.index-differences-k.result c.widened-sum.result c.loop-k-test.true c.index-differences-k.is
    c.widened-sum.ensures in
    omega (arith, is, sum_front (map f xs) k (omega (arith, length-map xs f)), c.loop-k.invariant.total, c.requires.low)

pub loop-k-preserved : goal.loop-k-preserved
loop-k-preserved g c =
    let f = g.T.Difference.value in
    let xs = c.args.differences.now in
    let l = c.loop-k in
    let is = number_at f xs l.k c.index-differences-k.result c.widened-sum.result c.loop-k-test.true c.index-differences-k.is
    c.widened-sum.ensures in
    let next = summing_next (map f xs) (length xs) c.args.prev c.args.out.now 0 l.out l.sum l.k l.invariant.summing (omega arith)
    (omega (arith, length-map xs f)) (omega arith) in record {
      kept = simp length-set l.invariant.kept;
      total = omega (arith, is, sum_front (map f xs) l.k (omega (arith, length-map xs f)), l.invariant.total);
      summing = rw (zero-add l.k, ← is) at next;
    }

pub returns-clause-last : goal.returns-clause-last
returns-clause-last g c =
    let vs = map g.T.Difference.value c.args.differences.now in
    let l = c.loop-k in
    rw (take_all (length c.args.differences.now) vs (omega (arith, length-map c.args.differences.now g.T.Difference.value)))
    at ((summing_end vs (length c.args.differences.now) c.args.prev c.args.out.now 0 l.out l.sum l.k l.invariant.summing (omega arith)).1)

pub returns-clause-written : goal.returns-clause-written
returns-clause-written g c =
    let vs = map g.T.Difference.value c.args.differences.now in
    let l = c.loop-k in
    rw (take_all (length c.args.differences.now) vs (omega (arith, length-map c.args.differences.now g.T.Difference.value)))
    at ((summing_end vs (length c.args.differences.now) c.args.prev c.args.out.now 0 l.out l.sum l.k l.invariant.summing (omega arith)).0)
