use Rattle.std.proofs.Common.{◌≡◌, ◌+◌, refl, ◌∙◌, arith}
use Rattle.scripthash_words.proofs.starts.keep_eight.Goals as goal

pub loop-j-init : goal.loop-j-init
loop-j-init c =
    let a = c.args in
    let start : a.i + 0 ≡ a.i = omega arith in
    record { few = omega arith; kept = refl; found = λ from k. rw start k }

pub loop-j-preserved : goal.loop-j-preserved
loop-j-preserved c =
    let l = c.loop-j in
    let kept = c.keep_word-next.ensures in
    let place : c.args.i + l.j + 1 ≡ c.args.i + (l.j + 1) = omega arith in record {
      few = omega (arith, kept.0);
      kept = kept.1 ∙ l.invariant.kept;
      found = λ from k. rw place at (kept.2 from (l.invariant.found from k));
    }
