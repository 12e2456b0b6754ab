-- One byte more is one number more.
use Rattle.std.proofs.Common.{◌≡◌, ◌+◌, ◌*◌, ◌≤◌, drop, refl, sym, ap, ◌∙◌, arith}
use Rattle.std.proofs.Math.ListN.{length-set}
use lib.Seq.{drop-set-lt, drop-drop}
use Rattle.error.specs.Refusal.{accepted}
use Rattle.scripthash_stream.specs.Stream.{next_number}
use Rattle.scripthash_forms.proofs.LawsTries.{quick_all, scan_at_start}
use Rattle.scripthash_stream.proofs.LawsDecode.{written}
use Rattle.scripthash_forms.proofs.LawsSums.{next_byte, summed_next, summed_end}
use Rattle.scripthash_scan.proofs.quick.sum_bytes.Goals as goal

pub loop-k-preserved : goal.loop-k-preserved
loop-k-preserved c =
    let l = c.loop-k in
    let a = c.args in
    let forms = c.requires.0 in
    let x = l.sum + c.from-sum.result in
    let most : x ≤ 127 * (l.k + 1) = omega (arith, c.from-sum.ensures, (forms.each l.k (omega arith)).1) in
    let next : next_number l.sum (drop l.k a.buf.now) ≡ accepted (record { value = x; len = 1 }) =
    next_byte a.buf.now a.n l.sum l.k forms (omega arith) l.invariant.1
    ∙ ap (λ b. accepted (record { value = l.sum + b; len = 1 })) (sym c.from-sum.ensures) in (
      simp length-set l.invariant.0,
      most,
      drop-set-lt (l.k + 1) l.out l.k x (omega arith) ∙ sym (drop-drop 1 l.k l.out) ∙ ap (drop 1) l.invariant.2
          ∙ drop-drop 1 l.k a.out.now,
      summed_next a.buf.now 0 0 a.n l.out l.sum l.k l.k l.invariant.3 _ next (omega arith),
    )

pub returns : goal.returns
returns c =
    let l = c.loop-k in
    let a = c.args in
    let forms = c.requires.0 in
    let done : l.k ≡ a.n = omega arith in
    let sums = rw done at (summed_end a.buf.now 0 0 a.n l.out l.sum l.k l.k l.invariant.3 (sym done)
    (omega (arith, forms.within)) (omega (arith, forms.few))) in (
      refl,
      rw (written a.out.now l.out a.n (omega arith) (rw done at l.invariant.2))
          (quick_all a.n a.buf.now a.out.now _ (sym (scan_at_start a.n a.buf.now)
          ∙ sums.numbers (omega arith) forms.some) (omega arith) forms.some),
    )
