-- The scan of what is left behind some bytes ends where the whole scan does.
use Rattle.std.proofs.Common.{◌≡◌, ℕ, ◌+◌, ◌-◌, ◌*◌, ◌<◌, ◌≤◌, List, length, get_or, take, drop, sum, sym, ◌∙◌, arith}
use Rattle.std.proofs.lemmas.List.Sums.{sum_by_more}
use native.Mathlib.Nat.{sub-zero}
use Rattle.error.specs.Refusal.{answered}
use Rattle.scripthash_forms.specs.Quick.{OneByteForms, QuickEnd}
use Rattle.scripthash_stream.specs.Stream.{scan, end_from, ends_from}
use Rattle.scripthash_stream.proofs.LawsScanEnd.{ends_start, ends_next, ends_now}
use Rattle.scripthash_forms.proofs.LawsSums.{next_byte}
use Rattle.scripthash_scan.proofs.LawsTotals.{place_by_place}
use Rattle.scripthash_scan.proofs.quick.sum_of_bytes.Goals as goal

abbrev Summed : List ℕ → ℕ → ℕ → Type 0
Summed bs n k =
    (sum (take k bs) ≤ 127 * k) × (ends_from k (sum (take k bs)) (n - k) (drop k bs) ≡ answered (end_from 0) (scan n bs))

summed_next : (bs : List ℕ) (n : ℕ) → OneByteForms bs n → (k : ℕ) → 0 ≤ k → k < n → Summed bs n k → Summed bs n (k + 1)
summed_next bs n forms k p q s =
    let inside : k < length bs = omega (arith, forms.within) in
    let more : sum (take (k + 1) bs) ≡ sum (take k bs) + get_or bs k 0 = sum_by_more (λ x. x) bs k 0 inside in
    let next = next_byte bs n (sum (take k bs)) k forms q s.0 in (
      omega (arith, more, s.0, (forms.each k q).1),
      rw more (ends_next bs n k (sum (take k bs)) k _ q next ∙ s.1),
    )

summed_all : (bs : List ℕ) (n : ℕ) → OneByteForms bs n → Summed bs n n
summed_all bs n forms = place_by_place (Summed bs n) 0 n (omega arith) (summed_next bs n forms) (omega arith, ends_start n bs)

pub returns : goal.returns
unfolding QuickEnd
returns c h =
    let a = c.args in
    let all = summed_all a.buf.now a.n c.requires in
    rw (c.total.ensures, sub-zero a.n) (sym all.1 ∙ ends_now a.n a.n (sum (take a.n a.buf.now)) a.n _ (omega arith))
