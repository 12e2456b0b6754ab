-- Where a scan ends, when it goes on in the middle of a stream, one law for each way on. Assumes nothing.
use Prim.Native.Nat.{ℕ, zero, suc, ◌+◌, ◌-◌, ◌≤◌, ◌<◌}
use mathlib.Core.List.{List}
use mathlib.Core.Path.{◌≡◌, sym, ◌∙◌, ap}
use native.Mathlib.Nat.{sub-zero, zero-add, add-zero, add_assoc}
use native.Mathlib.Omega.{arith}
use lib.ListN.{drop}
use lib.Seq.{drop-drop}
use Rattle.error.specs.Refusal.{accepted, refused, answered}
use Rattle.error.proofs.LawsAnswer.{accepted_inj, answered_then, answered_no, then_yes, then_no}
use Rattle.compact.specs.Uleb128.{Reading}
use Rattle.scripthash_stream.specs.Stream.{last_from, next_number, Scan, scan_from, scan, end_from, ends_from}
use Rattle.scripthash_stream.proofs.LawsScan.{Step, scan_step}

pub ends_start : (n : ℕ) (bs : List ℕ) → ends_from 0 0 (n - 0) bs ≡ answered (end_from 0) (scan n bs)
unfolding ends_from
ends_start n bs = simp (sub-zero, zero-add)

-- from the start it is the whole scan's end
pub ends_whole : (n : ℕ) (bs : List ℕ) → ends_from 0 0 n (drop 0 bs) ≡ answered (end_from 0) (scan n bs)
unfolding ends_from
ends_whole n bs = simp zero-add

pub ends_now : (n off prev k : ℕ) (bs : List ℕ) → n ≤ k → ends_from off prev (n - k) bs ≡ accepted (record { taken = off; last = prev })
unfolding ends_from scan_from answered last_from
ends_now n off prev k bs h = let none : n - k ≡ 0 = omega arith in rw (none, add-zero)

ends_more : (off prev k : ℕ) (bs : List ℕ) (r : Reading) → next_number prev bs ≡ accepted r
    → ends_from off prev (suc k) bs ≡ ends_from (off + r.len) r.value k (drop r.len bs)
unfolding ends_from scan_from last_from
ends_more off prev k bs r e =
    ap (answered (λ s. record { taken = off + s.taken; last = last_from prev s.numbers })) (then_yes (next_number prev bs) _ e)
    ∙ answered_then _ _ (scan_from r.value k (drop r.len bs)) ∙ simp add_assoc

-- the number behind k of n, at an offset
module _ (buf : List ℕ) (n off prev k : ℕ) where
  pub ends_next : (r : Reading) → k < n → next_number prev (drop off buf) ≡ accepted r
      → ends_from (off + r.len) r.value (n - (k + 1)) (drop (off + r.len) buf) ≡ ends_from off prev (n - k) (drop off buf)
  ends_next r h e =
      let more : n - k ≡ suc (n - (k + 1)) = omega arith in
      ap (ends_from (off + r.len) r.value (n - (k + 1))) (sym (drop-drop r.len off buf))
      ∙ sym (ends_more off prev (n - (k + 1)) (drop off buf) r e) ∙ ap (λ (l : ℕ). ends_from off prev l (drop off buf)) (sym more)

  pub ends_refused : {number : ℕ} → k < n → next_number prev (drop off buf) ≡ refused number
      → ends_from off prev (n - k) (drop off buf) ≡ refused number
  unfolding ends_from scan_from
  ends_refused h e =
      let more : n - k ≡ suc (n - (k + 1)) = omega arith in
      rw more (answered_no _ (scan_from prev (suc (n - (k + 1))) (drop off buf)) (then_no (next_number prev (drop off buf)) _ e))

-- the numbers that were scanned, and those behind them
pub ends_parts : (off prev k m : ℕ) (bs : List ℕ) (s : Scan) → scan_from prev k bs ≡ accepted s
    → ends_from off prev (k + m) bs ≡ ends_from (off + s.taken) (last_from prev s.numbers) m (drop s.taken bs)
unfolding scan_from last_from
ends_parts off prev zero m bs s e = rw (sym (accepted_inj e), add-zero off, zero-add m)
ends_parts off prev (suc k) m bs s e = behind (scan_step prev k bs s e) (λ o r t f. ends_parts o r.value k m (drop r.len bs) t f)
  where
    behind : (w : Step prev k bs s) → ((o : ℕ) (r : Reading) (t : Scan) → scan_from r.value k (drop r.len bs) ≡ accepted t
        → ends_from o r.value (k + m) (drop r.len bs)
        ≡ ends_from (o + t.taken) (last_from r.value t.numbers) m (drop t.taken (drop r.len bs)))
        → ends_from off prev (suc k + m) bs ≡ ends_from (off + s.taken) (last_from prev s.numbers) m (drop s.taken bs)
    behind w ih =
        let r = w.first in
        let t = w.rest in
        let count : suc k + m ≡ suc (k + m) = omega arith in
        rw (w.whole, count, ← (drop-drop t.taken r.len bs), ← (add_assoc off r.len t.taken))
        (ends_more off prev (k + m) bs r w.next ∙ ih (off + r.len) r t w.more)
