-- What is left to write while a list is filled number by number. Assumes nothing.
use Prim.Native.Nat.{ℕ, suc, ◌+◌, ◌-◌, ◌≤◌, ◌<◌}
use mathlib.Core.List.{List, []}
use mathlib.Core.Path.{◌≡◌, refl, sym, ap, ◌∙◌}
use native.Mathlib.Nat.{sub-zero}
use native.Mathlib.Omega.{arith}
use lib.ListN.{length, drop, set}
use lib.Seq.{drop-drop}
use Rattle.error.specs.Refusal.{accepted, refused}
use Rattle.error.proofs.LawsAnswer.{refused≢accepted, accepted_inj}
use Rattle.buffer.specs.Bytes.{overwrite}
use Rattle.buffer.proofs.LawsBytes.{overwrite_nil, overwrite_step}
use Rattle.compact.specs.Uleb128.{Reading}
use Rattle.scripthash_stream.specs.Stream.{next_number, Scan, scan_from, scan}
use Rattle.scripthash_stream.proofs.LawsScan.{Step, scan_step}

-- What is left to write: the rest of the stream scans, and its numbers, written from k on, make the list what the whole scan says.
pub record Left (buf : List ℕ) (n : ℕ) (out₀ out : List ℕ) (prev off k : ℕ) (s : Scan) : Type 0 where
  pub rest : Scan
  pub scans : scan_from prev (n - k) (drop off buf) ≡ accepted rest
  pub makes : overwrite out k rest.numbers ≡ overwrite out₀ 0 s.numbers

-- at the start all is left
pub left_start : (buf : List ℕ) (n : ℕ) (out : List ℕ) (s : Scan) → scan n buf ≡ accepted s → Left buf n out out 0 0 0 s
left_start buf n out s e = record { rest = s; scans = rw (sub-zero n) e; makes = refl }

-- the next number of the rest is the one that was read
module _ (buf : List ℕ) (n : ℕ) (out₀ out : List ℕ) (prev off k : ℕ) (s : Scan) (h : k < n) (l : Left buf n out₀ out prev off k s) where
  first : Step prev (n - (k + 1)) (drop off buf) l.rest
  first =
      let more : n - k ≡ suc (n - (k + 1)) = omega arith in
      scan_step prev (n - (k + 1)) (drop off buf) l.rest (rw more at l.scans)

  pub left_next : (r : Reading) → next_number prev (drop off buf) ≡ accepted r → k < length out
      → Left buf n out₀ (set out k r.value) r.value (off + r.len) (k + 1) s
  left_next r e i =
      let f = first in
      let same : f.first ≡ r = accepted_inj (sym f.next ∙ e) in
      record {
        rest = f.rest;
        scans = rw (← (drop-drop r.len off buf), ← same) f.more;
        makes = rw (← same) (sym (overwrite_step out k f.first.value f.rest.numbers (omega arith))
            ∙ ap (λ (t : Scan). overwrite out k t.numbers) (sym f.whole) ∙ l.makes);
      }

  pub left_read : {number : ℕ} → next_number prev (drop off buf) ≡ refused number → ⊥
  left_read e = refused≢accepted (sym e ∙ first.next)

-- at the end the list is what the scan says
pub left_end : (buf : List ℕ) (n : ℕ) (out₀ out : List ℕ) (prev off k : ℕ) (s : Scan) → n ≤ k → Left buf n out₀ out prev off k s
    → out ≡ overwrite out₀ 0 s.numbers
unfolding scan_from
left_end buf n out₀ out prev off k s h l =
    let none : n - k ≡ 0 = omega arith in
    let empty : record { numbers = []; taken = 0 } ≡ l.rest = accepted_inj (rw none at l.scans) in
    sym (overwrite_nil out k) ∙ ap (λ (t : Scan). overwrite out k t.numbers) empty ∙ l.makes
