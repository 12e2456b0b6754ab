-- Summing up the forms of a stream number by number: the number that a form gives, and what is known between two forms. Assumes nothing.
use Prim.Native.Nat.{ℕ, suc, ◌+◌, ◌-◌, ◌*◌, ◌^◌, ◌≤◌, ◌<◌}
use mathlib.Core.List.{List, [], ◌∷◌, ◌++◌, append_assoc, append-nil}
use mathlib.Core.Path.{◌≡◌, sym, ◌∙◌}
use native.Mathlib.Nat.{sub-zero, not-suc-le-zero}
use native.Mathlib.Numerals.{add-one}
use native.Mathlib.Omega.{arith}
use lib.ListN.{length, take, drop, get_or, set, length-set}
use lib.Seq.{take-suc-set}
use Rattle.error.specs.Refusal.{accepted}
use Rattle.compact.specs.Uleb128.{Reading}
use Rattle.compact.proofs.LawsReadFrom.{read_byte_at}
use Rattle.scripthash_stream.specs.Stream.{next_number, Scan, ends_from}
use Rattle.scripthash_forms.specs.Quick.{OneByteForms, QuickForm, QuickEnd, QuickSum, scan_at}
use Rattle.scripthash_forms.proofs.LawsForms.{quick_form}
use Rattle.scripthash_stream.proofs.LawsScan.{stored_sum, next_is}
use Rattle.scripthash_stream.proofs.LawsScanEnd.{ends_next, ends_now}
use Rattle.scripthash_forms.proofs.LawsTries.{quick_end_none, scan_at_none, scan_at_next}

-- ---- one number

-- a form above 0 whose sum stays below 2 ^ 63 gives that sum
pub next_sum : (sum value len : ℕ) (bs : List ℕ) → QuickForm value len bs → 0 < value → sum + value < 2 ^ 63
    → next_number sum bs ≡ accepted (record { value = sum + value; len = len })
unfolding QuickForm
next_sum sum value len bs f h b =
    let d : Reading = record { value = value; len = len } in
    next_is sum bs d (f h) ∙ stored_sum sum d h b

-- a byte of a stream of one-byte forms
pub next_byte : (buf : List ℕ) (n sum k : ℕ) → OneByteForms buf n → k < n → sum ≤ 127 * k
    → next_number sum (drop k buf) ≡ accepted (record { value = sum + get_or buf k 0; len = 1 })
next_byte buf n sum k o h s =
    let b = o.each k h in
    let few = o.few in
    next_sum sum (get_or buf k 0) 1 (drop k buf)
    (quick_form (get_or buf k 0) 1 (drop k buf) (read_byte_at buf k (omega (arith, o.within)) b.1)) b.0 (omega (arith, b.1))

-- ---- between two forms

-- no bytes tell nothing
pub quick_sum_none : (from prev n : ℕ) (bs space : List ℕ) → QuickSum 0 0 from prev n bs space
quick_sum_none from prev n bs space =
    record {
      within = omega arith;
      below = omega arith;
      ends = quick_end_none (ends_from from prev n (drop from bs));
      numbers = λ l h. absurd (not-suc-le-zero h);
    }

-- k numbers are summed up to `sum`, and byte i is next: the scan of what is left ends where the whole scan does, and where it has numbers,
-- they come behind the first k of `space` in the whole scan, if that has room for all.
pub record Summed (buf : List ℕ) (from prev n : ℕ) (space : List ℕ) (sum i k : ℕ) : Type 0 where
  pub ends : ends_from i sum (n - k) (drop i buf) ≡ ends_from from prev n (drop from buf)
  pub whole : n ≤ length space → (s : Scan) → scan_at i sum (n - k) buf ≡ accepted s
      → scan_at from prev n buf ≡ accepted (record { numbers = take k space ++ s.numbers; taken = s.taken })

-- before the first number
pub summed_start : (buf : List ℕ) (from prev n : ℕ) (space : List ℕ) → Summed buf from prev n space prev from 0
summed_start buf from prev n space = record { ends = rw (sub-zero n); whole = λ h s e. rw (sub-zero n) at e }

module _ (buf : List ℕ) (from prev n : ℕ) (space : List ℕ) (sum i k : ℕ) (m : Summed buf from prev n space sum i k) where
  -- the next number
  pub summed_next : (r : Reading) → next_number sum (drop i buf) ≡ accepted r → k < n
      → Summed buf from prev n (set space k r.value) r.value (i + r.len) (k + 1)
  summed_next r e h =
      record {
        ends = ends_next buf n i sum k r h e ∙ m.ends;
        whole = λ l s f.
            let room : n ≤ length space = simp length-set at l in
            let more : n - k ≡ suc (n - (k + 1)) = omega arith in
            rw (add-one k, take-suc-set space k r.value (omega arith), append_assoc)
            (m.whole room (record { numbers = r.value ∷ s.numbers; taken = s.taken })
            (rw more (scan_at_next i sum (n - (k + 1)) buf r s e f)));
      }

  -- behind the last
  pub summed_end : n ≡ k → i ≤ length buf → sum < 2 ^ 63 → QuickSum i sum from prev n buf space
  unfolding QuickEnd
  summed_end e inside low =
      let none : n - k ≡ 0 = omega arith in
      record {
        within = inside;
        below = low;
        ends = λ h. sym m.ends ∙ ends_now n i sum k (drop i buf) (omega arith);
        numbers = λ l h. rw (append-nil, ← e) at (m.whole l (record { numbers = []; taken = i }) (rw none (scan_at_none i sum buf)));
      }
