-- Runs of forms of one byte each: their scan, and what reading them gives. Assumes nothing.
use Prim.Native.Nat.{ℕ, zero, suc, ◌+◌, ◌*◌, ◌^◌, ◌≤◌, ◌<◌}
use mathlib.Core.List.{List, ◌∷◌}
use mathlib.Core.Path.{◌≡◌, refl, sym, ap, ◌∙◌}
use native.Mathlib.Omega.{arith}
use native.Mathlib.Nat.{zero-add}
use lib.ListN.{length, take, drop, get_or, length-drop}
use lib.Seq.{drop-drop, get_or-take, get_or-drop, length-take-le}
use Rattle.error.specs.Refusal.{accepted}
use Rattle.buffer.specs.Bytes.{overwrite}
use Rattle.compact.specs.Uleb128.{Reading}
use Rattle.compact.proofs.LawsReadFrom.{read_byte_at}
use Rattle.scripthash_stream.specs.Stream.{scan_from, next_number, last_from}
use Rattle.scripthash_stream.proofs.LawsScan.{next_is, stored_sum, scan_cons}
use Rattle.scripthash_stream.proofs.LawsStream.{front}
use Rattle.scripthash_words.proofs.LawsValues.{sum_below}
use Rattle.scripthash_words.specs.Words.{OnesAt, running_from, sum_of, RestRead, rest_read}

-- each of the first k bytes from a place on lies between two numbers
abbrev pub Between : List ℕ → ℕ → ℕ → ℕ → ℕ → Type 0
Between bs from low high k = (i : ℕ) → i < k → (low ≤ get_or bs (from + i) 0) × (get_or bs (from + i) 0 ≤ high)

-- a part whose bytes are such forms
pub ones_part : (bs : List ℕ) (from n : ℕ) → from + n ≤ length bs
    → OnesAt (take n (drop from bs)) 0 (length (take n (drop from bs))) → OnesAt bs from n
ones_part bs from n h o i p =
    let size : length (take n (drop from bs)) ≡ n = length-take-le n (drop from bs) (rw (length-drop from bs) (omega arith)) in
    rw (zero-add i, get_or-take n (drop from bs) i 0 p, get_or-drop from bs i 0) at (o i (omega (arith, size)))

-- the sum of such bytes
pub ones_sum : (bs : List ℕ) → OnesAt bs 0 (length bs) → sum_of bs ≤ 127 * length bs
ones_sum bs o = sum_below 127 bs (λ i p. omega (arith, rw (zero-add i) at ((o i p).1)))

-- the scan of a run
pub ones_scan : (prev n : ℕ) (bs : List ℕ) (from : ℕ) → from + n ≤ length bs → OnesAt bs from n → prev + 127 * n < 2 ^ 63
    → scan_from prev n (drop from bs) ≡ accepted (record { numbers = running_from prev (take n (drop from bs)); taken = n })
unfolding scan_from running_from
ones_scan prev zero bs from h o low = refl
ones_scan prev (suc n) bs from h o low =
    let z : from + 0 ≡ from = omega arith in
    let first = rw z at (o 0 (omega arith)) in
    let b = get_or bs from 0 in
    let r : Reading = record { value = prev + b; len = 1 } in
    let d : Reading = record { value = b; len = 1 } in
    let next : next_number prev (drop from bs) ≡ accepted r =
    next_is prev (drop from bs) d (read_byte_at bs from (omega arith) first.1)
    ∙ stored_sum prev d first.0 (omega (arith, first.1)) in
    let later : OnesAt bs (from + 1) n = λ i p. (let e : from + suc i ≡ from + 1 + i = omega arith in rw e at (o (suc i) (omega arith))) in
    let more = ones_scan (prev + b) n bs (from + 1) (omega arith) later (omega (arith, first.1)) in
    let rest = rw (← drop-drop 1 from bs) at more in
    let count : 1 + n ≡ suc n = omega arith in
    let all = scan_cons prev n (drop from bs) r _ next rest in
    let numbers : running_from prev (take (suc n) (drop from bs)) ≡ (prev + b) ∷ running_from (prev + b) (take n (drop 1 (drop from bs))) =
    ap (λ (l : List ℕ). running_from prev (take (suc n) l)) (front bs from (omega arith))
    ∙ ap (λ (l : List ℕ). (prev + b) ∷ running_from (prev + b) (take n l)) (sym (drop-drop 1 from bs)) in
    rw (numbers, ← count) all

-- what reading it gives
pub ones_read : (bs : List ℕ) (from prev n last : ℕ) (out out' : List ℕ) → 0 < from → from + n ≤ length bs → OnesAt bs from n
    → prev + 2 ^ 32 * n < 2 ^ 63 → last ≤ prev + 127 * n → last ≡ last_from prev (running_from prev (take n (drop from bs)))
    → out' ≡ overwrite out 0 (running_from prev (take n (drop from bs)))
    → RestRead (from + n) bs from prev n (prev + 2 ^ 32 * n + 1) out out' 0
ones_read bs from prev n last out out' p h o low most is wrote =
    rest_read (running_from prev (take n (drop from bs))) n (omega arith) (ones_scan prev n bs from h o (omega arith)) refl (omega
    (arith, is)) wrote
