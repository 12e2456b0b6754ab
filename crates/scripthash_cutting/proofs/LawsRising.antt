-- Rising numbers: parts of them rise, and a stream that starts later is never longer. Assumes nothing.
use Prim.Native.Nat.{ℕ, zero, suc, ◌+◌, ◌-◌, ◌^◌, ◌≤◌, zero-le}
use mathlib.Core.List.{List, [], ◌∷◌, ◌++◌}
use mathlib.Core.Path.{◌≡◌}
use native.Mathlib.Nat.{le_refl, le_trans, sub-zero}
use native.Mathlib.Omega.{arith}
use lib.ListN.{drop}
use Rattle.compact.specs.Uleb128.{uleb_len}
use Rattle.compact.proofs.LawsLength.{len_sum}
use Rattle.scripthash_stream.specs.Stream.{Rising, stream_len_from, stream_len}
use Rattle.scripthash_cutting.proofs.LawsFitting.{Words}

-- they are numbers of 64 bits
pub rising_words : (p : ℕ) (ns : List ℕ) → Rising (2 ^ 63) p ns → Words ns
unfolding Rising
rising_words p [] r i = omega arith
rising_words p (n ∷ ns) r zero = omega (arith, r.1)
rising_words p (n ∷ ns) r (suc i) = rising_words n ns r.2 i

-- they rise from 0, and so do their first and their last ones
rising_lower : (top p : ℕ) (ns : List ℕ) → Rising top p ns → Rising top 0 ns
unfolding Rising
rising_lower top p [] r = tt
rising_lower top p (n ∷ ns) r = (omega (arith, r.0), r.1, r.2)

pub rising_left : (top p : ℕ) (xs ys : List ℕ) → Rising top p (xs ++ ys) → Rising top p xs
unfolding Rising
rising_left top p [] ys r = tt
rising_left top p (x ∷ xs) ys r = (r.0, r.1, rising_left top x xs ys r.2)

pub rising_right : (top p : ℕ) (xs ys : List ℕ) → Rising top p (xs ++ ys) → Rising top 0 ys
unfolding Rising
rising_right top p [] ys r = rising_lower top p ys r
rising_right top p (x ∷ xs) ys r = rising_right top x xs ys r.2

-- a stream that starts one number later is no longer: the length of a sum is at most the sum of the lengths
stream_tail : (top p n : ℕ) (ns : List ℕ) → Rising top p (n ∷ ns) → stream_len ns ≤ stream_len (n ∷ ns)
unfolding Rising stream_len_from
stream_tail top p n [] r = zero-le
stream_tail top p n (m ∷ ms) r =
    let e : n + (m - n) ≡ m = omega (arith, r.2.0) in
    let sum : uleb_len m ≤ uleb_len n + uleb_len (m - n) = rw e at (len_sum n (m - n)) in
    rw (sub-zero m, sub-zero n) (omega arith)

-- so a part that starts later is never longer
pub stream_drop : (top p j : ℕ) (ns : List ℕ) → Rising top p ns → stream_len (drop j ns) ≤ stream_len ns
unfolding Rising
stream_drop top p zero ns r = le_refl (stream_len ns)
stream_drop top p (suc j) [] r = le_refl (stream_len [])
stream_drop top p (suc j) (n ∷ ns) r = le_trans (stream_drop top n j ns r.2) (stream_tail top p n ns r)
