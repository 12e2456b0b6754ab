-- Laws of the eight bytes of a 64-bit number, as the library's conversions have them.
use mathlib.Core.Path.{◌≡◌, refl, ap}
use mathlib.Core.List.{List, [], ◌∷◌, ◌++◌}
use Prim.Native.Nat.{ℕ, zero, suc, ◌+◌, ◌*◌, ◌/◌, ◌%◌, ◌≤◌}
use native.Mathlib.Omega.{arith}
use lib.ListN.{length, take, drop, get_or, drop_of_length-le, replicate}
use borrow.Author.Rules.{rules}
use Rattle.std.specs.Int.{w64, from_le_bytes, to_le_bytes}
use Rattle.buffer.specs.LittleEndian.{little_endian, bytes_of}
use Rattle.buffer.proofs.LawsFields.{little_endian_append}

-- The number that the bytes from one place on hold is its first byte, and 256 times the number in the others.
little_endian_next : (bs : List ℕ) (i : ℕ) → little_endian (drop i bs) ≡ get_or bs i 0 + 256 * little_endian (drop (suc i) bs)
little_endian_next [] zero = refl
little_endian_next [] (suc i) = refl
little_endian_next (b ∷ bs) zero = refl
little_endian_next (b ∷ bs) (suc i) = little_endian_next bs i

-- Eight bytes hold the number that the library reads from them.
pub little_endian_eight : (bs : List ℕ) → length bs ≡ 8 → from_le_bytes w64 bs ≡ little_endian bs
little_endian_eight bs e =
    let none : drop 8 bs ≡ [] = drop_of_length-le bs {i = 8} (omega arith) in
    let end : little_endian (drop 8 bs) ≡ 0 = rw none in
    omega (
      arith,
      little_endian_next bs 0,
      little_endian_next bs 1,
      little_endian_next bs 2,
      little_endian_next bs 3,
      little_endian_next bs 4,
      little_endian_next bs 5,
      little_endian_next bs 6,
      little_endian_next bs 7,
    )

-- Bytes that are 0 hold 0.
little_endian_zeros : (k n : ℕ) → little_endian (drop n (replicate k 0)) ≡ 0
little_endian_zeros zero zero = refl
little_endian_zeros zero (suc n) = refl
little_endian_zeros (suc k) zero = omega (arith, little_endian_zeros k 0)
little_endian_zeros (suc k) (suc n) = little_endian_zeros k n

-- Bytes hold the same number with bytes of 0 behind them.
pub little_endian_padded : (bs : List ℕ) (k n : ℕ) → little_endian (bs ++ drop n (replicate k 0)) ≡ little_endian bs
little_endian_padded bs k n = rw (little_endian_append bs (drop n (replicate k 0)), little_endian_zeros k n) (omega arith)

-- The first of a number's bytes are its lowest.
pub take_bytes_of : (j k n : ℕ) → j ≤ k → take j (bytes_of k n) ≡ bytes_of j n
take_bytes_of zero k n h = refl
take_bytes_of (suc j) zero n h = absurd (omega arith)
take_bytes_of (suc j) (suc k) n h = ap (λ (l : List ℕ). n % 256 ∷ l) (take_bytes_of j k (n / 256) (omega arith))

-- The library's bytes of a number are its eight lowest.
pub bytes_of_eight : (n : ℕ) → to_le_bytes w64 n ≡ bytes_of 8 n
bytes_of_eight n = search rules
