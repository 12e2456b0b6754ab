-- Laws of numbers at an offset of a buffer, each over the widths: a number of j + k bytes is the number of its first j and
-- 256 ^ j times that of the k behind them, and its bytes are those of the two, written one after the other.
use mathlib.Core.Path.{◌≡◌, ap, ◌∙◌}
use mathlib.Core.List.{List, [], ◌∷◌, ◌++◌}
use Prim.Native.Nat.{ℕ, suc, ◌+◌, ◌*◌, ◌/◌, ◌^◌, ◌<◌, ◌≤◌}
use native.Mathlib.Nat.{zero-add, pow-succ', mul_assoc, add-mul-div_left, div-eq_of_lt, one-le-pow}
use native.Mathlib.Omega.{arith}
use lib.ListN.{length, drop}
use lib.Seq.{take-add, drop-drop}
use Rattle.buffer.specs.Bytes.{part}
use Rattle.buffer.specs.LittleEndian.{little_endian, AreBytes}
use Rattle.buffer.proofs.LawsLittleEndian.{little_endian_below, part_bytes}
use Rattle.buffer.proofs.LawsOverwrite.{length_part}

-- A part is its first j elements and the k behind them.
pub part_add : (b : List ℕ) (o j k : ℕ) → part b o (j + k) ≡ part b o j ++ part b (o + j) k
unfolding part
part_add b o j k = rw (take-add j k (drop o b), drop-drop j o b)

-- The number that two lists of bytes hold, one behind the other.
pub little_endian_append : (xs ys : List ℕ) → little_endian (xs ++ ys) ≡ little_endian xs + 256 ^ length xs * little_endian ys
little_endian_append [] ys = omega arith
little_endian_append (x ∷ xs) ys =
    let shifted : 256 ^ suc (length xs) * little_endian ys ≡ 256 * (256 ^ length xs * little_endian ys) =
    ap (λ (p : ℕ). p * little_endian ys) (pow-succ' 256 (length xs)) ∙ mul_assoc 256 (256 ^ length xs) (little_endian ys) in
    omega (arith, little_endian_append xs ys)

-- The number in j + k bytes of a buffer from the numbers in the first j and in the k behind them.
pub little_endian_halves : (b : List ℕ) (o j k : ℕ) → o + j ≤ length b
    → little_endian (part b o (j + k)) ≡ little_endian (part b o j) + 256 ^ j * little_endian (part b (o + j) k)
little_endian_halves b o j k h =
    ap little_endian (part_add b o j k) ∙ little_endian_append (part b o j) (part b (o + j) k)
    ∙ ap (λ (n : ℕ). little_endian (part b o j) + 256 ^ n * little_endian (part b (o + j) k)) (length_part b o j h)

-- The number in the k bytes behind the first j is the number in them all, divided by 256 ^ j.
pub little_endian_upper : (b : List ℕ) (o j k : ℕ) → AreBytes b → o + j ≤ length b
    → little_endian (part b o (j + k)) / 256 ^ j ≡ little_endian (part b (o + j) k)
little_endian_upper b o j k bytes h =
    let low = little_endian (part b o j) in
    let high = little_endian (part b (o + j) k) in
    let pos : 0 < 256 ^ j = one-le-pow j 256 (omega arith) in
    let below : low < 256 ^ j = rw (length_part b o j h) at (little_endian_below (part b o j) (part_bytes b o j bytes)) in
    ap (λ (n : ℕ). n / 256 ^ j) (little_endian_halves b o j k h) ∙ add-mul-div_left low high pos
    ∙ ap (λ (n : ℕ). n + high) (div-eq_of_lt below) ∙ zero-add high
