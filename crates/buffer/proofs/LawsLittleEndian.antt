-- Laws of little-endian numbers, each over the width: what is written in k bytes is read back.
-- Most go by induction on the bytes or on their count.
use mathlib.Core.Path.{◌≡◌, refl, ap, ◌∙◌}
use mathlib.Core.List.{List, [], ◌∷◌}
use Prim.Native.Nat.{ℕ, zero, suc, ◌+◌, ◌-◌, ◌*◌, ◌/◌, ◌%◌, ◌^◌, ◌<◌, min}
use native.Mathlib.Nat.{pow-suc, one-le-pow, mod-eq_of_lt}
use native.Mathlib.Omega.{arith}
use lib.Arith.{mod-mul}
use lib.ListN.{length, drop, length-take, length-drop}
use lib.Seq.{get_or-take, get_or-drop}
use Rattle.buffer.specs.Bytes.{part}
use Rattle.buffer.specs.LittleEndian.{little_endian, bytes_of, AreBytes}

-- The first of several bytes is a byte.
pub bytes_head : (b : ℕ) (bs : List ℕ) → AreBytes (b ∷ bs) → b < 256
bytes_head b bs h = h 0 (omega arith)

-- The rest are bytes.
pub bytes_tail : (b : ℕ) (bs : List ℕ) → AreBytes (b ∷ bs) → AreBytes bs
bytes_tail b bs h i p = h (suc i) (omega arith)

-- A number's k lowest bytes are k.
pub length_bytes_of : (k n : ℕ) → length (bytes_of k n) ≡ k
length_bytes_of zero n = refl
length_bytes_of (suc k) n = ap suc (length_bytes_of k (n / 256))

-- They are bytes.
pub bytes_of_bytes : (k n : ℕ) → AreBytes (bytes_of k n)
bytes_of_bytes zero n i p = omega arith
bytes_of_bytes (suc k) n zero p = omega arith
bytes_of_bytes (suc k) n (suc i) p = bytes_of_bytes k (n / 256) i (omega arith)

-- A number's k lowest bytes hold its remainder by 256 to the power k.
pub little_endian_bytes_of_mod : (k n : ℕ) → little_endian (bytes_of k n) ≡ n % 256 ^ k
little_endian_bytes_of_mod zero n = omega arith
little_endian_bytes_of_mod (suc k) n =
    let pos : 0 < 256 ^ k = one-le-pow k 256 (omega arith) in
    rw (pow-suc, little_endian_bytes_of_mod k (n / 256), mod-mul n {m = 256 ^ k} {c = 256} pos (omega arith)) (omega arith)

-- They hold the number itself where it is below 256 to the power k.
pub little_endian_bytes_of : (k n : ℕ) → n < 256 ^ k → little_endian (bytes_of k n) ≡ n
little_endian_bytes_of k n h = little_endian_bytes_of_mod k n ∙ mod-eq_of_lt h

-- Bytes hold a number below 256 to the power of their count.
pub little_endian_below : (bs : List ℕ) → AreBytes bs → little_endian bs < 256 ^ length bs
little_endian_below [] h = omega arith
little_endian_below (b ∷ bs) h =
    let p : b < 256 = bytes_head b bs h in
    let q : little_endian bs < 256 ^ length bs = little_endian_below bs (bytes_tail b bs h) in
    omega (arith, pow-suc 256 (length bs))

-- The bytes of the number that bytes hold are those bytes.
pub bytes_of_little_endian : (bs : List ℕ) → AreBytes bs → bytes_of (length bs) (little_endian bs) ≡ bs
bytes_of_little_endian [] h = refl
bytes_of_little_endian (b ∷ bs) h =
    let p : b < 256 = bytes_head b bs h in
    let low : (b + 256 * little_endian bs) % 256 ≡ b = omega arith in
    let high : (b + 256 * little_endian bs) / 256 ≡ little_endian bs = omega arith in
    rw (low, high) (ap (λ (l : List ℕ). b ∷ l) (bytes_of_little_endian bs (bytes_tail b bs h)))

-- A part of bytes is bytes.
pub part_bytes : (b : List ℕ) (o n : ℕ) → AreBytes b → AreBytes (part b o n)
unfolding part
part_bytes b o n h i p =
    let q : i < min n (length b - o) = simp (length-take, length-drop) at p in
    rw (get_or-take n (drop o b) i 0 (omega arith), get_or-drop o b i 0) (h (o + i) (omega arith))
