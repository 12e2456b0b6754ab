-- Numbers held in bytes, the lowest byte first. A byte is a number below 256.
use Rattle.std.specs.Prelude.{ℕ, zero, suc, ◌+◌, ◌*◌, ◌/◌, ◌%◌, ◌<◌, List, [], ◌∷◌, length, get_or}

-- The number that bytes hold: each byte counts 256 times as much as the one before it.
abbrev pub little_endian : List ℕ → ℕ
little_endian [] = 0
little_endian (b ∷ bs) = b + 256 * little_endian bs

-- The k lowest bytes of a number.
abbrev pub bytes_of : ℕ → ℕ → List ℕ
bytes_of zero n = []
bytes_of (suc k) n = n % 256 ∷ bytes_of k (n / 256)

-- Every element is a byte.
abbrev pub AreBytes : List ℕ → Type 0
AreBytes l = (i : ℕ) → i < length l → get_or l i 0 < 256
