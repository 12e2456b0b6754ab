-- ULEB128, from the DWARF standard (version 5, section 7.6): an unsigned number in groups of seven bits, lowest group first, one to a byte.
-- Bit 7 of a byte is set where another byte follows. A form may be longer than the shortest: its last groups are then 0.
use Rattle.std.specs.Prelude.{ℕ, zero, suc, ◌+◌, ◌*◌, ◌/◌, ◌%◌, Bool, true, false, cond, not, ◌&&◌, ◌||◌, List, [], ◌∷◌, length, get_or, leb, ltb, eqb}
use Rattle.error.specs.Refusal.{Answer, accepted, refuse_if, uleb_cut_short, uleb_overflow, does_not_fit}
use Rattle.buffer.specs.Bytes.{overwrite}

-- Bit 7 of a byte: another byte of the form follows.
abbrev pub goes_on : ℕ → Bool
goes_on b = leb 128 b

-- The seven bits of the number that a byte carries.
abbrev pub piece : ℕ → ℕ
piece b = b % 128

-- No byte is left.
abbrev pub is_nil : List ℕ → Bool
is_nil [] = true
is_nil (b ∷ bs) = false

-- A form: bytes that go on, and after them one that doesn't.
unfoldable pub is_form : List ℕ → Bool
is_form [] = false
is_form (b ∷ bs) = cond (goes_on b) (is_form bs) (is_nil bs)

-- The value of a form: its pieces are the digits of a number in base 128, lowest first.
unfoldable pub value : List ℕ → ℕ
value [] = 0
value (b ∷ bs) = piece b + 128 * value bs

-- The form at the start of some bytes: those up to the first that doesn't go on, or all where each goes on.
unfoldable pub form_at : List ℕ → List ℕ
form_at [] = []
form_at (b ∷ bs) = b ∷ cond (goes_on b) (form_at bs) []

-- The byte b at index i of a form passes 64 bits: it is the tenth with a piece above 1, or a later one.
abbrev pub passes : ℕ → ℕ → Bool
passes i b = ltb 9 i || (eqb i 9 && ltb 1 (piece b))

-- Going through a form byte by byte overflows 64 bits: its tenth piece is above 1, or it has an eleventh byte.
unfoldable pub overflows : List ℕ → Bool
overflows f = ltb 1 (piece (get_or f 9 0)) || ltb 10 (length f)

-- What reading gives: the number, and how many bytes its form takes.
pub record Reading : Type 0 where
  pub value : ℕ
  pub len : ℕ

-- Reading a form: refused where it overflows, then where it isn't complete.
unfoldable pub read_form : List ℕ → Answer Reading
read_form f =
    refuse_if (overflows f) uleb_overflow
    (refuse_if (not (is_form f)) uleb_cut_short (accepted (record { value = value f; len = length f })))

-- Reading some bytes: the form at their start, whatever follows it.
unfoldable pub read_uleb : List ℕ → Answer Reading
read_uleb bs = read_form (form_at bs)

-- Dividing a number by 128 again and again: `last` of it once it is below 128, else `more` of it and of what its quotient gives.
-- The first number bounds the divisions; a number is divided fewer times than it is large.
unfoldable pub divided : {A : Type 0} → (ℕ → A) → (ℕ → A → A) → ℕ → ℕ → A
divided last more zero n = last n
divided last more (suc d) n = let rest = more n (divided last more d (n / 128)) in cond (ltb n 128) (last n) rest

-- The length of the shortest form of a number: one byte, and one more for each division.
unfoldable pub uleb_len : ℕ → ℕ
uleb_len n = divided (λ m. 1) (λ m rest. rest + 1) n n

-- The shortest form of a number: its digits in base 128, lowest first, with bit 7 set in all but the last.
unfoldable pub shortest : ℕ → List ℕ
shortest n = divided (λ m. m ∷ []) (λ m rest. (m % 128 + 128) ∷ rest) n n

-- A number was read from a padded form: it is longer than the shortest form of its value.
unfoldable pub padded : Reading → Bool
padded r = ltb (uleb_len r.value) r.len

-- What reading a number tells: the number, how many bytes its form takes, and whether that form is the shortest.
pub record NumberRead : Type 0 where
  pub value : ℕ
  pub len : ℕ
  pub shortest : Bool

-- The same of a reading.
abbrev pub number_read : Reading → NumberRead
number_read r = record { value = r.value; len = r.len; shortest = not (padded r) }

-- 1 where a test holds, else 0.
abbrev pub one : Bool → ℕ
one test = cond test 1 0

-- How many of some bytes are 0.
unfoldable pub zeros : List ℕ → ℕ
zeros [] = 0
zeros (b ∷ bs) = one (eqb b 0) + zeros bs

-- Writing a number where there is room for some bytes: the length of its shortest form, or refused where that is longer.
unfoldable pub write_uleb : ℕ → ℕ → Answer ℕ
write_uleb room n = refuse_if (ltb room (uleb_len n)) does_not_fit (accepted (uleb_len n))

-- What the destination holds afterwards: the shortest form at its start, or what it held where that doesn't fit.
unfoldable pub after_write : List ℕ → ℕ → List ℕ
after_write dst n = cond (ltb (length dst) (uleb_len n)) dst (overwrite dst 0 (shortest n))
