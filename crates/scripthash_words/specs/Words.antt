-- Streams read by words: what their steps promise each other. A form's word is its first four bytes.
use Rattle.std.specs.Prelude.{ℕ, zero, suc, ◌+◌, ◌-◌, ◌*◌, ◌/◌, ◌%◌, ◌^◌, ◌≤◌, ◌<◌, Bool, true, cond, not, ◌||◌, List, [], ◌∷◌, ◌++◌, ◌≡◌, ltb, length, get_or, take, drop}
use Rattle.buffer.specs.Bytes.{overwrite}
use Rattle.buffer.specs.LittleEndian.{little_endian}
use Rattle.error.specs.Refusal.{accepted}
use Rattle.compact.specs.Uleb128.{goes_on, is_form, form_at}
use Rattle.scripthash_stream.specs.Stream.{next_number, last_from, scan_from}

-- ---- where forms start

-- How many forms a byte ends: one, or none where it goes on.
abbrev pub end_one : ℕ → ℕ
end_one b = cond (goes_on b) 0 1

-- The word at the start of some bytes; where fewer than four are left, those missing count as 0.
unfoldable pub four_bytes : List ℕ → ℕ
four_bytes bs = little_endian (take 4 bs)

-- The words of the forms that start within some bytes. Whether one starts at the first is given; any other starts behind a byte that ends
-- one.
unfoldable pub start_words : Bool → List ℕ → List ℕ
start_words starts [] = []
start_words starts (b ∷ bs) = let rest = start_words (not (goes_on b)) bs in cond starts (four_bytes (b ∷ bs) ∷ rest) rest

-- Whether the byte before a place ends a form, so that one starts there.
abbrev pub starts_at : List ℕ → ℕ → Bool
starts_at bs i = not (goes_on (get_or bs (i - 1) 0))

-- The words of the forms that start at a place or behind it.
abbrev pub words_at : List ℕ → ℕ → List ℕ
words_at bs i = start_words (starts_at bs i) (drop i bs)

-- The starts between two places were found: a list begins with their words, and with those from the second place on they are all.
pub record Found (bs : List ℕ) (from i s : ℕ) (words : List ℕ) : Type 0 where
  pub whole : words_at bs from ≡ take s words ++ words_at bs i

-- Some bytes begin with n forms, each of which ends.
unfoldable pub WholeForms : ℕ → List ℕ → Type 0
WholeForms zero bs = Unit {0}
WholeForms (suc n) bs = (is_form (form_at bs) ≡ true) × WholeForms n (drop (length (form_at bs)) bs)

-- How many bytes n forms take.
unfoldable pub forms_len : ℕ → List ℕ → ℕ
forms_len zero bs = 0
forms_len (suc n) bs = length (form_at bs) + forms_len n (drop (length (form_at bs)) bs)

-- ---- what words hold

-- One of a word's four bytes ends a form.
unfoldable pub has_end : ℕ → Bool
has_end x = ltb (x % 256) 128 || (ltb (x / 256 % 256) 128 || (ltb (x / 65536 % 256) 128 || ltb (x / 16777216 % 256) 128))

-- The value of a word's form, where the form ends within the word.
unfoldable pub value_in : ℕ → ℕ
value_in x =
    cond (ltb (x % 256) 128) (x % 128)
    (cond (ltb (x / 256 % 256) 128) (x % 128 + x / 256 % 128 * 128)
    (cond (ltb (x / 65536 % 256) 128) (x % 128 + x / 256 % 128 * 128 + x / 65536 % 128 * 16384)
    (x % 128 + x / 256 % 128 * 128 + x / 65536 % 128 * 16384 + x / 16777216 % 128 * 2097152)))

-- The same of each of some words.
unfoldable pub values_in : List ℕ → List ℕ
values_in [] = []
values_in (x ∷ xs) = value_in x ∷ values_in xs

-- Each of some words ends its form.
unfoldable pub AllEnded : List ℕ → Type 0
AllEnded [] = Unit {0}
AllEnded (x ∷ xs) = (has_end x ≡ true) × AllEnded xs

-- Each of some differences is above 0.
unfoldable pub AllAbove : List ℕ → Type 0
AllAbove [] = Unit {0}
AllAbove (d ∷ ds) = (0 < d) × AllAbove ds

-- Each of n bytes from a place on is a form by itself, and above 0.
abbrev pub OnesAt : List ℕ → ℕ → ℕ → Type 0
OnesAt bs from n = (i : ℕ) → i < n → (0 < get_or bs (from + i) 0) × (get_or bs (from + i) 0 < 128)

-- ---- what they add up to

-- The numbers behind prev that differences lead to, one after the other.
unfoldable pub running_from : ℕ → List ℕ → List ℕ
running_from prev [] = []
running_from prev (d ∷ ds) = (prev + d) ∷ running_from (prev + d) ds

-- The sum of some differences.
unfoldable pub sum_of : List ℕ → ℕ
sum_of [] = 0
sum_of (d ∷ ds) = d + sum_of ds

-- What is told of a stream's first number: nothing where it takes 0 bytes, else the number, and that a form ends with its bytes.
pub record FirstNumber (fk len : ℕ) (bs : List ℕ) : Type 0 where
  pub below : fk < 2 ^ 63
  pub within : len ≤ length bs
  pub ends : 0 < len → get_or bs (len - 1) 0 < 128
  pub next : 0 < len → next_number 0 bs ≡ accepted (record { value = fk; len = len })

-- A list is filled from one state to the next: what is left to fill then gives what was left before, and if each word left then ends its
-- form, so did those before.
pub record Filling (bs : List ℕ) (i sum left : ℕ) (out : List ℕ) (at i' sum' left' : ℕ) (out' : List ℕ) (at' : ℕ) : Type 0 where
  pub ends : AllEnded (take left' (words_at bs i')) → AllEnded (take left (words_at bs i))
  pub writes : overwrite out' at' (running_from sum' (values_in (take left' (words_at bs i'))))
      ≡ overwrite out at (running_from sum (values_in (take left (words_at bs i))))

-- A try at reading n numbers behind prev, from a place on, to a place of a list: it tells 0 and leaves the list, or the place behind their
-- forms; then they scan, the last is below a limit, and the list holds them.
pub data RestRead (told : ℕ) (bs : List ℕ) (from prev n top : ℕ) (out out' : List ℕ) (at : ℕ) : Type 0 where
  not_read : told ≡ 0 → out' ≡ out → RestRead told bs from prev n top out out' at
  rest_read : (ns : List ℕ) (taken : ℕ) → 0 < told → scan_from prev n (drop from bs) ≡ accepted (record { numbers = ns; taken = taken })
      → from + taken ≡ told → last_from prev ns < top → out' ≡ overwrite out at ns → RestRead told bs from prev n top out out' at
