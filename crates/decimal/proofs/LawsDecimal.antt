-- Reading a number from text: a number that the library displays, or `io` prints, is read back, and nothing but a number is read. Assumes nothing.
use Prim.Native.Nat.{ℕ, zero, suc, ◌+◌, ◌-◌, ◌*◌, ◌/◌, ◌%◌, ◌^◌, ◌≤◌, ◌<◌}
use mathlib.Core.Bool.{Bool, true, false, cond, ◌&&◌, and_assoc}
use mathlib.Core.List.{List, [], ◌∷◌, ◌++◌}
use mathlib.Core.Path.{◌≡◌, refl, sym, ap, ◌∙◌}
use native.Mathlib.Nat.{pow-suc}
use native.Mathlib.Numerals.{add-one}
use native.Mathlib.Omega.{arith}
use borrow.Author.Tests.{lt-ltb, le-ltb, le-leb, ltb-true}
use lib.Dec.{ltb}
use lib.ListN.{length, drop, get_or, drop_of_length-le}
use lib.Seq.{drop-cons}
use Rattle.std.specs.Prelude.{Ok, Err, IsTrue, ◌↔◌, EachIndex}
use Rattle.std.specs.Fmt.{decimal}
use Rattle.std.proofs.lemmas.Bool.{and_parts}
use Rattle.std.proofs.lemmas.Fmt.{decimal_by_steps}
use Rattle.io.specs.Digits.{last_digits, hex_digit_ascii, IsDigitCount}
use Rattle.decimal.specs.Decimal.{is_digit, all_digits, is_number, value_from, value_of, in64_bits, read_decimal}
use Rattle.decimal.specs.declared.DecimalError.TheVariants.{NotANumber, TooLarge}

-- ---- digits one by one

-- the digits from an index on
pub digits_step : (bs : List ℕ) (i : ℕ) → i < length bs → all_digits (drop i bs) ≡ is_digit (get_or bs i 0) && all_digits (drop (i + 1) bs)
unfolding all_digits
digits_step bs i h = rw (add-one i, drop-cons bs i 0 h)

-- each byte is a digit just where every one is
each_digit : (bs : List ℕ) → ((k : ℕ) → k < length bs → is_digit (get_or bs k 0) ≡ true) → all_digits bs ≡ true
unfolding all_digits
each_digit [] h = refl
each_digit (b ∷ bs) h =
    let here : is_digit b ≡ true = h 0 (omega arith) in
    let behind : all_digits bs ≡ true = each_digit bs (λ k l. h (suc k) (omega arith)) in
    rw (here, behind)

digit_at : (bs : List ℕ) → all_digits bs ≡ true → (k : ℕ) → k < length bs → is_digit (get_or bs k 0) ≡ true
unfolding all_digits
digit_at [] e k l = absurd (omega arith)
digit_at (b ∷ bs) e zero l = (and_parts (is_digit b) (all_digits bs) e).0
digit_at (b ∷ bs) e (suc k) l = digit_at bs (and_parts (is_digit b) (all_digits bs) e).1 k (omega arith)

none_but : (bs : List ℕ) → (EachIndex bs (λ k. is_digit (get_or bs k 0) ≡ true) → false ≡ true) → (t : Bool) → all_digits bs ≡ t → false ≡ t
none_but bs h true e = h (λ k l. digit_at bs e k l)
none_but bs h false e = refl

pub digits_are : (bs : List ℕ) (r : Bool) → (IsTrue r ↔ EachIndex bs (λ k. is_digit (get_or bs k 0) ≡ true)) → r ≡ all_digits bs
digits_are bs true h = sym (each_digit bs (h.0 refl))
digits_are bs false h = none_but bs h.1 (all_digits bs) refl

-- their value
pub value_step : (bs : List ℕ) (v i : ℕ) → i < length bs
    → value_from v (drop i bs) ≡ value_from (v * 10 + (get_or bs i 0 - 48)) (drop (i + 1) bs)
unfolding value_from
value_step bs v i h = rw (add-one i, drop-cons bs i 0 h)

-- a value is at least that of the digits before
pub value_grows : (v : ℕ) (bs : List ℕ) → v ≤ value_from v bs
unfolding value_from
value_grows v [] = omega arith
value_grows v (b ∷ bs) = let more : v * 10 + (b - 48) ≤ value_from (v * 10 + (b - 48)) bs = value_grows (v * 10 + (b - 48)) bs in omega arith

-- ---- a number that fits, and one that doesn't

pub fits : (n : ℕ) → n < 2 ^ 64 → in64_bits n ≡ Ok n
unfolding in64_bits
fits n h = rw (lt-ltb n (2 ^ 64) h)

pub passes : (n : ℕ) → 2 ^ 64 ≤ n → in64_bits n ≡ Err TooLarge
unfolding in64_bits
passes n h = rw (le-ltb n (2 ^ 64) h)

-- a value that passes 64 bits with its next digit passes them with all
pub too_large : (word : List ℕ) (v i : ℕ) → value_from v (drop i word) ≡ value_of word → i < length word
    → 2 ^ 64 ≤ v * 10 + (get_or word i 0 - 48) → in64_bits (value_of word) ≡ Err TooLarge
too_large word v i e l m =
    let more = value_grows (v * 10 + (get_or word i 0 - 48)) (drop (i + 1) word) in
    passes (value_of word) (omega (arith, sym (value_step word v i l) ∙ e, more))

-- behind the last byte the value is that of all
pub value_ends : (word : List ℕ) (v i : ℕ) → length word ≤ i → value_from v (drop i word) ≡ value_of word → v ≡ value_of word
unfolding value_from
value_ends word v i h e = ap (value_from v) (sym (drop_of_length-le word h)) ∙ e

-- ---- numbers that were printed

-- digits behind digits
digits_append : (xs ys : List ℕ) → all_digits (xs ++ ys) ≡ all_digits xs && all_digits ys
unfolding all_digits
digits_append [] ys = refl
digits_append (x ∷ xs) ys = ap (λ (t : Bool). is_digit x && t) (digits_append xs ys)
    ∙ sym (and_assoc (is_digit x) (all_digits xs) (all_digits ys))

value_append : (v : ℕ) (xs ys : List ℕ) → value_from v (xs ++ ys) ≡ value_from (value_from v xs) ys
unfolding value_from
value_append v [] ys = refl
value_append v (x ∷ xs) ys = value_append (v * 10 + (x - 48)) xs ys

-- the text of a digit
glyph_is : (d : ℕ) → d < 10 → hex_digit_ascii d ≡ 48 + d
glyph_is d h = rw (lt-ltb d 10 h)

glyph_digit : (d : ℕ) → d < 10 → is_digit (hex_digit_ascii d) ≡ true
glyph_digit d h = rw (glyph_is d h, le-leb 48 (48 + d) (omega arith), le-leb (48 + d) 57 (omega arith))

-- printed digits are digits, whatever the number
printed_digits : (k n : ℕ) → all_digits (last_digits 10 k n) ≡ true
unfolding all_digits
printed_digits zero n = refl
printed_digits (suc k) n =
    digits_append (last_digits 10 k (n / 10)) (hex_digit_ascii (n % 10) ∷ []) ∙ rw (printed_digits k (n / 10), glyph_digit (n % 10) (omega arith))

-- and their value is the number, where there are enough of them
printed_value : (k n : ℕ) → n < 10 ^ k → value_of (last_digits 10 k n) ≡ n
unfolding value_from
printed_value zero n h = omega arith
printed_value (suc k) n h =
    let up : 10 ^ suc k ≡ 10 ^ k * 10 = pow-suc 10 k in
    let rest : value_of (last_digits 10 k (n / 10)) ≡ n / 10 = printed_value k (n / 10) (omega arith) in
    let last : hex_digit_ascii (n % 10) ≡ 48 + n % 10 = glyph_is (n % 10) (omega arith) in
    value_append 0 (last_digits 10 k (n / 10)) (hex_digit_ascii (n % 10) ∷ []) ∙ rw (rest, last) (omega arith)

-- some digits and one more are a number
snoc_number : (xs : List ℕ) (x : ℕ) → is_number (xs ++ (x ∷ [])) ≡ all_digits (xs ++ (x ∷ []))
unfolding is_number
snoc_number [] x = refl
snoc_number (y ∷ xs) x = refl

printed_number : (k n : ℕ) → 1 ≤ k → is_number (last_digits 10 k n) ≡ true
printed_number zero n h = absurd (omega arith)
printed_number (suc k) n h = snoc_number (last_digits 10 k (n / 10)) (hex_digit_ascii (n % 10)) ∙ printed_digits (suc k) n

-- A number that `io` prints is read back: the fewest digits that hold it, and as many more zeros before them as one likes.
pub read_padded : (n k : ℕ) → n < 2 ^ 64 → 1 ≤ k → n < 10 ^ k → read_decimal (last_digits 10 k n) ≡ Ok n
unfolding read_decimal
read_padded n k h l m = rw (printed_number k n l, printed_value k n m, fits n h)

pub read_printed : (n k : ℕ) → n < 2 ^ 64 → IsDigitCount 10 1 n k → read_decimal (last_digits 10 k n) ≡ Ok n
read_printed n k h f = read_padded n k h f.0 f.1

-- what is known of the text of a number
Shown : ℕ → List ℕ → Type 0
Shown n bs = (all_digits bs ≡ true) × (is_number bs ≡ true) × (value_of bs ≡ n)

shown_digit : (d : ℕ) → d < 10 → is_digit (48 + d) ≡ true
shown_digit d h = rw (le-leb 48 (48 + d) (omega arith), le-leb (48 + d) 57 (omega arith))

shown_one : (n : ℕ) → n < 10 → Shown n ((48 + n) ∷ [])
unfolding Shown all_digits is_number value_from
shown_one n h =
    let digit : is_digit (48 + n) ≡ true = shown_digit n h in
    (rw digit, rw digit, omega arith)

shown_more : (n : ℕ) (bs : List ℕ) → 10 ≤ n → Shown (n / 10) bs → Shown n (bs ++ ((48 + n % 10) ∷ []))
unfolding Shown all_digits value_from
shown_more n bs h p =
    let digit : is_digit (48 + n % 10) ≡ true = shown_digit (n % 10) (omega arith) in
    let digits : all_digits (bs ++ ((48 + n % 10) ∷ [])) ≡ true = digits_append bs ((48 + n % 10) ∷ []) ∙ rw (p.0, digit) in
    let rest : value_of bs ≡ n / 10 = p.2 in
    (digits, snoc_number bs (48 + n % 10) ∙ digits, value_append 0 bs ((48 + n % 10) ∷ []) ∙ rw rest (omega arith))

-- A number that the library displays is read back.
pub read_shown : (n : ℕ) → n < 2 ^ 64 → read_decimal (decimal n) ≡ Ok n
unfolding read_decimal Shown
read_shown n h =
    let p = decimal_by_steps Shown shown_one shown_more n h in
    rw (p.1, p.2, fits n h)

-- ---- what isn't a number is refused

-- what a word is that reads as a number
pub record Reads (bs : List ℕ) (n : ℕ) : Type 0 where
  pub number : is_number bs ≡ true
  pub value : value_of bs ≡ n
  pub fits : n < 2 ^ 64

read_fitting : (v n : ℕ) (t : Bool) → ltb v (2 ^ 64) ≡ t → cond t (Ok v) (Err TooLarge) ≡ Ok n → (v ≡ n) × (v < 2 ^ 64)
read_fitting v n true e f = (cc, ltb-true v (2 ^ 64) e)
read_fitting v n false e f = let z : ◌≡◌ {A = ℕ} 0 1 = cc in absurd (omega arith)

pub read_number : (bs : List ℕ) (n : ℕ) (t : Bool) → is_number bs ≡ t → cond t (in64_bits (value_of bs)) (Err NotANumber) ≡ Ok n → Reads bs n
unfolding in64_bits
read_number bs n true e f =
    let v = read_fitting (value_of bs) n (ltb (value_of bs) (2 ^ 64)) refl f in
    record { number = e; value = v.0; fits = rw v.0 at v.1 }
read_number bs n false e f = let z : ◌≡◌ {A = ℕ} 0 1 = cc in absurd (omega arith)

-- A word is read as a number only if it is one, of that value, which 64 bits hold.
pub read_told : (bs : List ℕ) (n : ℕ) → read_decimal bs ≡ Ok n → Reads bs n
unfolding read_decimal
read_told bs n e = read_number bs n (is_number bs) refl e
