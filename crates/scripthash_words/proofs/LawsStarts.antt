-- Where forms start: the words that are kept one after the other, and the words by their bytes. Assumes nothing.
use Prim.Native.Nat.{ℕ, zero, suc, ◌+◌, ◌-◌, ◌*◌, ◌≤◌, ◌<◌}
use mathlib.Core.Bool.{true, false, cond, not}
use mathlib.Core.List.{List, [], ◌∷◌, ◌++◌, append_assoc}
use mathlib.Core.Logic.{⊎_elim}
use mathlib.Core.Path.{◌≡◌, refl, ap, ◌∙◌}
use native.Mathlib.Nat.{add-zero}
use native.Mathlib.Numerals.{add-one}
use native.Mathlib.Omega.{arith}
use borrow.Author.Tests.{lt-leb, le-leb}
use lib.ListN.{length, take, drop, get_or, set}
use lib.Seq.{take-suc-set, take-set-le, get_or-drop}
use Rattle.buffer.proofs.LawsOrder.{lt_or_ge}
use Rattle.compact.specs.Uleb128.{goes_on}
use Rattle.scripthash_stream.proofs.LawsStream.{front}
use Rattle.scripthash_words.specs.Words.{end_one, four_bytes, start_words, starts_at, words_at, Found}

-- at a place, a word or none, and those behind it
starts_next : (bs : List ℕ) (i : ℕ) → starts_at bs (i + 1) ≡ not (goes_on (get_or bs i 0))
starts_next bs i = let e : i + 1 - 1 ≡ i = omega arith in ap (λ (x : ℕ). not (goes_on (get_or bs x 0))) e

words_step : (bs : List ℕ) (i : ℕ) → i < length bs
    → words_at bs i ≡ cond (starts_at bs i) (four_bytes (drop i bs) ∷ words_at bs (i + 1)) (words_at bs (i + 1))
unfolding start_words
words_step bs i h = rw (starts_next bs i, front bs i h)

pub found_next : (bs : List ℕ) (from i s : ℕ) (words : List ℕ) → Found bs from i s words → i < length bs → s < length words
    → Found bs from (i + 1) (s + end_one (get_or bs (i - 1) 0)) (set words s (four_bytes (drop i bs)))
found_next bs from i s words c h r =
    ⊎_elim
    (λ (p : get_or bs (i - 1) 0 < 128).
    let e : goes_on (get_or bs (i - 1) 0) ≡ false = lt-leb 128 _ p in
    let step : words_at bs i ≡ four_bytes (drop i bs) ∷ words_at bs (i + 1) = words_step bs i h ∙ (rw e) in
    record {
      whole = c.whole ∙ ap (λ (l : List ℕ). take s words ++ l) step
          ∙ (rw (e, add-one s, take-suc-set words s (four_bytes (drop i bs)) r, append_assoc));
    })
    (λ (q : 128 ≤ get_or bs (i - 1) 0).
    let e : goes_on (get_or bs (i - 1) 0) ≡ true = le-leb 128 _ q in
    let step : words_at bs i ≡ words_at bs (i + 1) = words_step bs i h ∙ (rw e) in
    record {
      whole = c.whole ∙ ap (λ (l : List ℕ). take s words ++ l) step
          ∙ (rw (e, add-zero s, take-set-le s words s (four_bytes (drop i bs)) (omega arith)));
    })
    (lt_or_ge (get_or bs (i - 1) 0) 128)

-- how many start from the place before on
pub count_before : (bs : List ℕ) (i : ℕ) → 0 < i → i ≤ length bs
    → length (words_at bs (i - 1)) ≡ length (words_at bs i) + end_one (get_or bs (i - 1 - 1) 0)
count_before bs i p h =
    let is : i - 1 + 1 ≡ i = omega arith in
    let step = rw is at (words_step bs (i - 1) (omega arith)) in
    ⊎_elim (λ (q : get_or bs (i - 1 - 1) 0 < 128).
    let e : goes_on (get_or bs (i - 1 - 1) 0) ≡ false = lt-leb 128 _ q in
    let s : words_at bs (i - 1) ≡ four_bytes (drop (i - 1) bs) ∷ words_at bs i = step ∙ (rw e) in
    let z : end_one (get_or bs (i - 1 - 1) 0) ≡ 1 = rw e in
    omega (arith, ap length s, z))
    (λ (q : 128 ≤ get_or bs (i - 1 - 1) 0).
    let e : goes_on (get_or bs (i - 1 - 1) 0) ≡ true = le-leb 128 _ q in
    let s : words_at bs (i - 1) ≡ words_at bs i = step ∙ (rw e) in
    let z : end_one (get_or bs (i - 1 - 1) 0) ≡ 0 = rw e in
    omega (arith, ap length s, z))
    (lt_or_ge (get_or bs (i - 1 - 1) 0) 128)

-- ---- a word by its bytes

pub past_end : (bs : List ℕ) (i : ℕ) → length bs ≤ i → get_or bs i 0 ≡ 0
past_end [] i h = refl
past_end (b ∷ bs) zero h = absurd (omega arith)
past_end (b ∷ bs) (suc i) h = past_end bs i (omega arith)

bytes_of : (bs : List ℕ) → four_bytes bs ≡ get_or bs 0 0 + get_or bs 1 0 * 256 + get_or bs 2 0 * 65536 + get_or bs 3 0 * 16777216
unfolding four_bytes
bytes_of [] = refl
bytes_of (a ∷ []) = omega arith
bytes_of (a ∷ b ∷ []) = omega arith
bytes_of (a ∷ b ∷ c ∷ []) = omega arith
bytes_of (a ∷ b ∷ c ∷ d ∷ bs) = omega arith

pub word_bytes : (bs : List ℕ) (i : ℕ)
    → four_bytes (drop i bs) ≡ get_or bs i 0 + get_or bs (i + 1) 0 * 256 + get_or bs (i + 2) 0 * 65536 + get_or bs (i + 3) 0 * 16777216
word_bytes bs i =
    let z : i + 0 ≡ i = omega arith in
    bytes_of (drop i bs) ∙ (rw (get_or-drop i bs 0 0, get_or-drop i bs 1 0, get_or-drop i bs 2 0, get_or-drop i bs 3 0, z))
