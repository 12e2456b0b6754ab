-- What words hold: a word's value is that of its form, and what the loops over words keep. Assumes nothing.
use Prim.Native.Nat.{ℕ, suc, ◌+◌, ◌-◌, ◌*◌, ◌/◌, ◌%◌, ◌^◌, ◌≤◌, ◌<◌}
use mathlib.Core.Bool.{true}
use mathlib.Core.List.{List, [], ◌∷◌, ◌++◌}
use mathlib.Core.Logic.{⊎_elim}
use mathlib.Core.Path.{◌≡◌, refl, sym, ap, ◌∙◌}
use native.Mathlib.Nat.{mul-suc}
use native.Mathlib.Numerals.{add-one}
use native.Mathlib.Omega.{arith}
use borrow.Author.Tests.{lt-ltb, le-ltb, ltb-true}
use lib.Bits.{bit_and, and_high, and_block}
use lib.ListN.{length, take, drop, get_or, set}
use lib.Seq.{take-suc-set, get_or-drop, take-add, drop-set-lt, drop-drop}
use Rattle.buffer.specs.Bytes.{overwrite}
use Rattle.buffer.proofs.LawsBytes.{overwrite_nil, overwrite_step}
use Rattle.buffer.specs.LittleEndian.{AreBytes}
use Rattle.buffer.proofs.LawsOrder.{lt_or_ge}
use Rattle.compact.specs.Uleb128.{piece, is_form, form_at, value}
use Rattle.scripthash_stream.specs.Stream.{last_from}
use Rattle.scripthash_stream.proofs.LawsStream.{front}
use Rattle.scripthash_words.specs.Words.{four_bytes, has_end, value_in, values_in, AllEnded, AllAbove, running_from, sum_of}
use Rattle.scripthash_words.proofs.LawsForm.{no_form, form_last, form_on, rest_form}

-- ---- a word's value

-- the low seven bits of a number are those of its low byte
low_piece : (x b : ℕ) → x % 256 ≡ b → x % 128 ≡ piece b
low_piece x b e = omega (arith, e)

module _ (a b c d : ℕ) (p : a < 256) (q : b < 256) (r : c < 256) (s : d < 256) where
  abbrev four : ℕ
  four = a + 256 * (b + 256 * (c + 256 * (d + 256 * 0)))

  at_0 : four % 256 ≡ a
  at_0 = omega arith

  at_1 : four / 256 % 256 ≡ b
  at_1 = omega arith

  at_2 : four / 65536 % 256 ≡ c
  at_2 = omega arith

  at_3 : four / 16777216 % 256 ≡ d
  at_3 = omega arith

  of_one : a < 128 → value_in four ≡ piece a + 128 * 0
  unfolding value_in
  of_one h = rw (low_piece four a at_0, at_0, lt-ltb a 128 h) (omega arith)

  of_two : 128 ≤ a → b < 128 → value_in four ≡ piece a + 128 * (piece b + 128 * 0)
  unfolding value_in
  of_two g h = rw (low_piece four a at_0, low_piece (four / 256) b at_1, at_0, at_1, le-ltb a 128 g, lt-ltb b 128 h) (omega arith)

  of_three : 128 ≤ a → 128 ≤ b → c < 128 → value_in four ≡ piece a + 128 * (piece b + 128 * (piece c + 128 * 0))
  unfolding value_in
  of_three g h k =
      rw (
        low_piece four a at_0,
        low_piece (four / 256) b at_1,
        low_piece (four / 65536) c at_2,
        at_0,
        at_1,
        at_2,
        le-ltb a 128 g,
        le-ltb b 128 h,
        lt-ltb c 128 k,
      ) (omega arith)

  of_four : 128 ≤ a → 128 ≤ b → 128 ≤ c
      → value_in four ≡ piece a + 128 * (piece b + 128 * (piece c + 128 * (piece d + 128 * 0)))
  unfolding value_in
  of_four g h k =
      rw (
        low_piece four a at_0,
        low_piece (four / 256) b at_1,
        low_piece (four / 65536) c at_2,
        low_piece (four / 16777216) d at_3,
        at_0,
        at_1,
        at_2,
        le-ltb a 128 g,
        le-ltb b 128 h,
        le-ltb c 128 k,
      ) (omega arith)

  pub last_ends : 128 ≤ a → 128 ≤ b → 128 ≤ c → has_end four ≡ true → d < 128
  unfolding has_end
  last_ends g h k e = ltb-true d 128 (rw (at_0, at_1, at_2, at_3, le-ltb a 128 g, le-ltb b 128 h, le-ltb c 128 k) at e)

-- values of forms of one byte, and of one byte more
value_last : (b : ℕ) (bs : List ℕ) → b < 128 → value (form_at (b ∷ bs)) ≡ piece b + 128 * 0
unfolding value
value_last b bs h = rw (form_last b bs h)

value_on : (b : ℕ) (bs : List ℕ) → 128 ≤ b → value (form_at (b ∷ bs)) ≡ piece b + 128 * value (form_at bs)
unfolding value
value_on b bs h = rw (form_on b bs h)

-- the value in a word where its form ends is that of the form at the start of the bytes
pub word_value : (bs : List ℕ) → AreBytes bs → is_form (form_at bs) ≡ true → has_end (four_bytes bs) ≡ true
    → value_in (four_bytes bs) ≡ value (form_at bs)
unfolding four_bytes
word_value [] l f e = absurd (no_form f)
word_value (a ∷ []) l f e =
    ⊎_elim (λ (p : a < 128). of_one a 0 0 0 (l 0 (omega arith)) (omega arith) (omega arith) (omega arith) p ∙ sym (value_last a [] p))
    (λ (p : 128 ≤ a). absurd (no_form (rest_form a [] p f))) (lt_or_ge a 128)
word_value (a ∷ b ∷ []) l f e =
    let la : a < 256 = l 0 (omega arith) in
    let lb : b < 256 = l 1 (omega arith) in
    ⊎_elim (λ (p : a < 128). of_one a b 0 0 la lb (omega arith) (omega arith) p ∙ sym (value_last a _ p))
    (λ (p : 128 ≤ a).
    ⊎_elim (λ (q : b < 128). of_two a b 0 0 la lb (omega arith) (omega arith) p q ∙ sym (rw (value_on a (b ∷ []) p, value_last b [] q)))
    (λ (q : 128 ≤ b). absurd (no_form (rest_form b [] q (rest_form a (b ∷ []) p f)))) (lt_or_ge b 128)) (lt_or_ge a 128)
word_value (a ∷ b ∷ c ∷ []) l f e =
    let la : a < 256 = l 0 (omega arith) in
    let lb : b < 256 = l 1 (omega arith) in
    let lc : c < 256 = l 2 (omega arith) in
    ⊎_elim (λ (p : a < 128). of_one a b c 0 la lb lc (omega arith) p ∙ sym (value_last a _ p))
    (λ (p : 128 ≤ a).
    ⊎_elim (λ (q : b < 128). of_two a b c 0 la lb lc (omega arith) p q ∙ sym (rw (value_on a (b ∷ c ∷ []) p, value_last b (c ∷ []) q)))
    (λ (q : 128 ≤ b).
    ⊎_elim (λ (r : c < 128). of_three a b c 0 la lb lc (omega arith) p q r
    ∙ sym (rw (value_on a (b ∷ c ∷ []) p, value_on b (c ∷ []) q, value_last c [] r)))
    (λ (r : 128 ≤ c). absurd (no_form (rest_form c [] r (rest_form b (c ∷ []) q (rest_form a (b ∷ c ∷ []) p f))))) (lt_or_ge c 128))
    (lt_or_ge b 128)) (lt_or_ge a 128)
word_value (a ∷ b ∷ c ∷ d ∷ bs) l f e =
    let la : a < 256 = l 0 (omega arith) in
    let lb : b < 256 = l 1 (omega arith) in
    let lc : c < 256 = l 2 (omega arith) in
    let ld : d < 256 = l 3 (omega arith) in
    ⊎_elim (λ (p : a < 128). of_one a b c d la lb lc ld p ∙ sym (value_last a _ p))
    (λ (p : 128 ≤ a).
    ⊎_elim (λ (q : b < 128). of_two a b c d la lb lc ld p q ∙ sym (rw (value_on a (b ∷ c ∷ d ∷ bs) p, value_last b (c ∷ d ∷ bs) q)))
    (λ (q : 128 ≤ b).
    ⊎_elim (λ (r : c < 128). of_three a b c d la lb lc ld p q r
    ∙ sym (rw (value_on a (b ∷ c ∷ d ∷ bs) p, value_on b (c ∷ d ∷ bs) q, value_last c (d ∷ bs) r)))
    (λ (r : 128 ≤ c).
    let s = last_ends a b c d la lb lc ld p q r e in
    of_four a b c d la lb lc ld p q r
    ∙ sym (rw (value_on a (b ∷ c ∷ d ∷ bs) p, value_on b (c ∷ d ∷ bs) q, value_on c (d ∷ bs) r, value_last d bs s))) (lt_or_ge c 128))
    (lt_or_ge b 128)) (lt_or_ge a 128)

-- a byte that goes on has its top bit, and so have all four of a word whose form doesn't end in it
top_bit : (b : ℕ) → 128 ≤ b → b < 256 → bit_and b 128 ≡ 128
top_bit b g h = and_high b 1 7 ∙ (let e : b / 128 % 2 ≡ 1 = omega arith in rw e)

tops : (x b : ℕ) (m : ℕ) → x % 256 ≡ b → 128 ≤ b → b < 256 → bit_and x (m * 2 ^ 8 + 128) ≡ bit_and (x / 256) m * 256 + 128
tops x b m e g h =
    let is : x ≡ x / 256 * 2 ^ 8 + b = omega (arith, e) in
    ap (λ (y : ℕ). bit_and y (m * 2 ^ 8 + 128)) is ∙ and_block 8 (x / 256) m b 128 (omega arith) (omega arith)
    ∙ (rw (top_bit b g h))

top_all : (x : ℕ) → 128 ≤ x % 256 → 128 ≤ x / 256 % 256 → 128 ≤ x / 65536 % 256 → 128 ≤ x / 16777216 % 256 → x < 2 ^ 32
    → bit_and x 2155905152 ≡ 2155905152
top_all x p q r s h =
    let two : x / 256 / 256 ≡ x / 65536 = omega arith in
    let three : x / 65536 / 256 ≡ x / 16777216 = omega arith in
    let top : x / 16777216 < 256 = omega arith in
    let a = tops x (x % 256) 8421504 refl p (omega arith) in
    let b = rw two at (tops (x / 256) (x / 256 % 256) 32896 refl q (omega arith)) in
    let c = rw three at (tops (x / 65536) (x / 65536 % 256) 128 refl r (omega arith)) in
    let d = top_bit (x / 16777216) (omega arith) top in
    omega (arith, a, b, c, d)

-- so one of them ends a form where a top bit is missing
pub some_end : (x : ℕ) → x < 2 ^ 32 → (bit_and x 2155905152 ≡ 2155905152 → ⊥) → has_end x ≡ true
unfolding has_end
some_end x l n =
    ⊎_elim (λ (p : x % 256 < 128). rw (lt-ltb (x % 256) 128 p))
    (λ (p : 128 ≤ x % 256).
    ⊎_elim (λ (q : x / 256 % 256 < 128). rw (le-ltb (x % 256) 128 p, lt-ltb (x / 256 % 256) 128 q))
    (λ (q : 128 ≤ x / 256 % 256).
    ⊎_elim (λ (r : x / 65536 % 256 < 128). rw (le-ltb (x % 256) 128 p, le-ltb (x / 256 % 256) 128 q, lt-ltb (x / 65536 % 256) 128 r))
    (λ (r : 128 ≤ x / 65536 % 256).
    ⊎_elim (λ (s : x / 16777216 % 256 < 128).
    rw (le-ltb (x % 256) 128 p, le-ltb (x / 256 % 256) 128 q, le-ltb (x / 65536 % 256) 128 r, lt-ltb (x / 16777216 % 256) 128 s))
    (λ (s : 128 ≤ x / 16777216 % 256). absurd (n (top_all x p q r s l))) (lt_or_ge (x / 16777216 % 256) 128))
    (lt_or_ge (x / 65536 % 256) 128)) (lt_or_ge (x / 256 % 256) 128)) (lt_or_ge (x % 256) 128)

-- the value in a word by the byte that ends its form
pub value_one : (x : ℕ) → x % 256 < 128 → x % 128 ≡ value_in x
unfolding value_in
value_one x p = rw (lt-ltb (x % 256) 128 p)

pub value_two : (x : ℕ) → 128 ≤ x % 256 → x / 256 % 256 < 128 → x % 128 + x / 256 % 128 * 128 ≡ value_in x
unfolding value_in
value_two x p q = rw (le-ltb (x % 256) 128 p, lt-ltb (x / 256 % 256) 128 q)

pub value_three : (x : ℕ) → 128 ≤ x % 256 → 128 ≤ x / 256 % 256 → x / 65536 % 256 < 128
    → x % 128 + x / 256 % 128 * 128 + x / 65536 % 128 * 16384 ≡ value_in x
unfolding value_in
value_three x p q r = rw (le-ltb (x % 256) 128 p, le-ltb (x / 256 % 256) 128 q, lt-ltb (x / 65536 % 256) 128 r)

pub value_four : (x : ℕ) → 128 ≤ x % 256 → 128 ≤ x / 256 % 256 → 128 ≤ x / 65536 % 256
    → x % 128 + x / 256 % 128 * 128 + x / 65536 % 128 * 16384 + x / 16777216 % 128 * 2097152 ≡ value_in x
unfolding value_in
value_four x p q r = rw (le-ltb (x % 256) 128 p, le-ltb (x / 256 % 256) 128 q, le-ltb (x / 65536 % 256) 128 r)

-- ---- the loops over words

pub all_ended_more : (xs : List ℕ) (x : ℕ) → AllEnded xs → has_end x ≡ true → AllEnded (xs ++ (x ∷ []))
unfolding AllEnded
all_ended_more [] x a e = (e, tt)
all_ended_more (y ∷ xs) x a e = (a.0, all_ended_more xs x a.1 e)

pub all_above_more : (xs : List ℕ) (x : ℕ) → AllAbove xs → 0 < x → AllAbove (xs ++ (x ∷ []))
unfolding AllAbove
all_above_more [] x a p = (p, tt)
all_above_more (y ∷ xs) x a p = (a.0, all_above_more xs x a.1 p)

pub values_more : (xs : List ℕ) (x : ℕ) → values_in (xs ++ (x ∷ [])) ≡ values_in xs ++ (value_in x ∷ [])
unfolding values_in
values_more [] x = refl
values_more (y ∷ xs) x = ap (λ (l : List ℕ). value_in y ∷ l) (values_more xs x)

-- k words gave way to their values, and nothing bad was met
pub record Taken (before after : List ℕ) (k bad : ℕ) : Type 0 where
  pub same : drop k after ≡ drop k before
  pub values : bad ≡ 0 → AllEnded (take k before) × (take k after ≡ values_in (take k before)) × AllAbove (take k after)

pub taken_start : (ws : List ℕ) → Taken ws ws 0 0
unfolding AllEnded AllAbove values_in
taken_start ws = record { same = refl; values = λ e. (tt, refl, tt) }

here : (before after : List ℕ) (k : ℕ) → drop k after ≡ drop k before → get_or after k 0 ≡ get_or before k 0
here before after k e =
    let z : k + 0 ≡ k = omega arith in
    rw z at (sym (get_or-drop k after 0 0) ∙ ap (λ (l : List ℕ). get_or l 0 0) e ∙ get_or-drop k before 0 0)

pub take_more : (ws : List ℕ) (k : ℕ) → k < length ws → take (k + 1) ws ≡ take k ws ++ (get_or ws k 0 ∷ [])
take_more ws k h = take-add k 1 ws ∙ ap (λ (l : List ℕ). take k ws ++ take 1 l) (front ws k h)

pub taken_next : (before after : List ℕ) (k bad long zero-value : ℕ) → Taken before after k bad → k < length before
    → length after ≡ length before → (long ≡ 0 → has_end (get_or after k 0) ≡ true) → (zero-value ≡ 0 → 0 < value_in (get_or after k 0))
    → Taken before (set after k (value_in (get_or after k 0))) (k + 1) (bad + (long + zero-value))
taken_next before after k bad long zero-value t h l e p =
    let x = get_or after k 0 in
    let is : x ≡ get_or before k 0 = here before after k t.same in
    record {
      same = drop-set-lt (k + 1) after k (value_in x) (omega arith) ∙ sym (drop-drop 1 k after) ∙ ap (drop 1) t.same
          ∙ drop-drop 1 k before;
      values = λ z.
          let old = t.values (omega arith) in
          let ends : has_end (get_or before k 0) ≡ true = rw is at (e (omega arith)) in
          let all : take (k + 1) (set after k (value_in x)) ≡ take k after ++ (value_in x ∷ []) =
          ap (λ (j : ℕ). take j (set after k (value_in x))) (add-one k) ∙ take-suc-set after k (value_in x) (omega arith) in (
            rw (take_more before k h) (all_ended_more (take k before) (get_or before k 0) old.0 ends),
            all ∙ (rw (take_more before k h, values_more (take k before) (get_or before k 0), old.1, is)),
            rw all (all_above_more (take k after) (value_in x) old.2 (p (omega arith))),
          );
    }

-- k of n numbers were written: those left, written behind them, make the list that is promised, and its last number
pub record Summing (words : List ℕ) (n prev : ℕ) (out₀ : List ℕ) (at : ℕ) (out : List ℕ) (sum k : ℕ) : Type 0 where
  pub writes : overwrite out (at + k) (running_from sum (take (n - k) (drop k words))) ≡ overwrite out₀ at (running_from prev (take n words))
  pub last : last_from sum (running_from sum (take (n - k) (drop k words))) ≡ last_from prev (running_from prev (take n words))

pub summing_next : (words : List ℕ) (n prev : ℕ) (out₀ : List ℕ) (at : ℕ) (out : List ℕ) (sum k : ℕ)
    → Summing words n prev out₀ at out sum k
    → k < n → n ≤ length words → at + k < length out
    → Summing words n prev out₀ at (set out (at + k) (sum + get_or words k 0)) (sum + get_or words k 0) (k + 1)
unfolding running_from last_from
summing_next words n prev out₀ at out sum k m h l i =
    let more : n - k ≡ suc (n - (k + 1)) = omega arith in
    let place : at + (k + 1) ≡ at + k + 1 = omega arith in
    let split : take (n - k) (drop k words) ≡ get_or words k 0 ∷ take (n - (k + 1)) (drop (k + 1) words) = rw (
      more,
      front words k
          (omega arith),
    ) in
    let x = sum + get_or words k 0 in
    let rest = running_from x (take (n - (k + 1)) (drop (k + 1) words)) in
    let all : running_from sum (take (n - k) (drop k words)) ≡ x ∷ rest = ap (running_from sum) split in
    record {
      writes = (rw place (sym (overwrite_step out (at + k) x rest i))) ∙ (rw all at m.writes);
      last = rw all at m.last;
    }

pub summing_end : (words : List ℕ) (n prev : ℕ) (out₀ : List ℕ) (at : ℕ) (out : List ℕ) (sum k : ℕ) → Summing words n prev out₀ at out sum k
    → k ≡ n → (out ≡ overwrite out₀ at (running_from prev (take n words))) × (sum ≡ last_from prev (running_from prev (take n words)))
unfolding running_from last_from
summing_end words n prev out₀ at out sum k m e =
    let none : n - k ≡ 0 = omega arith in
    (sym (overwrite_nil out (at + k)) ∙ (rw none at m.writes), rw none at m.last)

-- the sum of differences from a place on is the one there, and the sum of those behind it
pub sum_front : (ds : List ℕ) (k : ℕ) → k < length ds → sum_of (drop k ds) ≡ get_or ds k 0 + sum_of (drop (k + 1) ds)
unfolding sum_of
sum_front ds k h = ap sum_of (front ds k h)

-- differences up to a limit add up to at most as many times that
pub sum_below : (most : ℕ) (ds : List ℕ) → ((i : ℕ) → i < length ds → get_or ds i 0 ≤ most) → sum_of ds ≤ most * length ds
unfolding sum_of
sum_below most [] h = omega arith
sum_below most (d ∷ ds) h =
    let first : d ≤ most = h 0 (omega arith) in
    omega (arith, first, sum_below most ds (λ i p. h (suc i) (omega arith)), mul-suc most (length ds))

-- a word's value is below 2 ^ 32
value_below : (x : ℕ) → value_in x < 2 ^ 32
value_below x =
    ⊎_elim (λ (p : x % 256 < 128). omega (arith, value_one x p))
    (λ (p : 128 ≤ x % 256).
    ⊎_elim (λ (q : x / 256 % 256 < 128). omega (arith, value_two x p q))
    (λ (q : 128 ≤ x / 256 % 256).
    ⊎_elim (λ (r : x / 65536 % 256 < 128). omega (arith, value_three x p q r))
    (λ (r : 128 ≤ x / 65536 % 256). omega (arith, value_four x p q r)) (lt_or_ge (x / 65536 % 256) 128)) (lt_or_ge (x / 256 % 256) 128))
    (lt_or_ge (x % 256) 128)

-- so the values of some words add up to at most 2 ^ 32 times as many
pub values_sum : (xs : List ℕ) → sum_of (values_in xs) ≤ 2 ^ 32 * length xs
unfolding sum_of values_in
values_sum [] = omega arith
values_sum (x ∷ xs) = omega (arith, value_below x, values_sum xs)
