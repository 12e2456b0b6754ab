-- What the rules for a list's place promise: the class that a list moves to is larger than the one it leaves, and has slots for it. Assumes
-- nothing.
use Prim.Native.Nat.{ℕ, suc, ◌+◌, ◌*◌, ◌^◌, ◌≤◌, ◌<◌, max}
use mathlib.Core.Bool.{Bool, true, false, cond, ◌&&◌, false≢true}
use mathlib.Core.Logic.{◌⊎◌, inl, inr, ⊎_elim}
use mathlib.Core.Option.{Option, none, some}
use mathlib.Core.Path.{◌≡◌, refl, sym, ◌∙◌}
use native.Mathlib.Nat.{le_trans, lt_of_lt_of_le, le-max_left, le-max_right, max-le, mul-le-mul_left, lt_of_not-le, le_of_suc-le-suc}
use native.Mathlib.Nat.{pow-suc, eq-or-lt_of_le}
use native.Mathlib.Omega.{arith}
use lib.Dec.{leb}
use lib.Pow.{pow_mono}
use borrow.Author.Tests.{le-leb, lt-leb, leb-true, leb-false}
use Rattle.scripthash_layout.specs.Sizes.{slab_bytes, slab_slots, max_slab_bytes, max_slab_class, max_slab_count}
use Rattle.scripthash_slabs.specs.Class.{by_bytes, by_count, class_by_bytes, class_by_count, class_with_slack}
use Rattle.scripthash_slabs.proofs.LawsClass.{class_is, is_class, bytes_none, slack_holds, slack_spare, slack_most, slack_none}
use Rattle.scripthash_free.proofs.LawsBlock.{both}
use Rattle.buffer.proofs.LawsOrder.{lt_or_ge}
use Rattle.book_rules.specs.declared.places.SlabFit.{SlabFit}
use Rattle.book_rules.specs.declared.places.SlabFit.TheVariants.{Spare, Tight}
use Rattle.book_rules.specs.Steps.{SpareBytes}
use Rattle.book_rules.specs.Places.{payload_len, stays, larger, moves_to, loads_to}

-- a larger class has no fewer slots, and a strictly larger one twice as many
pub slots_mono : {c d : ℕ} → c ≤ d → slab_slots c ≤ slab_slots d
slots_mono h = mul-le-mul_left 4 (pow_mono h)

pub slots_twice : {c d : ℕ} → c < d → slab_slots c + slab_slots c ≤ slab_slots d
slots_twice {c} {d} h =
    let two : 2 ^ suc c ≤ 2 ^ d = pow_mono h in
    let twice : 2 ^ suc c ≡ 2 ^ c * 2 = pow-suc 2 c in
    omega arith

-- and no fewer bytes
pub bytes_mono : {c d : ℕ} → c ≤ d → slab_bytes c ≤ slab_bytes d
bytes_mono h = mul-le-mul_left 16 (pow_mono h)

-- fewer slots, or fewer bytes: a smaller class
pub slots_less : {c d : ℕ} → slab_slots c < slab_slots d → c < d
slots_less {c} {d} h = lt_of_not-le (λ (l : d ≤ c). let m = slots_mono l in omega arith)

bytes_less : {c d : ℕ} → slab_bytes c < slab_bytes d → c < d
bytes_less {c} {d} h = lt_of_not-le (λ (l : d ≤ c). let m = bytes_mono l in omega arith)

-- a list of at most 256 numbers stays unless slots or bytes are too few
stays_parts : (class count bytes : ℕ) → count ≤ max_slab_count → stays class count bytes ≡ false
    → leb count (slab_slots class) && leb (payload_len bytes) (slab_bytes class) ≡ false
unfolding stays
stays_parts class count bytes h s = rw (le-leb count max_slab_count h) at s

-- a list that stays has at most 256 numbers, and slots and bytes for them
pub stays_holds : (class count bytes : ℕ) → stays class count bytes ≡ true
    → (count ≤ max_slab_count) × (count ≤ slab_slots class) × (payload_len bytes ≤ slab_bytes class)
unfolding stays
stays_holds class count bytes s =
    let (few, rest) = both _ _ s in
    let (holds, fits) = both _ _ rest in
    (leb-true count max_slab_count few, leb-true count (slab_slots class) holds, leb-true (payload_len bytes) (slab_bytes class) fits)

-- The classes that the larger one comes from.
record From (x y : Option ℕ) (c : ℕ) : Type 0 where
  one : ℕ
  other : ℕ
  first : x ≡ some one
  second : y ≡ some other
  most : c ≡ max one other

from_both : (x y : Option ℕ) {c : ℕ} → larger x y ≡ some c → From x y c
unfolding larger
from_both none y e = let z : ◌≡◌ {A = ℕ} 0 1 = cc in absurd (omega arith)
from_both (some a) none e = let z : ◌≡◌ {A = ℕ} 0 1 = cc in absurd (omega arith)
from_both (some a) (some b) e = record { one = a; other = b; first = refl; second = refl; most = cc }

-- What is known of the class of the slab that a list of `count` numbers moves to.
pub record Moves (count bytes c : ℕ) : Type 0 where
  pub slab : c ≤ max_slab_class
  pub few : count ≤ max_slab_count
  pub holds : count ≤ slab_slots c
  pub spare : (count ≡ max_slab_count) ⊎ (count + 1 ≤ slab_slots c)
  pub fits : payload_len bytes ≤ slab_bytes c
  pub grows : (d : ℕ) → stays d count bytes ≡ false → d < c

pub moves_to_lem : (count bytes : ℕ) {c : ℕ} → moves_to count bytes ≡ some c → Moves count bytes c
unfolding moves_to
moves_to_lem count bytes {c} e =
    let f = from_both (class_with_slack count) (class_by_bytes (payload_len bytes)) e in
    let chosen = class_is by_bytes f.second in
    let left : f.one ≤ c = omega (arith, f.most, le-max_left f.one f.other) in
    let right : f.other ≤ c = omega (arith, f.most, le-max_right f.one f.other) in
    let held = slack_holds count f.first in
    let low : f.one ≤ max_slab_class = omega (arith, slack_most count f.first) in
    let most = max-le low chosen.slab in
    record {
      slab = omega (arith, f.most);
      few = few f;
      holds = le_trans held (slots_mono left);
      spare = spare f left;
      fits = le_trans chosen.holds (bytes_mono right);
      grows = λ d s. grown f left right d s;
    }
  where
    few : From (class_with_slack count) (class_by_bytes (payload_len bytes)) c → count ≤ max_slab_count
    few f =
        le_of_suc-le-suc
        (lt_of_not-le
        (λ (h : suc max_slab_count ≤ count).
        let no : class_with_slack count ≡ none = (slack_none count).1 (inr h) in
        let yes = f.first in
        let z : ◌≡◌ {A = ℕ} 0 1 = cc in
        omega arith))

    spare : (f : From (class_with_slack count) (class_by_bytes (payload_len bytes)) c) → f.one ≤ c
        → (count ≡ max_slab_count) ⊎ (count + 1 ≤ slab_slots c)
    spare f left = go (eq-or-lt_of_le (few f))
      where
        go : (count ≡ max_slab_count) ⊎ (count < max_slab_count) → (count ≡ max_slab_count) ⊎ (count + 1 ≤ slab_slots c)
        go (inl e) = inl e
        go (inr l) = inr (le_trans (slack_spare count (λ e. omega arith) f.first) (slots_mono left))

    grown : (f : From (class_with_slack count) (class_by_bytes (payload_len bytes)) c) → f.one ≤ c → f.other ≤ c → (d : ℕ)
        → stays d count bytes ≡ false → d < c
    grown f left right d s =
        go (leb count (slab_slots d)) refl (leb (payload_len bytes) (slab_bytes d)) refl (stays_parts d count bytes (few f) s)
      where
        go : (x : Bool) → leb count (slab_slots d) ≡ x → (y : Bool) → leb (payload_len bytes) (slab_bytes d) ≡ y → x && y ≡ false → d < c
        go false e y e' q =
            let over = leb-false count (slab_slots d) e in
            let held = slack_holds count f.first in
            lt_of_lt_of_le (slots_less {c = d} {d = f.one} (omega arith)) left
        go true e false e' q =
            let over = leb-false (payload_len bytes) (slab_bytes d) e' in
            let held = (class_is by_bytes f.second).holds in
            lt_of_lt_of_le (bytes_less {c = d} {d = f.other} (omega arith)) right
        go true e true e' q = absurd (false≢true (sym q))

-- The larger class is that of the larger of two lengths.
pub larger_bytes : (a b : ℕ) → 1 ≤ a → 1 ≤ b → larger (class_by_bytes a) (class_by_bytes b) ≡ class_by_bytes (max a b)
unfolding larger
larger_bytes a b la lb = go (class_by_bytes a) refl (class_by_bytes b) refl
  where
    past : (n : ℕ) → 1 ≤ n → class_by_bytes n ≡ none → max_slab_bytes < n
    past n l e = ⊎_elim (λ (h : n < 1). absurd (omega arith)) (λ h. h) ((bytes_none n).0 e)

    none_past : max_slab_bytes < max a b → none ≡ class_by_bytes (max a b)
    none_past h = sym ((bytes_none (max a b)).1 (inr h))

    go : (x : Option ℕ) → class_by_bytes a ≡ x → (y : Option ℕ) → class_by_bytes b ≡ y → larger x y ≡ class_by_bytes (max a b)
    go none e y f = none_past (lt_of_lt_of_le (past a la e) (le-max_left a b))
    go (some c) e none f = none_past (lt_of_lt_of_le (past b lb f) (le-max_right a b))
    go (some c) e (some d) f =
        let one = class_is by_bytes e in
        let other = class_is by_bytes f in
        sym (is_class by_bytes (record {
          low = le_trans la (le-max_left a b);
          high = max-le one.high other.high;
          slab = max-le one.slab other.slab;
          holds = max-le (le_trans one.holds (bytes_mono (le-max_left c d))) (le_trans other.holds (bytes_mono (le-max_right c d)));
          smallest = λ k l. ⊎_elim
              (λ (h : k < c). lt_of_lt_of_le (one.smallest k h) (le-max_left a b))
              (λ (h : c ≤ k). lt_of_lt_of_le (other.smallest k (below_max l h)) (le-max_right a b))
              (lt_or_ge k c);
        }))
      where
        below_max : {k : ℕ} → k < max c d → c ≤ k → k < d
        below_max {k} l h = lt_of_not-le (λ (m : d ≤ k). let most = max-le h m in omega arith)

-- A slot has four bytes, so that slots are looked up as bytes.
pub slots_as_bytes : (n : ℕ) {c : ℕ} → class_by_count n ≡ some c → class_by_bytes (4 * n) ≡ some c
slots_as_bytes n {c} e =
    let k = class_is by_count e in
    is_class by_bytes (record {
      low = omega (arith, k.low);
      high = omega (arith, k.high);
      slab = k.slab;
      holds = omega (arith, k.holds);
      smallest = λ d l. let small = k.smallest d l in omega arith;
    })

-- A list of more than 256 numbers moves to a page.
pub moves_none : (count bytes : ℕ) → max_slab_count < count → moves_to count bytes ≡ none
unfolding moves_to larger
moves_none count bytes h = rw ((slack_none count).1 (inr h)) refl

-- One of at most 256 goes by the larger of its payload and the bytes of its slots, with one to spare.
pub moves_by_bytes : (count bytes spare : ℕ) → SpareBytes count spare → moves_to count bytes ≡ class_by_bytes (max spare (payload_len bytes))
unfolding moves_to
moves_by_bytes count bytes spare s =
    rw (← s.class) (larger_bytes spare (payload_len bytes) s.some_bytes (omega arith))

-- The bytes of its slots.
pub spare_bytes : (count n : ℕ) {c : ℕ} → class_with_slack count ≡ class_by_count n → class_with_slack count ≡ some c → 1 ≤ n → n ≤ max_slab_count
    → SpareBytes count (4 * n)
spare_bytes count n e is l m =
    record { class = slots_as_bytes n (sym e ∙ is) ∙ sym is; some_bytes = omega arith; few = omega arith }

-- A load gives one of more than 256 a run of pages.
pub loads_none : (fit : SlabFit) (count bytes : ℕ) → max_slab_count < count → loads_to fit count bytes ≡ none
unfolding loads_to
loads_none Spare count bytes h = moves_none count bytes h
loads_none Tight count bytes h = rw (lt-leb count max_slab_count h) refl

-- A tight load of at most 256 goes by bytes.
pub loads_by_bytes : (count bytes : ℕ) → count ≤ max_slab_count → loads_to Tight count bytes ≡ class_by_bytes (payload_len bytes)
unfolding loads_to
loads_by_bytes count bytes h = rw (le-leb count max_slab_count h) refl

-- A load gives a list of at most 256 numbers a slab, of a class up to 7 that has bytes for its payload.
pub loads_to_lem : (fit : SlabFit) (count bytes : ℕ) {c : ℕ} → loads_to fit count bytes ≡ some c
    → (count ≤ max_slab_count) × (c ≤ max_slab_class) × (payload_len bytes ≤ slab_bytes c)
unfolding loads_to
loads_to_lem Spare count bytes e = let m = moves_to_lem count bytes e in (m.few, m.slab, m.fits)
loads_to_lem Tight count bytes {c} e = go (leb count max_slab_count) refl e
  where
    go : (b : Bool) → leb count max_slab_count ≡ b → cond b (class_by_bytes (payload_len bytes)) none ≡ some c
        → (count ≤ max_slab_count) × (c ≤ max_slab_class) × (payload_len bytes ≤ slab_bytes c)
    go true q e = (leb-true count max_slab_count q, (class_is by_bytes e).slab, (class_is by_bytes e).holds)
    go false q e = let z : ◌≡◌ {A = ℕ} 0 1 = cc in absurd (omega arith)

-- With a spare slot: the slab has a slot for one number more, where the list has fewer than 256.
loads_spare : (count bytes : ℕ) {c : ℕ} → loads_to Spare count bytes ≡ some c → count < max_slab_count → count + 1 ≤ slab_slots c
unfolding loads_to
loads_spare count bytes {c} e h = ⊎_elim (λ (full : count ≡ max_slab_count). absurd (omega arith)) (λ l. l) (moves_to_lem count bytes e).spare

-- So the list stays there with one number more, where its bytes fit.
pub spare_stays : (count bytes more : ℕ) {c : ℕ} → loads_to Spare count bytes ≡ some c → count < max_slab_count
    → payload_len more ≤ slab_bytes c
    → stays c (count + 1) more ≡ true
unfolding stays
spare_stays count bytes more {c} e h fits =
    rw (
      le-leb (count + 1) max_slab_count (omega arith),
      le-leb (count + 1) (slab_slots c) (loads_spare count bytes e h),
      le-leb (payload_len more) (slab_bytes c) fits,
    )
