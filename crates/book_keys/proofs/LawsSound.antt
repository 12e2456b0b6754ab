-- Soundness: what passes the tests of a sound key and what turns it back, and a block's numbers that go on behind a number. Assumes
-- nothing.
use Prim.Native.Nat.{ℕ, ◌^◌, ◌≤◌, ◌<◌}
use mathlib.Core.Bool.{Bool, true, false, not, ◌&&◌}
use mathlib.Core.List.{List, [], ◌∷◌}
use mathlib.Core.Path.{◌≡◌, refl, sym, ap, ◌∙◌}
use native.Mathlib.Nat.{le_refl}
use native.Mathlib.Omega.{arith}
use borrow.Author.Tests.{ltb-true, lt-ltb, not-false}
use lib.Dec.{ltb}
use lib.ListN.{length, get_or}
use Rattle.error.specs.Refusal.{Answer, accepted, refused, and_then, answered, key_unsound}
use Rattle.error.proofs.LawsAnswer.{refused≢accepted, passed, was_accepted, was_refused, then_yes, then_no, answered_yes, answered_no}
use Rattle.error.proofs.LawsAnswer.{refuse_yes, refuse_no}
use Rattle.scripthash_free.proofs.LawsBlock.{both}
use Rattle.scripthash_stream.specs.Stream.{Rising, Scan, last_from, End, end_from}
use Rattle.book_keys.specs.Keys.{soundly, sure, go_on}
use Rattle.book_keys.specs.Steps.{sound_last}

-- ---- tests of a sound key

module _ {A : Type 0} where
  -- a sound key's answer is the answer
  pub soundly_yes : (a : Answer A) {x : A} → a ≡ accepted x → soundly a ≡ accepted x
  unfolding soundly
  soundly_yes a e = rw e

  pub was_sound : (a : Answer A) {x : A} → soundly a ≡ accepted x → a ≡ accepted x
  unfolding soundly
  was_sound (accepted y) e = e
  was_sound (refused number) e = absurd (refused≢accepted e)

  -- any refusal says 31
  pub soundly_no : (a : Answer A) {number : ℕ} → a ≡ refused number → soundly a ≡ refused key_unsound
  unfolding soundly
  soundly_no a e = rw e

  pub unsound_is : (a : Answer A) {number : ℕ} → soundly a ≡ refused number → number ≡ key_unsound
  unfolding soundly
  unsound_is (accepted y) e = absurd (refused≢accepted (sym e))
  unsound_is (refused number) e = cc

  pub was_unsound : (a : Answer A) {number : ℕ} → soundly a ≡ refused number → (m : ℕ) × (a ≡ refused m)
  unfolding soundly
  was_unsound (accepted y) e = absurd (refused≢accepted (sym e))
  was_unsound (refused m) e = (m, refl)

  -- a refusal that tells that a key isn't sound
  pub unsound_told : (a : Answer A) {number : ℕ} → refused number ≡ soundly a → (number ≡ key_unsound) × (m : ℕ) × (a ≡ refused m)
  unsound_told a e = let w = was_unsound a (sym e) in (unsound_is a (sym e), w.0, w.1)

  -- a test that holds, and one that doesn't
  pub sure_yes : (test : Bool) (after : Answer A) → test ≡ true → sure test after ≡ after
  unfolding sure
  sure_yes test after e = refuse_no (not test) key_unsound after (ap not e)

  pub sure_no : (test : Bool) (after : Answer A) → test ≡ false → sure test after ≡ refused key_unsound
  unfolding sure
  sure_no test after e = refuse_yes (not test) key_unsound after (ap not e)

  -- a test that was passed held, and the answer is what comes after it
  pub was_sure : (test : Bool) (after : Answer A) {x : A} → sure test after ≡ accepted x → (test ≡ true) × (after ≡ accepted x)
  unfolding sure
  was_sure test after e = let p = passed (not test) key_unsound after e in (not-false test p.0, p.1)

module _ {A B : Type 0} where
  -- a refusal, told in other words
  pub turned_back : (f : A → B) (a : Answer A) {number : ℕ} → a ≡ refused number → refused key_unsound ≡ answered f (soundly a)
  turned_back f a e = sym (answered_no f (soundly a) (soundly_no a e))

  -- an acceptance, told in other words
  pub let_through : (f : A → B) (a : Answer A) {x : A} → a ≡ accepted x → accepted (f x) ≡ answered f (soundly a)
  let_through f a e = sym (answered_yes f (soundly a) (soundly_yes a e))

module _ {A B C D : Type 0} where
  -- a refusal of a part, passed on: where an unsound part makes the whole unsound, both are refused alike
  pub passed_on : (f : A → B) (a : Answer A) (g : C → D) (b : Answer C) {number : ℕ} → refused number ≡ answered f (soundly a)
      → ((m : ℕ) → a ≡ refused m → (k : ℕ) × (b ≡ refused k)) → refused number ≡ answered g (soundly b)
  passed_on f a g b e h =
      let t = unsound_told a (sym (was_refused f (soundly a) (sym e))) in
      ap refused t.0 ∙ turned_back g b (h t.1 t.2).1

-- ---- the numbers of a block

-- the last of rising numbers isn't below the one before them
pub last_above : (top prev : ℕ) (ns : List ℕ) → Rising top prev ns → prev ≤ last_from prev ns
unfolding Rising last_from
last_above top prev [] h = le_refl prev
last_above top prev (n ∷ ns) h = omega (arith, last_above top n ns h.2, h.0)

-- rising numbers whose last is below another limit stay below that limit
pub rising_to_last : (top low prev : ℕ) (ns : List ℕ) → Rising top prev ns → last_from prev ns < low → Rising low prev ns
unfolding Rising last_from
rising_to_last top low prev [] h k = tt
rising_to_last top low prev (n ∷ ns) h k = (h.0, omega (arith, last_above top n ns h.2), rising_to_last top low n ns h.2 k)

-- numbers that go on behind another begin above it and end with a sound last number
pub goes_on : (prev : ℕ) (ns : List ℕ) → Rising (2 ^ 63) 0 ns → go_on prev ns ≡ sound_last (last_from 0 ns) && ltb prev (get_or ns 0 0)
unfolding go_on sound_last Rising last_from
goes_on prev [] h = refl
goes_on prev (n ∷ ns) h =
    let pos : 0 < last_from n ns = omega (arith, last_above (2 ^ 63) n ns h.2, h.0) in
    rw (lt-ltb 0 (last_from n ns) pos) (swap (ltb prev n) (ltb (last_from n ns) (2 ^ 62)))
  where
    swap : (a b : Bool) → a && b ≡ b && a
    swap true true = refl
    swap true false = refl
    swap false true = refl
    swap false false = refl

-- behind none they end with a sound last number
pub goes_on_first : (ns : List ℕ) → Rising (2 ^ 63) 0 ns → go_on 0 ns ≡ sound_last (last_from 0 ns)
unfolding go_on sound_last Rising last_from
goes_on_first [] h = refl
goes_on_first (n ∷ ns) h =
    let pos : 0 < last_from n ns = omega (arith, last_above (2 ^ 63) n ns h.2, h.0) in
    rw (lt-ltb 0 (last_from n ns) pos, lt-ltb 0 n h.0)

-- What is known of numbers that go on behind another: there are some, they rise from it and stay below 2 ^ 62.
pub record Going (prev : ℕ) (ns : List ℕ) : Type 0 where
  pub some : 0 < length ns
  pub rising : Rising (2 ^ 62) prev ns
  pub same_last : last_from prev ns ≡ last_from 0 ns

pub going : (prev : ℕ) (ns : List ℕ) → Rising (2 ^ 63) 0 ns → go_on prev ns ≡ true → Going prev ns
unfolding go_on Rising last_from
going prev [] h e = let z : ◌≡◌ {A = ℕ} 0 1 = cc in absurd (omega arith)
going prev (n ∷ ns) h e =
    let w = both (ltb prev n) (ltb (last_from n ns) (2 ^ 62)) e in
    let last : last_from n ns < 2 ^ 62 = ltb-true (last_from n ns) (2 ^ 62) w.1 in
    record {
      some = omega arith;
      rising = (ltb-true prev n w.0, omega (arith, last_above (2 ^ 63) n ns h.2), rising_to_last (2 ^ 63) (2 ^ 62) n ns h.2 last);
      same_last = refl;
    }

-- ---- scans by their last number

-- A scan whose last number is one that a sound block may have.
abbrev pub last_sound : Answer Scan → Answer Scan
last_sound a = and_then a (λ c. sure (sound_last (last_from 0 c.numbers)) (accepted c))

-- scans of rising numbers that go on behind none are those with a sound last number
pub first_by_last : (a : Answer Scan) → ((c : Scan) → a ≡ accepted c → Rising (2 ^ 63) 0 c.numbers)
    → and_then a (λ c. sure (go_on 0 c.numbers) (accepted c)) ≡ last_sound a
unfolding and_then
first_by_last (accepted c) h = ap (λ (t : Bool). sure t (accepted c)) (goes_on_first c.numbers (h c refl))
first_by_last (refused number) h = refl

module _ (a : Answer Scan) where
  -- a scan that is refused
  pub end_refused : {number : ℕ} → answered (end_from 0) a ≡ refused number → last_sound a ≡ refused number
  end_refused e = then_no a _ (was_refused (end_from 0) a e)

  -- a scan whose last number can't be
  pub end_unsound : (e : End) → answered (end_from 0) a ≡ accepted e → sound_last e.last ≡ false → last_sound a ≡ refused key_unsound
  end_unsound e is t =
      let got = was_accepted (end_from 0) a is in
      let last : sound_last (last_from 0 got.0.numbers) ≡ false = ap (λ (x : End). sound_last x.last) got.2 ∙ t in
      then_yes a _ got.1 ∙ sure_no (sound_last (last_from 0 got.0.numbers)) _ last

  -- a scan whose last number can be
  pub end_sound : (e : End) → answered (end_from 0) a ≡ accepted e → sound_last e.last ≡ true
      → (s : Scan) × (a ≡ accepted s) × (last_sound a ≡ accepted s) × (end_from 0 s ≡ e)
  end_sound e is t =
      let got = was_accepted (end_from 0) a is in
      let last : sound_last (last_from 0 got.0.numbers) ≡ true = ap (λ (x : End). sound_last x.last) got.2 ∙ t in
      (got.0, got.1, then_yes a _ got.1 ∙ sure_yes (sound_last (last_from 0 got.0.numbers)) _ last, got.2)
