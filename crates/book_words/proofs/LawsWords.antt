-- Lists spelled as words are read back, and what is read was spelled, where that holds of each element. Assumes nothing.
use Prim.Native.Nat.{ℕ, zero, suc, ◌≤◌, ◌<◌}
use mathlib.Core.List.{List, [], ◌∷◌, ◌++◌}
use mathlib.Core.Option.{Option, none, some}
use mathlib.Core.Path.{◌≡◌, refl, sym, ap, ◌∙◌}
use native.Mathlib.Omega.{arith}
use lib.ListN.{length, length-append}
use Rattle.book_words.specs.Words.{Begins, begins, spell_all, before, read_on, at_end, read_all}

-- what is there is one value, and nothing is not something
pub some_inj : {B : Type 0} {x y : B} → some x ≡ some y → x ≡ y
some_inj e = cc

pub none≢some : {B : Type 0} {x : B} → none ≡ some x → ⊥
none≢some e = let z : ◌≡◌ {A = ℕ} 0 1 = cc in omega arith

module _ {A : Type 0} (reader : List ℕ → Option (Begins A)) where
  -- some words are an element and the words behind it
  pub read_first : (most : ℕ) (ws : List ℕ) → 0 < length ws → read_all reader (suc most) ws ≡ read_on (reader ws) (read_all reader most)
  unfolding read_all at_end
  read_first most [] h = absurd (omega arith)
  read_first most (w ∷ ws) h = refl

-- Each element of a list is good.
unfoldable pub AllGood : {A : Type 0} → (A → Type 0) → List A → Type 0
AllGood Good [] = Unit {0}
AllGood Good (x ∷ xs) = Good x × AllGood Good xs

-- A list of good elements that were spelled reads back, with any bound that is large enough, when each good element does.
pub reads_all : {A : Type 0} (spell : A → List ℕ) (reader : List ℕ → Option (Begins A)) (Good : A → Type 0)
    → ((x : A) → 0 < length (spell x))
    → ((x : A) (rest : List ℕ) → Good x → reader (spell x ++ rest) ≡ begins x rest)
    → (xs : List A) (most : ℕ) → length (spell_all spell xs) ≤ most → AllGood Good xs → read_all reader most (spell_all spell xs) ≡ some xs
unfolding spell_all read_all at_end read_on AllGood before
reads_all spell reader Good some_words reads-back [] zero h g = refl
reads_all spell reader Good some_words reads-back [] (suc most) h g = refl
reads_all spell reader Good some_words reads-back (x ∷ xs) zero h g =
    absurd (omega (arith, length-append (spell x) (spell_all spell xs), some_words x))
reads_all {A} spell reader Good some_words reads-back (x ∷ xs) (suc most) h g =
    let words = length-append (spell x) (spell_all spell xs) in
    let Some-of = some_words x in
    read_first reader most (spell x ++ spell_all spell xs) (omega arith)
    ∙ ap (λ (b : Option (Begins A)). read_on b (read_all reader most)) (reads-back x (spell_all spell xs) g.0)
    ∙ ap (before x) (reads_all spell reader Good some_words reads-back xs most (omega arith) g.1)

-- What was read was spelled, when that holds of each element.
module _ {A : Type 0} (spell : A → List ℕ) (reader : List ℕ → Option (Begins A))
    (was-spelled : (ws : List ℕ) (b : Begins A) → reader ws ≡ some b → spell b.first ++ b.rest ≡ ws) where
  -- an element and those behind it
  others_was : (ws : List ℕ) (xs : List A) (b : Begins A) → reader ws ≡ some b → (o : Option (List A))
      → ((ys : List A) → o ≡ some ys → spell_all spell ys ≡ b.rest)
      → before b.first o ≡ some xs → spell_all spell xs ≡ ws
  unfolding spell_all before
  others_was ws xs b r none f g = absurd (none≢some g)
  others_was ws xs b r (some ys) f g =
      let is : b.first ∷ ys ≡ xs = some_inj g in
      ap (spell_all spell) (sym is) ∙ ap (λ (l : List ℕ). spell b.first ++ l) (f ys refl) ∙ was-spelled ws b r

  first_was : (ws : List ℕ) (xs : List A) (more : List ℕ → Option (List A))
      → ((rest : List ℕ) (ys : List A) → more rest ≡ some ys → spell_all spell ys ≡ rest)
      → (o : Option (Begins A)) → reader ws ≡ o → read_on o more ≡ some xs → spell_all spell xs ≡ ws
  unfolding read_on
  first_was ws xs more f none r e = absurd (none≢some e)
  first_was ws xs more f (some b) r e = others_was ws xs b r (more b.rest) (f b.rest) e

  pub spelled_all : (most : ℕ) (ws : List ℕ) (xs : List A) → read_all reader most ws ≡ some xs → spell_all spell xs ≡ ws
  unfolding read_all at_end spell_all
  spelled_all zero [] xs e = ap (spell_all spell) (sym (some_inj e))
  spelled_all zero (w ∷ ws) xs e = absurd (none≢some e)
  spelled_all (suc most) [] xs e = ap (spell_all spell) (sym (some_inj e))
  spelled_all (suc most) (w ∷ ws) xs e =
      first_was (w ∷ ws) xs (λ rest. read_all reader most rest) (λ rest ys f. spelled_all most rest ys f) (reader (w ∷ ws)) refl e

-- The bound doesn't matter where it is large enough, when each element takes a word.
module _ {A : Type 0} (reader : List ℕ → Option (Begins A)) (shrinks : (ws : List ℕ) (b : Begins A) → reader ws ≡ some b
    → length b.rest < length ws) where
  -- what is read behind an element is the same for both bounds
  same_behind : (ws : List ℕ) (most other : List ℕ → Option (List A))
      → ((b : Begins A) → reader ws ≡ some b → most b.rest ≡ other b.rest)
      → (o : Option (Begins A)) → reader ws ≡ o → read_on o most ≡ read_on o other
  unfolding read_on
  same_behind ws most other f none r = refl
  same_behind ws most other f (some b) r = ap (before b.first) (f b r)

  pub same_bound : (most other : ℕ) (ws : List ℕ) → length ws ≤ most → length ws ≤ other → read_all reader most ws ≡ read_all reader other ws
  unfolding read_all at_end
  same_bound zero zero [] h k = refl
  same_bound zero (suc other) [] h k = refl
  same_bound (suc most) zero [] h k = refl
  same_bound (suc most) (suc other) [] h k = refl
  same_bound zero zero (w ∷ ws) h k = absurd (omega arith)
  same_bound zero (suc other) (w ∷ ws) h k = absurd (omega arith)
  same_bound (suc most) zero (w ∷ ws) h k = absurd (omega arith)
  same_bound (suc most) (suc other) (w ∷ ws) h k =
      same_behind (w ∷ ws) (λ rest. read_all reader most rest) (λ rest. read_all reader other rest)
      (λ (b : Begins A) (r : reader (w ∷ ws) ≡ some b). let less : length b.rest < suc (length ws) = shrinks (w ∷ ws) b r in
      same_bound most other b.rest (omega arith) (omega arith))
      (reader (w ∷ ws)) refl

  -- some words are read as the element that they begin with, and the words behind it
  pub reads_none : (ws : List ℕ) → 0 < length ws → reader ws ≡ none → read_all reader (length ws) ws ≡ none
  unfolding read_all at_end read_on
  reads_none [] h e = absurd (omega arith)
  reads_none (w ∷ ws) h e = ap (λ (o : Option (Begins A)). read_on o (λ rest. read_all reader (length ws) rest)) e

  pub reads_some : (ws : List ℕ) (b : Begins A) → 0 < length ws → reader ws ≡ some b
      → read_all reader (length ws) ws ≡ before b.first (read_all reader (length b.rest) b.rest)
  unfolding read_all at_end read_on
  reads_some [] b h e = absurd (omega arith)
  reads_some (w ∷ ws) b h e =
      let less : length b.rest < suc (length ws) = shrinks (w ∷ ws) b e in
      ap (λ (o : Option (Begins A)). read_on o (λ rest. read_all reader (length ws) rest)) e
      ∙ ap (before b.first) (same_bound (length ws) (length b.rest) b.rest (omega arith) (omega arith))
