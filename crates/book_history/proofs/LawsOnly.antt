-- Lists that differ in some regions only: overwriting, parts, one write after another. Assumes nothing.
use Prim.Native.Nat.{ℕ, ◌+◌, ◌-◌, ◌≤◌, ◌<◌}
use mathlib.Core.List.{List, [], ◌∷◌, ◌++◌}
use mathlib.Core.Logic.{inl, inr, ⊎_elim, ◌≢◌}
use mathlib.Core.Path.{◌≡◌, refl, sym, ap, ◌∙◌}
use native.Mathlib.Omega.{arith}
use lib.ListN.{length, get_or, set, take, drop, length-set, get_or-append}
use lib.Seq.{get_or-set_other, get_or-append-add, get_or-take, get_or-drop, length-take-le, ext_get_or}
use Rattle.buffer.specs.Bytes.{part, overwrite}
use Rattle.buffer.proofs.LawsBytes.{length_overwrite}
use Rattle.buffer.proofs.LawsOrder.{lt_or_ge}
use Rattle.buffer.proofs.LawsOverwrite.{length_part}
use Rattle.book_history.specs.Writes.{Region, region, Outside, Only}

-- Outside of regions and others is outside of both.
pub outside_of : (rs qs : List Region) (i : ℕ) → Outside (rs ++ qs) i → Outside rs i × Outside qs i
unfolding Outside
outside_of [] qs i h = (tt, h)
outside_of (r ∷ rs) qs i h = let w = outside_of rs qs i h.1 in ((h.0, w.0), w.1)

-- Outside of both is outside of regions and others.
pub outside_both : (rs qs : List Region) (i : ℕ) → Outside rs i → Outside qs i → Outside (rs ++ qs) i
unfolding Outside
outside_both [] qs i h k = k
outside_both (r ∷ rs) qs i h k = (h.0, outside_both rs qs i h.1 k)

-- A list differs nowhere from itself.
pub only_same : (rs : List Region) (xs : List ℕ) → Only rs xs xs
only_same rs xs = record { long = refl; same = λ i h. refl }

-- Lists that differ nowhere are equal.
pub only_nothing : (before after : List ℕ) → Only [] before after → after ≡ before
unfolding Outside
only_nothing before after o = ext_get_or 0 after before o.long (λ i h. o.same i tt)

-- One change after another.
pub only_then : {rs qs : List Region} {before mid after : List ℕ} → Only rs before mid → Only qs mid after → Only (rs ++ qs) before after
only_then {rs} {qs} o p = record {
  long = p.long ∙ o.long;
  same = λ i h. let w = outside_of rs qs i h in p.same i w.1 ∙ o.same i w.0;
}

-- What differs in some regions only does so in any that cover them.
pub only_covered : {rs qs : List Region} {before after : List ℕ} → ((i : ℕ) → Outside qs i → Outside rs i) → Only rs before after
    → Only qs before after
only_covered f o = record { long = o.long; same = λ i h. o.same i (f i h) }

-- One element of a list is set.
pub only_set : (rs : List Region) (xs : List ℕ) (i x : ℕ) → Only (region i 1 ∷ rs) xs (set xs i x)
unfolding Outside
only_set rs xs i x = record {
  long = length-set xs i x;
  same = λ j h.
      let other : j ≢ i = λ (e : j ≡ i). ⊎_elim (λ (l : j < i). omega arith) (λ (l : i + 1 ≤ j). omega arith) h.0 in
      get_or-set_other xs i j x 0 other;
}

-- A list that is overwritten within its length.
module _ (b : List ℕ) (o : ℕ) (ys : List ℕ) (fits : o + length ys ≤ length b) where
  -- Before the bytes written it is as it was.
  get_d_before : (i : ℕ) → i < o → get_or (overwrite b o ys) i 0 ≡ get_or b i 0
  unfolding overwrite
  get_d_before i h =
      let long = length-take-le o b (omega arith) in
      get_or-append (take o b) (ys ++ drop (o + length ys) b) 0 i (omega arith) ∙ get_or-take o b i 0 h

  -- Behind an offset within what was written, or behind it.
  get_d_from : (j : ℕ) → get_or (overwrite b o ys) (o + j) 0 ≡ get_or (ys ++ drop (o + length ys) b) j 0
  unfolding overwrite
  get_d_from j =
      let long : length (take o b) ≡ o = length-take-le o b (omega arith) in
      ap (λ (k : ℕ). get_or (overwrite b o ys) (k + j) 0) (sym long) ∙ get_or-append-add (take o b) (ys ++ drop (o + length ys) b) j 0

  -- In the bytes written it is what was written.
  get_d_inside : (j : ℕ) → j < length ys → get_or (overwrite b o ys) (o + j) 0 ≡ get_or ys j 0
  get_d_inside j h = get_d_from j ∙ get_or-append ys (drop (o + length ys) b) 0 j h

  -- Behind them it is as it was.
  get_d_behind : (i : ℕ) → o + length ys ≤ i → get_or (overwrite b o ys) i 0 ≡ get_or b i 0
  get_d_behind i h =
      let k = i - (o + length ys) in
      let is : i ≡ o + (length ys + k) = omega arith in
      let back : o + length ys + k ≡ i = omega arith in
      ap (λ (j : ℕ). get_or (overwrite b o ys) j 0) is ∙ get_d_from (length ys + k) ∙ get_or-append-add ys (drop (o + length ys) b) k 0
      ∙ get_or-drop (o + length ys) b k 0 ∙ ap (λ (j : ℕ). get_or b j 0) back

  -- It differs in the bytes written only.
  pub only_written : (rs : List Region) → Only (region o (length ys) ∷ rs) b (overwrite b o ys)
  unfolding Outside
  only_written rs = record {
    long = length_overwrite b o ys fits;
    same = λ i h. ⊎_elim (get_d_before i) (get_d_behind i) h.0;
  }

-- The same, with the number of bytes told.
pub only_bytes : (b : List ℕ) (o len : ℕ) (ys : List ℕ) → length ys ≡ len → o + len ≤ length b
    → Only (region o len ∷ []) b (overwrite b o ys)
only_bytes b o len ys e fits = rw (← e) (only_written b o ys (rw e fits) [])

-- ---- a part of a list

-- Regions of the part of a list from an offset on, as regions of the list.
unfoldable pub shifted : ℕ → List Region → List Region
shifted o [] = []
shifted o (r ∷ rs) = region (o + r.off) r.len ∷ shifted o rs

-- What lies outside of them there lies outside of them in the part.
outside_shifted : (o : ℕ) (rs : List Region) (j : ℕ) → Outside (shifted o rs) (o + j) → Outside rs j
unfolding Outside shifted
outside_shifted o [] j h = tt
outside_shifted o (r ∷ rs) j h = (
  ⊎_elim (λ (l : o + j < o + r.off). inl (omega arith)) (λ (l : o + r.off + r.len ≤ o + j). inr (omega arith)) h.0,
  outside_shifted o rs j h.1,
)

-- A part of a list is overwritten by what differs from it in some regions only.
pub only_part : (b : List ℕ) (o k : ℕ) (block : List ℕ) (rs : List Region) → o + k ≤ length b → Only rs (part b o k) block
    → Only (shifted o rs) b (overwrite b o block)
unfolding part
only_part b o k block rs fits p =
    let long : length block ≡ k = p.long ∙ length_part b o k fits in
    let within : o + length block ≤ length b = omega arith in
    record {
      long = length_overwrite b o block within;
      same = λ i h.
          ⊎_elim (get_d_before b o block within i)
          (λ (from : o ≤ i).
          ⊎_elim
          (λ (less : i < o + k).
          let j = i - o in
          let is : i ≡ o + j = omega arith in
          let inner : get_or block j 0 ≡ get_or b (o + j) 0 =
          p.same j (outside_shifted o rs j (rw is at h)) ∙ get_or-take k (drop o b) j 0 (omega arith) ∙ get_or-drop o b j 0 in
          rw is (get_d_inside b o block within j (omega arith) ∙ inner))
          (λ (behind : o + k ≤ i). get_d_behind b o block within i (omega arith)) (lt_or_ge i (o + k)))
          (lt_or_ge i o);
    }
