-- The last of some ranges split: what the answer and the lent list are where that range is cut again, and where it is left; and the ranges
-- of the cutting as those of the greedy parts with the last one split. Assumes nothing.
use Prim.Native.Nat.{ℕ, suc, ◌+◌, ◌-◌, ◌≤◌, ◌<◌}
use mathlib.Core.List.{List, [], ◌∷◌, ◌++◌, append_assoc, append-nil}
use mathlib.Core.Path.{◌≡◌, refl, sym, ap, subst, ◌∙◌}
use native.Mathlib.Nat.{zero-add}
use native.Mathlib.Omega.{arith}
use borrow.Author.Tests.{lt-ltb, le-ltb, le-leb, lt-leb}
use lib.ListN.{length, get_or, take, drop, length-append}
use lib.Seq.{length-take-le, take-suc, take_at, drop_at}
use Rattle.error.specs.Refusal.{accepted, refuse_if}
use Rattle.buffer.specs.Bytes.{overwrite}
use Rattle.buffer.proofs.LawsBytes.{overwrite_nil}
use Rattle.scripthash_cutting.specs.Cutting.{page_room, last_page_room, greedy, replace_last, recut_last, cutting_for, cutting, range_of}
use Rattle.scripthash_cutting.specs.Cutting.{ranges_from, numbers_of, recut_range, split_ranges, no_room_to_split, split_last, after_split_last}
use Rattle.scripthash_cutting.specs.Cutting.{joined, Fit, Allowed}
use Rattle.scripthash_cutting.specs.Steps.{cut_from, after_cut_from}
use Rattle.scripthash_cutting.proofs.LawsFitting.{Words}
use Rattle.scripthash_cutting.proofs.LawsCutting.{replace_behind, cut_same, cutting_allowed}

-- the last element is replaced, and those in front of it are kept
replace_last_lem : {A : Type 0} (f : A → List A) (xs : List A) (x : A) → replace_last f (xs ++ (x ∷ [])) ≡ xs ++ f x
unfolding replace_last
replace_last_lem f [] x = refl
replace_last_lem f (y ∷ ys) x =
    replace_behind f y (ys ++ (x ∷ [])) (simp length-append (omega arith)) ∙ ap (λ (zs : List _). y ∷ zs) (replace_last_lem f ys x)

-- there are as many ranges as parts
length_ranges : (start : ℕ) (ps : List (List ℕ)) → length (ranges_from start ps) ≡ length ps
unfolding ranges_from
length_ranges start [] = refl
length_ranges start (p ∷ ps) = ap suc (length_ranges (start + length p) ps)

-- a write over the start of a buffer, of what it holds there and then of others
overwrite_behind : {A : Type 0} (b : List A) (k : ℕ) (ys : List A) → k ≤ length b → overwrite b 0 (take k b ++ ys) ≡ overwrite b k ys
unfolding overwrite
overwrite_behind b k ys h = rw (zero-add, length-append, length-take-le k b h, append_assoc)

-- where the ranges stay, so does the lent list
pub split_kept : (ns : List ℕ) (chunks : List (List ℕ)) (count : ℕ) → count ≤ length chunks
    → split_ranges ns (take count chunks) ≡ take count chunks
    → (split_last ns chunks count ≡ accepted count) × (after_split_last ns chunks count ≡ chunks)
unfolding split_last after_split_last no_room_to_split refuse_if
split_kept ns chunks count within same =
    let write : overwrite chunks 0 (take count chunks) ≡ chunks =
    ap (overwrite chunks 0) (sym (append-nil (take count chunks))) ∙ overwrite_behind chunks count [] within ∙ overwrite_nil chunks count in
    rw (same, length-take-le count chunks within, le-ltb (length chunks) count within) (refl, write)

-- The last of some ranges of a list.
module _ (ns : List ℕ) (chunks : List (List ℕ)) (count : ℕ) (some : 0 < count) (within : count ≤ length chunks) where
  abbrev last : List ℕ
  last = get_or chunks (count - 1) []

  take_is : take count chunks ≡ take (count - 1) chunks ++ (last ∷ [])
  take_is =
      let up : suc (count - 1) ≡ count = omega arith in
      ap (λ (k : ℕ). take k chunks) (sym up) ∙ take-suc chunks (count - 1) [] (omega arith)

  -- the ranges that come of the split
  split_is : split_ranges ns (take count chunks) ≡ take (count - 1) chunks ++ recut_range last_page_room ns last
  split_is = ap (split_ranges ns) take_is ∙ replace_last_lem (recut_range last_page_room ns) (take (count - 1) chunks) last

  -- a range that is left leaves the ranges as they are
  split_left : recut_range last_page_room ns last ≡ last ∷ [] → split_ranges ns (take count chunks) ≡ take count chunks
  split_left e = split_is ∙ ap (λ (r : List (List ℕ)). take (count - 1) chunks ++ r) e ∙ sym take_is

  -- so is one that is empty, and one that leaves the list
  pub split_empty : get_or last 1 0 ≤ get_or last 0 0 → split_ranges ns (take count chunks) ≡ take count chunks
  unfolding recut_range
  split_empty h = split_left (rw (le-ltb (get_or last 0 0) (get_or last 1 0) h))

  pub split_outside : get_or last 0 0 < get_or last 1 0 → length ns < get_or last 1 0 → split_ranges ns (take count chunks) ≡ take count chunks
  unfolding recut_range
  split_outside l h = split_left (rw (lt-ltb (get_or last 0 0) (get_or last 1 0) l, lt-leb (get_or last 1 0) (length ns) h))

  -- one that has numbers of the list is cut again
  module _ (low : get_or last 0 0 < get_or last 1 0) (high : get_or last 1 0 ≤ length ns)
      (words : Words (numbers_of ns (get_or last 0 0) (get_or last 1 0))) where
    abbrev parts : List (List ℕ)
    parts = cutting_for last_page_room last_page_room (numbers_of ns (get_or last 0 0) (get_or last 1 0))

    cut_is : recut_range last_page_room ns last ≡ ranges_from (get_or last 0 0) parts
    unfolding recut_range
    cut_is =
        rw (
          lt-ltb (get_or last 0 0) (get_or last 1 0) low,
          le-leb (get_or last 1 0) (length ns) high,
          cut_same last_page_room (omega arith) (numbers_of ns (get_or last 0 0) (get_or last 1 0)) words,
        )

    count_is : length (split_ranges ns (take count chunks)) ≡ count - 1 + length parts
    count_is = rw (split_is, cut_is, length-append, length-take-le (count - 1) chunks (omega arith), length_ranges (get_or last 0 0) parts)

    list_is : overwrite chunks 0 (split_ranges ns (take count chunks)) ≡ overwrite chunks (count - 1) (ranges_from (get_or last 0 0) parts)
    list_is = rw (split_is, cut_is) (overwrite_behind chunks (count - 1) (ranges_from (get_or last 0 0) parts) (omega arith))

    pub split_cut : (split_last ns chunks count ≡ cut_from last_page_room (take (get_or last 1 0) ns) (get_or last 0 0) (length chunks) (count - 1))
        × (after_split_last ns chunks count ≡ after_cut_from last_page_room (take (get_or last 1 0) ns) (get_or last 0 0) chunks (count - 1))
    unfolding split_last after_split_last no_room_to_split cut_from after_cut_from
    split_cut = rw (le-ltb (length chunks) count within, list_is, count_is) (refl, refl)

-- ---- the cutting as a split

-- a part's numbers, by its range
numbers_at : (front p rest : List ℕ) → numbers_of (front ++ (p ++ rest)) (length front) (length front + length p) ≡ p
numbers_at front p rest =
    let all : take (length front + length p) (front ++ (p ++ rest)) ≡ front ++ p =
    ap (take (length front + length p)) (sym (append_assoc front p rest))
    ∙ take_at (front ++ p) rest (length front + length p) (length-append front p) in
    ap (drop (length front)) all ∙ drop_at front p (length front) refl

-- the range of the last part is split as the part is
split_from : (room : ℕ) (front : List ℕ) (ps : List (List ℕ)) → Fit room room ps
    → split_ranges (front ++ joined ps) (ranges_from (length front) ps) ≡ ranges_from (length front) (recut_last last_page_room ps)
unfolding Fit joined ranges_from replace_last recut_range
split_from room front [] f = refl
split_from room front (p ∷ []) f =
    let s = length front in
    let high : s + length p ≤ length (front ++ (p ++ [])) = simp length-append (omega arith) in
    rw (lt-ltb s (s + length p) (omega (arith, f.0)), le-leb (s + length p) (length (front ++ (p ++ []))) high, numbers_at front p [])
split_from room front (p ∷ q ∷ ps) f =
    let whole : List ℕ = joined (q ∷ ps) in
    let long : length (front ++ p) ≡ length front + length p = length-append front p in
    let moved : split_ranges (front ++ (p ++ whole)) (ranges_from (length front + length p) (q ∷ ps))
    ≡ ranges_from (length front + length p) (recut_last last_page_room (q ∷ ps)) =
    subst (λ (l : List ℕ). split_ranges l (ranges_from (length front + length p) (q ∷ ps))
    ≡ ranges_from (length front + length p) (recut_last last_page_room (q ∷ ps))) (append_assoc front p whole)
    (subst (λ (n : ℕ). split_ranges ((front ++ p) ++ whole) (ranges_from n (q ∷ ps)) ≡ ranges_from n (recut_last last_page_room (q ∷ ps)))
    long (split_from room (front ++ p) (q ∷ ps) f.2)) in
    ap (λ (rs : List (List ℕ)). range_of (length front) (length front + length p) ∷ rs) moved

-- the ranges of the cutting are those of the greedy parts for pages, with the last one split
pub pages_split : (ns : List ℕ) → Words ns → ranges_from 0 (cutting ns) ≡ split_ranges ns (ranges_from 0 (greedy page_room ns))
pages_split ns w =
    let a : Allowed page_room page_room ns (greedy page_room ns) =
    rw (cut_same page_room (omega arith) ns w) at (cutting_allowed page_room page_room (omega arith) (omega arith) (omega arith) ns w) in
    sym (rw a.consecutive at (split_from page_room [] (greedy page_room ns) a.fit))
