-- How far a part reaches from an index of a list, number by number and room by room. Assumes nothing.
use Prim.Native.Nat.{ℕ, suc, ◌+◌, ◌-◌, ◌≤◌, ◌<◌}
use mathlib.Core.List.{List}
use mathlib.Core.Path.{◌≡◌}
use native.Mathlib.Nat.{le_refl}
use native.Mathlib.Numerals.{add-one}
use native.Mathlib.Omega.{arith}
use borrow.Author.Tests.{eq-eqb, ne_eqb}
use lib.ListN.{length, get_or, drop, length-drop, drop_of_length-le}
use lib.Seq.{drop-cons}
use Rattle.compact.specs.Uleb128.{uleb_len}
use Rattle.compact.proofs.LawsLength.{len_pos}
use Rattle.scripthash_cutting.specs.Cutting.{fitting, first_part}
use Rattle.scripthash_cutting.specs.Steps.{fitting_at, Reached, next_part}
use Rattle.scripthash_cutting.proofs.LawsFitting.{fit_yes, fit_no}

-- where there are none, none fits
pub at_end_lem : (fks : List ℕ) (i room : ℕ) → length fks ≤ i → fitting_at fks i room ≡ 0
unfolding fitting_at fitting
at_end_lem fks i room h = rw (drop_of_length-le fks h)

-- a number that doesn't fit behind some bytes
pub at_no : (fks : List ℕ) (i bytes room : ℕ) → i < length fks → room < bytes + uleb_len (get_or fks i 0 - get_or fks (i - 1) 0)
    → fitting_at fks i (room - bytes) ≡ 0
unfolding fitting_at
at_no fks i bytes room h e =
    rw (drop-cons fks i 0 h)
    (fit_no (room - bytes) (get_or fks (i - 1) 0) (get_or fks i 0) (drop (suc i) fks)
    (omega (arith, len_pos (get_or fks i 0 - get_or fks (i - 1) 0))))

-- a number that does, and those behind it
pub at_yes : (fks : List ℕ) (i bytes room : ℕ) → i < length fks → bytes + uleb_len (get_or fks i 0 - get_or fks (i - 1) 0) ≤ room
    → i + 1 + fitting_at fks (i + 1) (room - (bytes + uleb_len (get_or fks i 0 - get_or fks (i - 1) 0))) ≡ i + fitting_at fks i (room - bytes)
unfolding fitting_at
at_yes fks i bytes room h e =
    let d = uleb_len (get_or fks i 0 - get_or fks (i - 1) 0) in
    let same : room - (bytes + d) ≡ room - bytes - d = omega arith in
    let back : i + 1 - 1 ≡ i = omega arith in
    rw (
      drop-cons fks i 0 h,
      fit_yes (room - bytes) (get_or fks (i - 1) 0) (get_or fks i 0) (drop (suc i) fks) (omega arith),
      back,
      add-one i,
      same,
    )
    (omega arith)

-- the first part of the numbers from an index on
pub part_at : (fks : List ℕ) (start room : ℕ) → start < length fks
    → start + first_part room (drop start fks) ≡ start + 1 + fitting_at fks (start + 1) (room - uleb_len (get_or fks start 0))
unfolding fitting_at first_part
part_at fks start room h =
    let back : start + 1 - 1 ≡ start = omega arith in
    rw (drop-cons fks start 0 h, back, add-one start) (omega arith)

-- A part goes on within the small room, and from there within the large one: the two ends give the next part.
module _ (fks : List ℕ) (start small large : ℕ) (h : start < length fks) (less : small ≤ large) (e b e' b' : ℕ)
    (near : Reached fks (start + 1) (uleb_len (get_or fks start 0)) small e b) (far : Reached fks e b large e' b') where
  small_end : e ≡ start + first_part small (drop start fks)
  small_end = omega (arith, near.full, near.same small (le_refl small), part_at fks start small h)

  large_end : e' ≡ start + first_part large (drop start fks)
  large_end = omega (arith, far.full, far.same large (le_refl large), near.same large less, part_at fks start large h)

  -- the large room reaches the end of the list, or not
  pub next_last : e' ≡ length fks → e ≡ start + next_part small large (drop start fks)
  unfolding next_part
  next_last all =
      let whole : first_part large (drop start fks) ≡ length (drop start fks) = omega (arith, large_end, length-drop start fks) in
      rw (eq-eqb (first_part large (drop start fks)) (length (drop start fks)) whole) small_end

  pub next_other : (e' ≡ length fks → ⊥) → e' ≡ start + next_part small large (drop start fks)
  unfolding next_part
  next_other some =
      let part : first_part large (drop start fks) ≡ length (drop start fks) → ⊥ =
      λ q. some (omega (arith, large_end, length-drop start fks)) in
      rw (ne_eqb (first_part large (drop start fks)) (length (drop start fks)) part) large_end
