-- The cutting of a list into pages: allowed, with as few parts as any, how many those can be, and part by part from an index on. Assumes
-- nothing.
use Prim.Native.Nat.{ℕ, ◌+◌, ◌-◌, ◌/◌, ◌^◌, ◌≤◌, ◌<◌}
use mathlib.Core.List.{List, [], ◌∷◌}
use mathlib.Core.Logic.{⊎_elim}
use mathlib.Core.Path.{◌≡◌, sym}
use native.Mathlib.Numerals.{add-one}
use native.Mathlib.Omega.{arith}
use lib.ListN.{length, take, drop, length-drop, drop_of_length-le}
use lib.Seq.{length-take-le, drop-drop}
use Rattle.scripthash_stream.specs.Stream.{Rising, stream_len}
use Rattle.scripthash_cutting.specs.Cutting.{page_room, last_page_room, greedy_parts, replace_last, cutting_for, cutting, range_of}
use Rattle.scripthash_cutting.specs.Cutting.{ranges_from, AllowedCutting}
use Rattle.scripthash_cutting.specs.Steps.{next_part}
use Rattle.scripthash_cutting.proofs.LawsFitting.{Words, words_drop}
use Rattle.scripthash_cutting.proofs.LawsCutting.{cutting_allowed, cutting_optimal, parts_at_most, next_of}

-- the cutting of any numbers of 64 bits is allowed
pub pages_allowed : (ns : List ℕ) → Words ns → AllowedCutting ns (cutting ns)
pages_allowed ns w = cutting_allowed last_page_room page_room (omega arith) (omega arith) (omega arith) ns w

-- and every allowed cutting of a rising list has at least as many parts
pub pages_optimal : (ns : List ℕ) → Rising (2 ^ 63) 0 ns → (parts : List (List ℕ)) → AllowedCutting ns parts
    → length (cutting ns) ≤ length parts
pages_optimal ns r parts a = cutting_optimal last_page_room page_room (omega arith) (omega arith) (omega arith) ns r parts a

-- What is known of the part that starts at an index of a list and ends at e, when the other pages have a room.
pub record PartFrom (room : ℕ) (fks : List ℕ) (start e : ℕ) : Type 0 where
  pub later : start < e
  pub within : e ≤ length fks
  pub cut : cutting_for last_page_room room (drop start fks) ≡ take (e - start) (drop start fks) ∷ cutting_for last_page_room room (drop e fks)
  pub count : length (cutting_for last_page_room room (drop start fks)) ≡ length (cutting_for last_page_room room (drop e fks)) + 1
  pub ranges : ranges_from start (cutting_for last_page_room room (drop start fks))
      ≡ range_of start e ∷ ranges_from e (cutting_for last_page_room room (drop e fks))
  pub fits : stream_len (take (e - start) (drop start fks)) ≤ room
  pub fits_last : e ≡ length fks → stream_len (take (e - start) (drop start fks)) ≤ last_page_room

module _ (room : ℕ) (less : last_page_room ≤ room) (most : room ≤ page_room) where
  -- numbers that are cut have no more parts than this: a lent list of that length is long enough
  pub pages_at_most : (ns : List ℕ) → Words ns → length (cutting_for last_page_room room ns) ≤ length ns / 407 + 2
  pages_at_most ns w = omega (arith, parts_at_most last_page_room room (omega arith) less (omega arith) 407 (omega arith) ns w)

  -- all of the above holds of the next part
  pub part_from : (fks : List ℕ) (start e : ℕ) → start < length fks → Words fks → e ≡ start + next_part last_page_room room (drop start fks)
      → PartFrom room fks start e
  unfolding ranges_from
  part_from fks start e h w e-is =
      let k = next_part last_page_room room (drop start fks) in
      let x =
      next_of last_page_room room (omega arith) less (omega arith) (drop start fks) (simp length-drop (omega arith))
      (words_drop start fks w) in
      let size : length (take k (drop start fks)) ≡ k = length-take-le k (drop start fks) x.within in
      let cut : cutting_for last_page_room room (drop start fks) ≡ take k (drop start fks) ∷ cutting_for last_page_room room
      (drop (start + k) fks) =
      rw (← drop-drop k start fks) x.cut in
      let k-is : start + k - start ≡ k = omega arith in
      rw e-is record {
        later = omega (arith, x.some);
        within = omega (arith, x.within, length-drop start fks);
        cut = rw k-is cut;
        count = rw cut (sym (add-one (length (cutting_for last_page_room room (drop (start + k) fks)))));
        ranges = rw (cut, size);
        fits = rw k-is x.fits;
        fits_last = λ all. rw k-is (⊎_elim (λ l. absurd (omega (arith, all, l.1, length-drop start fks))) (λ r. r.1) x.which);
      }

  -- behind the end of a list there are no parts
  pub parts_behind : (fks : List ℕ) (start : ℕ) → length fks ≤ start → cutting_for last_page_room room (drop start fks) ≡ []
  unfolding replace_last greedy_parts
  parts_behind fks start h = rw (drop_of_length-le fks h)
