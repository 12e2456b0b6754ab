-- What the steps of cutting compute: how far a part goes, how many numbers the next part takes, and the cutting from an index on.
use Rattle.std.specs.Prelude.{ℕ, ◌+◌, ◌-◌, ◌≤◌, cond, List, ◌≡◌, ltb, eqb, length, get_or, drop}
use Rattle.error.specs.Refusal.{Answer, accepted, refuse_if, list_too_short}
use Rattle.buffer.specs.Bytes.{overwrite}
use Rattle.scripthash_cutting.specs.Cutting.{last_page_room, fitting, first_part, cutting_for, ranges_from}

-- How many numbers of a list from index i on go into a room, behind the number at i - 1.
unfoldable pub fitting_at : List ℕ → ℕ → ℕ → ℕ
fitting_at fks i room = fitting room (get_or fks (i - 1) 0) (drop i fks)

-- A part that has the numbers before index `from`, in `used` bytes, goes on within a room: up to index `end`, with `bytes` bytes.
pub record Reached (fks : List ℕ) (from used room end bytes : ℕ) : Type 0 where
  pub later : from ≤ end
  pub within : end ≤ length fks
  pub held : bytes ≤ room
  -- nothing more fits
  pub full : fitting_at fks end (room - bytes) ≡ 0
  -- in this room, and in any larger one, the part goes on from `end` as it did from `from`
  pub same : (more : ℕ) → room ≤ more → end + fitting_at fks end (more - bytes) ≡ from + fitting_at fks from (more - used)

-- How many numbers the next part takes: as many as the large room holds, or the small one where those are all.
unfoldable pub next_part : ℕ → ℕ → List ℕ → ℕ
next_part small large ns = cond (eqb (first_part large ns) (length ns)) (first_part small ns) (first_part large ns)

-- Cutting the numbers from index `from` on, for other pages with a room, into a lent list from its index `at` on: the ranges that the list
-- has then, or refused where it is too short.
unfoldable pub cut_from : ℕ → List ℕ → ℕ → ℕ → ℕ → Answer ℕ
cut_from room fks from size at =
    let count = at + length (cutting_for last_page_room room (drop from fks)) in refuse_if (ltb size count) list_too_short (accepted count)

-- What the lent list holds afterwards: the ranges of the parts from index `at` on, or what it held where it is too short.
unfoldable pub after_cut_from : ℕ → List ℕ → ℕ → List (List ℕ) → ℕ → List (List ℕ)
after_cut_from room fks from out at =
    let parts = cutting_for last_page_room room (drop from fks) in cond (ltb (length out) (at + length parts)) out
    (overwrite out at (ranges_from from parts))
