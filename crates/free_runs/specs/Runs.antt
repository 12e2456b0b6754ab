-- A run out of freed pages (FORMAT, Taking a run): the least offset from which so many pages are all freed, over a list of offsets. One
-- rule for both books.
use Rattle.std.specs.Prelude.{◌≡◌, ℕ, zero, suc, ◌+◌, ◌*◌, ◌<◌, min, Bool, true, false, cond, not, ◌&&◌, ◌||◌, List, [], ◌∷◌, ◌==◌, nat_le, nat_lt}
use Rattle.std.proofs.Math.Option.{Option, none, some}
use Rattle.scripthash_layout.specs.Sizes.{page_size}

-- ---- the lowest stretch

-- An offset stands in a list.
unfoldable pub is_in : ℕ → List ℕ → Bool
is_in o [] = false
is_in o (x ∷ xs) = x == o || is_in o xs

-- So many pages side by side, from an offset on, all stand in a list.
unfoldable pub stretch : ℕ → ℕ → List ℕ → Bool
stretch zero o os = true
stretch (suc n) o os = is_in o os && stretch n (o + page_size) os

-- The lesser of an offset and of one that there may be.
unfoldable pub lesser : ℕ → Option ℕ → Option ℕ
lesser o none = some o
lesser o (some p) = some (min o p)

-- The least of some offsets from which so many pages stand in a list, if there is one.
unfoldable pub least_of : ℕ → List ℕ → List ℕ → Option ℕ
least_of n os [] = none
least_of n os (x ∷ xs) = cond (stretch n x os) (lesser x (least_of n os xs)) (least_of n os xs)

-- The least offset from which so many pages, one or more, all stand in a list, if there is one.
abbrev pub lowest : ℕ → List ℕ → Option ℕ
lowest n os = least_of n os os

-- So many pages, from an offset on, all stand in a list.
abbrev pub Freed : ℕ → ℕ → List ℕ → Type 0
Freed n o os = (i : ℕ) → i < n → is_in (o + i * page_size) os ≡ true

-- ---- what is left

-- An offset lies between two.
abbrev pub in_run : ℕ → ℕ → ℕ → Bool
in_run from end x = nat_le from x && nat_lt x end

-- What is left of a list, in its order, without the offsets between two.
unfoldable pub left_of : ℕ → ℕ → List ℕ → List ℕ
left_of from end [] = []
left_of from end (x ∷ xs) = cond (in_run from end x) (left_of from end xs) (x ∷ left_of from end xs)

-- What is left of a list without a run of so many pages from an offset on.
abbrev pub without_run : ℕ → ℕ → List ℕ → List ℕ
without_run off pages os = left_of off (off + pages * page_size) os

-- The first of some offsets lies between two.
unfoldable pub top_goes : ℕ → ℕ → List ℕ → Bool
top_goes from end [] = false
top_goes from end (x ∷ xs) = in_run from end x

-- The offsets of a list that are left, and whose successor is not.
unfoldable pub losing : ℕ → ℕ → List ℕ → List ℕ
losing from end [] = []
losing from end (x ∷ xs) = cond (not (in_run from end x) && top_goes from end xs) (x ∷ losing from end xs) (losing from end xs)
