-- Cutting numbers into the parts that pages hold (FORMAT, Cutting). A part is stored as a stream of its own: its first number, then
-- the differences. The numbers may be any: a difference of a number to a larger one counts as 0.
use Rattle.std.specs.Prelude.{ℕ, zero, suc, ◌+◌, ◌-◌, ◌≤◌, ◌<◌, Bool, cond, ◌&&◌, ◌||◌, List, [], ◌∷◌, ◌++◌, ◌≡◌, leb, ltb, length, get_or, take, drop}
use Rattle.error.specs.Refusal.{Answer, accepted, refuse_if, list_too_short}
use Rattle.buffer.specs.Bytes.{overwrite}
use Rattle.compact.specs.Uleb128.{uleb_len}
use Rattle.scripthash_layout.specs.Sizes.{page_size}
use Rattle.scripthash_stream.specs.Stream.{stream_len}

-- The bytes that a page has for a stream: all from byte 8 on.
abbrev pub page_room : ℕ
page_room = page_size - 8

-- The bytes that the last page of a list has for a stream, since it also names an extent: all from byte 24 on.
abbrev pub last_page_room : ℕ
last_page_room = page_size - 24

-- How many of some numbers behind `prev` go into a room: each takes the length of its difference, up to the first that doesn't fit.
unfoldable pub fitting : ℕ → ℕ → List ℕ → ℕ
fitting room prev [] = 0
fitting room prev (n ∷ ns) =
    cond (leb (uleb_len (n - prev)) room) (suc (fitting (room - uleb_len (n - prev)) n ns)) 0

-- How many numbers the first part takes: one, and those behind it that fit with it.
unfoldable pub first_part : ℕ → List ℕ → ℕ
first_part room [] = 0
first_part room (n ∷ ns) = suc (fitting (room - uleb_len n) n ns)

-- The first d parts of the greedy cutting: a part takes as many numbers as it can, and the next starts behind it.
unfoldable pub greedy_parts : ℕ → ℕ → List ℕ → List (List ℕ)
greedy_parts zero room ns = []
greedy_parts (suc d) room [] = []
greedy_parts (suc d) room (n ∷ ns) =
    let k = first_part room (n ∷ ns) in take k (n ∷ ns) ∷ greedy_parts d room (drop k (n ∷ ns))

-- The greedy cutting: there are no more parts than numbers.
abbrev pub greedy : ℕ → List ℕ → List (List ℕ)
greedy room ns = greedy_parts (length ns) room ns

-- A list with its last element replaced by some others.
unfoldable pub replace_last : {A : Type 0} → (A → List A) → List A → List A
replace_last f [] = []
replace_last f (x ∷ []) = f x
replace_last f (x ∷ y ∷ zs) = x ∷ replace_last f (y ∷ zs)

-- Some parts with the last of them cut again, greedily.
abbrev pub recut_last : ℕ → List (List ℕ) → List (List ℕ)
recut_last room parts = replace_last (greedy room) parts

-- The cutting for a last page with little room and other pages with more: greedy for the others, and the last part cut again.
abbrev pub cutting_for : ℕ → ℕ → List ℕ → List (List ℕ)
cutting_for small large ns = recut_last small (greedy large ns)

-- The cutting of some numbers into pages.
abbrev pub cutting : List ℕ → List (List ℕ)
cutting ns = cutting_for last_page_room page_room ns

-- ---- the ranges of parts

-- The range of numbers from one index up to another.
abbrev pub range_of : ℕ → ℕ → List ℕ
range_of start end = start ∷ end ∷ []

-- The ranges of consecutive parts, when the first starts at `start`.
unfoldable pub ranges_from : ℕ → List (List ℕ) → List (List ℕ)
ranges_from start [] = []
ranges_from start (p ∷ ps) = range_of start (start + length p) ∷ ranges_from (start + length p) ps

-- Cutting into a lent list with room for some ranges: the count of parts, or refused where the list is too short.
unfoldable pub chunk_ranges : ℕ → List ℕ → Answer ℕ
chunk_ranges room ns = refuse_if (ltb room (length (cutting ns))) list_too_short (accepted (length (cutting ns)))

-- What the lent list holds afterwards: the ranges of the parts at its start, or what it held where it is too short.
unfoldable pub after_chunk_ranges : List (List ℕ) → List ℕ → List (List ℕ)
after_chunk_ranges out ns = cond (ltb (length out) (length (cutting ns))) out (overwrite out 0 (ranges_from 0 (cutting ns)))

-- ---- the last range split

-- The numbers of a list from one index up to another.
abbrev pub numbers_of : List ℕ → ℕ → ℕ → List ℕ
numbers_of ns start end = drop start (take end ns)

-- A range of a list cut again for a room; one that is empty, or leaves the list, is left as it is.
unfoldable pub recut_range : ℕ → List ℕ → List ℕ → List (List ℕ)
recut_range room ns range =
    let start = get_or range 0 0 in
    let end = get_or range 1 0 in
    cond (ltb start end && leb end (length ns)) (ranges_from start (greedy room (numbers_of ns start end))) (range ∷ [])

-- Some ranges of a list with the last of them cut again for a last page.
abbrev pub split_ranges : List ℕ → List (List ℕ) → List (List ℕ)
split_ranges ns ranges = replace_last (recut_range last_page_room ns) ranges

-- A lent list has fewer ranges than it is said to have, or no room for those that come of the split.
unfoldable pub no_room_to_split : List ℕ → List (List ℕ) → ℕ → Bool
no_room_to_split ns chunks count = ltb (length chunks) count || ltb (length chunks) (length (split_ranges ns (take count chunks)))

-- Splitting the last of the first ranges of a lent list: how many there are then, or refused where the list is too short.
unfoldable pub split_last : List ℕ → List (List ℕ) → ℕ → Answer ℕ
split_last ns chunks count =
    refuse_if (no_room_to_split ns chunks count) list_too_short (accepted (length (split_ranges ns (take count chunks))))

-- What the lent list holds afterwards: the ranges with the last one split, or what it held where it is too short.
unfoldable pub after_split_last : List ℕ → List (List ℕ) → ℕ → List (List ℕ)
after_split_last ns chunks count = cond (no_room_to_split ns chunks count) chunks (overwrite chunks 0 (split_ranges ns (take count chunks)))

-- ---- which cuttings are allowed

-- All numbers of some parts, in order.
unfoldable pub joined : List (List ℕ) → List ℕ
joined [] = []
joined (p ∷ ps) = p ++ joined ps

-- Each part has a number, and its stream fits: the last into the small room, the others into the large one.
unfoldable pub Fit : ℕ → ℕ → List (List ℕ) → Type 0
Fit small large [] = Unit {0}
Fit small large (p ∷ []) = (0 < length p) × (stream_len p ≤ small)
Fit small large (p ∷ q ∷ ps) = (0 < length p) × (stream_len p ≤ large) × Fit small large (q ∷ ps)

-- An allowed cutting of some numbers: its parts are consecutive and make up the numbers, and they fit.
pub record Allowed (small large : ℕ) (ns : List ℕ) (parts : List (List ℕ)) : Type 0 where
  pub consecutive : joined parts ≡ ns
  pub fit : Fit small large parts

-- An allowed cutting of a list into pages.
abbrev pub AllowedCutting : List ℕ → List (List ℕ) → Type 0
AllowedCutting ns parts = Allowed last_page_room page_room ns parts
