-- Forms weighed together: totals over the places of some bytes, and the weights by which pieces add up to differences.
use Rattle.std.specs.Prelude.{ℕ, zero, suc, ◌+◌, ◌-◌, ◌*◌, ◌^◌, ◌≤◌, ◌<◌, Bool, true, false, cond, ◌&&◌, List, ◌≡◌, length, get_or}
use Rattle.compact.specs.Uleb128.{goes_on, piece}
use Rattle.scripthash_words.specs.Words.{end_one}

-- The sum of what f gives for the places before i.
unfoldable pub total_over : (ℕ → ℕ) → ℕ → ℕ
total_over f zero = 0
total_over f (suc i) = total_over f i + f i

-- 1 where the byte at place i ends its form, else 0: the total counts the forms that end before a place.
abbrev pub end_at : List ℕ → ℕ → ℕ
end_at bs i = end_one (get_or bs i 0)

-- Where so many forms are wanted from a place on, those that end before another place and those left make them up.
pub record Counts (bs : List ℕ) (from want at left : ℕ) : Type 0 where
  pub same : total_over (end_at bs) from + want ≡ total_over (end_at bs) at + left
  pub onward : from ≤ at
  pub within : at ≤ length bs

-- The byte before place i goes on; the two before it do; the three; the four.
abbrev pub one_before : List ℕ → ℕ → Bool
one_before bs i = goes_on (get_or bs (i - 1) 0)

abbrev pub two_before : List ℕ → ℕ → Bool
two_before bs i = one_before bs i && goes_on (get_or bs (i - 2) 0)

abbrev pub three_before : List ℕ → ℕ → Bool
three_before bs i = two_before bs i && goes_on (get_or bs (i - 3) 0)

abbrev pub four_before : List ℕ → ℕ → Bool
four_before bs i = three_before bs i && goes_on (get_or bs (i - 4) 0)

-- So many bytes before place i go on.
abbrev pub all_before : ℕ → List ℕ → ℕ → Bool
all_before zero bs i = true
all_before (suc k) bs i = all_before k bs i && goes_on (get_or bs (i - suc k) 0)

-- The piece of a byte where a condition holds, else 0.
abbrev pub piece_if : Bool → ℕ → ℕ
piece_if c b = cond c (piece b) 0

-- The piece of the byte at place i; the same where one byte of its form stands before it, else 0; where two do; three; four.
abbrev pub piece_at : List ℕ → ℕ → ℕ
piece_at bs i = piece (get_or bs i 0)

abbrev pub behind_one : List ℕ → ℕ → ℕ
behind_one bs i = piece_if (one_before bs i) (get_or bs i 0)

abbrev pub behind_two : List ℕ → ℕ → ℕ
behind_two bs i = piece_if (two_before bs i) (get_or bs i 0)

abbrev pub behind_three : List ℕ → ℕ → ℕ
behind_three bs i = piece_if (three_before bs i) (get_or bs i 0)

abbrev pub behind_four : List ℕ → ℕ → ℕ
behind_four bs i = piece_if (four_before bs i) (get_or bs i 0)

-- The same where so many bytes of its form stand before it.
abbrev pub behind_by : ℕ → List ℕ → ℕ → ℕ
behind_by k bs i = piece_if (all_before k bs i) (get_or bs i 0)

-- The differences whose forms stand before place i, where none has more than two bytes, than three, than five: the weights of a byte add up
-- to a power of 128.
abbrev pub weighed_two : List ℕ → ℕ → ℕ
weighed_two bs i = total_over (piece_at bs) i + 127 * total_over (behind_one bs) i

abbrev pub weighed_three : List ℕ → ℕ → ℕ
weighed_three bs i = weighed_two bs i + 16256 * total_over (behind_two bs) i

abbrev pub weighed : List ℕ → ℕ → ℕ
weighed bs i = weighed_three bs i + 2080768 * total_over (behind_three bs) i + 266338304 * total_over (behind_four bs) i

-- What a piece weighs behind so many bytes of its form: with the weights behind fewer, a power of 128.
abbrev pub weight : ℕ → ℕ
weight zero = 1
weight (suc k) = 127 * 128 ^ k

-- The differences whose forms stand before place i, where none has more than n bytes.
abbrev pub weighed_by : ℕ → List ℕ → ℕ → ℕ
weighed_by zero bs i = 0
weighed_by (suc k) bs i = weighed_by k bs i + weight k * total_over (behind_by k bs) i

-- What the first n of some sums of pieces weigh, each of those behind one byte more.
abbrev pub weigh_sums : ℕ → List ℕ → ℕ
weigh_sums zero sums = 0
weigh_sums (suc k) sums = weigh_sums k sums + weight k * get_or sums k 0

-- The byte at place i goes on, and the one before it does; the two before it do; the four.
abbrev pub two_go_on : List ℕ → ℕ → Bool
two_go_on bs i = goes_on (get_or bs i 0) && goes_on (get_or bs (i - 1) 0)

abbrev pub three_go_on : List ℕ → ℕ → Bool
three_go_on bs i = two_go_on bs i && goes_on (get_or bs (i - 2) 0)

abbrev pub five_go_on : List ℕ → ℕ → Bool
five_go_on bs i = three_go_on bs i && goes_on (get_or bs (i - 3) 0) && goes_on (get_or bs (i - 4) 0)

-- The n bytes up to place i go on.
abbrev pub in_a_row : ℕ → List ℕ → ℕ → Bool
in_a_row zero bs i = true
in_a_row (suc k) bs i = in_a_row k bs i && goes_on (get_or bs (i - k) 0)

-- No byte from one place to another is 0, and a condition holds at none.
abbrev pub Lacks : List ℕ → (ℕ → Bool) → ℕ → ℕ → Type 0
Lacks bs p from to = (i : ℕ) → from ≤ i → i < to → (0 < get_or bs i 0) × (p i ≡ false)

-- No byte from one place to another is 0, and no form there has more bytes than `longest`, if that is 2 or 3, or more than five.
pub record Longest (bs : List ℕ) (from to longest : ℕ) : Type 0 where
  pub each : Lacks bs (five_go_on bs) from to
  pub two : longest ≤ 2 → (i : ℕ) → from ≤ i → i ≤ to → two_before bs i ≡ false
  pub three : longest ≤ 3 → (i : ℕ) → from ≤ i → i ≤ to → three_before bs i ≡ false
