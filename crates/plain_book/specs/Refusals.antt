-- Which refusals the plain book knows.
use Rattle.std.specs.Prelude.{ℕ, Bool, true, false, ◌||◌, List, [], ◌∷◌, ◌≡◌, eqb}
use Rattle.error.specs.Refusal.{Answer, accepted, refused, shape_bad, key_beyond, key_in_use, too_many_offered, offered_first_zero, offered_bit63}
use Rattle.error.specs.Refusal.{offered_too_large, offered_not_rising, list_too_short, free_head_bad, no_room, desks_bad, past_ceiling, into_reserves}
use Rattle.book_statements.specs.Calls.{Call, Answers, done, asked, changed}

-- The numbers of a plain book in shape, whose list names a desk for each key: 2, 3, 10, 12 to 14, 32, 34, 36, 40 and 41. They are all where
-- no slab ends past the end of slabs.
unfoldable pub key_refusals : List ℕ
key_refusals =
    key_beyond ∷ key_in_use ∷ too_many_offered ∷ offered_first_zero ∷ offered_bit63 ∷ offered_too_large ∷ offered_not_rising ∷ list_too_short ∷ no_room
    ∷ past_ceiling ∷ into_reserves ∷ []

-- These, and 1 and 39, of a plain book out of shape or with another list.
unfoldable pub low_refusals : List ℕ
low_refusals = shape_bad ∷ desks_bad ∷ key_refusals

-- These, and 35, of a freed slab that ends past the end of slabs (change request N8).
abbrev pub plain_refusals : List ℕ
plain_refusals = free_head_bad ∷ low_refusals

-- A number is one of some.
unfoldable pub is_one_of : ℕ → List ℕ → Bool
is_one_of m [] = false
is_one_of m (n ∷ ns) = eqb m n || is_one_of m ns

-- An answer is accepted, or refused with one of some numbers.
unfoldable pub RefusedBy : {A : Type 0} → List ℕ → Answer A → Type 0
RefusedBy numbers (accepted x) = Unit {0}
RefusedBy numbers (refused m) = is_one_of m numbers ≡ true

-- So is each answer to a list of calls.
unfoldable pub EachRefusedBy : List ℕ → {cs : List Call} → Answers cs → Type 0
EachRefusedBy numbers done = Unit {0}
EachRefusedBy numbers (asked a rest) = RefusedBy numbers a × EachRefusedBy numbers rest
EachRefusedBy numbers (changed a rest) = RefusedBy numbers a × EachRefusedBy numbers rest
