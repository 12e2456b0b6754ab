-- Desks that share a body (FORMAT, Desks): what each may hold of its pages, and when a take is permitted. One rule for both books.
use Rattle.std.specs.Prelude.{ℕ, zero, suc, ◌+◌, ◌-◌, ◌/◌, Bool, false, cond, not, ◌&&◌, ◌||◌, List, [], ◌∷◌, ltb, leb, eqb, length, get_or}
use Rattle.error.specs.Refusal.{Answer, accepted, refuse_if, refusal_of, shape_bad, desks_bad, past_ceiling, into_reserves}
use Rattle.scripthash_layout.specs.Sizes.{page_size}
use Rattle.book_limits.specs.Limits.{out_of_shape, page_after}

-- How many desks there are.
abbrev pub desks : ℕ
desks = 16

-- ---- the list that names each key's desk

-- Some byte of a list is no desk.
unfoldable pub beyond_desks : List ℕ → Bool
beyond_desks [] = false
beyond_desks (d ∷ ds) = leb desks d || beyond_desks ds

-- A list isn't one for so many heads: it is of another length, or some byte is no desk.
unfoldable pub list_bad : List ℕ → ℕ → Bool
list_bad ds heads = not (eqb (length ds) heads) || beyond_desks ds

-- The desk that a list names for a key.
abbrev pub desk_of : List ℕ → ℕ → ℕ
desk_of ds key = get_or ds key 0

-- ---- counts by desk

-- A desk's count among counts.
abbrev pub desk_count : ℕ → List ℕ → ℕ
desk_count desk counts = get_or counts desk 0

-- What desks may hold: of each, the pages that are kept for it, and the most that it gets.
pub record Limits : Type 0 where
  pub reserve : List ℕ
  pub ceiling : List ℕ

-- A sum over the numbers below another.
unfoldable pub sum_to : ℕ → (ℕ → ℕ) → ℕ
sum_to zero f = 0
sum_to (suc n) f = sum_to n f + f n

-- What the desks together hold, or keep, or may hold.
abbrev pub total : List ℕ → ℕ
total counts = sum_to desks (λ d. desk_count d counts)

-- What the desks together still lack of their reserves; one that holds more than its reserve lacks nothing.
unfoldable pub lacks : Limits → List ℕ → ℕ
lacks l held = sum_to desks (λ d. desk_count d l.reserve - desk_count d held)

-- The same where a desk holds some pages more.
unfoldable pub lacks_with : Limits → List ℕ → ℕ → ℕ → ℕ
lacks_with l held desk pages = sum_to desks (λ d. desk_count d l.reserve - (desk_count d held + cond (eqb d desk) pages 0))

-- Pages to be had: the freed ones, and the whole ones past the mark, rounded up.
abbrev pub to_be_had : ℕ → ℕ → ℕ → ℕ
to_be_had end freed mark = freed + (end - page_after mark) / page_size

-- Some of the counts of the desks below a number is above a limit.
unfoldable pub above : ℕ → ℕ → (ℕ → ℕ) → Bool
above most zero f = false
above most (suc n) f = above most n f || ltb most (f n)

-- Some reserve is above its own ceiling, of the desks below a number.
unfoldable pub reserve_high : ℕ → Limits → Bool
reserve_high zero l = false
reserve_high (suc n) l = reserve_high n l || ltb (desk_count n l.ceiling) (desk_count n l.reserve)

-- ---- the rule

-- A desk takes some pages, 0 for a slab, and so many freed ones and this mark are left then: turned back where that passes the desk's
-- ceiling, and where fewer pages are to be had then than the desks still lack.
unfoldable pub permitted : {A : Type 0} → Limits → ℕ → ℕ → ℕ → List ℕ → ℕ → ℕ → Answer A → Answer A
permitted l end desk pages held freed mark after =
    refuse_if (not (eqb pages 0) && ltb (desk_count desk l.ceiling) (desk_count desk held + pages)) past_ceiling
    (refuse_if (ltb (to_be_had end freed mark) (lacks_with l held desk pages)) into_reserves after)

-- A making of a book of so many bytes and heads: turned back where that is out of shape, also by a reserve above the body's pages; then
-- where the list names no desk for each key, or the reserves exceed, summed, the pages to be had or, singly, their own ceilings.
unfoldable pub making : {A : Type 0} → List ℕ → ℕ → ℕ → Limits → Answer A → Answer A
making ds size heads l after =
    refuse_if (out_of_shape size heads || above (size / page_size) desks (λ d. desk_count d l.reserve)) shape_bad
    (refuse_if (list_bad ds heads || (ltb (size / page_size - 1) (total l.reserve) || reserve_high desks l)) desks_bad after)

-- The number that such a take is turned back with, and 0 where it isn't.
unfoldable pub permission_number : Limits → ℕ → ℕ → ℕ → List ℕ → ℕ → ℕ → ℕ
permission_number l end desk pages held freed mark = refusal_of (permitted {A = Unit {0}} l end desk pages held freed mark (accepted tt))
