-- The counts of a book over bytes, in 49 words: how many pages are freed, and by desk the pages held, the reserves and the ceilings. They
-- are read and written where they stand, whatever their number.
use Rattle.std.specs.Prelude.{ℕ, zero, suc, ◌+◌, ◌/◌, Bool, List, [], ◌∷◌, ◌++◌, get_or, set, replicate}
use Rattle.scripthash_layout.specs.Sizes.{page_size}
use Rattle.book_desks.specs.Desks.{desks, Limits, desk_count, above}

-- How many words there are.
abbrev pub count_words : ℕ
count_words = 49

-- Where the pages held stand, by desk.
abbrev pub held_at : ℕ → ℕ
held_at desk = 1 + desk

-- Where the reserves stand, by desk.
abbrev pub reserve_at : ℕ → ℕ
reserve_at desk = 17 + desk

-- Where the ceilings stand, by desk.
abbrev pub ceiling_at : ℕ → ℕ
ceiling_at desk = 33 + desk

-- How many pages are freed.
abbrev pub freed_count : List ℕ → ℕ
freed_count counts = get_or counts 0 0

-- How many pages a desk holds.
abbrev pub held_count : ℕ → List ℕ → ℕ
held_count desk counts = get_or counts (held_at desk) 0

-- The values of a function below a number, in order.
unfoldable pub listed : ℕ → (ℕ → ℕ) → List ℕ
listed zero f = []
listed (suc n) f = listed n f ++ (f n ∷ [])

-- The pages that each desk holds.
unfoldable pub held_in : List ℕ → List ℕ
held_in counts = listed desks (λ d. held_count d counts)

-- What each desk may hold.
unfoldable pub limits_in : List ℕ → Limits
limits_in counts =
    record { reserve = listed desks (λ d. get_or counts (reserve_at d) 0); ceiling = listed desks (λ d. get_or counts (ceiling_at d) 0) }

-- The counts of a fresh book with some limits: nothing is freed, and nothing held.
unfoldable pub fresh_counts : Limits → List ℕ
fresh_counts l =
    replicate (1 + desks) 0 ++ (listed desks (λ d. desk_count d l.reserve) ++ listed desks (λ d. desk_count d l.ceiling))

-- The count of freed pages, a desk's pages, or a reserve is above the pages of a body.
unfoldable pub counts_high : ℕ → List ℕ → Bool
counts_high end counts = above (end / page_size) 33 (λ i. get_or counts i 0)

-- Counts with other numbers of freed pages and of a desk's pages.
abbrev pub counted : ℕ → ℕ → ℕ → List ℕ → List ℕ
counted freed desk held counts = set (set counts 0 freed) (held_at desk) held
