-- The limits at their boundaries: each value is computed. Assumes nothing.
use Prim.Native.Nat.{◌+◌, ◌-◌, ◌^◌}
use mathlib.Core.Bool.{true, false}
use mathlib.Core.Path.{◌≡◌, refl}
use Rattle.book_limits.specs.Limits.{out_of_shape}
use Rattle.book_limits.specs.Limits.{page_after, past_slabs, gap_end, pop_end, total_told}

-- Bodies and heads at their limits.
pub shapes_at : (out_of_shape 8192 1 ≡ false) × (out_of_shape 4096 1 ≡ true) × (out_of_shape 8200 1 ≡ true) × (out_of_shape (2 ^ 41) 65536 ≡ false)
    × (out_of_shape (2 ^ 41) 65537 ≡ true) × (out_of_shape (2 ^ 41 + 4096) 1 ≡ true) × (out_of_shape 8192 0 ≡ true)
unfolding out_of_shape
shapes_at = (refl, refl, refl, refl, refl, refl, refl)

-- A mark is rounded up to a page, or stays.
pub rounded_at : (page_after 4096 ≡ 4096) × (page_after 4112 ≡ 8192) × (page_after 8192 ≡ 8192)
rounded_at = (refl, refl, refl)

-- A slab may end at 2^40, and not behind it; a page may.
pub slabs_at : (past_slabs 0 (2 ^ 40 - 16) ≡ false) × (past_slabs 1 (2 ^ 40 - 16) ≡ true) × (past_slabs 0 (2 ^ 40) ≡ true)
    × (past_slabs 8 (2 ^ 40) ≡ false)
unfolding past_slabs
slabs_at = (refl, refl, refl, refl)

-- A gap that ends at 2^40 is carved, and one behind it isn't.
pub gaps_at : (gap_end (2 ^ 40 - 16) ≡ 2 ^ 40) × (gap_end (2 ^ 40) ≡ 2 ^ 40) × (gap_end (2 ^ 40 + 16) ≡ 2 ^ 40 + 16)
gaps_at = (refl, refl, refl)

-- A slab is popped up to 2^40, and a page up to the mark.
pub pops_at : (pop_end 0 8192 ≡ 8192) × (pop_end 0 (2 ^ 41) ≡ 2 ^ 40) × (pop_end 8 (2 ^ 41) ≡ 2 ^ 41)
unfolding pop_end
pops_at = (refl, refl, refl)

-- A total of 2^32 - 1 is told, and one more isn't.
pub totals_at : (total_told (2 ^ 32 - 1) ≡ 2 ^ 32 - 1) × (total_told (2 ^ 32) ≡ 0)
totals_at = (refl, refl)
