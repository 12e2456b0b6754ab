-- Sizes that are a power of two at class 0: when they are below another power of two, how they grow, and what a shift makes of them.
-- At j = 4 they are the bytes of a block, at j = 2 the slots of a slab.
use mathlib.Core.Path.{◌≡◌, refl, sym, ◌∙◌}
use Prim.Native.Nat.{ℕ, ◌+◌, ◌*◌, ◌%◌, ◌^◌, ◌≤◌, ◌<◌}
use native.Mathlib.Nat.{mod-eq_of_lt, mul-le-mul_left, mul-lt-mul_of_pos_left}
use lib.Pow.{pow-add, pow-lt, pow_mono, pow_pos}
use borrow.Author.Tests.{lt-ltb, le-ltb}
use Rattle.scripthash_layout.specs.Sizes.{slab_bytes, max_slab_bytes, max_slab_class, page_class, page_size, where_below}

-- A number below 2 ^ k is answered as it is.
pub where_below_lem : (k n : ℕ) → n < 2 ^ k → where_below k n ≡ n
unfolding where_below
where_below_lem k n h = simp (lt-ltb _ _ h)

-- A number from 2 ^ k on is answered as 0.
pub where_not_below : (k n : ℕ) → 2 ^ k ≤ n → where_below k n ≡ 0
unfolding where_below
where_not_below k n h = simp (le-ltb _ _ h)

-- Class c is below 2 ^ k where j + c is below k.
pub size_below : (j c k : ℕ) → j + c < k → 2 ^ j * 2 ^ c < 2 ^ k
size_below j c k h = rw (← pow-add 2 j c) (pow-lt h)

-- Class c is at least 2 ^ k where j + c is at least k.
pub size_from : (j c k : ℕ) → k ≤ j + c → 2 ^ k ≤ 2 ^ j * 2 ^ c
size_from j c k h = rw (← pow-add 2 j c) (pow_mono h)

-- A class is at least as large as each class up to it.
pub size_mono : (j : ℕ) {c d : ℕ} → c ≤ d → 2 ^ j * 2 ^ c ≤ 2 ^ j * 2 ^ d
size_mono j h = mul-le-mul_left (2 ^ j) (pow_mono h)

-- A class is larger than each class below it.
pub size_less : (j : ℕ) {c d : ℕ} → c < d → 2 ^ j * 2 ^ c < 2 ^ j * 2 ^ d
size_less j h = mul-lt-mul_of_pos_left (pow-lt h) (pow_pos j)

-- A shift in k bits gives the size of class c where nothing is shifted out.
pub shift_size : (j c k : ℕ) → j + c < k → (2 ^ j * 2 ^ c) % 2 ^ k ≡ where_below k (2 ^ j * 2 ^ c)
shift_size j c k h = mod-eq_of_lt (size_below j c k h) ∙ sym (where_below_lem k _ (size_below j c k h))

-- The largest slab has the bytes that its class gives.
pub max_slab_bytes_lem : slab_bytes max_slab_class ≡ max_slab_bytes
max_slab_bytes_lem = refl

-- A page has the bytes that its class gives.
pub page_bytes : slab_bytes page_class ≡ page_size
page_bytes = refl
