-- Sizes of blocks by class (FORMAT, Classes).
use Rattle.std.specs.Prelude.{ℕ, ◌*◌, ◌^◌, cond, ltb}

-- The bytes of a block of class c.
abbrev pub slab_bytes : ℕ → ℕ
slab_bytes c = 16 * 2 ^ c

-- The slots of a slab of class c: how many numbers it has room for by count.
abbrev pub slab_slots : ℕ → ℕ
slab_slots c = 4 * 2 ^ c

-- The largest class of a slab.
abbrev pub max_slab_class : ℕ
max_slab_class = 7

-- The bytes of the largest slab.
abbrev pub max_slab_bytes : ℕ
max_slab_bytes = 2048

-- The most numbers that any slab is given: longer lists have pages.
abbrev pub max_slab_count : ℕ
max_slab_count = 256

-- The class of a page.
abbrev pub page_class : ℕ
page_class = 8

-- The bytes of a page.
abbrev pub page_size : ℕ
page_size = 4096

-- A number where it is below 2 ^ k, and else 0.
unfoldable pub where_below : ℕ → ℕ → ℕ
where_below k n = cond (ltb n (2 ^ k)) n 0
