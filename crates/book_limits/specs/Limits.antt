-- The limits of an account book's body and heads, and where a page may begin in it.
use Rattle.std.specs.Prelude.{ℕ, ◌+◌, ◌-◌, ◌*◌, ◌/◌, ◌%◌, ◌^◌, min, Bool, cond, not, ◌&&◌, ◌||◌, leb, ltb, eqb}
use Rattle.scripthash_layout.specs.Sizes.{slab_bytes, page_class, page_size}

-- The least length of a body.
abbrev pub least_body : ℕ
least_body = 8192

-- The greatest length of a body.
abbrev pub most_body : ℕ
most_body = 2 ^ 41

-- The end of slabs: a slab's head has 40 bits for its offset. It is a multiple of a page, so that no gap before a page lies across it.
abbrev pub slabs_end : ℕ
slabs_end = 2 ^ 40

-- The most heads, one for each key.
abbrev pub most_heads : ℕ
most_heads = 65536

-- The lengths of a body and of its heads break the limits.
unfoldable pub out_of_shape : ℕ → ℕ → Bool
out_of_shape size heads =
    not (eqb (size % page_size) 0) || (ltb size least_body || (ltb most_body size || (eqb heads 0 || ltb most_heads heads)))

-- The most numbers that a last page's creates, of four bytes, tells.
abbrev pub most_counted : ℕ
most_counted = 2 ^ 32 - 1

-- The total that a last page tells of so many numbers: as many, or 0, unknown, where they are more than it can tell.
abbrev pub total_told : ℕ → ℕ
total_told count = cond (leb count most_counted) count 0

-- An offset rounded up to the next multiple of a page.
abbrev pub page_after : ℕ → ℕ
page_after off = (off + (page_size - 1)) / page_size * page_size

-- A block of a class at an offset can't be taken: it is a slab that ends past the end of slabs.
unfoldable pub past_slabs : ℕ → ℕ → Bool
past_slabs class off = not (eqb class page_class) && ltb slabs_end (off + slab_bytes class)

-- Where the gap from the mark to the next page ends whose blocks go on lists: past the end of slabs it is empty.
abbrev pub gap_end : ℕ → ℕ
gap_end mark = cond (leb (page_after mark) slabs_end) (page_after mark) mark

-- The end up to which a freed block of a class may lie that is popped: the mark, of a slab the end of slabs too.
unfoldable pub pop_end : ℕ → ℕ → ℕ
pop_end class mark = cond (eqb class page_class) mark (min mark slabs_end)
