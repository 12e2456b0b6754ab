-- A head value as four numbers.
use Rattle.std.specs.Prelude.{ℕ}
use Rattle.scripthash_layout.specs.declared.head.ShHeadValue.{ShHeadValue}
use Rattle.scripthash_layout.specs.declared.head.ShHeadValue.TheVariants.{Empty, Inline, Slab, Extent}

-- Its kind.
abbrev pub kind_out : ShHeadValue → ℕ
kind_out Empty = 0
kind_out (Inline entry used) = 1
kind_out (Slab class used off) = 2
kind_out (Extent last) = 3

-- The class of a slab, and else 0.
abbrev pub class_out : ShHeadValue → ℕ
class_out Empty = 0
class_out (Inline entry used) = 0
class_out (Slab class used off) = class
class_out (Extent last) = 0

-- How many numbers it tells of; 0 for pages, whose head doesn't tell.
abbrev pub used_out : ShHeadValue → ℕ
used_out Empty = 0
used_out (Inline entry used) = used
used_out (Slab class used off) = used
used_out (Extent last) = 0

-- The inline number, the slab's offset or the last page's.
abbrev pub place_out : ShHeadValue → ℕ
place_out Empty = 0
place_out (Inline entry used) = entry
place_out (Slab class used off) = off
place_out (Extent last) = last
