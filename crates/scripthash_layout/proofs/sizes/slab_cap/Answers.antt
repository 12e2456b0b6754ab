-- `slab_cap` answers the size of its class: below the limit the shift gives it, and from there on it doesn't fit 32 bits.
use Rattle.std.proofs.Common.{sym, arith}
use Rattle.scripthash_layout.proofs.LawsSizes.{shift_size, size_from, where_not_below}
use Rattle.scripthash_layout.proofs.sizes.slab_cap.Goals as goal

pub returns-then-class-lt30 : goal.returns-then-class-lt30
returns-then-class-lt30 c = shift_size 2 c.args.class 32 (omega arith)

pub returns-else-class-lt30 : goal.returns-else-class-lt30
returns-else-class-lt30 c = sym (where_not_below 32 _ (size_from 2 c.args.class 32 (omega arith)))
