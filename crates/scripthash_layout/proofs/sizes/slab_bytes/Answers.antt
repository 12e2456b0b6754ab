-- `slab_bytes` answers the size of its class: below the limit the shift gives it, and from there on it doesn't fit 64 bits.
use Rattle.std.proofs.Common.{sym, arith}
use Rattle.scripthash_layout.proofs.LawsSizes.{shift_size, size_from, where_not_below}
use Rattle.scripthash_layout.proofs.sizes.slab_bytes.Goals as goal

pub returns-then-class-lt60 : goal.returns-then-class-lt60
returns-then-class-lt60 c = shift_size 4 c.args.class 64 (omega arith)

pub returns-else-class-lt60 : goal.returns-else-class-lt60
returns-else-class-lt60 c = sym (where_not_below 64 _ (size_from 4 c.args.class 64 (omega arith)))
