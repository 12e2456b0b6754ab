-- `largest_reloc_class_le` meets its contract: none below class 0, class 7 from its bytes on, and between them by the law on lengths in
-- bits. Assumes nothing.
use mathlib.Core.Path.{sym}
use native.Mathlib.Omega.{arith}
use borrow.Author.Rules.{rules}
use Rattle.scripthash_free.proofs.LawsBlock.{largest_none, largest_found, largest_bits, bits_below_64}
use Rattle.scripthash_free.proofs.largest_reloc_class_le.Statement.{statement}
use Rattle.scripthash_free.proofs.largest_reloc_class_le.Tie as tie

returns-then-bytes-lt-SH_SLAB_BASE_BYTES : tie.Need-returns-then-bytes-lt-SH_SLAB_BASE_BYTES
returns-then-bytes-lt-SH_SLAB_BASE_BYTES c = sym (largest_none 7 c.before.args.bytes (omega arith))

returns-then-bytes-ge-LARGEST_BYTES : tie.Need-returns-then-bytes-ge-LARGEST_BYTES
returns-then-bytes-ge-LARGEST_BYTES c = sym (largest_found 7 c.before.before.args.bytes (omega arith))

overflow_sub-result : tie.Need-overflow_sub-result
overflow_sub-result c = let n = c.before.before.args.bytes in omega (arith, bits_below_64 n (omega arith) (omega arith))

overflow_cast-result : tie.Need-overflow_cast-result
overflow_cast-result c = search rules

returns : tie.Need-returns
returns c = sym (largest_bits c.before.before.args.bytes (omega arith) (omega arith))

pub largest_reloc_class_le_spec : {M : Type 1} → statement M
largest_reloc_class_le_spec = tie.close (tie.spec returns-then-bytes-lt-SH_SLAB_BASE_BYTES returns-then-bytes-ge-LARGEST_BYTES overflow_sub-result overflow_cast-result returns)
