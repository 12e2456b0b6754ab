-- What it calls tells.
use Rattle.std.proofs.Common.{arith}
use Rattle.scripthash_forms.proofs.LawsTries.{part_whole}
use Rattle.scripthash_scan.proofs.LawsFill.{short_quick}
use Rattle.scripthash_scan.proofs.quick.decode_quickly.Goals as goal

pub returns-then-n-le-SLAB_MOST : goal.returns-then-n-le-SLAB_MOST
returns-then-n-le-SLAB_MOST c = short_quick _ _ _ _ _ _ (omega arith) c.read_forms.ensures

pub returns-then-n-le-PARTS_MOST : goal.returns-then-n-le-PARTS_MOST
returns-then-n-le-PARTS_MOST c = part_whole _ _ _ _ _ (omega arith) c.decode_parts.ensures
