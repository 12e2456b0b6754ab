-- `claim_block` meets its contract: a page by bytes, a slab by units.
use Rattle.std.proofs.Common.{◌+◌, ◌*◌, ◌≤◌, arith, length}
use Rattle.scripthash_layout.specs.Sizes.{slab_bytes}
use Rattle.scripthash_free.proofs.LawsBlock.{block_stands}
use Rattle.book_start.specs.Units.{units_of}
use Rattle.book_start.proofs.units.claim_block.Goals as goal

pub claim_page-requires : goal.claim_page-requires
claim_page-requires c =
    let s = block_stands c.args.class c.args.off c.requires.mark c.requires.stands in
    let is = c.if-class-eq-SH_PAGE_SLAB_CLASS.true in
    let ends : c.args.off + slab_bytes c.args.class ≤ 16 * length (units_of c.args.work.now) = omega
    (arith, s.ends, c.requires.long) in
    record { paged = rw is at s.aligned; inside = rw is at ends }

pub claim_units-requires : goal.claim_units-requires
claim_units-requires c =
    let s = block_stands c.args.class c.args.off c.requires.mark c.requires.stands in
    record { class_to_8 = s.class_to_8; inside = omega (arith, s.ends, c.requires.long) }
