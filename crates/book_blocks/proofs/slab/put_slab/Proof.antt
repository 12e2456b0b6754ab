-- `put_slab` meets its contract: what is written into the lent block is written into the body. Assumes nothing.
use Prim.Native.Nat.{◌^◌}
use native.Mathlib.Omega.{arith}
use borrow.Author.Rules.{rules}
use Rattle.book_blocks.proofs.LawsWrites.{length_lent_block, start_back, length_payload}
use Rattle.book_blocks.proofs.slab.put_slab.Statement.{statement}
use Rattle.scripthash_stream.proofs.LawsStream.{rising_below}
use Rattle.book_blocks.proofs.slab.put_slab.Tie as tie

overflow_add-end : tie.Need-overflow_add-end
overflow_add-end c = search rules

slice_bounds-put_payload-count : tie.Need-slice_bounds-put_payload-count
slice_bounds-put_payload-count c = search rules

slice_bounds-put_payload-start : tie.Need-slice_bounds-put_payload-start
slice_bounds-put_payload-start c = search rules

slice_bounds-put_payload-end : tie.Need-slice_bounds-put_payload-end
slice_bounds-put_payload-end c = search rules

put_payload-requires : tie.Need-put_payload-requires
put_payload-requires c κs =
    let s = c.before.before.before in
    let long = length_lent_block s.args.body.now s.args.off s.args.size s.requires.inside in
    (omega (arith, long, s.requires.fits), s.requires.few, rising_below (2 ^ 62) (2 ^ 63) 0 s.args.fks.now (omega arith) s.requires.rises)

shape_of-body : tie.Need-shape_of-body
shape_of-body c = search rules

returns : tie.Need-returns
returns c =
    let s = c.before.before.before.before.before.before in
    start_back s.args.body.now s.args.off s.args.size _ _ s.requires.inside
    (omega (arith, length_payload s.args.fks.now, s.requires.fits)) c.before.before.put_payload.ensures

pub put_slab_spec : {M : Type 1} → statement M
put_slab_spec =
    tie.close
    (tie.spec
    overflow_add-end
    slice_bounds-put_payload-count
    slice_bounds-put_payload-start
    slice_bounds-put_payload-end
    put_payload-requires
    shape_of-body
    returns)
