-- `put_payload` meets its contract: the stream is written into the part after two bytes, and then the count. Assumes nothing.
use mathlib.Core.Path.{◌∙◌}
use borrow.Author.Rules.{rules}
use Rattle.book_blocks.proofs.LawsWrites.{payload_back}
use Rattle.book_blocks.proofs.slab.put_payload.Statement.{statement}
use Rattle.book_blocks.proofs.slab.put_payload.Tie as tie

slice_bounds-put_fks-count : tie.Need-slice_bounds-put_fks-count
slice_bounds-put_fks-count c = search rules

slice_bounds-put_fks-start : tie.Need-slice_bounds-put_fks-start
slice_bounds-put_fks-start c = search rules

slice_bounds-put_fks-end : tie.Need-slice_bounds-put_fks-end
slice_bounds-put_fks-end c = search rules

put_fks-requires : tie.Need-put_fks-requires
put_fks-requires c κs = search rules

overflow_cast-fks : tie.Need-overflow_cast-fks
overflow_cast-fks c = search rules

put_u16-requires : tie.Need-put_u16-requires
put_u16-requires c κs = search rules

shape_of-block : tie.Need-shape_of-block
shape_of-block c = search rules

returns : tie.Need-returns
returns c =
    let d = c.before.before.before.before.before.before in
    let s = d.before.before.before.before in
    c.before.before.put_u16.ensures ∙ payload_back s.args.block.now s.args.fks.now _ s.requires.0 d.put_fks.ensures

pub put_payload_spec : {M : Type 1} → statement M
put_payload_spec =
    tie.close
    (tie.spec
    slice_bounds-put_fks-count
    slice_bounds-put_fks-start
    slice_bounds-put_fks-end
    put_fks-requires
    overflow_cast-fks
    put_u16-requires
    shape_of-block
    returns)
