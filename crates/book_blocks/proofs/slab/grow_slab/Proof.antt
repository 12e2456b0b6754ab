-- `grow_slab` meets its contract: the block that comes back is written into the body. Assumes nothing.
use Prim.Native.Nat.{ℕ}
use mathlib.Core.List.{List}
use mathlib.Core.Path.{ap, ◌∙◌}
use native.Mathlib.Omega.{arith}
use borrow.Author.Rules.{rules}
use Rattle.buffer.specs.Bytes.{part}
use Rattle.buffer.proofs.LawsOverwrite.{length_part}
use Rattle.book_blocks.specs.Blocks.{slab_with}
use Rattle.book_blocks.proofs.LawsWrites.{lent_is, block_back, length_slab_with}
use Rattle.book_blocks.proofs.slab.grow_slab.Statement.{statement}
use Rattle.book_blocks.proofs.slab.grow_slab.Tie as tie

overflow_add-end : tie.Need-overflow_add-end
overflow_add-end c = search rules

slice_bounds-grow_block-count : tie.Need-slice_bounds-grow_block-count
slice_bounds-grow_block-count c = search rules

slice_bounds-grow_block-start : tie.Need-slice_bounds-grow_block-start
slice_bounds-grow_block-start c = search rules

slice_bounds-grow_block-end : tie.Need-slice_bounds-grow_block-end
slice_bounds-grow_block-end c = search rules

grow_block-requires : tie.Need-grow_block-requires
grow_block-requires c κs = search rules

shape_of-body : tie.Need-shape_of-body
shape_of-body c = search rules

returns : tie.Need-returns
returns c =
    let s = c.before.before.before.before.before in
    let a = s.args in
    let body = a.body.now in
    let long = length_part body a.off a.size s.requires.inside in
    block_back body a.off a.size _ _
    (length_slab_with (part body a.off a.size) a.used a.taken a.difference (omega (arith, long, s.requires.fits)) ∙ long)
    (c.before.before.grow_block.ensures
    ∙ ap (λ (b : List ℕ). slab_with b a.used a.taken a.difference) (lent_is body a.off a.size))

pub grow_slab_spec : {M : Type 1} → statement M
grow_slab_spec =
    tie.close
    (tie.spec
    overflow_add-end
    slice_bounds-grow_block-count
    slice_bounds-grow_block-start
    slice_bounds-grow_block-end
    grow_block-requires
    shape_of-body
    returns)
