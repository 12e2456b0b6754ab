-- `grow_block` meets its contract: the two writes are those of the definition. Assumes nothing.
use Prim.Native.Nat.{ℕ, ◌+◌}
use mathlib.Core.List.{List}
use mathlib.Core.Path.{ap, ◌∙◌}
use borrow.Author.Rules.{rules}
use Rattle.buffer.specs.Bytes.{overwrite}
use Rattle.compact.specs.Uleb128.{shortest}
use Rattle.book_blocks.specs.Blocks.{slab_with}
use Rattle.book_blocks.proofs.slab.grow_block.Statement.{statement}
use Rattle.book_blocks.proofs.slab.grow_block.Tie as tie

overflow_add-used : tie.Need-overflow_add-used
overflow_add-used c = search rules

put_u16-requires : tie.Need-put_u16-requires
put_u16-requires c κs = search rules

overflow_add-taken : tie.Need-overflow_add-taken
overflow_add-taken c = search rules

put_form-requires : tie.Need-put_form-requires
put_form-requires c κs = search rules

shape_of-block : tie.Need-shape_of-block
shape_of-block c = search rules

returns : tie.Need-returns
unfolding slab_with
returns c =
    let s = c.before.before.before.before.before.before.before.before.before in
    let put = c.before.before.before.before.before.before.put_u16 in
    c.before.before.put_form.ensures.1
    ∙ ap (λ (b : List ℕ). overwrite b (2 + s.args.taken) (shortest s.args.difference)) put.ensures

pub grow_block_spec : {M : Type 1} → statement M
grow_block_spec =
    tie.close
    (tie.spec overflow_add-used put_u16-requires overflow_add-taken put_form-requires shape_of-block returns)
