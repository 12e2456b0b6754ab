-- `link_page` meets its contract: the page that comes back is written into the body. Assumes nothing.
use Prim.Native.Nat.{ℕ}
use mathlib.Core.List.{List}
use mathlib.Core.Path.{ap, ◌∙◌}
use borrow.Author.Rules.{rules}
use Rattle.buffer.specs.Bytes.{part}
use Rattle.buffer.proofs.LawsOverwrite.{length_part}
use Rattle.book_blocks.specs.Blocks.{page_before}
use Rattle.book_blocks.proofs.LawsWrites.{lent_is, block_back, length_page_before}
use Rattle.book_blocks.proofs.page.link_page.Statement.{statement}
use Rattle.book_blocks.proofs.page.link_page.Tie as tie

overflow_add-end : tie.Need-overflow_add-end
overflow_add-end c = search rules

slice_bounds-make_before-count : tie.Need-slice_bounds-make_before-count
slice_bounds-make_before-count c = search rules

slice_bounds-make_before-start : tie.Need-slice_bounds-make_before-start
slice_bounds-make_before-start c = search rules

slice_bounds-make_before-end : tie.Need-slice_bounds-make_before-end
slice_bounds-make_before-end c = search rules

make_before-requires : tie.Need-make_before-requires
make_before-requires c κs = search rules

shape_of-body : tie.Need-shape_of-body
shape_of-body c = search rules

returns : tie.Need-returns
returns c =
    let s = c.before.before.before.before.before in
    let a = s.args in
    let body = a.body.now in
    block_back body a.last 4096 _ _ (length_page_before (part body a.last 4096) a.next (length_part body a.last 4096 s.requires))
    (c.before.before.make_before.ensures ∙ ap (λ (b : List ℕ). page_before b a.next) (lent_is body a.last 4096))

pub link_page_spec : {M : Type 1} → statement M
link_page_spec =
    tie.close
    (tie.spec
    overflow_add-end
    slice_bounds-make_before-count
    slice_bounds-make_before-start
    slice_bounds-make_before-end
    make_before-requires
    shape_of-body
    returns)
