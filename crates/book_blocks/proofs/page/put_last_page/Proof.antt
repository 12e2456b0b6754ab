-- `put_last_page` meets its contract: the page that comes back is written into the body. Assumes nothing.
use borrow.Author.Rules.{rules}
use Rattle.book_blocks.specs.Blocks.{last_page_of}
use Rattle.book_blocks.proofs.LawsWrites.{length_lent_block, block_back, length_last_page}
use Rattle.book_blocks.proofs.page.put_last_page.Statement.{statement}
use Rattle.book_blocks.proofs.page.put_last_page.Tie as tie

overflow_add-end : tie.Need-overflow_add-end
overflow_add-end c = search rules

slice_bounds-make_last-count : tie.Need-slice_bounds-make_last-count
slice_bounds-make_last-count c = search rules

slice_bounds-make_last-start : tie.Need-slice_bounds-make_last-start
slice_bounds-make_last-start c = search rules

slice_bounds-make_last-end : tie.Need-slice_bounds-make_last-end
slice_bounds-make_last-end c = search rules

make_last-requires : tie.Need-make_last-requires
make_last-requires c κs =
    let s = c.before.before.before in
    record { long = length_lent_block s.args.body.now s.args.off 4096 s.requires.inside; last = s.requires.last }

shape_of-body : tie.Need-shape_of-body
shape_of-body c = search rules

returns : tie.Need-returns
returns c =
    let s = c.before.before.before.before.before.before in
    let a = s.args in
    block_back a.body.now a.off 4096 c.before.before.make_last.new.page
    (last_page_of a.first a.base a.extents a.creates a.fks.now)
    (length_last_page a.first a.base a.extents a.creates a.fks.now s.requires.last.numbers.fits)
    c.before.before.make_last.ensures

pub put_last_page_spec : {M : Type 1} → statement M
put_last_page_spec =
    tie.close
    (tie.spec
    overflow_add-end
    slice_bounds-make_last-count
    slice_bounds-make_last-start
    slice_bounds-make_last-end
    make_last-requires
    shape_of-body
    returns)
