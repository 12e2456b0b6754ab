-- `put_page_to` meets its contract: the packed page that comes back is written into the body. Assumes nothing.
use mathlib.Core.Path.{◌∙◌}
use borrow.Author.Rules.{rules}
use Rattle.book_blocks.proofs.LawsWrites.{length_lent_block, block_back, length_page_to, page_written}
use Rattle.book_blocks.proofs.page.put_page_to.Statement.{statement}
use Rattle.book_blocks.proofs.page.put_page_to.Tie as tie

overflow_add-end : tie.Need-overflow_add-end
overflow_add-end c = search rules

slice_bounds-sh_page_pack_fks-count : tie.Need-slice_bounds-sh_page_pack_fks-count
slice_bounds-sh_page_pack_fks-count c = search rules

slice_bounds-sh_page_pack_fks-start : tie.Need-slice_bounds-sh_page_pack_fks-start
slice_bounds-sh_page_pack_fks-start c = search rules

slice_bounds-sh_page_pack_fks-end : tie.Need-slice_bounds-sh_page_pack_fks-end
slice_bounds-sh_page_pack_fks-end c = search rules

sh_page_pack_fks-requires : tie.Need-sh_page_pack_fks-requires
sh_page_pack_fks-requires c κs = search rules

shape_of-body : tie.Need-shape_of-body
shape_of-body c = search rules

returns : tie.Need-returns
returns c =
    let s = c.before.before.before.before.before.before in
    let a = s.args in
    block_back a.body.now a.off 4096 _ _ (length_page_to a.next a.fks.now s.requires.linked.numbers.fits)
    (c.before.before.sh_page_pack_fks.ensures.1
    ∙ page_written _ a.fks.now a.next (length_lent_block a.body.now a.off 4096 s.requires.inside) s.requires.linked)

pub put_page_to_spec : {M : Type 1} → statement M
put_page_to_spec =
    tie.close
    (tie.spec
    overflow_add-end
    slice_bounds-sh_page_pack_fks-count
    slice_bounds-sh_page_pack_fks-start
    slice_bounds-sh_page_pack_fks-end
    sh_page_pack_fks-requires
    shape_of-body
    returns)
