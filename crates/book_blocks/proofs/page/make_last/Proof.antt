-- `make_last` meets its contract: the page is packed, and its link and creates are written again. Assumes nothing.
use borrow.Author.Rules.{rules}
use Rattle.book_blocks.proofs.LawsWrites.{last_written}
use Rattle.book_blocks.proofs.page.make_last.Statement.{statement}
use Rattle.book_blocks.proofs.page.make_last.Tie as tie

sh_page_pack_extent_last_fks-requires : tie.Need-sh_page_pack_extent_last_fks-requires
sh_page_pack_extent_last_fks-requires c κs = search rules

link_to-requires : tie.Need-link_to-requires
link_to-requires c κs = search rules

put_u40-requires : tie.Need-put_u40-requires
put_u40-requires c κs = search rules

put_u32-requires : tie.Need-put_u32-requires
put_u32-requires c κs = search rules

shape_of-page : tie.Need-shape_of-page
shape_of-page c = search rules

returns : tie.Need-returns
returns c =
    let linked = c.before.before.before.before.before.before in
    let packed = linked.before.before.before.before.before in
    let s = packed.before.before.before.before in
    let a = s.args in
    last_written a.page.now a.fks.now _ _ _ a.first a.base a.extents a.creates _ s.requires.long s.requires.last
    packed.sh_page_pack_extent_last_fks.ensures.1 linked.before.link_to.ensures linked.put_u40.ensures
    c.before.before.put_u32.ensures

pub make_last_spec : {M : Type 1} → statement M
make_last_spec =
    tie.close
    (tie.spec
    sh_page_pack_extent_last_fks-requires
    link_to-requires
    put_u40-requires
    put_u32-requires
    shape_of-page
    returns)
