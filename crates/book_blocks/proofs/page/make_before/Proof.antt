-- `make_before` meets its contract: the two writes are those of the definition. Assumes nothing.
use Prim.Native.Nat.{ℕ}
use mathlib.Core.List.{List}
use mathlib.Core.Path.{ap, ◌∙◌}
use borrow.Author.Rules.{rules}
use Rattle.buffer.specs.Bytes.{overwrite}
use Rattle.buffer.specs.LittleEndian.{bytes_of}
use Rattle.scripthash_fields.specs.Page.{set_field}
use Rattle.book_blocks.specs.Blocks.{page_before}
use Rattle.book_blocks.proofs.page.make_before.Statement.{statement}
use Rattle.book_blocks.proofs.page.make_before.Tie as tie

link_to-requires : tie.Need-link_to-requires
link_to-requires c κs = search rules

put_u40-requires : tie.Need-put_u40-requires
put_u40-requires c κs = search rules

put_u32-requires : tie.Need-put_u32-requires
put_u32-requires c κs = search rules

shape_of-page : tie.Need-shape_of-page
shape_of-page c = search rules

returns : tie.Need-returns
unfolding page_before set_field
returns c =
    let linked = c.before.before.before.before.before.before in
    c.before.before.put_u32.ensures
    ∙ ap (λ (b : List ℕ). overwrite b 20 (bytes_of 4 0))
    (linked.put_u40.ensures ∙ ap (λ (l : ℕ). overwrite linked.before.before.before.before.args.page.now 3 (bytes_of 5 l))
    linked.before.link_to.ensures)

pub make_before_spec : {M : Type 1} → statement M
make_before_spec =
    tie.close (tie.spec link_to-requires put_u40-requires put_u32-requires shape_of-page returns)
