-- `grow_page` meets its contract: the page that comes back is written into the body. Assumes nothing.
use Prim.Native.Nat.{ℕ, ◌+◌}
use mathlib.Core.List.{List}
use mathlib.Core.Path.{ap, ◌∙◌}
use native.Mathlib.Omega.{arith}
use borrow.Author.Rules.{rules}
use Rattle.buffer.specs.Bytes.{part}
use Rattle.buffer.proofs.LawsOverwrite.{length_part}
use Rattle.scripthash_fields.specs.Page.{stream_off}
use Rattle.scripthash_fields.proofs.LawsFields.{stream_off_extent}
use Rattle.book_blocks.specs.Blocks.{page_with}
use Rattle.book_blocks.proofs.LawsWrites.{lent_is, length_lent_block, block_back, length_page_with}
use Rattle.book_blocks.proofs.page.grow_page.Statement.{statement}
use Rattle.book_blocks.proofs.page.grow_page.Tie as tie

overflow_add-end : tie.Need-overflow_add-end
overflow_add-end c = search rules

slice_bounds-append_last-count : tie.Need-slice_bounds-append_last-count
slice_bounds-append_last-count c = search rules

slice_bounds-append_last-start : tie.Need-slice_bounds-append_last-start
slice_bounds-append_last-start c = search rules

slice_bounds-append_last-end : tie.Need-slice_bounds-append_last-end
slice_bounds-append_last-end c = search rules

append_last-requires : tie.Need-append_last-requires
append_last-requires c κs =
    let s = c.before.before in
    let a = s.args in
    let body = a.body.now in
    record {
      long = length_lent_block body a.last 4096 s.requires.inside;
      grows = rw (lent_is body a.last 4096) s.requires.grows;
    }

shape_of-body : tie.Need-shape_of-body
shape_of-body c = search rules

returns : tie.Need-returns
returns c =
    let s = c.before.before.before.before.before in
    let a = s.args in
    let body = a.body.now in
    let page = part body a.last 4096 in
    block_back body a.last 4096 _ _
    (length_page_with page (record { at = stream_off page + a.taken; difference = a.difference }) a.creates
    (length_part body a.last 4096 s.requires.inside)
    (omega (arith, stream_off_extent page s.requires.grows.version_is, s.requires.grows.fits)))
    (c.before.before.append_last.ensures
    ∙ ap (λ (b : List ℕ). page_with b (record { at = stream_off b + a.taken; difference = a.difference }) a.creates)
    (lent_is body a.last 4096))

pub grow_page_spec : {M : Type 1} → statement M
grow_page_spec =
    tie.close
    (tie.spec
    overflow_add-end
    slice_bounds-append_last-count
    slice_bounds-append_last-start
    slice_bounds-append_last-end
    append_last-requires
    shape_of-body
    returns)
