-- `put_extent` meets its contract: three writes that adjoin. Assumes nothing.
use Prim.Native.Nat.{ℕ}
use mathlib.Core.List.{List}
use mathlib.Core.Path.{ap, ◌∙◌}
use native.Mathlib.Omega.{arith}
use borrow.Author.Rules.{rules}
use Rattle.buffer.specs.Bytes.{overwrite}
use Rattle.buffer.specs.LittleEndian.{bytes_of}
use Rattle.scripthash_pages.proofs.LawsPack.{three_written}
use Rattle.scripthash_pages.proofs.pack.put_extent.Statement.{statement}
use Rattle.scripthash_pages.proofs.pack.put_extent.Tie as tie

put_u64-requires : tie.Need-put_u64-requires
put_u64-requires c κs = search rules

put_u32-requires : tie.Need-put_u32-requires
put_u32-requires c κs = search rules

put_u32-requires-2 : tie.Need-put_u32-requires-2
put_u32-requires-2 c κs = search rules

shape_of-page : tie.Need-shape_of-page
shape_of-page c = search rules

returns : tie.Need-returns
returns c =
    let third = c.before.before in
    let second = third.before.before.before.before in
    let first = second.before.before.before.before in
    let a = first.before.before.before.args in
    third.put_u32-2.ensures
    ∙ ap (λ (b : List ℕ). overwrite b 20 (bytes_of 4 0))
    (second.put_u32.ensures ∙ ap (λ (b : List ℕ). overwrite b 16 (bytes_of 4 a.n)) first.put_u64.ensures)
    ∙ three_written a.page.now 8 (bytes_of 8 a.base) (bytes_of 4 a.n) (bytes_of 4 0) (omega arith)

pub put_extent_spec : {M : Type 1} → statement M
put_extent_spec = tie.close (tie.spec put_u64-requires put_u32-requires put_u32-requires-2 shape_of-page returns)
