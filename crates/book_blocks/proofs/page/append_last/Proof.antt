-- `append_last` meets its contract: the count, the form and creates are written, and the version stays. Assumes nothing.
use Prim.Native.Nat.{ℕ, ◌+◌}
use mathlib.Core.List.{List}
use mathlib.Core.Path.{ap, ap₂, ◌∙◌}
use native.Mathlib.Omega.{arith}
use borrow.Author.Rules.{rules}
use Rattle.buffer.specs.Bytes.{overwrite}
use Rattle.buffer.specs.LittleEndian.{bytes_of}
use Rattle.compact.specs.Uleb128.{shortest}
use Rattle.scripthash_pages.proofs.LawsAppend.{count_read}
use Rattle.book_blocks.proofs.LawsWrites.{grown_written}
use Rattle.book_blocks.proofs.page.append_last.Statement.{statement}
use Rattle.book_blocks.proofs.page.append_last.Tie as tie

get_u16-count-requires : tie.Need-get_u16-count-requires
get_u16-count-requires c κs = search rules

overflow_add-count : tie.Need-overflow_add-count
overflow_add-count c = let s = c.before.before.before in
    omega (arith, s.requires.grows.few, count_read s.args.page.now, c.before.get_u16-count.ensures)

put_u16-requires : tie.Need-put_u16-requires
put_u16-requires c κs = search rules

overflow_add-taken : tie.Need-overflow_add-taken
overflow_add-taken c = search rules

put_form-requires : tie.Need-put_form-requires
put_form-requires c κs = search rules

total_with-requires : tie.Need-total_with-requires
total_with-requires c κs = search rules

put_u32-requires : tie.Need-put_u32-requires
put_u32-requires c κs = search rules

shape_of-page : tie.Need-shape_of-page
shape_of-page c = search rules

returns : tie.Need-returns
returns c =
    let total = c.before.before.before in
    let formed = total.before.before.before.before in
    let counted = formed.before.before.before.before in
    let got = counted.before.before in
    let s = got.before.before in
    let a = s.args in
    c.before.before.put_u32.ensures
    ∙ ap₂ (λ (b : List ℕ) (t : ℕ). overwrite b 20 (bytes_of 4 t))
    (formed.put_form.ensures.1 ∙ ap (λ (b : List ℕ). overwrite b (24 + a.taken) (shortest a.difference)) counted.put_u16.ensures)
    total.total_with.ensures
    ∙ grown_written a.page.now got.get_u16-count.result a.taken a.difference a.creates (omega (arith, s.requires.long))
    s.requires.grows.version_is
    got.get_u16-count.ensures

pub append_last_spec : {M : Type 1} → statement M
append_last_spec =
    tie.close
    (tie.spec
    get_u16-count-requires
    overflow_add-count
    put_u16-requires
    overflow_add-taken
    put_form-requires
    total_with-requires
    put_u32-requires
    shape_of-page
    returns)
