-- `append_form` meets its contract: the header counts one more, and the form is written at its offset. Assumes nothing.
use Prim.Native.Nat.{ℕ}
use mathlib.Core.List.{List}
use mathlib.Core.Path.{ap, ◌∙◌}
use borrow.Author.Rules.{rules}
use Rattle.buffer.specs.Bytes.{overwrite}
use Rattle.compact.specs.Uleb128.{shortest}
use Rattle.scripthash_pages.specs.Entries.{with_appended}
use Rattle.scripthash_pages.proofs.appending.append_form.Statement.{statement}
use Rattle.scripthash_pages.proofs.appending.append_form.Tie as tie

count_one_more-requires : tie.Need-count_one_more-requires
count_one_more-requires c κs = search rules

put_form-requires : tie.Need-put_form-requires
put_form-requires c κs = search rules

shape_of-page : tie.Need-shape_of-page
shape_of-page c = search rules

returns : tie.Need-returns
unfolding with_appended
returns c =
    let put = c.before.before in
    let one = put.before.before.before.before in
    let a = one.before.before.before.args in
    put.put_form.ensures.1 ∙ ap (λ (b : List ℕ). overwrite b a.at (shortest a.difference)) one.count_one_more.ensures

pub append_form_spec : {M : Type 1} → statement M
append_form_spec = tie.close (tie.spec count_one_more-requires put_form-requires shape_of-page returns)
