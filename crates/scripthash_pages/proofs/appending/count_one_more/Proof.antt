-- `count_one_more` meets its contract: the version's byte is written, then the count behind it. Assumes nothing.
use mathlib.Core.Path.{ap, ◌∙◌}
use native.Mathlib.Omega.{arith}
use borrow.Author.Rules.{rules}
use lib.ListN.{length}
use Rattle.scripthash_pages.proofs.LawsAppend.{count_read, one_more_is, one_more_length}
use Rattle.scripthash_pages.proofs.appending.count_one_more.Statement.{statement}
use Rattle.scripthash_pages.proofs.appending.count_one_more.Tie as tie

get_u16-count-requires : tie.Need-get_u16-count-requires
get_u16-count-requires c κs = search rules

bounds-page-0 : tie.Need-bounds-page-0
bounds-page-0 c = search rules

kept_version-requires : tie.Need-kept_version-requires
kept_version-requires c κs = search rules

bounds-page-0-2 : tie.Need-bounds-page-0-2
bounds-page-0-2 c = search rules

overflow_add-count : tie.Need-overflow_add-count
overflow_add-count c =
    let start = c.before.before.before.before.before in
    omega (arith, c.before.before.before.get_u16-count.ensures, count_read start.args.page.now, start.requires.1)

put_u16-requires : tie.Need-put_u16-requires
put_u16-requires c κs = search rules

shape_of-page : tie.Need-shape_of-page
shape_of-page c =
    let k = c.before.before.before.before in
    let start = k.before.before.before.before in
    ap length c.before.before.put_u16.ensures ∙ one_more_length start.args.page.now k.kept_version.result _ start.requires.0

returns : tie.Need-returns
returns c =
    let k = c.before.before.before.before in
    let start = k.before.before.before.before in
    c.before.before.put_u16.ensures
    ∙ one_more_is start.args.page.now k.kept_version.result k.before.before.get_u16-count.result start.requires.0
    k.kept_version.ensures k.before.before.get_u16-count.ensures

pub count_one_more_spec : {M : Type 1} → statement M
count_one_more_spec =
    tie.close
    (tie.spec
    get_u16-count-requires
    bounds-page-0
    kept_version-requires
    bounds-page-0-2
    overflow_add-count
    put_u16-requires
    shape_of-page
    returns)
