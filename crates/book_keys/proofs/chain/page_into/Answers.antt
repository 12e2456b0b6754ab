-- `page_into` meets its contract: where the page stands decides, then its bytes.
use Rattle.std.proofs.Common.{ℕ, true, List, ◌≡◌, refl, sym, ap, ◌∙◌, arith, length}
use lib.ListN.{length-take, length-drop}
use borrow.Author.Tests.{not-true, not-false}
use Rattle.scripthash_layout.specs.Sizes.{page_class, page_size}
use Rattle.scripthash_pages.specs.Entries.{page_entries}
use Rattle.scripthash_free.specs.FreeList.{is_block}
use Rattle.book_keys.specs.Keys.{page_at, body_ground}
use Rattle.book_keys.proofs.LawsBlocks.{span}
use Rattle.book_keys.proofs.LawsPages.{page_inside, into_off, into_on}
use Rattle.book_keys.proofs.LawsFill.{page_nowhere, filled_as}
use Rattle.book_keys.proofs.chain.page_into.Goals as goal

pub returns-then-not-is_page : goal.returns-then-not-is_page
returns-then-not-is_page c =
    let a = c.args in
    let s = body_ground a.body.now a.mark in
    page_nowhere (page_at s a.off) a.out.now _
    (into_off (length a.out.now) s a.off (sym c.is_page.ensures ∙ not-true _ c.if-not-is_page.true-raw))

pub overflow_add-start : goal.overflow_add-start
overflow_add-start c =
    let a = c.args in
    let stands : is_block page_class a.off a.mark ≡ true = sym c.is_page.ensures ∙ not-false _ c.if-not-is_page.false-raw in
    omega (arith, page_inside (body_ground a.body.now a.mark) a.off stands a.body.now c.requires)

pub slice_bounds-fill_page-end : goal.slice_bounds-fill_page-end
slice_bounds-fill_page-end c =
    let a = c.args in
    let stands : is_block page_class a.off a.mark ≡ true = sym c.is_page.ensures ∙ not-false _ c.if-not-is_page.false-raw in
    page_inside (body_ground a.body.now a.mark) a.off stands a.body.now c.requires

pub returns : goal.returns
returns c =
    let a = c.args in
    let s = body_ground a.body.now a.mark in
    let stands : is_block page_class a.off s.mark ≡ true = sym c.is_page.ensures ∙ not-false _ c.if-not-is_page.false-raw in
    let room = length a.out.now in
    let bytes = span a.body.now a.off page_size page_size refl in
    filled_as _ a.out.now _ bytes (ap (λ (bs : List ℕ). page_entries room bs) bytes ∙ sym (into_on room s a.off stands)) c.fill_page.ensures
