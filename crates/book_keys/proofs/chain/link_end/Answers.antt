-- `link_end` meets its contract: where the page stands decides, then its bytes.
use Rattle.std.proofs.Common.{ℕ, ◌+◌, ◌≤◌, true, List, ◌≡◌, refl, sym, ap, ◌∙◌, arith, length}
use borrow.Author.Tests.{not-true, not-false}
use Rattle.error.specs.Refusal.{answered}
use Rattle.scripthash_layout.specs.Sizes.{page_class, page_size}
use Rattle.scripthash_free.specs.FreeList.{is_block}
use Rattle.book_keys.specs.Keys.{soundly, page_at, body_ground}
use Rattle.book_keys.specs.Steps.{link_read, link_end_of}
use Rattle.book_keys.proofs.LawsSound.{turned_back}
use Rattle.book_keys.proofs.LawsBlocks.{span}
use Rattle.book_keys.proofs.LawsPages.{page_inside, link_off, link_on}
use Rattle.book_keys.proofs.chain.link_end.Goals as goal

pub returns-then-not-is_page : goal.returns-then-not-is_page
returns-then-not-is_page c =
    let a = c.args in
    let s = body_ground a.body.now a.mark in
    turned_back (link_end_of a.counted (page_at s a.off)) _
    (link_off s a.off a.prev (sym c.is_page.ensures ∙ not-true _ c.if-not-is_page.true-raw))

pub overflow_add-start : goal.overflow_add-start
overflow_add-start c =
    let a = c.args in
    let stands : is_block page_class a.off a.mark ≡ true = sym c.is_page.ensures ∙ not-false _ c.if-not-is_page.false-raw in
    omega (arith, page_inside (body_ground a.body.now a.mark) a.off stands a.body.now c.requires)

pub slice_bounds-read_link-end : goal.slice_bounds-read_link-end
slice_bounds-read_link-end c =
    let a = c.args in
    let stands : is_block page_class a.off a.mark ≡ true = sym c.is_page.ensures ∙ not-false _ c.if-not-is_page.false-raw in
    page_inside (body_ground a.body.now a.mark) a.off stands a.body.now c.requires

pub returns : goal.returns
returns c =
    let a = c.args in
    let s = body_ground a.body.now a.mark in
    let stands : is_block page_class a.off s.mark ≡ true = sym c.is_page.ensures ∙ not-false _ c.if-not-is_page.false-raw in
    c.read_link.ensures
    ∙ ap (λ (bs : List ℕ). answered (link_end_of a.counted bs) (soundly (link_read a.prev bs))) (span a.body.now a.off page_size page_size refl)
    ∙ ap (λ r. answered (link_end_of a.counted (page_at s a.off)) (soundly r)) (sym (link_on s a.off stands a.prev))
