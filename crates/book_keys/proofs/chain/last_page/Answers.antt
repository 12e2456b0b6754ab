-- `last_page` meets its contract: where the page stands decides, then its bytes.
use Rattle.std.proofs.Common.{ℕ, ◌+◌, ◌≤◌, true, List, ◌≡◌, refl, sym, ap, ◌∙◌, arith, length}
use borrow.Author.Tests.{not-true, not-false}
use Rattle.scripthash_layout.specs.Sizes.{page_class, page_size}
use Rattle.scripthash_free.specs.FreeList.{is_block}
use Rattle.book_keys.specs.Keys.{soundly, Ground, body_ground}
use Rattle.book_keys.specs.Steps.{last_read}
use Rattle.book_keys.proofs.LawsSound.{soundly_no}
use Rattle.book_keys.proofs.LawsBlocks.{span}
use Rattle.book_keys.proofs.LawsPages.{page_inside, last_off, last_on}
use Rattle.book_keys.proofs.chain.last_page.Goals as goal

pub returns-then-not-is_page : goal.returns-then-not-is_page
returns-then-not-is_page c =
    let a = c.args in
    sym (soundly_no _ (last_off (body_ground a.body.now a.mark) a.last
    (sym c.is_page.ensures ∙ not-true _ c.if-not-is_page.true-raw)))

pub overflow_add-start : goal.overflow_add-start
overflow_add-start c =
    let s : Ground = body_ground c.args.body.now c.args.mark in
    let stands : is_block page_class c.args.last s.mark ≡ true = sym c.is_page.ensures ∙ not-false _ c.if-not-is_page.false-raw in
    let inside : c.args.last + page_size ≤ length c.args.body.now = page_inside s c.args.last stands c.args.body.now c.requires in
    let h = inside in omega arith

pub slice_bounds-read_last-end : goal.slice_bounds-read_last-end
slice_bounds-read_last-end c =
    let s : Ground = body_ground c.args.body.now c.args.mark in
    let stands : is_block page_class c.args.last s.mark ≡ true = sym c.is_page.ensures ∙ not-false _ c.if-not-is_page.false-raw in
    let inside : c.args.last + page_size ≤ length c.args.body.now = page_inside s c.args.last stands c.args.body.now c.requires in
    inside

pub returns : goal.returns
returns c =
    let s : Ground = body_ground c.args.body.now c.args.mark in
    let stands : is_block page_class c.args.last s.mark ≡ true = sym c.is_page.ensures ∙ not-false _ c.if-not-is_page.false-raw in
    c.read_last.ensures
    ∙ ap (λ (bs : List ℕ). soundly (last_read bs)) (span c.args.body.now c.args.last page_size page_size refl)
    ∙ ap soundly (sym (last_on s c.args.last stands))
