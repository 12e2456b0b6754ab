-- `release_chain` meets its contract.
use Rattle.std.proofs.Common.{ℕ, ◌+◌, ◌-◌, ◌≤◌, true, ◌≡◌, sym, ap, subst, ◌∙◌, arith, length, ◌<◌}
use Rattle.scripthash_layout.specs.Sizes.{page_class}
use Rattle.scripthash_fields.specs.Page.{link_of, link_offset}
use Rattle.scripthash_free.specs.FreeList.{is_block}
use Rattle.scripthash_free.proofs.LawsBlock.{block_stands}
use Rattle.book_space.specs.Space.{Space, space, release}
use Rattle.book_keys.specs.Keys.{page_at, page_blocks}
use Rattle.book.specs.Book.{seen}
use Rattle.book_drop.proofs.LawsDrop.{page_turn, Giving, giving_turn, giving_end, given, given_size}
use Rattle.book_drop.proofs.dropping.release_chain.Goals as goal

-- what is left behind a turn
behind_turn : (s : Space) (off pages counter : ℕ) (done : Space) → counter + 1 ≤ pages → Giving s off (pages - counter) done
    → Giving (given off s) (link_offset (link_of (page_at (seen s) off))) (pages - (counter + 1)) done
behind_turn s off pages counter done h g =
    let one : pages - counter - 1 ≡ pages - (counter + 1) = omega arith in
    subst (λ (n : ℕ). Giving (given off s) (link_offset (link_of (page_at (seen s) off))) n done) one
    (giving_turn s off (pages - counter) done (omega arith) g)

-- the next page stands
next_stands : (s : Space) (off left : ℕ) (done : Space) → 0 < left → Giving s off left done → is_block page_class off (length s.body) ≡ true
next_stands s off left done h g = (page_turn s off left g.offs h g.pages).stands

pub next_page-next-requires : goal.next_page-next-requires
next_page-next-requires c =
    let l = c.loop in
    let stands = next_stands (space l.body c.requires.0 l.free) l.off _ _ (omega arith) (l.invariant.giving c.requires.0 c.requires.1 c.requires.2) in
    (block_stands page_class l.off (length l.body) stands).ends

pub release_block-requires : goal.release_block-requires
release_block-requires c =
    let l = c.loop in
    next_stands (space l.body c.requires.0 l.free) l.off _ _ (omega arith) (l.invariant.giving c.requires.0 c.requires.1 c.requires.2)

pub loop-preserved : goal.loop-preserved
loop-preserved c =
    let l = c.loop in
    let r = c.release_block in
    let stands = next_stands (space l.body c.requires.0 l.free) l.off _ _ (omega arith) (l.invariant.giving c.requires.0 c.requires.1 c.requires.2) in
    record {
      long = ap (λ (x : Space). length x.body) (r.ensures c.requires.0) ∙ given_size (space l.body c.requires.0 l.free) l.off stands ∙ l.invariant.long;
      giving = λ mark whole p.
          let done = release (page_blocks whole) (space c.args.body.now mark c.args.free.now) in
          let g = behind_turn (space l.body mark l.free) l.off c.args.pages l.counter done (omega arith) (l.invariant.giving mark whole p) in
          subst (λ (x : Space). Giving x c.next_page-next.result (c.args.pages - (l.counter + 1)) done) (sym (r.ensures mark))
          (subst (λ (n : ℕ). Giving (given l.off (space l.body mark l.free)) n (c.args.pages - (l.counter + 1)) done) (sym c.next_page-next.ensures) g);
    }

pub returns : goal.returns
returns c mark whole p =
    let l = c.loop in
    giving_end (space l.body mark l.free) l.off (c.args.pages - l.counter) _ (omega arith) (l.invariant.giving mark whole p)
