-- `peek_block` meets its contract: the free head, and then the class or the block's place decide. Assumes nothing.
use mathlib.Core.Path.{◌≡◌, sym, ap, ◌∙◌}
use Prim.Native.Nat.{ℕ}
use Rattle.scripthash_free.specs.FreeList.{first_freed, is_block}
use Rattle.book_limits.specs.Limits.{pop_end}
use Rattle.book_space.specs.Space.{Space, space, lists_of}
use Rattle.book_space.proofs.LawsPeek.{page_ahead, slab_ahead, popped_ahead, bad_ahead}
use borrow.Author.Rules.{rules}
use Rattle.book_space.proofs.desks.peek_block.Statement.{statement}
use Rattle.book_space.proofs.desks.peek_block.Tie as tie

-- the space, and the free head's block as it is tested
module _ (t : tie.Start) where
  abbrev here : Space
  here = space t.args.body.now t.args.mark t.args.free.now

module _ (t : tie.After-is_block) where
  abbrev start : tie.Start
  start = t.before.before.before.before.before.before

  abbrev class : ℕ
  class = start.args.class

  tested : is_block class (first_freed class (lists_of (here start))) (pop_end class (here start).mark) ≡ t.is_block.result
  tested =
      ap (is_block class (first_freed class (lists_of (here start)))) (sym t.before.pop_end.ensures) ∙ sym t.is_block.ensures

offset_bounds-free-idx : tie.Need-offset_bounds-free-idx
offset_bounds-free-idx c = search rules

bounds-free-idx : tie.Need-bounds-free-idx
bounds-free-idx c = search rules

peek_run-requires : tie.Need-peek_run-requires
peek_run-requires c κs = search rules

returns-then-class-eq-SH_PAGE_SLAB_CLASS : tie.Need-returns-then-class-eq-SH_PAGE_SLAB_CLASS
returns-then-class-eq-SH_PAGE_SLAB_CLASS c =
    let start = c.before.before.before.before.before.before in
    c.peek_run.ensures
    ∙ sym (page_ahead start.args.class (here start) start.requires.low start.requires.shape
    c.before.before.if-off-eq0.true c.before.if-class-eq-SH_PAGE_SLAB_CLASS.true)

peek_slab-requires : tie.Need-peek_slab-requires
peek_slab-requires c κs = search rules

returns-then-off-eq0 : tie.Need-returns-then-off-eq0
returns-then-off-eq0 c =
    let start = c.before.before.before.before.before.before in
    c.peek_slab.ensures
    ∙ sym (slab_ahead start.args.class (here start) start.requires.low start.requires.shape
    c.before.before.if-off-eq0.true c.before.if-class-eq-SH_PAGE_SLAB_CLASS.false)

pop_end-requires : tie.Need-pop_end-requires
pop_end-requires c κs = search rules

is_block-requires : tie.Need-is_block-requires
is_block-requires c κs = search rules

returns-then-is_block : tie.Need-returns-then-is_block
returns-then-is_block c =
    let t = c.before in
    sym (popped_ahead (class t) (here (start t)) (start t).requires.low (start t).requires.shape
    t.before.before.if-off-eq0.false (tested t ∙ c.if-is_block.true))

returns : tie.Need-returns
returns c =
    let t = c.before in
    sym (bad_ahead (class t) (here (start t)) (start t).requires.low (start t).requires.shape
    t.before.before.if-off-eq0.false (tested t ∙ c.if-is_block.false))

pub peek_block_spec : {M : Type 1} → statement M
peek_block_spec =
    tie.close
    (tie.spec
    offset_bounds-free-idx
    bounds-free-idx
    peek_run-requires
    returns-then-class-eq-SH_PAGE_SLAB_CLASS
    peek_slab-requires
    returns-then-off-eq0
    pop_end-requires
    is_block-requires
    returns-then-is_block
    returns)
