-- `freed_pages` meets its contract: what is left of the list and what is counted are all of it.
use Rattle.std.proofs.Common.{ℕ, ◌+◌, ◌/◌, true, ◌≡◌, sym, subst, arith}
use Rattle.scripthash_layout.specs.Sizes.{page_class}
use Rattle.scripthash_free.specs.FreeList.{is_block, next_of}
use Rattle.book_start.proofs.LawsFreed.{followed_few}
use Rattle.book_start.proofs.LawsShown.{link_inside}
use Rattle.book_start.proofs.LawsTally.{Follows, follows_more, follows_end}
use Rattle.book_start.proofs.counts.freed_pages.Goals as goal

pub get_u64-off-requires : goal.get_u64-off-requires
get_u64-off-requires c =
    let more : c.loop-off.off ≡ 0 → ⊥ = λ z. c.loop-off-test.true z in
    let next :
    (is_block page_class c.loop-off.off c.args.mark ≡ true) × Follows c.args.body.now c.args.mark c.args.head (next_of c.args.body.now
    c.loop-off.off) (c.loop-off.count + 1) =
    follows_more c.args.body.now c.args.mark c.args.head c.loop-off.off c.loop-off.count more c.loop-off.invariant in
    link_inside c.args.body.now c.args.mark page_class c.loop-off.off c.requires.within next.0

pub overflow_add-count : goal.overflow_add-count
overflow_add-count c =
    let more : c.loop-off.off ≡ 0 → ⊥ = λ z. c.loop-off-test.true z in
    let next :
    (is_block page_class c.loop-off.off c.args.mark ≡ true) × Follows c.args.body.now c.args.mark c.args.head (next_of c.args.body.now
    c.loop-off.off) (c.loop-off.count + 1) =
    follows_more c.args.body.now c.args.mark c.args.head c.loop-off.off c.loop-off.count more c.loop-off.invariant in
    let n = next.1.counted in
    let few = followed_few (c.args.mark / 16) c.args.body.now c.args.head in
    omega arith

pub loop-off-smaller : goal.loop-off-smaller
loop-off-smaller c =
    let more : c.loop-off.off ≡ 0 → ⊥ = λ z. c.loop-off-test.true z in
    let next :
    (is_block page_class c.loop-off.off c.args.mark ≡ true) × Follows c.args.body.now c.args.mark c.args.head (next_of c.args.body.now
    c.loop-off.off) (c.loop-off.count + 1) =
    follows_more c.args.body.now c.args.mark c.args.head c.loop-off.off c.loop-off.count more c.loop-off.invariant in
    let n = next.1.counted in omega arith

pub loop-off-preserved : goal.loop-off-preserved
loop-off-preserved c =
    let more : c.loop-off.off ≡ 0 → ⊥ = λ z. c.loop-off-test.true z in
    let next :
    (is_block page_class c.loop-off.off c.args.mark ≡ true) × Follows c.args.body.now c.args.mark c.args.head (next_of c.args.body.now
    c.loop-off.off) (c.loop-off.count + 1) =
    follows_more c.args.body.now c.args.mark c.args.head c.loop-off.off c.loop-off.count more c.loop-off.invariant in
    subst (λ (o : ℕ). Follows c.args.body.now c.args.mark c.args.head o (c.loop-off.count + 1))
    (sym c.get_u64-off.ensures)
    next.1

pub returns : goal.returns
returns c =
    let l = c.loop-off in
    let a = c.args in
    follows_end a.body.now a.mark a.head l.off l.count (omega arith) l.invariant
