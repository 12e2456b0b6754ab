-- `push_largest` meets its contract. Invariant: the blocks of what is left of the gap, pushed, give what all of them give. Assumes nothing.
use Prim.Native.Nat.{◌+◌, ◌-◌, ◌≤◌}
use mathlib.Core.Path.{◌≡◌, refl, sym, ap, ◌∙◌}
use native.Mathlib.Omega.{arith}
use borrow.Author.Rules.{rules}
use lib.ListN.{length}
use Rattle.scripthash_free.specs.FreeList.{lists, gap_blocks, push_all}
use Rattle.scripthash_free.proofs.LawsBlock.{largest_found}
use Rattle.scripthash_free.proofs.LawsGap.{gap_first}
use Rattle.scripthash_free.proofs.push_largest.Statement.{statement}
use Rattle.scripthash_free.proofs.push_largest.Tie as tie

abbrev invariant_loop : tie.invariant-loop-off
invariant_loop body₀ heads₀ from to off₀ body heads off =
    (off ≤ to) × (length body ≡ length body₀)
    × (push_all (gap_blocks off to) (lists body heads) ≡ push_all (gap_blocks from to) (lists body₀ heads₀))

abbrev decreases_loop : tie.decreases-loop-off
decreases_loop body₀ heads₀ from to off₀ body heads off = to - off

loop-off-init : tie.Need-loop-off-init invariant_loop decreases_loop
loop-off-init c = (search rules, refl, refl)

overflow_sub-to : tie.Need-overflow_sub-to invariant_loop decreases_loop
overflow_sub-to c = search rules

put_free_head-requires : tie.Need-put_free_head-requires invariant_loop decreases_loop
put_free_head-requires c κs = (search rules, omega arith)

overflow_add-off : tie.Need-overflow_add-off invariant_loop decreases_loop
overflow_add-off c = omega arith

loop-off-smaller : tie.Need-loop-off-smaller invariant_loop decreases_loop
loop-off-smaller c = omega arith

loop-off-preserved : tie.Need-loop-off-preserved invariant_loop decreases_loop
loop-off-preserved c =
    let t = c.before.before.before.before.before.before in
    let to = t.before.before.args.to in
    let l = t.loop-off in
    let after = c.before.before.put_free_head.ensures in
    let first = gap_first l.off to 7 (lists l.body l.heads) (largest_found 7 (to - l.off) (omega arith)) in
    (omega arith, search rules, ap (push_all (gap_blocks (l.off + 2048) to)) after ∙ sym first ∙ l.invariant.2)

shape_of-body : tie.Need-shape_of-body invariant_loop decreases_loop
shape_of-body c = search rules

returns : tie.Need-returns invariant_loop decreases_loop
returns c = ((search rules, omega arith), c.before.loop-off.invariant.2)

pub push_largest_spec : {M : Type 1} → statement M
push_largest_spec =
    tie.close
    (tie.spec
    invariant_loop
    decreases_loop
    loop-off-init
    overflow_sub-to
    put_free_head-requires
    overflow_add-off
    loop-off-smaller
    loop-off-preserved
    shape_of-body
    returns)
