-- What is left of the gap is smaller than a block of the class, and its blocks, pushed, give what all of them give.
use Prim.Native.Nat.{◌+◌, ◌≤◌, ◌<◌}
use mathlib.Core.Path.{◌≡◌}
use lib.ListN.{length}
use Rattle.scripthash_layout.specs.Sizes.{slab_bytes}
use Rattle.scripthash_free.specs.FreeList.{lists, gap_blocks, push_all}
use Rattle.scripthash_free.proofs.push_smaller.Given as goal

abbrev pub invariant-loop-class : goal.invariant-loop-class
invariant-loop-class l = record {
  few : l.class ≤ 7;
  inside : l.off ≤ l.to;
  short : l.to < l.off + slab_bytes l.class;
  long : length l.body ≡ length l.fn.body;
  given : push_all (gap_blocks l.off l.to) (lists l.body l.heads) ≡ push_all (gap_blocks l.from l.to) (lists l.fn.body l.fn.heads);
}
