-- `push_smaller`: the class below is half as large, and what is left fits it once at most.
use Prim.Native.Nat.{ℕ, suc, ◌+◌, ◌-◌, ◌≤◌, ◌<◌}
use mathlib.Core.Path.{◌≡◌, sym, ap, ◌∙◌}
use native.Mathlib.Omega.{arith}
use Rattle.scripthash_layout.specs.Sizes.{slab_bytes, where_below}
use Rattle.scripthash_free.specs.FreeList.{lists, gap_blocks, pushed, push_all}
use Rattle.scripthash_free.proofs.LawsBlock.{bytes_from_16, bytes_twice, bytes_fit, largest_is}
use Rattle.scripthash_free.proofs.LawsGap.{gap_first, gap_left}
use Rattle.scripthash_free.proofs.push_smaller.Goals as goal

-- the class below one, its size, and that the one has twice that
module _ (class size : ℕ) (few : class ≤ 7) (some : 0 < class) (is : size ≡ where_below 64 (slab_bytes (class - 1))) where
  size_is : size ≡ slab_bytes (class - 1)
  size_is = is ∙ bytes_fit (class - 1) (omega arith)

  next : class ≡ suc (class - 1)
  next = omega arith

  twice : slab_bytes class ≡ slab_bytes (class - 1) + slab_bytes (class - 1)
  twice = ap slab_bytes next ∙ bytes_twice (class - 1)

pub put_free_head-requires : goal.put_free_head-requires
put_free_head-requires c =
    let l = c.loop-class in
    (omega arith, omega (arith, size_is l.class c.slab_bytes-size.result (omega arith) (omega arith) c.slab_bytes-size.ensures, bytes_from_16 (l.class - 1)))

pub loop-class-preserved-then-size-to : goal.loop-class-preserved-then-size-to
loop-class-preserved-then-size-to c =
    let l = c.loop-class in
    let to = c.args.to in
    let below : ℕ = l.class - 1 in
    let got = c.slab_bytes-size.result in
    let size = size_is l.class got (omega arith) (omega arith) c.slab_bytes-size.ensures in
    let double = twice l.class got (omega arith) (omega arith) c.slab_bytes-size.ensures in
    let fits : got ≤ to - l.off = c.if-size-to.true in
    let largest = largest_is below (to - l.off) (omega arith) (omega (arith, size))
    (omega (arith, double, ap slab_bytes (next l.class got (omega arith) (omega arith) c.slab_bytes-size.ensures))) in
    let first = gap_first l.off to below (lists l.body l.heads) largest in
    let after = c.put_free_head.ensures in
    record {
      few = omega arith;
      inside = omega arith;
      short = omega (arith, size, double);
      long = cc;
      given = ap (push_all (gap_blocks (l.off + got) to)) after
          ∙ ap (λ (s : ℕ). push_all (gap_blocks (l.off + s) to) (pushed below l.off (lists l.body l.heads))) size
          ∙ sym first ∙ l.invariant.given;
    }

pub loop-class-preserved : goal.loop-class-preserved
loop-class-preserved c =
    let l = c.loop-class in
    let size = size_is l.class c.slab_bytes-size.result (omega arith) (omega arith) c.slab_bytes-size.ensures in
    record {
      few = omega arith;
      inside = l.invariant.inside;
      short = omega (arith, size);
      long = l.invariant.long;
      given = l.invariant.given;
    }

pub returns : goal.returns
returns c =
    let l = c.loop-class in
    let to = c.args.to in
    let last : l.class ≡ 0 = omega arith in
    sym (gap_left l.off to (lists l.body l.heads) (omega (arith, ap slab_bytes last))) ∙ l.invariant.given
