-- What the limits of an account book promise of a body and its heads in shape. Assumes nothing.
use Prim.Native.Nat.{ℕ, ◌-◌, ◌%◌, ◌≤◌, ◌<◌, min}
use mathlib.Core.Bool.{Bool, true, false, cond}
use mathlib.Core.Logic.{◌⊎◌, inl, inr}
use mathlib.Core.Path.{◌≡◌, refl}
use native.Mathlib.Nat.{pos_of_ne-zero}
use borrow.Author.Tests.{leb-true, ltb-false, eqb-true, eqb-false, not-false}
use Rattle.error.proofs.LawsAnswer.{neither}
use Rattle.book_limits.specs.Limits.{least_body, most_body, slabs_end, most_heads, out_of_shape, page_after, gap_end, pop_end}
use Rattle.scripthash_layout.specs.Sizes.{page_class}
use native.Mathlib.Nat.{min-le_left}
use lib.Dec.{leb, eqb}
use native.Mathlib.Omega.{arith}

-- Where the gap before a page ends: no lower than the mark, a multiple of 16 further, no higher than the page, and not past the end of
-- slabs unless it is empty.
pub record GapTo (mark to : ℕ) : Type 0 where
  pub from : mark ≤ to
  pub whole : (to - mark) % 16 ≡ 0
  pub within : to ≤ page_after mark
  pub low : (to ≤ slabs_end) ⊎ (to ≡ mark)

pub gap_end_lem : (mark : ℕ) → mark % 16 ≡ 0 → GapTo mark (gap_end mark)
gap_end_lem mark a = go (leb (page_after mark) slabs_end) refl
  where
    go : (low : Bool) → leb (page_after mark) slabs_end ≡ low → GapTo mark (cond low (page_after mark) mark)
    go true e =
        record { from = omega arith; whole = omega arith; within = omega arith; low = inl (leb-true (page_after mark) slabs_end e) }
    go false e = record { from = omega arith; whole = omega arith; within = omega arith; low = inr refl }

-- A block that is popped lies below the mark.
pub pop_below : (class mark : ℕ) → pop_end class mark ≤ mark
unfolding pop_end
pop_below class mark = go (eqb class page_class)
  where
    go : (page : Bool) → cond page mark (min mark slabs_end) ≤ mark
    go true = omega arith
    go false = min-le_left mark slabs_end

-- A body in shape is whole pages, from two on, and has 1 to 65,536 heads.
pub record InShape (size heads : ℕ) : Type 0 where
  pub paged : size % 4096 ≡ 0
  pub least : least_body ≤ size
  pub most : size ≤ most_body
  pub one : 0 < heads
  pub few : heads ≤ most_heads

-- What isn't out of shape is in shape.
pub in_shape : (size heads : ℕ) → out_of_shape size heads ≡ false → InShape size heads
unfolding out_of_shape
in_shape size heads e =
    let (paged, e1) = neither _ _ e in
    let (least, e2) = neither _ _ e1 in
    let (most, e3) = neither _ _ e2 in
    let (one, few) = neither _ _ e3 in
    record {
      paged = eqb-true (size % 4096) 0 (not-false _ paged);
      least = ltb-false size least_body least;
      most = ltb-false most_body size most;
      one = pos_of_ne-zero (eqb-false heads 0 one);
      few = ltb-false most_heads heads few;
    }
