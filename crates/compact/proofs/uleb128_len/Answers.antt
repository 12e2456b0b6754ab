-- `uleb128_len` meets its contract. With z leading zeros a number lies between 2 ^ (64 - z) / 2 and 2 ^ (64 - z) - 1. At both ends the
-- length is what the code computes of z, which one test shows for all z, and between them the length does not fall.
use Rattle.std.proofs.Common.{ℕ, ◌-◌, ◌*◌, ◌/◌, ◌^◌, Bool, ◌&&◌, ◌≡◌, sym, le_antisymm, le_trans, le_of_eq, arith, T, eqb, eqb→eq}
use lib.Count.{count_leading_zeros, leading_length}
use Rattle.std.proofs.Math.Facts.{and_yes}
use Rattle.buffer.proofs.LawsOrder.{every_below, below_bound}
use Rattle.compact.specs.Uleb128.{divided, uleb_len}
use Rattle.compact.proofs.LawsLength.{len_mono}
use Rattle.compact.proofs.uleb128_len.Goals as goal

-- what the code computes of the count of leading zeros of a number of m bits
abbrev computed : ℕ → ℕ
computed m = (640 - 9 * (64 - m)) / 64

-- the smallest and the largest number of m bits have the length that the code computes
right : ℕ → Bool
right m = eqb (uleb_len (2 ^ m / 2)) (computed m) && eqb (uleb_len (2 ^ m - 1)) (computed m)

ends : T (every_below right 65)
unfolding every_below right uleb_len divided
ends = tt

pub returns : goal.returns
unfolding right
returns c =
    let n = c.args.n in
    let top = leading_length 64 n c.ranges.n.fits in
    let m = top.0 in
    let z : count_leading_zeros 64 n ≡ 64 - m = omega (arith, top.1) in
    let both = and_yes (eqb (uleb_len (2 ^ m / 2)) (computed m)) (eqb (uleb_len (2 ^ m - 1)) (computed m))
    (below_bound right 65 ends m (omega (arith, top.1))) in
    let low = len_mono (2 ^ m / 2) n (omega (arith, top.3)) in
    let high = len_mono n (2 ^ m - 1) (omega (arith, top.2)) in
    rw z
    (le_antisymm
    (le_trans (le_of_eq (sym (eqb→eq (uleb_len (2 ^ m / 2)) (computed m) both.0))) low)
    (le_trans high (le_of_eq (eqb→eq (uleb_len (2 ^ m - 1)) (computed m) both.1))))
