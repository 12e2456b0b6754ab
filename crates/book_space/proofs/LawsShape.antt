-- What the test of a space's shape tells of a space that passed it. Assumes nothing.
use Prim.Native.Nat.{ℕ, ◌%◌, ◌≤◌, ◌<◌}
use mathlib.Core.Bool.{false}
use mathlib.Core.Path.{◌≡◌}
use borrow.Author.Tests.{ltb-false, eqb-true, not-false}
use lib.ListN.{length}
use Rattle.error.proofs.LawsAnswer.{neither}
use Rattle.scripthash_layout.specs.Head.{payload_start}
use Rattle.book_limits.specs.Limits.{most_heads}
use Rattle.book_limits.proofs.LawsLimits.{in_shape}
use Rattle.book_space.specs.Space.{Space, InShape, mark_bad, shape_broken}

-- A mark that passed its test is a multiple of 16 between 4,096 and the body's end.
mark_holds : (size mark : ℕ) → mark_bad size mark ≡ false → (mark % 16 ≡ 0) × (payload_start ≤ mark) × (mark ≤ size)
unfolding mark_bad
mark_holds size mark e =
    let (aligned, e1) = neither _ _ e in
    let (begins, within) = neither _ _ e1 in
    (eqb-true (mark % 16) 0 (not-false _ aligned), ltb-false mark payload_start begins, ltb-false size mark within)

-- A space that passed the test is in shape, and has 1 to 65,536 heads.
pub shape_holds : (s : Space) (heads : ℕ) → shape_broken s heads ≡ false → InShape s × (0 < heads) × (heads ≤ most_heads)
unfolding shape_broken
shape_holds s heads e =
    let (lengths, marked) = neither _ _ e in
    let l = in_shape (length s.body) heads lengths in
    let m = mark_holds (length s.body) s.mark marked in
    (record { paged = l.paged; least = l.least; most = l.most; aligned = m.0; begins = m.1; within = m.2 }, l.one, l.few)
