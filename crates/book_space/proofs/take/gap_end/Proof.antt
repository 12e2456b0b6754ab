-- `gap_end` meets its contract. Assumes nothing.
use Prim.Native.Nat.{◌≤◌, ◌<◌}
use native.Mathlib.Omega.{arith}
use borrow.Author.Tests.{lt-leb, le-leb}
use Rattle.book_limits.specs.Limits.{slabs_end, page_after}
use Rattle.book_space.proofs.take.gap_end.Statement.{statement}
use Rattle.book_space.proofs.take.gap_end.Tie as tie

returns-then-from-le-SLABS_END : tie.Need-returns-then-from-le-SLABS_END
returns-then-from-le-SLABS_END c =
    let a = c.before.args in
    let low : page_after a.mark ≤ slabs_end = omega (arith, c.before.requires) in
    rw (le-leb (page_after a.mark) slabs_end low) c.before.requires

returns : tie.Need-returns
returns c =
    let a = c.before.args in
    let high : slabs_end < page_after a.mark = omega (arith, c.before.requires) in
    rw (lt-leb (page_after a.mark) slabs_end high)

pub gap_end_spec : {M : Type 1} → statement M
gap_end_spec = tie.close (tie.spec returns-then-from-le-SLABS_END returns)
