-- What is left, marked, makes the whole.
use Rattle.std.proofs.Common.{ℕ, ◌+◌, ◌-◌, ◌≤◌, List, ◌≡◌, length, replicate}
use Rattle.buffer.specs.Bytes.{overwrite}
use Rattle.book_start.specs.Units.{units_of}
use Rattle.book_start.proofs.units.mark_units.Given as goal

-- What is known in the middle of marking units.
pub record MarkingUnits (work₀ : List ℕ) (from count end : ℕ) (work : List ℕ) (i : ℕ) : Type 0 where
  -- The work list is as long as before.
  pub same : length work ≡ length work₀
  -- The next unit isn't beyond the end.
  pub to_end : i ≤ end
  -- Those left, marked, make the whole.
  pub gives : overwrite (units_of work) i (replicate (end - i) 1) ≡ overwrite (units_of work₀) from (replicate count 1)

abbrev pub invariant-loop-i : goal.invariant-loop-i
invariant-loop-i l = MarkingUnits l.initial.work l.fn.from l.fn.count (l.fn.from + l.fn.count) l.work l.i
