-- Whether those left are free tells it of all.
use Rattle.std.proofs.Common.{ℕ, ◌+◌, ◌-◌, ◌≤◌, List, ◌≡◌}
use Rattle.buffer.specs.Bytes.{part}
use Rattle.book_start.specs.Units.{units_of, all_free}
use Rattle.book_start.proofs.units.units_free.Given as goal

-- What is known in the middle of checking units.
pub record CheckingUnits (work : List ℕ) (from count end i : ℕ) : Type 0 where
  -- The next unit isn't beyond the end.
  pub to_end : i ≤ end
  -- Whether those left are free tells it of all.
  pub gives : all_free (part (units_of work) i (end - i)) ≡ all_free (part (units_of work) from count)

abbrev pub invariant-loop-i : goal.invariant-loop-i
invariant-loop-i l = CheckingUnits l.work l.fn.from l.fn.count (l.fn.from + l.fn.count) l.i
