-- Whether those left are free tells it of all.
use Rattle.std.proofs.Common.{ℕ, ◌+◌, ◌-◌, ◌≤◌, List, ◌≡◌}
use Rattle.buffer.specs.Bytes.{part}
use Rattle.book_start.specs.Units.{all_free}
use Rattle.book_start.proofs.units.bytes_free.Given as goal

-- What is known in the middle of checking bytes.
pub record CheckingBytes (work : List ℕ) (from count end i : ℕ) : Type 0 where
  -- The next byte isn't beyond the end.
  pub to_end : i ≤ end
  -- Whether those left are free tells it of all.
  pub gives : all_free (part work i (end - i)) ≡ all_free (part work from count)

abbrev pub invariant-loop-i : goal.invariant-loop-i
invariant-loop-i l = CheckingBytes l.work l.fn.from l.fn.count (l.fn.from + l.fn.count) l.i
