-- What is left, given the value, makes the whole.
use Rattle.std.proofs.Common.{ℕ, ◌+◌, ◌-◌, ◌≤◌, List, ◌≡◌, length, replicate}
use Rattle.buffer.specs.Bytes.{overwrite}
use Rattle.book_start.proofs.units.fill_bytes.Given as goal

-- What is known in the middle of filling bytes.
pub record FillingBytes (work₀ : List ℕ) (from count value end : ℕ) (work : List ℕ) (i : ℕ) : Type 0 where
  -- The work list is as long as before.
  pub same : length work ≡ length work₀
  -- The next byte isn't beyond the end.
  pub to_end : i ≤ end
  -- Those left, given the value, make the whole.
  pub gives : overwrite work i (replicate (end - i) value) ≡ overwrite work₀ from (replicate count value)

abbrev pub invariant-loop-i : goal.invariant-loop-i
invariant-loop-i l = FillingBytes l.initial.work l.fn.from l.fn.count l.value (l.fn.from + l.fn.count) l.work l.i
