-- What was put is in the buffer.
use Rattle.std.proofs.Common.{◌≤◌, length}
use Rattle.hex_fields.proofs.bytes.Given as goal

abbrev pub invariant-loop-a : goal.invariant-loop-a
invariant-loop-a l = l.count ≤ length l.out
