-- What was read is in the room.
use Rattle.std.proofs.Common.{◌≤◌, length}
use Rattle.book_run.proofs.read_input.Given as goal

abbrev pub invariant-loop : goal.invariant-loop
invariant-loop g l = l.count ≤ length l.room
