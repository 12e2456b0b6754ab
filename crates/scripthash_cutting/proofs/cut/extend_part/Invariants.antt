-- What the loop of `extend_part` keeps: in the room, and in any larger one, the part goes on from here as it did from its start.
use Prim.Native.Nat.{ℕ, ◌+◌, ◌-◌, ◌≤◌}
use mathlib.Core.Path.{◌≡◌}
use Rattle.scripthash_cutting.specs.Steps.{fitting_at}
use Rattle.scripthash_cutting.proofs.cut.extend_part.Given as goal

abbrev pub invariant-loop-i : goal.invariant-loop-i
invariant-loop-i l = record {
  held : l.bytes ≤ l.room.bytes;
  same : (more : ℕ) → l.room.bytes ≤ more → l.i + fitting_at l.fks l.i (more - l.bytes) ≡ l.from + fitting_at l.fks l.from (more - l.used);
}
