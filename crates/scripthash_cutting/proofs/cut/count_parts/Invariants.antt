-- What the loop of `count_parts` keeps: the parts passed and those of what is left make up the count.
use Prim.Native.Nat.{◌+◌, ◌-◌, ◌≤◌}
use mathlib.Core.Path.{◌≡◌}
use lib.ListN.{length, drop}
use Rattle.scripthash_cutting.specs.Cutting.{last_page_room, cutting_for}
use Rattle.scripthash_cutting.proofs.cut.count_parts.Given as goal

abbrev pub invariant-loop-start : goal.invariant-loop-start
invariant-loop-start l = record {
  few : l.count ≤ l.start;
  within : l.start ≤ length l.fks;
  counted : l.count + length (cutting_for last_page_room l.room.bytes (drop l.start l.fks))
      ≡ length (cutting_for last_page_room l.room.bytes (drop l.from l.fks));
}

abbrev pub decreases-loop-start : goal.decreases-loop-start
decreases-loop-start l = length l.fks - l.start
