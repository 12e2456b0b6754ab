-- What the loop of `write_ranges` keeps: what is left to count and to write gives the whole.
use Prim.Native.Nat.{◌+◌, ◌-◌, ◌≤◌}
use mathlib.Core.Path.{◌≡◌}
use lib.ListN.{length, drop}
use Rattle.buffer.specs.Bytes.{overwrite}
use Rattle.scripthash_cutting.specs.Cutting.{last_page_room, cutting_for, ranges_from}
use Rattle.scripthash_cutting.proofs.cut.write_ranges.Given as goal

abbrev pub invariant-loop-start : goal.invariant-loop-start
invariant-loop-start l = record {
  within : l.start ≤ length l.fks;
  counted : l.count + length (cutting_for last_page_room l.room.bytes (drop l.start l.fks))
      ≡ l.at + length (cutting_for last_page_room l.room.bytes (drop l.from l.fks));
  written : overwrite l.out l.count (ranges_from l.start (cutting_for last_page_room l.room.bytes (drop l.start l.fks)))
      ≡ overwrite l.fn.out l.at (ranges_from l.from (cutting_for last_page_room l.room.bytes (drop l.from l.fks)));
}

abbrev pub decreases-loop-start : goal.decreases-loop-start
decreases-loop-start l = length l.fks - l.start
