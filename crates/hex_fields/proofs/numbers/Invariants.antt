-- What was put is in the list.
use Rattle.std.proofs.Common.{◌≤◌, length}
use Rattle.hex_fields.proofs.numbers.Given as goal

abbrev pub invariant-loop-item : goal.invariant-loop-item
invariant-loop-item l =
    (goal.iterator-loop-item).can_next l.item-iterator
    × (goal.iterator-loop-item).is_finite l.item-iterator
    × (l.count ≤ length l.out)
