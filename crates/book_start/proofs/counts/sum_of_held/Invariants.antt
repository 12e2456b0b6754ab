use Rattle.std.proofs.Common.{◌*◌, ◌-◌, ◌≤◌, ◌^◌, ◌≡◌}
use Rattle.book_desks.specs.Desks.{sum_to}
use Rattle.book_desks.specs.Counts.{held_count}
use Rattle.book_start.proofs.counts.sum_of_held.Given as goal

abbrev pub invariant-loop-d : goal.invariant-loop-d
invariant-loop-d l = (l.d ≤ 16) × (l.sum ≡ sum_to l.d (λ i. held_count i l.counts)) × (l.sum ≤ l.d * 2 ^ 29)
