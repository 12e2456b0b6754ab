-- So far the sum has the lacks of the desks passed.
use Rattle.std.proofs.Common.{◌≡◌, ◌≤◌, ◌-◌, ◌*◌, ◌^◌, get_or}
use Rattle.book_desks.specs.Desks.{sum_to}
use Rattle.book_desks.specs.Counts.{held_at, reserve_at}
use Rattle.book_desks.proofs.counts.sum_of_lacks.Given as goal

abbrev pub invariant-loop-d : goal.invariant-loop-d
invariant-loop-d l =
    (l.sum ≡ sum_to l.d (λ d. get_or l.counts (reserve_at d) 0 - get_or l.counts (held_at d) 0)) × (l.sum ≤ l.d * 2 ^ 29)
