use Rattle.std.proofs.Common.{◌-◌, ◌/◌, length}
use Rattle.book_start.specs.Start.{followed}
use Rattle.book_start.proofs.LawsTally.{Follows}
use Rattle.book_start.proofs.counts.freed_pages.Given as goal

abbrev pub invariant-loop-off : goal.invariant-loop-off
invariant-loop-off l = Follows l.body l.mark l.head l.off l.count

abbrev pub decreases-loop-off : goal.decreases-loop-off
decreases-loop-off l = length (followed (l.mark / 16) l.body l.head) - l.count
