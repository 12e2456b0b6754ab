use Rattle.std.proofs.Common.{◌-◌, ◌≤◌}
use Rattle.book_start.specs.Making.{limits_of}
use Rattle.book_start.proofs.LawsMaking.{Filled}
use Rattle.book_start.proofs.making.fresh_counts.Given as goal

abbrev pub invariant-loop-d : goal.invariant-loop-d
invariant-loop-d l = (l.d ≤ 16) × Filled (limits_of l.reserve l.ceiling) l.words l.d
