-- What is left gives the whole.
use Rattle.std.proofs.Common.{◌-◌, ◌≤◌, ◌≡◌, length}
use Rattle.book.specs.Book.{Outcome}
use Rattle.book.specs.Answers.{book_of}
use Rattle.book_extend.specs.Extends.{Extended}
use Rattle.book_extend.specs.Steps.{Stopped, Extending}
use Rattle.book_extend.proofs.extending.append_from.Given as goal

abbrev pub invariant-loop-i : goal.invariant-loop-i
invariant-loop-i l =
    (length l.body ≡ length l.initial.body) × (length l.heads ≡ length l.initial.heads) × (l.i ≤ length l.fks)
    × ((whole : Outcome Extended) → Extending l.desk l.key l.fks whole (book_of l.initial.body l.initial.heads l.initial.mark
    l.initial.free l.initial.counts) l.from 0 0
    → Extending l.desk l.key l.fks whole (book_of l.body l.heads l.mark l.free l.counts) l.i l.moves l.rewritten)
    × Stopped l.body l.heads l.mark l.key l.fks l.i

abbrev pub decreases-loop-i : goal.decreases-loop-i
decreases-loop-i l =
    length l.fks - l.i
