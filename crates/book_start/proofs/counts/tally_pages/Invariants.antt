use Rattle.std.proofs.Common.{ℕ, ◌-◌, ◌≤◌, List, length}
use Rattle.book.specs.Answers.{book_of}
use Rattle.book_start.proofs.LawsTally.{TalliedTo}
use Rattle.book_start.proofs.counts.tally_pages.Given as goal

-- What is known in the middle of a tally: all keys before one are counted, whatever the free heads and the counts.
pub record Tallying (body heads : List ℕ) (mark : ℕ) (ds tally : List ℕ) (key : ℕ) : Type 0 where
  pub to_end : key ≤ length heads
  pub all : (free counts : List ℕ) → TalliedTo ds (book_of body heads mark free counts) tally key

abbrev pub invariant-loop-key : goal.invariant-loop-key
invariant-loop-key l = Tallying l.body l.heads l.mark l.desks l.tally l.key
