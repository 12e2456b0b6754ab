use Rattle.std.proofs.Common.{ℕ, ◌-◌, ◌≤◌, cond, List, ◌≡◌, ltb}
use Rattle.book_desks.specs.Desks.{lacks}
use Rattle.book_desks.specs.Counts.{held_in, limits_in}
use Rattle.book.specs.Answers.{book_of}
use Rattle.book_start.specs.Start.{Verdict, good, lacks_open}
use Rattle.book_start.specs.Steps.{Tallied}
use Rattle.book_start.proofs.LawsTally.{from}
use Rattle.book_start.proofs.counts.judge_desks.Given as goal

-- The verdict behind the desks.
abbrev pub behind : List ℕ → ℕ → ℕ → Verdict
behind counts had lost = cond (ltb had (lacks (limits_in counts) (held_in counts))) lacks_open (good lost)

-- What is known in the middle of judging desks: those that are left give what all give.
pub record JudgingDesks (counts : List ℕ) (had lost : ℕ) (tally : List ℕ) (d : ℕ) : Type 0 where
  pub to_end : d ≤ 16
  pub left : (ds body heads : List ℕ) (mark : ℕ) (free : List ℕ) → Tallied ds (book_of body heads mark free counts) tally
      → from ds (book_of body heads mark free counts) (behind counts had lost) d
      ≡ from ds (book_of body heads mark free counts) (behind counts had lost) 0

abbrev pub invariant-loop-d : goal.invariant-loop-d
invariant-loop-d l = JudgingDesks l.counts l.had l.lost l.tally l.d
