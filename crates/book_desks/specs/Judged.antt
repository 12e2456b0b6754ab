-- What the judging of a take in words asks for: no answer is defined here.
use Rattle.std.specs.Prelude.{ℕ, ◌≤◌, ◌<◌, ◌^◌, false, List, ◌≡◌, get_or}
use Rattle.book_limits.specs.Limits.{most_body}
use Rattle.book_desks.specs.Desks.{desks}
use Rattle.book_desks.specs.Counts.{reserve_at, counts_high}

-- No reserve is above the pages of the largest body.
abbrev pub SmallCounts : List ℕ → Type 0
SmallCounts counts = (d : ℕ) → d < desks → get_or counts (reserve_at d) 0 ≤ 2 ^ 29

-- A take that can be judged: no count is above the body's pages, the desk is one, and sums stay small.
pub record ToJudge (counts : List ℕ) (size desk pages freed mark : ℕ) : Type 0 where
  pub low : counts_high size counts ≡ false
  pub known : desk < desks
  pub body : size ≤ most_body
  pub asked : pages ≤ most_body
  pub left : freed ≤ most_body
  pub within : mark ≤ size
