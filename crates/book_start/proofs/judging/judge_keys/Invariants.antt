-- What `judge_keys` knows in the middle of judging keys: the keys that are left, judged behind what the work list shows, give what all of
-- them give.
use Prim.Native.Nat.{ℕ, ◌≤◌}
use mathlib.Core.List.{List, []}
use mathlib.Core.Path.{◌≡◌}
use lib.ListN.{length}
use Rattle.book_space.specs.Space.{Space, space}
use Rattle.book_start.specs.Start.{judge_keys}
use Rattle.book_start.specs.Units.{units_of, Marked}
use Rattle.book_start.proofs.LawsVerdict.{KeysGo}
use Rattle.book_start.proofs.judging.judge_keys.Given as goal

-- What is known in the middle of judging keys.
pub record JudgingKeys (s : Space) (heads work₀ work : List ℕ) (lost key : ℕ) : Type 0 where
  -- The work list is as long as before.
  pub same : length work ≡ length work₀
  -- The next key isn't beyond the last.
  pub to_end : key ≤ length heads
  -- The keys that are left, judged behind what the work list shows, give what all of them give.
  pub goes : (units : ℕ) (lent : List ℕ) → Marked units s.mark lent [] (units_of work₀)
      → KeysGo units lent (judge_keys s 0 heads []) s heads key (units_of work) lost

abbrev pub invariant-loop-key : goal.invariant-loop-key
invariant-loop-key l = JudgingKeys (space l.body l.mark l.free) l.heads l.fn.work l.work l.lost l.key
