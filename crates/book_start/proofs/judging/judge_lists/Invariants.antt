-- What `judge_lists` knows in the middle of judging free lists: the lists that are left, judged behind what the work list shows, give what
-- all of them give.
use Prim.Native.Nat.{ℕ, ◌≤◌}
use mathlib.Core.List.{List}
use mathlib.Core.Path.{◌≡◌}
use lib.ListN.{length}
use Rattle.scripthash_free.specs.FreeList.{Block}
use Rattle.book_space.specs.Space.{Space, space}
use Rattle.book_start.specs.Start.{judge_lists}
use Rattle.book_start.specs.Units.{units_of, Marked, Leaves}
use Rattle.book_start.proofs.LawsVerdict.{ListsGo}
use Rattle.book_start.proofs.judging.judge_lists.Given as goal

-- What is known in the middle of judging free lists.
pub record JudgingLists (s : Space) (work₀ : List ℕ) (unclaimed : ℕ) (work : List ℕ) (lost class : ℕ) : Type 0 where
  -- The work list is as long as before.
  pub same : length work ≡ length work₀
  -- The next list isn't beyond the last.
  pub to_end : class ≤ length s.free
  -- The lists that are left, judged behind what the work list shows, give what all of them give.
  pub goes : (units : ℕ) (lent : List ℕ) (claims : List Block) → Marked units s.mark lent claims (units_of work₀)
      → Leaves s.mark claims unclaimed
      → ListsGo units lent (judge_lists s 0 s.free claims) s class (units_of work) lost

abbrev pub invariant-loop-class : goal.invariant-loop-class
invariant-loop-class l = JudgingLists (space l.body l.mark l.free) l.fn.work l.unclaimed l.work l.lost l.class
