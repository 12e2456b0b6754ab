-- What is left of the list, claimed behind what the work list shows, gives what all of it gives.
use Rattle.std.proofs.Common.{ℕ, ◌/◌, List, ◌≡◌, length}
use Rattle.scripthash_free.specs.FreeList.{Block}
use Rattle.book_space.specs.Space.{space}
use Rattle.book_start.specs.Start.{claim_freed}
use Rattle.book_start.specs.Units.{units_of, Marked}
use Rattle.book_start.proofs.LawsShown.{FreedGo}
use Rattle.book_start.proofs.claiming.claim_freed.Given as goal

-- What is known in the middle of claiming a free list.
pub record ClaimingList (body : List ℕ) (mark : ℕ) (work₀ : List ℕ) (class head : ℕ) (work : List ℕ) (off left taken : ℕ) : Type 0 where
  -- The work list is as long as before.
  pub same : length work ≡ length work₀
  -- What is left of the list, claimed behind what the work list shows, gives what all of it gives.
  pub goes : (free : List ℕ) (units : ℕ) (lent : List ℕ) (claims : List Block) → Marked units mark lent claims (units_of work₀)
      → FreedGo units lent claims (claim_freed (mark / 16) (space body mark free) class claims head) (space body mark free) class off left
      (units_of work) taken

abbrev pub invariant-loop-off : goal.invariant-loop-off
invariant-loop-off l =
    ClaimingList l.body l.mark l.initial.work l.class l.head l.work l.off l.left l.taken

abbrev pub decreases-loop-off : goal.decreases-loop-off
decreases-loop-off l = l.left
