-- The pages that are left, claimed behind what the work list shows, give what all of them give.
use Rattle.std.proofs.Common.{ℕ, List, ◌≡◌, length}
use Rattle.scripthash_free.specs.FreeList.{Block}
use Rattle.book_keys.specs.Keys.{page_blocks, body_ground, Ground}
use Rattle.book_keys.specs.Steps.{PagesLeft}
use Rattle.book_start.specs.Start.{claim_all}
use Rattle.book_start.specs.Units.{units_of, Marked}
use Rattle.book_start.proofs.LawsShown.{PagesGo}
use Rattle.book_start.proofs.claiming.claim_pages.Given as goal

-- What is known in the middle of claiming pages.
pub record ClaimingPages (s : Ground) (work₀ : List ℕ) (first pages : ℕ) (work : List ℕ) (off left : ℕ) : Type 0 where
  -- The work list is as long as before.
  pub same : length work ≡ length work₀
  -- The pages that are left stand at these offsets.
  pub offs : List ℕ
  pub rest : PagesLeft s off left offs
  -- Claimed behind what the work list shows, they give what all pages give.
  pub goes : (whole : List ℕ) → PagesLeft s first pages whole → (units : ℕ) (lent : List ℕ) (claims : List Block)
      → Marked units s.mark lent claims (units_of work₀)
      → PagesGo units s.mark lent claims (claim_all claims (page_blocks whole)) s pages off left (units_of work)

abbrev pub invariant-loop-left : goal.invariant-loop-left
invariant-loop-left l = ClaimingPages (body_ground l.body l.mark) l.initial.work l.first l.pages l.work l.off l.left

abbrev pub decreases-loop-left : goal.decreases-loop-left
decreases-loop-left l = l.left
