-- What the steps of a drop promise each other: no answer of a public function is defined here.
use Rattle.std.specs.Prelude.{ℕ, ◌≤◌, ◌<◌, List, length}
use Rattle.error.specs.Refusal.{Answer, and_then}
use Rattle.scripthash_layout.specs.declared.head.ShHeadValue.{ShHeadValue}
use Rattle.book_rules.specs.Outcomes.{Dropped}
use Rattle.book_desks.specs.Desks.{desks}
use Rattle.book_space.specs.Space.{Space}
use Rattle.book_keys.specs.Keys.{soundly, content_at}
use Rattle.book.specs.Book.{Book, Outcome, seen}
use Rattle.book_drop.specs.Drops.{dropped}

-- A drop by a desk of a key that stands where its head word tells.
unfoldable pub drops_at : ℕ → Book → ℕ → ShHeadValue → Answer (Outcome Dropped)
drops_at desk b key place = and_then (soundly (content_at (seen b.space) place)) (dropped desk b key)

-- What is known of a drop of a slab: the mark is within the body, and the key is one of the heads.
pub record ToDropSlab (s : Space) (heads : List ℕ) (key : ℕ) : Type 0 where
  pub within : s.mark ≤ length s.body
  pub keyed : key < length heads

-- What is known of a drop whose shape, desk and key passed their tests.
pub record ToDrop (desk : ℕ) (b : Book) (key : ℕ) : Type 0 where
  pub within : b.space.mark ≤ length b.space.body
  pub known : desk < desks
  pub keyed : key < length b.heads
