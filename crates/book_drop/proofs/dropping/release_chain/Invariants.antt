-- The pages that are left, given back, make what all of them make.
use Rattle.std.proofs.Common.{ℕ, ◌-◌, List, ◌≡◌, length}
use Rattle.book_space.specs.Space.{space, release}
use Rattle.book_keys.specs.Keys.{body_ground, page_blocks}
use Rattle.book_keys.specs.Steps.{PagesLeft}
use Rattle.book_drop.proofs.LawsDrop.{Giving}
use Rattle.book_drop.proofs.dropping.release_chain.Given as goal

abbrev pub invariant-loop : goal.invariant-loop
invariant-loop l = record {
  long : length l.body ≡ length l.fn.body;
  giving : (mark : ℕ) (whole : List ℕ) → PagesLeft (body_ground l.fn.body mark) l.first l.pages whole
      → Giving (space l.body mark l.free) l.off (l.pages - l.counter) (release (page_blocks whole) (space l.fn.body mark l.fn.free));
}
