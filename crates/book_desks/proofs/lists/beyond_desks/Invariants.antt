-- The largest byte so far, or one to come, is no desk just where one of all is.
use Rattle.std.proofs.Common.{◌≡◌, ◌||◌, leb, drop}
use Rattle.book_desks.specs.Desks.{beyond_desks}
use Rattle.book_desks.proofs.lists.beyond_desks.Given as goal

abbrev pub invariant-loop-desk : goal.invariant-loop-desk
invariant-loop-desk l = (leb 16 l.top || beyond_desks (drop l.desk-index l.desks)) ≡ beyond_desks l.desks
