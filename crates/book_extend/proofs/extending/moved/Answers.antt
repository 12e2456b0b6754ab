-- `moved` meets its contract: a count of records that isn't 0 is one move.
use Rattle.std.proofs.Common.{Bool, true, false, not, cond, ◌≡◌, refl, ◌∙◌}
use lib.Dec.{eqb}
use mir.Val.{bool_byte}
use Rattle.book_extend.specs.Extends.{moved}
use Rattle.book_extend.proofs.extending.moved.Goals as goal

-- a test that doesn't hold, as a number
by_test : (none : Bool) → bool_byte (not none) ≡ cond none 0 1
by_test true = refl
by_test false = refl

pub returns : goal.returns
unfolding moved
returns c = c.from.ensures ∙ by_test (eqb c.args.rewritten 0)
