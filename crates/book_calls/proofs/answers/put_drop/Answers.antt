-- `put_drop` meets its contract.
use mathlib.Core.Path.{ap}
use Rattle.book_calls.specs.Flat.{drop_told}
use Rattle.book_calls.proofs.LawsPut.{re_said, drop_put}
use Rattle.book_calls.proofs.answers.put_drop.Goals as goal

pub returns-in-Ok : goal.returns-in-Ok
returns-in-Ok c = re_said (ap drop_told c.in-Ok.is) (drop_put _ _ _ c.put_three.ensures)
