-- `put_load` meets its contract.
use mathlib.Core.Path.{ap}
use Rattle.book_calls.specs.Flat.{load_told}
use Rattle.book_calls.proofs.LawsPut.{re_said, load_put}
use Rattle.book_calls.proofs.answers.put_load.Goals as goal

pub returns-in-Ok : goal.returns-in-Ok
returns-in-Ok c = re_said (ap load_told c.in-Ok.is) (load_put _ _ _ c.put_three.ensures)
