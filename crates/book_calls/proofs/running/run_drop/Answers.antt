-- `run_drop` meets its contract: the drop's own, and the words of its answer.
use Rattle.book_calls.proofs.LawsRun.{drop_done}
use Rattle.book_calls.proofs.running.run_drop.Goals as goal

pub returns : goal.returns
returns c =
    let did = c.drop-answer in
    let desk = c.desk_of-desk.ensures in
    drop_done did.result desk did.ensures.answer did.ensures.book c.put_drop.ensures
