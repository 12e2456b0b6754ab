-- `run_load` meets its contract: the load's own, and the words of its answer.
use Rattle.book_calls.proofs.LawsRun.{load_done}
use Rattle.book_calls.proofs.running.run_load.Goals as goal

pub returns : goal.returns
returns c =
    let did = c.load-answer in
    let desk = c.desk_of-desk.ensures in
    load_done did.result desk did.ensures.answer did.ensures.book c.put_load.ensures
