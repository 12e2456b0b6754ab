-- `run_append` meets its contract: the append's own, and the words of its answer.
use Rattle.book_calls.proofs.LawsRun.{append_done}
use Rattle.book_calls.proofs.running.run_append.Goals as goal

pub returns : goal.returns
returns c =
    let did = c.append-answer in
    let desk = c.desk_of-desk.ensures in
    append_done did.result desk did.ensures.answer did.ensures.book c.put_append.ensures
