use Rattle.std.proofs.Common.{◌∙◌, arith}
use Rattle.free_runs.proofs.LawsSparse.{one_inside}
use Rattle.free_runs.proofs.sparse.keep.Goals as goal

pub returns-then-page-room : goal.returns-then-page-room
returns-then-page-room c =
    let m = c.make_room-room.ensures in
    let long = m.keeps.long ∙ c.told-kept in
    let few = m.free in
    one_inside _ _ _ _ _ _ _ _ (omega arith) few m.keeps
