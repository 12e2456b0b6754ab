-- `put_appended` meets its contract: three words, and behind them those of the place.
use Rattle.std.proofs.Common.{List, ℕ, ◌-◌, ap, length}
use borrow.Rule.Slice.PartMut.{put_mid}
use Rattle.book_calls.proofs.LawsPut.{re_written, append_put}
use Rattle.book_calls.proofs.answers.put_appended.Goals as goal

pub returns : goal.returns
returns c =
    let args = c.args in
    let mid = c.put_three.new.out in
    re_written (ap (λ (l : List ℕ). put_mid 3 (length mid - 3) mid l) c.put_place.ensures)
    (append_put args.out.now mid args.to.rewritten args.to.place c.requires c.put_three.ensures)
