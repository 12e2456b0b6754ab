-- `run_for` meets its contract: what the search of the freed pages told decides.
use Rattle.std.proofs.Common.{◌≡◌, sym}
use Rattle.std.proofs.lemmas.Result.{err_from_is_err_and}
use Rattle.book_space.specs.Space.{Space, space}
use Rattle.book_space.proofs.LawsDesks.{run_searched, run_unsearched, takes_for_same, refused_for}
use Rattle.book_space.proofs.desks.run_for.Goals as goal

pub returns-in_err-off : goal.returns-in_err-off
returns-in_err-off c =
    let p = err_from_is_err_and c.from_residual.result c.from_residual.ensures.1 in
    let a = c.args in
    let s : Space = space a.body.now a.mark.now a.free.now in
    rw (p.1, p.2)
    (refused_for s a.counts.now (run_unsearched a.desk s a.counts.now a.pages (sym c.in_err-off.ensures)))

pub run_freed_for-requires : goal.run_freed_for-requires
run_freed_for-requires c =
    let pre = c.requires in
    record {
      shape = pre.shape;
      known = pre.known;
      some_pages = pre.some_pages;
      found = sym (rw c.in-Some.is at c.in_ok-off.ensures);
    }

pub returns-in-Some : goal.returns-in-Some
returns-in-Some c =
    let a = c.args in
    let s : Space = space a.body.now a.mark.now a.free.now in
    takes_for_same (run_searched a.desk s a.counts.now a.pages (sym (rw c.in-Some.is at c.in_ok-off.ensures))) c.run_freed_for.ensures

pub returns-in-None : goal.returns-in-None
returns-in-None c =
    let a = c.args in
    let s : Space = space a.body.now a.mark.now a.free.now in
    takes_for_same (run_searched a.desk s a.counts.now a.pages (sym (rw c.in-None.is at c.in_ok-off.ensures))) c.run_at_mark_for.ensures
