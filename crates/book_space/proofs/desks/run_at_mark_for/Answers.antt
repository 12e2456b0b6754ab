-- `run_at_mark_for` meets its contract: the look ahead, and then the judgement decide.
use Rattle.std.proofs.Common.{◌+◌, ◌≡◌, refl, sym, ◌∙◌, arith, length}
use Rattle.std.proofs.lemmas.Result.{err_from_is_err_and}
use Rattle.book_desks.specs.Counts.{freed_count, held_count, counted}
use Rattle.book_desks.proofs.LawsCounts.{counts_low}
use Rattle.book_space.specs.Space.{Space, space, run_at_mark, take_found}
use Rattle.book_space.specs.Desks.{run_found}
use Rattle.book_space.proofs.LawsSteps.{number_some}
use Rattle.book_space.proofs.LawsPeek.{run_marked, run_within}
use Rattle.book_space.proofs.LawsDesks.{judged_low, peek_refused, judge_refused, take_judged, refused_for}
use Rattle.book_space.proofs.desks.run_at_mark_for.Goals as goal

pub returns-in_err-end : goal.returns-in_err-end
unfolding run_found take_found
returns-in_err-end c =
    let p = err_from_is_err_and c.from_residual.result c.from_residual.ensures.1 in
    let a = c.args in
    let s : Space = space a.body.now a.mark.now a.free.now in
    let counts = a.counts.now in
    let later = counted (freed_count counts) a.desk (held_count a.desk counts + a.pages) counts in
    rw (p.1, p.2)
    (refused_for s counts
    (peek_refused (length s.body) a.desk a.pages (freed_count counts) counts later (run_at_mark a.pages s)
    (run_marked a.pages s c.requires.shape ∙ sym c.in_err-end.ensures)))

pub judge_take-requires : goal.judge_take-requires
judge_take-requires c =
    let a = c.args in
    let s : Space = space a.body.now a.mark.now a.free.now in
    let pre = c.requires in
    record {
      known = pre.known;
      body = pre.shape.most;
      asked = omega (arith, pre.low);
      left = omega arith;
      within = run_within a.pages s pre.shape (run_marked a.pages s c.requires.shape ∙ sym c.in_ok-end.ensures);
    }

pub returns-in_err-judge_take : goal.returns-in_err-judge_take
unfolding run_found take_found
returns-in_err-judge_take c =
    let p = err_from_is_err_and c.from_residual-in_err-judge_take.result c.from_residual-in_err-judge_take.ensures.1 in
    let a = c.args in
    let s : Space = space a.body.now a.mark.now a.free.now in
    let counts = a.counts.now in
    let later = counted (freed_count counts) a.desk (held_count a.desk counts + a.pages) counts in
    rw (p.1, p.2)
    (refused_for s counts
    (judge_refused (length s.body) a.desk a.pages (freed_count counts) counts later (run_at_mark a.pages s)
    (run_marked a.pages s c.requires.shape ∙ sym c.in_ok-end.ensures) c.in_err-judge_take.ensures (number_some _)))

pub overflow_add-held-2 : goal.overflow_add-held-2
overflow_add-held-2 c =
    let a = c.args in
    let s : Space = space a.body.now a.mark.now a.free.now in
    let counts = a.counts.now in
    let later = counted (freed_count counts) a.desk (held_count a.desk counts + a.pages) counts in
    let low = judged_low (length s.body) a.desk a.pages (freed_count counts) counts later c.in_ok-end.end c.in_ok-judge_take.ensures refl in
    omega (arith, (counts_low (length s.body) counts low).held a.desk c.requires.known, c.requires.low, c.requires.shape.most)

pub returns : goal.returns
unfolding run_found take_found
returns c =
    let a = c.args in
    let s : Space = space a.body.now a.mark.now a.free.now in
    let counts = a.counts.now in
    let later = counted (freed_count counts) a.desk (held_count a.desk counts + a.pages) counts in
    let done =
    take_judged (length s.body) a.desk a.pages (freed_count counts) counts later (run_at_mark a.pages s)
    (run_marked a.pages s c.requires.shape ∙ sym c.in_ok-end.ensures) c.in_ok-judge_take.ensures refl c.run_at_mark.ensures in
    record { told = done.told; left = done.left; counts = c.put_counts.ensures ∙ done.counts }
