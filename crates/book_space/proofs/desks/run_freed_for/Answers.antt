-- `run_freed_for` meets its contract: the judgement decides.
use Rattle.std.proofs.Common.{◌+◌, ◌-◌, ◌*◌, ◌≤◌, ◌≡◌, refl, ◌∙◌, arith, length}
use Rattle.std.proofs.lemmas.Result.{err_from_is_err_and}
use Rattle.error.specs.Refusal.{Answer, accepted, answered}
use Rattle.error.proofs.LawsAnswer.{answered_yes}
use Rattle.scripthash_layout.specs.Sizes.{page_size}
use Rattle.book_desks.specs.Counts.{freed_count, held_count, counted}
use Rattle.book_desks.proofs.LawsCounts.{counts_low}
use Rattle.book_space.specs.Space.{Space, Taken, space, run_freed, take_found}
use Rattle.book_space.specs.Desks.{run_found}
use Rattle.book_space.specs.Steps.{mark_after}
use Rattle.book_space.proofs.LawsSteps.{number_some}
use Rattle.book_space.proofs.LawsFreed.{list_ends, run_below, run_few, unlinked_takes}
use Rattle.book_space.proofs.LawsDesks.{judged_low, judge_refused, take_judged, refused_for}
use Rattle.book_space.proofs.desks.run_freed_for.Goals as goal

pub overflow_sub-left : goal.overflow_sub-left
overflow_sub-left c =
    let a = c.args in
    let s : Space = space a.body.now a.mark a.free.now in
    run_few a.pages (freed_count a.counts.now) a.off s c.requires.some_pages c.requires.found

pub judge_take-requires : goal.judge_take-requires
judge_take-requires c =
    let a = c.args in
    let s : Space = space a.body.now a.mark a.free.now in
    let below : a.off + a.pages * page_size ≤ s.mark =
    run_below a.pages (freed_count a.counts.now) a.off s c.requires.some_pages c.requires.found in
    let pre = c.requires in
    record {
      known = pre.known;
      body = pre.shape.most;
      asked = omega (arith, below, pre.shape.within, pre.shape.most);
      left = omega arith;
      within = pre.shape.within;
    }

pub returns-in_err-judge_take : goal.returns-in_err-judge_take
unfolding run_found take_found
returns-in_err-judge_take c =
    let p = err_from_is_err_and c.from_residual.result c.from_residual.ensures.1 in
    let a = c.args in
    let s : Space = space a.body.now a.mark a.free.now in
    let counts = a.counts.now in
    let freed = freed_count counts in
    let later = counted (freed - a.pages) a.desk (held_count a.desk counts + a.pages) counts in
    let takes : Answer Taken = accepted (run_freed a.off a.pages freed s) in
    let stays : answered mark_after takes ≡ accepted s.mark = answered_yes mark_after takes refl in
    rw (p.1, p.2)
    (refused_for s counts
    (judge_refused (length s.body) a.desk a.pages (freed - a.pages) counts later takes stays c.in_err-judge_take.ensures (number_some _)))

pub overflow_add-held-2 : goal.overflow_add-held-2
overflow_add-held-2 c =
    let a = c.args in
    let s : Space = space a.body.now a.mark a.free.now in
    let below : a.off + a.pages * page_size ≤ s.mark =
    run_below a.pages (freed_count a.counts.now) a.off s c.requires.some_pages c.requires.found in
    let counts = a.counts.now in
    let freed = freed_count counts in
    let later = counted (freed - a.pages) a.desk (held_count a.desk counts + a.pages) counts in
    let takes : Answer Taken = accepted (run_freed a.off a.pages freed s) in
    let stays : answered mark_after takes ≡ accepted s.mark = answered_yes mark_after takes refl in
    let low = judged_low (length s.body) a.desk a.pages (freed - a.pages) counts later s.mark c.in_ok-judge_take.ensures refl in
    omega (
      arith,
      (counts_low (length s.body) counts low).held a.desk c.requires.known,
      below,
      c.requires.shape.within,
      c.requires.shape.most,
    )

pub overflow_mul-pages : goal.overflow_mul-pages
overflow_mul-pages c =
    let a = c.args in
    let s : Space = space a.body.now a.mark a.free.now in
    let below : a.off + a.pages * page_size ≤ s.mark =
    run_below a.pages (freed_count a.counts.now) a.off s c.requires.some_pages c.requires.found in
    omega (arith, below, c.requires.shape.within, c.requires.shape.most)

pub overflow_add-off : goal.overflow_add-off
overflow_add-off c =
    let a = c.args in
    let s : Space = space a.body.now a.mark a.free.now in
    let below : a.off + a.pages * page_size ≤ s.mark =
    run_below a.pages (freed_count a.counts.now) a.off s c.requires.some_pages c.requires.found in
    omega (arith, below, c.requires.shape.within, c.requires.shape.most)

pub unlink-top-requires : goal.unlink-top-requires
unlink-top-requires c =
    let a = c.args in
    let s : Space = space a.body.now a.mark a.free.now in (
      c.requires.shape.within,
      list_ends a.pages (freed_count a.counts.now) a.off s c.requires.some_pages c.requires.found,
    )

pub returns : goal.returns
unfolding run_found take_found
returns c =
    let a = c.args in
    let s : Space = space a.body.now a.mark a.free.now in
    let counts = a.counts.now in
    let freed = freed_count counts in
    let later = counted (freed - a.pages) a.desk (held_count a.desk counts + a.pages) counts in
    let takes : Answer Taken = accepted (run_freed a.off a.pages freed s) in
    let stays : answered mark_after takes ≡ accepted s.mark = answered_yes mark_after takes refl in
    let gone = unlinked_takes a.pages freed a.off s c.unlink-top.ensures.top c.unlink-top.ensures.links in
    let done = take_judged (length s.body) a.desk a.pages (freed - a.pages) counts later takes stays c.in_ok-judge_take.ensures refl gone in
    record { told = done.told; left = done.left; counts = c.put_counts.ensures ∙ done.counts }
