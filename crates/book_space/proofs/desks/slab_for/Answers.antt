-- `slab_for` meets its contract: the look ahead, and then the judgement decide.
use Rattle.std.proofs.Common.{◌≡◌, refl, sym, ap, ◌∙◌, arith, length}
use Rattle.std.proofs.lemmas.Result.{err_from_is_err_and}
use Rattle.book_desks.specs.Counts.{freed_count}
use Rattle.book_space.specs.Space.{Space, space, take_block}
use Rattle.book_space.specs.Desks.{slab_for}
use Rattle.book_space.proofs.LawsSteps.{number_some}
use Rattle.book_space.proofs.LawsPeek.{block_within}
use Rattle.book_space.proofs.LawsDesks.{peek_refused, judge_refused, take_judged, refused_for}
use Rattle.book_space.proofs.desks.slab_for.Goals as goal

pub returns-in_err-end : goal.returns-in_err-end
unfolding slab_for
returns-in_err-end c =
    let p = err_from_is_err_and c.from_residual.result c.from_residual.ensures.1 in
    let a = c.args in
    let s : Space = space a.body.now a.mark.now a.free.now in
    let counts = a.counts.now in
    rw (p.1, p.2)
    (refused_for s counts
    (peek_refused (length s.body) a.desk 0 (freed_count counts) counts counts (take_block a.class s) (sym c.in_err-end.ensures)))

pub judge_take-requires : goal.judge_take-requires
judge_take-requires c =
    let a = c.args in
    let s : Space = space a.body.now a.mark.now a.free.now in
    let pre = c.requires in
    record {
      known = pre.known;
      body = pre.shape.most;
      asked = omega arith;
      left = omega arith;
      within = block_within a.class s (omega (arith, pre.low)) pre.shape (sym c.in_ok-end.ensures);
    }

pub returns-in_err-judge_take : goal.returns-in_err-judge_take
unfolding slab_for
returns-in_err-judge_take c =
    let p = err_from_is_err_and c.from_residual-in_err-judge_take.result c.from_residual-in_err-judge_take.ensures.1 in
    let a = c.args in
    let s : Space = space a.body.now a.mark.now a.free.now in
    let counts = a.counts.now in
    rw (p.1, p.2)
    (refused_for s counts
    (judge_refused (length s.body) a.desk 0 (freed_count counts) counts counts (take_block a.class s)
    (sym c.in_ok-end.ensures) c.in_err-judge_take.ensures (number_some _)))

pub returns : goal.returns
unfolding slab_for
returns c =
    let a = c.args in
    let s : Space = space a.body.now a.mark.now a.free.now in
    let counts = a.counts.now in
    take_judged (length s.body) a.desk 0 (freed_count counts) counts counts (take_block a.class s)
    (sym c.in_ok-end.ensures) c.in_ok-judge_take.ensures refl c.take_block.ensures
