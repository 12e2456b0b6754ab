-- `load_parts` meets its contract: what taking the run tells decides.
use Rattle.std.proofs.Common.{◌≡◌, refl, sym, ap, arith, length}
use Rattle.std.proofs.lemmas.Result.{err_from_is_err_and}
use Rattle.std.proofs.Math.Option.{none}
use Rattle.error.specs.Refusal.{Answer, accepted}
use Rattle.book_blocks.specs.Steps.{Run}
use Rattle.book_space.specs.Space.{Space, space}
use Rattle.book_space.specs.Desks.{TakenFor, run_for}
use Rattle.book.specs.Book.{Book}
use Rattle.book_load.specs.Loads.{load_into}
use Rattle.book.specs.Answers.{book_of}
use Rattle.book.proofs.LawsKey.{does_same}
use Rattle.book.proofs.LawsPlace.{took_at, took_none}
use Rattle.book_load.proofs.LawsLoad.{ends_still, parts_few, count_some, run_loaded, run_not_loaded, run_lies}
use Rattle.book_load.proofs.loading.load_parts.Goals as goal

pub run_for-requires : goal.run_for-requires
run_for-requires c =
    let pre = c.requires in
    record {
      shape = pre.to_load.shape;
      known = pre.to_load.known;
      low = omega (arith, pre.cut.parts, parts_few c.args.fks.now pre.cut.judged);
      some_pages = count_some c.args.fks.now c.args.ranges.now c.args.count pre.cut;
    }

pub returns-in_err-off : goal.returns-in_err-off
returns-in_err-off c =
    let p = err_from_is_err_and c.from_residual.result c.from_residual.ensures.1 in
    let b : Book = book_of c.args.body.now c.args.heads.now c.args.mark.now c.args.free.now c.args.counts.now in
    let takes : Answer TakenFor = run_for c.args.desk c.args.count b.space b.counts in
    let after : Space = space c.run_for.new.body c.run_for.new.mark c.run_for.new.free in
    let (is, same, kept) = took_none b.space b.counts after c.run_for.new.counts takes c.in_err-off.ensures refl in
    rw (p.1, p.2)
    (ends_still b (load_into c.args.desk b c.args.key c.args.fks.now none)
    (run_not_loaded c.args.desk b c.args.key c.args.fks.now c.args.count c.requires.cut.parts is, same, kept))

pub put_run-requires : goal.put_run-requires
put_run-requires c =
    let book : Book = book_of c.args.body.now c.args.heads.now c.args.mark.now c.args.free.now c.args.counts.now in
    let takes : Answer TakenFor = run_for c.args.desk c.args.count book.space book.counts in
    let after : Space = space c.run_for.new.body c.run_for.new.mark c.run_for.new.free in
    let taken : TakenFor = record { off = c.in_ok-off.off; space = after; counts = c.run_for.new.counts } in
    let took : takes ≡ accepted taken =
    let b = book in
    took_at b.space b.counts after c.run_for.new.counts takes c.in_ok-off.ensures refl in
    let lies : Run (length taken.space.body) taken.off c.args.fks.now c.args.ranges.now c.args.count =
    let b = book in
    let pre = c.requires in
    run_lies c.args.desk b.space b.counts taken c.args.fks.now c.args.ranges.now c.args.count pre.to_load.shape pre.cut took in
    lies

pub overflow_sub-last_page : goal.overflow_sub-last_page
overflow_sub-last_page c =
    count_some c.args.fks.now c.args.ranges.now c.args.count c.requires.cut

pub overflow_mul-last_page : goal.overflow_mul-last_page
overflow_mul-last_page c =
    let book : Book = book_of c.args.body.now c.args.heads.now c.args.mark.now c.args.free.now c.args.counts.now in
    let takes : Answer TakenFor = run_for c.args.desk c.args.count book.space book.counts in
    let after : Space = space c.run_for.new.body c.run_for.new.mark c.run_for.new.free in
    let taken : TakenFor = record { off = c.in_ok-off.off; space = after; counts = c.run_for.new.counts } in
    let took : takes ≡ accepted taken =
    let b = book in
    took_at b.space b.counts after c.run_for.new.counts takes c.in_ok-off.ensures refl in
    let lies : Run (length taken.space.body) taken.off c.args.fks.now c.args.ranges.now c.args.count =
    let b = book in
    let pre = c.requires in
    run_lies c.args.desk b.space b.counts taken c.args.fks.now c.args.ranges.now c.args.count pre.to_load.shape pre.cut took in
    let run = lies in omega (arith, run.inside, run.small)

pub overflow_add-last_page : goal.overflow_add-last_page
overflow_add-last_page c =
    let book : Book = book_of c.args.body.now c.args.heads.now c.args.mark.now c.args.free.now c.args.counts.now in
    let takes : Answer TakenFor = run_for c.args.desk c.args.count book.space book.counts in
    let after : Space = space c.run_for.new.body c.run_for.new.mark c.run_for.new.free in
    let taken : TakenFor = record { off = c.in_ok-off.off; space = after; counts = c.run_for.new.counts } in
    let took : takes ≡ accepted taken =
    let b = book in
    took_at b.space b.counts after c.run_for.new.counts takes c.in_ok-off.ensures refl in
    let lies : Run (length taken.space.body) taken.off c.args.fks.now c.args.ranges.now c.args.count =
    let b = book in
    let pre = c.requires in
    run_lies c.args.desk b.space b.counts taken c.args.fks.now c.args.ranges.now c.args.count pre.to_load.shape pre.cut took in
    let run = lies in omega (arith, run.inside, run.small)

pub returns : goal.returns
returns c =
    let book : Book = book_of c.args.body.now c.args.heads.now c.args.mark.now c.args.free.now c.args.counts.now in
    let takes : Answer TakenFor = run_for c.args.desk c.args.count book.space book.counts in
    let after : Space = space c.run_for.new.body c.run_for.new.mark c.run_for.new.free in
    let taken : TakenFor = record { off = c.in_ok-off.off; space = after; counts = c.run_for.new.counts } in
    let took : takes ≡ accepted taken =
    let b = book in
    took_at b.space b.counts after c.run_for.new.counts takes c.in_ok-off.ensures refl in
    does_same
    (sym (run_loaded c.args.desk book c.args.key c.args.fks.now c.args.count c.requires.cut.parts taken took
    c.put_run.new.body c.put_run.ensures))
    (c.accept_load.ensures book (space c.put_run.new.body after.mark after.free) c.run_for.new.counts refl)
