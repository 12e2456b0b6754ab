-- `load_slab` meets its contract: what placing the list tells decides.
use Rattle.std.proofs.Common.{refl, sym, ap}
use Rattle.std.proofs.lemmas.Result.{err_from_is_err_and}
use Rattle.std.proofs.Math.Option.{some}
use Rattle.error.specs.Refusal.{Answer}
use Rattle.book_space.specs.Space.{Space, space}
use Rattle.book.specs.Book.{Book}
use Rattle.book.specs.Answers.{book_of}
use Rattle.book.specs.Steps.{Placed, places_into}
use Rattle.book_load.specs.Loads.{load_into}
use Rattle.book.proofs.LawsKey.{does_same}
use Rattle.book.proofs.LawsPlace.{placed_at, placed_none}
use Rattle.book_load.proofs.LawsLoad.{ends_still, slab_loaded, slab_not_loaded}
use Rattle.book_load.proofs.loading.load_slab.Goals as goal

pub returns-in_err-place : goal.returns-in_err-place
returns-in_err-place c =
    let p = err_from_is_err_and c.from_residual.result c.from_residual.ensures.1 in
    let b : Book = book_of c.args.body.now c.args.heads.now c.args.mark.now c.args.free.now c.args.counts.now in
    let after : Space = space c.place_in_slab.new.body c.place_in_slab.new.mark c.place_in_slab.new.free in
    let places : Answer Placed = places_into c.args.desk b.space b.counts c.args.fks.now (some c.args.class) in
    let (is, same, kept) = placed_none b.space b.counts after b.counts places c.in_err-place.ensures refl in
    rw (p.1, p.2)
    (ends_still b (load_into c.args.desk b c.args.key c.args.fks.now (some c.args.class))
    (slab_not_loaded c.args.desk b c.args.key c.args.fks.now c.args.class is, same, kept))

pub returns : goal.returns
returns c =
    let b : Book = book_of c.args.body.now c.args.heads.now c.args.mark.now c.args.free.now c.args.counts.now in
    let after : Space = space c.place_in_slab.new.body c.place_in_slab.new.mark c.place_in_slab.new.free in
    let places : Answer Placed = places_into c.args.desk b.space b.counts c.args.fks.now (some c.args.class) in
    let placed = placed_at b.space b.counts after b.counts places c.in_ok-place.ensures refl in
    does_same (sym (slab_loaded c.args.desk b c.args.key c.args.fks.now c.args.class placed))
    (c.accept_load.ensures b after b.counts refl)
