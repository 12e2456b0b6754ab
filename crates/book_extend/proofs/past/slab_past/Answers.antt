-- `slab_past` meets its contract: what is told of the slab decides, and there is no room.
use Rattle.std.proofs.Common.{ap, arith, refl, sym}
use Rattle.std.proofs.lemmas.Result.{err_from_is_err_and}
use Rattle.error.proofs.LawsAnswer.{was_refused}
use Rattle.scripthash_stream.specs.Stream.{end_from}
use Rattle.book_keys.specs.Keys.{soundly, slab_scan, body_ground}
use Rattle.book_keys.proofs.LawsSound.{unsound_is}
use Rattle.book.specs.Book.{Book}
use Rattle.book.specs.Answers.{book_of}
use Rattle.book_append.proofs.LawsAppend.{SlabTold, slab_told, slab_untold, does_none, slab_unsound, slab_low, slab_leaves}
use Rattle.book_extend.proofs.past.slab_past.Goals as goal

pub returns-in_err-last : goal.returns-in_err-last
returns-in_err-last c =
    let p = err_from_is_err_and c.from_residual.result c.from_residual.ensures.1 in
    let a = c.args in
    let b : Book = book_of a.body.now a.heads.now a.mark.now a.free.now a.counts.now in
    let is = slab_untold a.body.now a.mark.now a.free.now a.class a.used a.off c.in_err-last.ensures refl in
    let number =
    unsound_is (slab_scan (body_ground a.body.now a.mark.now) a.class a.used a.off)
    (was_refused (end_from 0) (soundly (slab_scan (body_ground a.body.now a.mark.now) a.class a.used a.off)) (sym c.in_err-last.ensures)) in
    rw (p.1, p.2, number) (does_none b (slab_unsound a.desk b a.key a.n a.class a.used a.off is.1))

pub returns-then-n-last : goal.returns-then-n-last
returns-then-n-last c =
    let b : Book = book_of c.args.body.now c.args.heads.now c.args.mark.now c.args.free.now c.args.counts.now in
    let told : SlabTold b.space c.args.class c.args.used c.args.off c.in_ok-last.field-0.taken c.in_ok-last.field-0.last =
    let a = c.args in
    slab_told a.body.now a.mark.now a.free.now a.class a.used a.off c.in_ok-last.ensures refl in
    let a = c.args in
    does_none b (slab_low a.desk b a.key a.n a.class a.used a.off told c.if-n-last.true)

pub move_slab-requires : goal.move_slab-requires
move_slab-requires c =
    let b : Book = book_of c.args.body.now c.args.heads.now c.args.mark.now c.args.free.now c.args.counts.now in
    let told : SlabTold b.space c.args.class c.args.used c.args.off c.in_ok-last.field-0.taken c.in_ok-last.field-0.last =
    let a = c.args in
    slab_told a.body.now a.mark.now a.free.now a.class a.used a.off c.in_ok-last.ensures refl in
    let a = c.args in
    let t = told in
    let leaves = c.requires.not_taken t.scan t.sound (omega (arith, t.last_is, c.if-n-last.false)) c.requires.to_append.low in
    slab_leaves a.desk b a.key a.n a.class a.used a.off t (omega (arith, c.if-n-last.false)) c.requires.to_append
    (rw (t.taken_is, t.last_is) at leaves)
