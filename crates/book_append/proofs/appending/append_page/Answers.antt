-- `append_page` meets its contract: what is told of the last page decides, then its room.
use Rattle.std.proofs.Common.{◌+◌, ◌-◌, ◌≤◌, refl, ap, arith, eqb-true, sym}
use Rattle.std.proofs.lemmas.Result.{err_from_is_err_and}
use Rattle.error.proofs.LawsAnswer.{was_refused}
use Rattle.book_keys.specs.Keys.{soundly, tail_at, body_ground}
use Rattle.book_keys.specs.Steps.{tail_end_of}
use Rattle.book_keys.proofs.LawsSound.{unsound_is}
use Rattle.compact.proofs.LawsLength.{len_at_most}
use Rattle.scripthash_layout.specs.Sizes.{page_size}
use Rattle.book_space.specs.Space.{space}
use Rattle.book_keys.proofs.LawsPages.{page_inside}
use Rattle.book.specs.Book.{Book, seen}
use Rattle.book.specs.Answers.{book_of}
use Rattle.book_append.proofs.LawsAppend.{TailTold, tail_told, tail_untold, SoundTail, tail_sound, does_as, does_none, page_unsound, page_low, page_stays, page_full}
use Rattle.book_append.proofs.appending.append_page.Goals as goal

pub returns-in_err-taken : goal.returns-in_err-taken
returns-in_err-taken c =
    let p = err_from_is_err_and c.from_residual.result c.from_residual.ensures.1 in
    let a = c.args in
    let b : Book = book_of a.body.now a.heads.now a.mark.now a.free.now a.counts.now in
    let is = tail_untold a.body.now a.mark.now a.free.now a.last c.in_err-taken.ensures refl in
    let number =
    unsound_is (tail_at (body_ground a.body.now a.mark.now) a.last)
    (was_refused tail_end_of (soundly (tail_at (body_ground a.body.now a.mark.now) a.last)) (sym c.in_err-taken.ensures)) in
    rw (p.1, p.2, number) (does_none b (page_unsound a.desk b a.key a.n a.last is.1))

pub returns-then-n-fk : goal.returns-then-n-fk
returns-then-n-fk c =
    let b : Book = book_of c.args.body.now c.args.heads.now c.args.mark.now c.args.free.now c.args.counts.now in
    let told : TailTold b.space c.args.last c.in_ok-taken.field-0.taken c.in_ok-taken.field-0.fk c.in_ok-taken.field-0.first c.in_ok-taken.field-0.creates =
    let a = c.args in
    tail_told a.body.now a.mark.now a.free.now a.last c.in_ok-taken.ensures refl in
    let a = c.args in
    does_none b (page_low a.desk b a.key a.n a.last told c.if-n-fk.true)

pub overflow_add-taken : goal.overflow_add-taken
overflow_add-taken c =
    let b : Book = book_of c.args.body.now c.args.heads.now c.args.mark.now c.args.free.now c.args.counts.now in
    let told : TailTold b.space c.args.last c.in_ok-taken.field-0.taken c.in_ok-taken.field-0.fk c.in_ok-taken.field-0.first c.in_ok-taken.field-0.creates =
    let a = c.args in
    tail_told a.body.now a.mark.now a.free.now a.last c.in_ok-taken.ensures refl in
    let sound : SoundTail b.space c.args.last told.tail = tail_sound b.space c.args.last told.tail told.sound in
    let within : 24 + c.in_ok-taken.field-0.taken ≤ page_size = omega (arith, sound.taken_fits, told.taken_is) in
    omega (arith, within)

pub overflow_add-taken-2 : goal.overflow_add-taken-2
overflow_add-taken-2 c =
    let b : Book = book_of c.args.body.now c.args.heads.now c.args.mark.now c.args.free.now c.args.counts.now in
    let told : TailTold b.space c.args.last c.in_ok-taken.field-0.taken c.in_ok-taken.field-0.fk c.in_ok-taken.field-0.first c.in_ok-taken.field-0.creates =
    let a = c.args in
    tail_told a.body.now a.mark.now a.free.now a.last c.in_ok-taken.ensures refl in
    let sound : SoundTail b.space c.args.last told.tail = tail_sound b.space c.args.last told.tail told.sound in
    let within : 24 + c.in_ok-taken.field-0.taken ≤ page_size = omega (arith, sound.taken_fits, told.taken_is) in
    omega (arith, within, c.uleb128_len.ensures, len_at_most (c.args.n - c.in_ok-taken.field-0.fk) (omega (arith, c.requires.low)))

pub grow_chain-requires : goal.grow_chain-requires
grow_chain-requires c =
    let b : Book = book_of c.args.body.now c.args.heads.now c.args.mark.now c.args.free.now c.args.counts.now in
    let told : TailTold b.space c.args.last c.in_ok-taken.field-0.taken c.in_ok-taken.field-0.fk c.in_ok-taken.field-0.first c.in_ok-taken.field-0.creates =
    let a = c.args in
    tail_told a.body.now a.mark.now a.free.now a.last c.in_ok-taken.ensures refl in
    let a = c.args in
    page_full a.desk b a.key a.n a.last told (omega (arith, c.if-n-fk.false)) c.requires
    (omega (arith, c.uleb128_len.ensures, c.if-taken-uleb128_len-gt-SH_PAGE_SIZE.true))

pub grow_page-requires : goal.grow_page-requires
grow_page-requires c =
    let b : Book = book_of c.args.body.now c.args.heads.now c.args.mark.now c.args.free.now c.args.counts.now in
    let told : TailTold b.space c.args.last c.in_ok-taken.field-0.taken c.in_ok-taken.field-0.fk c.in_ok-taken.field-0.first c.in_ok-taken.field-0.creates =
    let a = c.args in
    tail_told a.body.now a.mark.now a.free.now a.last c.in_ok-taken.ensures refl in
    let sound : SoundTail b.space c.args.last told.tail = tail_sound b.space c.args.last told.tail told.sound in
    let known = sound in
    let a = c.args in
    record {
      inside = page_inside (seen b.space) a.last known.stands a.body.now c.requires.shape.within;
      grows = record {
        version_is = eqb-true _ 2 known.names;
        few = omega (arith, known.few);
        fits = omega (arith, c.uleb128_len.ensures, c.if-taken-uleb128_len-gt-SH_PAGE_SIZE.false);
      };
    }

pub returns : goal.returns
returns c =
    let b : Book = book_of c.args.body.now c.args.heads.now c.args.mark.now c.args.free.now c.args.counts.now in
    let told : TailTold b.space c.args.last c.in_ok-taken.field-0.taken c.in_ok-taken.field-0.fk c.in_ok-taken.field-0.first c.in_ok-taken.field-0.creates =
    let a = c.args in
    tail_told a.body.now a.mark.now a.free.now a.last c.in_ok-taken.ensures refl in
    let a = c.args in
    does_as
    (page_stays a.desk b a.key a.n a.last told (omega (arith, c.if-n-fk.false))
    (omega (arith, c.uleb128_len.ensures, c.if-taken-uleb128_len-gt-SH_PAGE_SIZE.false))
    c.grow_page.new.body c.grow_page.ensures)
    (c.accept_append.ensures b (space c.grow_page.new.body a.mark.now a.free.now)
    a.counts.now refl)
