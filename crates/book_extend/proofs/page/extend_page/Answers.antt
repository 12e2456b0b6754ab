-- `extend_page` meets its contract: the page's end is told, and each turn is one law of `LawsInPlace`.
use Rattle.std.proofs.Common.{ℕ, ◌+◌, ◌≤◌, [], ◌≡◌, refl, sym, subst, arith, rules, length, get_or}
use Rattle.std.proofs.lemmas.Result.{err_from_is_err_and}
use borrow.Author.Tests.{eqb-true}
use Rattle.error.proofs.LawsAnswer.{was_refused}
use Rattle.scripthash_layout.specs.Sizes.{page_size}
use Rattle.scripthash_layout.specs.declared.head.ShHeadValue.TheVariants.{Extent}
use Rattle.book_space.specs.Space.{space}
use Rattle.book_keys.specs.Keys.{soundly, tail_at, body_ground}
use Rattle.book_keys.specs.Steps.{tail_end_of}
use Rattle.book_keys.proofs.LawsSound.{unsound_is}
use Rattle.book_keys.proofs.LawsPages.{page_inside}
use Rattle.book.specs.Answers.{book_of}
use Rattle.book_append.proofs.LawsAppend.{tail_told, tail_untold, tail_sound}
use Rattle.book_extend.specs.Steps.{InPlace}
use Rattle.book_extend.proofs.LawsPage.{PageEnds}
use Rattle.book_extend.proofs.LawsExtend.{standing_page, unsound_page}
use Rattle.book_extend.proofs.LawsInPlace.{put_none, put_page, put_reached}
use Rattle.book_extend.proofs.LawsPast.{page_not}
use Rattle.book_extend.proofs.page.extend_page.Goals as goal

pub returns-in_err-taken : goal.returns-in_err-taken
returns-in_err-taken c =
    let p = err_from_is_err_and c.from_residual.result c.from_residual.ensures.1 in
    let a = c.args in
    let is = tail_untold a.body.now a.mark [] a.last c.in_err-taken.ensures refl in
    let number =
    unsound_is (tail_at (body_ground a.body.now a.mark) a.last)
    (was_refused tail_end_of (soundly (tail_at (body_ground a.body.now a.mark) a.last)) (sym c.in_err-taken.ensures)) in
    rw (p.1, p.2) (
      number,
      record {
        unsound = λ free counts.
            unsound_page (book_of a.body.now a.heads.now a.mark free counts) a.key a.last c.requires.stands is.1;
        body_kept = refl;
        heads_kept = refl;
      },
    )

pub loop-i-init : goal.loop-i-init
loop-i-init c =
    let a = c.args in
    let t = tail_told a.body.now a.mark [] a.last c.in_ok-taken.ensures refl in
    let begins : PageEnds (body_ground a.body.now a.mark) a.last c.in_ok-taken.field-0.taken c.in_ok-taken.field-0.fk c.in_ok-taken.field-0.creates =
    record { tail = t.tail; sound = t.sound; taken_is = t.taken_is; fk_is = t.fk_is; creates_is = t.creates_is } in
    record {
      put = put_none a.body.now a.heads.now a.mark a.key a.fks.now a.from (Extent a.last) c.requires.left c.requires.stands;
      ends = begins;
    }

pub form_in_page-requires : goal.form_in_page-requires
form_in_page-requires c =
    let l = c.loop-i in
    let e = l.invariant.ends in
    let sound = tail_sound (space l.body c.args.mark []) c.args.last e.tail e.sound in
    omega (arith, sound.taken_fits, e.taken_is)

pub returns-in_default : goal.returns-in_default
returns-in_default c =
    let a = c.args in
    let l = c.loop-i in
    let t = tail_told a.body.now a.mark [] a.last c.in_ok-taken.ensures refl in
    let begins : PageEnds (body_ground a.body.now a.mark) a.last c.in_ok-taken.field-0.taken c.in_ok-taken.field-0.fk c.in_ok-taken.field-0.creates =
    record { tail = t.tail; sound = t.sound; taken_is = t.taken_is; fk_is = t.fk_is; creates_is = t.creates_is } in
    put_reached (Extent a.last)
    (λ free counts. standing_page (book_of a.body.now a.heads.now a.mark free counts) a.key a.last c.requires.stands begins) l.invariant.put
    (λ more free shape.
    page_not (body_ground l.body a.mark) (get_or a.fks.now l.i 0) (get_or l.heads a.key 0) a.last l.invariant.put.stands l.invariant.ends
    c.in_default.ensures)

pub overflow_sub-n : goal.overflow_sub-n
overflow_sub-n c = omega (arith, c.in-Some.ensures.above)

pub grow_page-requires : goal.grow_page-requires
grow_page-requires c =
    let a = c.args in
    let l = c.loop-i in
    let e = l.invariant.ends in
    let takes = c.in-Some.ensures in
    let known = tail_sound (space l.body a.mark []) a.last e.tail e.sound in
    record {
      inside = page_inside (body_ground l.body a.mark) a.last known.stands l.body (omega (arith, c.requires.within, l.invariant.put.body_long));
      grows = record {
        version_is = eqb-true _ 2 known.names;
        few = omega (arith, known.few);
        fits = omega (arith, takes.form, takes.room);
      };
    }

pub put_head-requires : goal.put_head-requires
put_head-requires c = omega (arith, c.requires.keyed, c.loop-i.invariant.put.heads_long)

pub overflow_add-at : goal.overflow_add-at
overflow_add-at c = omega (arith, c.in-Some.ensures.room)

pub loop-i-preserved : goal.loop-i-preserved
loop-i-preserved c =
    let a = c.args in
    let l = c.loop-i in
    let long : length c.grow_page.new.body ≡ length l.body = search rules in
    let (p, w) = put_page a.last c.requires.keyed c.requires.within l.invariant.put l.invariant.ends c.loop-i-test.true c.in-Some.ensures
    c.grow_page.new.body c.put_head.new.heads c.grow_page.ensures long c.put_head.ensures in
    record {
      put = p;
      ends = subst (λ (t : ℕ). PageEnds (body_ground c.grow_page.new.body a.mark) a.last (l.at + c.in-Some.len) (get_or a.fks.now l.i 0) t)
          (sym c.total_with-total.ensures) w;
    }

pub returns : goal.returns
returns c =
    let a = c.args in
    let l = c.loop-i in
    let t = tail_told a.body.now a.mark [] a.last c.in_ok-taken.ensures refl in
    let begins : PageEnds (body_ground a.body.now a.mark) a.last c.in_ok-taken.field-0.taken c.in_ok-taken.field-0.fk c.in_ok-taken.field-0.creates =
    record { tail = t.tail; sound = t.sound; taken_is = t.taken_is; fk_is = t.fk_is; creates_is = t.creates_is } in
    let all : l.i ≡ length a.fks.now = omega (arith, l.invariant.put.within, c.loop-i-test.false) in
    subst (λ (j : ℕ). InPlace a.body.now a.heads.now a.mark a.key a.fks.now a.from l.body l.heads j) all
    (put_reached (Extent a.last)
    (λ free counts. standing_page (book_of a.body.now a.heads.now a.mark free counts) a.key a.last c.requires.stands begins) l.invariant.put
    (λ more. absurd (omega (arith, more, c.loop-i-test.false))))
