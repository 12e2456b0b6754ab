-- `extend` meets its contract: the shape, the desk and the key are judged, then the numbers go where they are taken.
use Rattle.std.proofs.Common.{ℕ, ◌≤◌, false, List, ◌≡◌, refl, sym, ap, subst, ◌∙◌, arith, rules, length}
use Rattle.std.proofs.lemmas.Result.{err_from_is_err_and}
use Rattle.error.specs.Refusal.{accepted, refused, shape_bad, key_beyond, desks_bad, key_unsound}
use Rattle.book_space.specs.Space.{shape_broken}
use Rattle.book_space.proofs.LawsShape.{shape_holds}
use Rattle.book.specs.Book.{Book, Outcome}
use Rattle.book.specs.Answers.{book_of}
use Rattle.book.proofs.LawsKey.{does_yes, does_no}
use Rattle.book_append.specs.Steps.{KeyKnown}
use Rattle.book_extend.specs.Extends.{Extended, extended, extend_from, extends}
use Rattle.book_extend.specs.Answers.{extended_by}
use Rattle.book_extend.specs.Steps.{Extending, InPlace}
use Rattle.book_extend.proofs.LawsExtend.{extends_shape, extends_none, extends_beyond, extends_unsound, extends_on, extend_begins}
use Rattle.book_extend.proofs.extending.extend.Goals as goal

pub returns-then-shape_broken : goal.returns-then-shape_broken
returns-then-shape_broken c =
    let b : Book = book_of c.args.body.now c.args.heads.now c.args.mark.now c.args.free.now c.args.counts.now in
    let a = c.args in
    let d = does_no b b (refused shape_bad) (extends a.desk b a.key c.args.fks.now)
    (extends_shape a.desk b a.key c.args.fks.now (sym (c.shape_broken.ensures a.free.now) ∙ c.if-shape_broken.true)) refl refl in
    record {
      answer = d.told;
      book = d.left;
    }

pub returns-then-desk : goal.returns-then-desk
returns-then-desk c =
    let b : Book = book_of c.args.body.now c.args.heads.now c.args.mark.now c.args.free.now c.args.counts.now in
    let shape : shape_broken b.space (length b.heads) ≡ false = sym (c.shape_broken.ensures c.args.free.now) ∙ c.if-shape_broken.false in
    let a = c.args in
    let d = does_no b b (refused desks_bad) (extends a.desk b a.key c.args.fks.now)
    (extends_none a.desk b a.key c.args.fks.now shape c.if-desk.true) refl refl in
    record {
      answer = d.told;
      book = d.left;
    }

pub returns-then-heads-key : goal.returns-then-heads-key
returns-then-heads-key c =
    let b : Book = book_of c.args.body.now c.args.heads.now c.args.mark.now c.args.free.now c.args.counts.now in
    let shape : shape_broken b.space (length b.heads) ≡ false = sym (c.shape_broken.ensures c.args.free.now) ∙ c.if-shape_broken.false in
    let a = c.args in
    let d = does_no b b (refused key_beyond) (extends a.desk b a.key c.args.fks.now)
    (extends_beyond a.desk b a.key c.args.fks.now shape c.if-desk.false c.if-heads-key.true) refl refl in
    record {
      answer = d.told;
      book = d.left;
    }

pub extend_in_place-requires : goal.extend_in_place-requires
extend_in_place-requires c =
    let b : Book = book_of c.args.body.now c.args.heads.now c.args.mark.now c.args.free.now c.args.counts.now in
    let shape : shape_broken b.space (length b.heads) ≡ false = sym (c.shape_broken.ensures c.args.free.now) ∙ c.if-shape_broken.false in
    let known : KeyKnown c.args.desk b c.args.key = record { shape = shape; known = c.if-desk.false; keyed = c.if-heads-key.false } in
    let marked : c.args.mark.now ≤ length c.args.body.now = (shape_holds b.space (length b.heads) shape).0.within in
    (marked, known.keyed, omega arith)

pub returns-in_err-from : goal.returns-in_err-from
returns-in_err-from c =
    let p = err_from_is_err_and c.from_residual.result c.from_residual.ensures.1 in
    let a = c.args in
    let b : Book = book_of a.body.now a.heads.now a.mark.now a.free.now a.counts.now in
    let shape : shape_broken b.space (length b.heads) ≡ false = sym (c.shape_broken.ensures a.free.now) ∙ c.if-shape_broken.false in
    let known : KeyKnown a.desk b a.key = record { shape = shape; known = c.if-desk.false; keyed = c.if-heads-key.false } in
    let then : Book = book_of c.extend_in_place.new.body c.extend_in_place.new.heads a.mark.now a.free.now a.counts.now in
    let (number, kept) = c.in_err-from.ensures in
    let same : then ≡ b = ap (λ (l : List ℕ). book_of l c.extend_in_place.new.heads a.mark.now a.free.now a.counts.now) kept.body_kept
    ∙ ap (λ (l : List ℕ). book_of a.body.now l a.mark.now a.free.now a.counts.now) kept.heads_kept in
    let d = does_no b then (refused key_unsound) (extends a.desk b a.key a.fks.now)
    (extends_unsound a.desk b a.key a.fks.now known (kept.unsound a.free.now a.counts.now)) refl same in
    record {
      answer = rw (p.1, p.2, number) d.told;
      book = d.left;
    }

pub append_from-requires : goal.append_from-requires
append_from-requires c =
    let b : Book = book_of c.args.body.now c.args.heads.now c.args.mark.now c.args.free.now c.args.counts.now in
    let shape : shape_broken b.space (length b.heads) ≡ false = sym (c.shape_broken.ensures c.args.free.now) ∙ c.if-shape_broken.false in
    let known : KeyKnown c.args.desk b c.args.key = record { shape = shape; known = c.if-desk.false; keyed = c.if-heads-key.false } in
    let then : Book =
    book_of c.extend_in_place.new.body c.extend_in_place.new.heads c.args.mark.now c.args.free.now c.args.counts.now in
    let in_place :
    InPlace c.args.body.now c.args.heads.now c.args.mark.now c.args.key c.args.fks.now 0 c.extend_in_place.new.body
    c.extend_in_place.new.heads c.in_ok-from.from =
    c.in_ok-from.ensures in
    let whole : Outcome Extended = extend_from c.args.desk c.args.key c.args.fks.now b (extended 0 0 in_place.place 0 0) in
    let extending : Extending c.args.desk c.args.key c.args.fks.now whole then c.in_ok-from.from 0 0 =
    in_place.goes c.args.desk c.args.free.now c.args.counts.now known whole 0 0 (extend_begins c.args.desk b c.args.key c.args.fks.now
    (in_place.sound c.args.free.now c.args.counts.now)) in
    let long : length c.extend_in_place.new.heads ≡ length c.args.heads.now = search rules in
    record {
      known = known.known;
      keyed = omega (arith, known.keyed, long);
      left = in_place.within;
      whole = whole;
      extending = extending;
      stopped = in_place.stopped;
    }

pub returns : goal.returns
returns c =
    let b : Book = book_of c.args.body.now c.args.heads.now c.args.mark.now c.args.free.now c.args.counts.now in
    let shape : shape_broken b.space (length b.heads) ≡ false = sym (c.shape_broken.ensures c.args.free.now) ∙ c.if-shape_broken.false in
    let known : KeyKnown c.args.desk b c.args.key = record { shape = shape; known = c.if-desk.false; keyed = c.if-heads-key.false } in
    let then : Book =
    book_of c.extend_in_place.new.body c.extend_in_place.new.heads c.args.mark.now c.args.free.now c.args.counts.now in
    let in_place :
    InPlace c.args.body.now c.args.heads.now c.args.mark.now c.args.key c.args.fks.now 0 c.extend_in_place.new.body
    c.extend_in_place.new.heads c.in_ok-from.from =
    c.in_ok-from.ensures in
    let whole : Outcome Extended = extend_from c.args.desk c.args.key c.args.fks.now b (extended 0 0 in_place.place 0 0) in
    let extending : Extending c.args.desk c.args.key c.args.fks.now whole then c.in_ok-from.from 0 0 =
    in_place.goes c.args.desk c.args.free.now c.args.counts.now known whole 0 0 (extend_begins c.args.desk b c.args.key c.args.fks.now
    (in_place.sound c.args.free.now c.args.counts.now)) in
    let a = c.args in
    let ends = c.append_from.ensures whole extending in
    let after = book_of c.append_from.new.body c.append_from.new.heads c.append_from.new.mark
    c.append_from.new.free c.append_from.new.counts in
    let d = does_yes b after (accepted (extended_by c.append_from.result)) (extends a.desk b a.key c.args.fks.now)
    (extends_on a.desk b a.key c.args.fks.now known
    (in_place.sound a.free.now a.counts.now)) (ap accepted ends.told) ends.left in
    record {
      answer = d.told;
      book = d.left;
    }
