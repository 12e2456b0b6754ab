-- `drop` meets its contract: the tests of the shape, of the desk and of the key, then the key's word, then its place.
use Rattle.std.proofs.Common.{◌<◌, false, ◌≡◌, sym, ap, ◌∙◌, arith, length}
use Rattle.scripthash_layout.specs.AnswersHead.{unpack_answer}
use Rattle.book_desks.specs.Desks.{desks}
use Rattle.book_space.specs.Space.{shape_broken}
use Rattle.book_space.proofs.LawsShape.{shape_holds}
use Rattle.book.specs.Book.{Book}
use Rattle.book.specs.Answers.{book_of}
use Rattle.book_drop.proofs.LawsDrop.{ends_refused, drop_broken, drop_desk, drop_beyond, drop_nowhere, drop_there}
use Rattle.book_drop.proofs.dropping.drop.Goals as goal

pub returns-then-shape_broken : goal.returns-then-shape_broken
returns-then-shape_broken c =
    let book : Book = book_of c.args.body.now c.args.heads.now c.args.mark.now c.args.free.now c.args.counts.now in
    let a = c.args in
    let broken = sym (c.shape_broken.ensures a.free.now) ∙ c.if-shape_broken.true in
    let d = ends_refused book _ (drop_broken a.desk book a.key broken) in
    record {
      answer = d.told;
      book = d.left;
    }

pub returns-then-desk : goal.returns-then-desk
returns-then-desk c =
    let book : Book = book_of c.args.body.now c.args.heads.now c.args.mark.now c.args.free.now c.args.counts.now in
    let whole : shape_broken book.space (length book.heads) ≡ false =
    sym (c.shape_broken.ensures c.args.free.now) ∙ c.if-shape_broken.false in
    let d = ends_refused book _ (drop_desk c.args.desk book c.args.key whole (omega (arith, c.if-desk.true))) in
    record {
      answer = d.told;
      book = d.left;
    }

pub returns-then-heads-key : goal.returns-then-heads-key
returns-then-heads-key c =
    let book : Book = book_of c.args.body.now c.args.heads.now c.args.mark.now c.args.free.now c.args.counts.now in
    let whole : shape_broken book.space (length book.heads) ≡ false =
    sym (c.shape_broken.ensures c.args.free.now) ∙ c.if-shape_broken.false in
    let d = ends_refused book _
    (drop_beyond c.args.desk book c.args.key whole (omega (arith, c.if-desk.false)) c.if-heads-key.true) in
    record {
      answer = d.told;
      book = d.left;
    }

pub returns-in_default : goal.returns-in_default
returns-in_default c =
    let book : Book = book_of c.args.body.now c.args.heads.now c.args.mark.now c.args.free.now c.args.counts.now in
    let whole : shape_broken book.space (length book.heads) ≡ false =
    sym (c.shape_broken.ensures c.args.free.now) ∙ c.if-shape_broken.false in
    let known : c.args.desk < desks = omega (arith, c.if-desk.false) in
    let keyed : c.args.key < length book.heads = omega (arith, c.if-heads-key.false) in
    let d = ends_refused book _
    (drop_nowhere c.args.desk book c.args.key whole known keyed (sym c.in_default.ensures)) in
    record {
      answer = d.told;
      book = d.left;
    }

pub drop_at-requires : goal.drop_at-requires
drop_at-requires c =
    let book : Book = book_of c.args.body.now c.args.heads.now c.args.mark.now c.args.free.now c.args.counts.now in
    let whole : shape_broken book.space (length book.heads) ≡ false =
    sym (c.shape_broken.ensures c.args.free.now) ∙ c.if-shape_broken.false in
    let known : c.args.desk < desks = omega (arith, c.if-desk.false) in
    let keyed : c.args.key < length book.heads = omega (arith, c.if-heads-key.false) in
    let b = book in
    let s = shape_holds b.space (length b.heads) whole in
    record { within = s.0.within; known = known; keyed = keyed }

pub returns : goal.returns
returns c =
    let book : Book = book_of c.args.body.now c.args.heads.now c.args.mark.now c.args.free.now c.args.counts.now in
    let whole : shape_broken book.space (length book.heads) ≡ false =
    sym (c.shape_broken.ensures c.args.free.now) ∙ c.if-shape_broken.false in
    let known : c.args.desk < desks = omega (arith, c.if-desk.false) in
    let keyed : c.args.key < length book.heads = omega (arith, c.if-heads-key.false) in
    let a = c.args in
    let d = c.drop_at.ensures in
    record {
      answer = rw (drop_there a.desk book a.key whole known keyed c.in-Ok.place (sym c.in-Ok.ensures)) d.told;
      book = rw (drop_there a.desk book a.key whole known keyed c.in-Ok.place (sym c.in-Ok.ensures)) d.left;
    }
