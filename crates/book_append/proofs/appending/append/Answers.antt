-- `append` meets its contract: the shape, the desk and the key, and then the number.
use Rattle.std.proofs.Common.{false, ◌≡◌, sym, ◌∙◌, length}
use Rattle.book_space.specs.Space.{shape_broken}
use Rattle.book.specs.Book.{Book}
use Rattle.book.specs.Answers.{book_of}
use Rattle.book_append.proofs.LawsAppend.{does_none, append_shape, append_none, append_beyond}
use Rattle.book_append.proofs.appending.append.Goals as goal

pub returns-then-shape_broken : goal.returns-then-shape_broken
returns-then-shape_broken c =
    let b : Book = book_of c.args.body.now c.args.heads.now c.args.mark.now c.args.free.now c.args.counts.now in
    let a = c.args in
    let d = does_none b
    (append_shape a.desk b a.key a.n (sym (c.shape_broken.ensures a.free.now) ∙ c.if-shape_broken.true)) in
    record {
      answer = d.told;
      book = d.left;
    }

pub returns-then-desk : goal.returns-then-desk
returns-then-desk c =
    let b : Book = book_of c.args.body.now c.args.heads.now c.args.mark.now c.args.free.now c.args.counts.now in
    let shape : shape_broken b.space (length b.heads) ≡ false = sym (c.shape_broken.ensures c.args.free.now) ∙ c.if-shape_broken.false in
    let a = c.args in
    let d = does_none b (append_none a.desk b a.key a.n shape c.if-desk.true) in
    record {
      answer = d.told;
      book = d.left;
    }

pub returns-then-heads-key : goal.returns-then-heads-key
returns-then-heads-key c =
    let b : Book = book_of c.args.body.now c.args.heads.now c.args.mark.now c.args.free.now c.args.counts.now in
    let shape : shape_broken b.space (length b.heads) ≡ false = sym (c.shape_broken.ensures c.args.free.now) ∙ c.if-shape_broken.false in
    let a = c.args in
    let d = does_none b (append_beyond a.desk b a.key a.n shape c.if-desk.false c.if-heads-key.true) in
    record {
      answer = d.told;
      book = d.left;
    }
