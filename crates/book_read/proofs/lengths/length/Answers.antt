-- `length` meets its contract: the tests of the shape and of the key, and then what the key holds decides.
use Rattle.std.proofs.Common.{ℕ, ◌≤◌, false, List, [], ◌≡◌, sym, ◌∙◌, length}
use Rattle.book_space.specs.Space.{shape_broken}
use Rattle.book_space.proofs.LawsShape.{shape_holds}
use Rattle.book.specs.Book.{Book}
use Rattle.book.specs.Answers.{book_of}
use Rattle.book_read.proofs.LawsLength.{length_broken, length_beyond, length_key}
use Rattle.book_read.proofs.lengths.length.Goals as goal

pub returns-then-shape_broken : goal.returns-then-shape_broken
returns-then-shape_broken c free counts =
    let book : (free : List ℕ) → (counts : List ℕ) → Book =
    λ free counts.
    book_of c.args.body.now c.args.heads.now c.args.mark free counts in
    sym (length_broken (book free counts) c.args.key (sym (c.shape_broken.ensures free) ∙ c.if-shape_broken.true))

pub returns-then-heads-key : goal.returns-then-heads-key
returns-then-heads-key c free counts =
    let book : (free : List ℕ) → (counts : List ℕ) → Book =
    λ free counts.
    book_of c.args.body.now c.args.heads.now c.args.mark free counts in
    let whole : (free counts : List ℕ) → shape_broken (book free counts).space (length (book free counts).heads) ≡ false =
    λ free counts.
    sym (c.shape_broken.ensures free) ∙ c.if-shape_broken.false in
    sym (length_beyond (book free counts) c.args.key (whole free counts) c.if-heads-key.true)

pub key_length-requires : goal.key_length-requires
key_length-requires c =
    let book : (free : List ℕ) → (counts : List ℕ) → Book =
    λ free counts.
    book_of c.args.body.now c.args.heads.now c.args.mark free counts in
    let whole : (free counts : List ℕ) → shape_broken (book free counts).space (length (book free counts).heads) ≡ false =
    λ free counts.
    sym (c.shape_broken.ensures free) ∙ c.if-shape_broken.false in
    let within : c.args.mark ≤ length c.args.body.now =
    (shape_holds (book [] []).space (length (book [] []).heads) (whole [] [])).0.within in
    within

pub returns : goal.returns
returns c free counts =
    let book : (free : List ℕ) → (counts : List ℕ) → Book =
    λ free counts.
    book_of c.args.body.now c.args.heads.now c.args.mark free counts in
    let whole : (free counts : List ℕ) → shape_broken (book free counts).space (length (book free counts).heads) ≡ false =
    λ free counts.
    sym (c.shape_broken.ensures free) ∙ c.if-shape_broken.false in
    c.key_length.ensures ∙ sym (length_key (book free counts) c.args.key (whole free counts) c.if-heads-key.false)
