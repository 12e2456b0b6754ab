-- `read` meets its contract: the tests of the shape and of the key, and then the key is read.
use Rattle.std.proofs.Common.{ℕ, ◌≤◌, false, List, [], ◌≡◌, sym, ap, ◌∙◌, length, get_or, refl}
use Rattle.std.proofs.lemmas.Result.{err_from_is_err_and}
use Rattle.error.specs.Refusal.{Answer, answered}
use Rattle.book_space.specs.Space.{shape_broken}
use Rattle.book_space.proofs.LawsShape.{shape_holds}
use Rattle.book_rules.specs.Outcomes.{Listed}
use Rattle.book_keys.specs.Keys.{Content, content, body_ground}
use Rattle.book_keys.specs.Steps.{in_room}
use Rattle.book.specs.Book.{Book}
use Rattle.book_read.specs.Reads.{reads}
use Rattle.book.specs.Answers.{book_of}
use Rattle.book_read.proofs.LawsRead.{reading, read_broken, read_beyond, read_key, for_any, read_no, read_refused, read_accepted}
use Rattle.book_read.proofs.reading.read.Goals as goal

pub returns-then-shape_broken-clause-answer : goal.returns-then-shape_broken-clause-answer
returns-then-shape_broken-clause-answer c =
    let room : ℕ = length c.args.out.now in
    let book : (free : List ℕ) → (counts : List ℕ) → Book =
    λ free counts.
    book_of c.args.body.now c.args.heads.now c.args.mark free counts in
    let asked : (free : List ℕ) → (counts : List ℕ) → Answer Listed = λ free counts. reads (book free counts) c.args.key room in
    (for_any asked c.args.out.now (λ free counts. read_no (asked free counts) c.args.out.now
    (read_broken (book free counts) c.args.key room (sym (c.shape_broken.ensures free) ∙ c.if-shape_broken.true)))).0

pub returns-then-shape_broken-clause-list : goal.returns-then-shape_broken-clause-list
returns-then-shape_broken-clause-list c =
    let room : ℕ = length c.args.out.now in
    let book : (free : List ℕ) → (counts : List ℕ) → Book =
    λ free counts.
    book_of c.args.body.now c.args.heads.now c.args.mark free counts in
    let asked : (free : List ℕ) → (counts : List ℕ) → Answer Listed = λ free counts. reads (book free counts) c.args.key room in
    (for_any asked c.args.out.now (λ free counts. read_no (asked free counts) c.args.out.now
    (read_broken (book free counts) c.args.key room (sym (c.shape_broken.ensures free) ∙ c.if-shape_broken.true)))).1

pub returns-then-heads-key-clause-answer : goal.returns-then-heads-key-clause-answer
returns-then-heads-key-clause-answer c =
    let room : ℕ = length c.args.out.now in
    let book : (free : List ℕ) → (counts : List ℕ) → Book =
    λ free counts.
    book_of c.args.body.now c.args.heads.now c.args.mark free counts in
    let asked : (free : List ℕ) → (counts : List ℕ) → Answer Listed = λ free counts. reads (book free counts) c.args.key room in
    let whole : (free counts : List ℕ) → shape_broken (book free counts).space (length (book free counts).heads) ≡ false =
    λ free counts.
    sym (c.shape_broken.ensures free) ∙ c.if-shape_broken.false in
    (for_any asked c.args.out.now (λ free counts. read_no (asked free counts) c.args.out.now
    (read_beyond (book free counts) c.args.key room (whole free counts) c.if-heads-key.true))).0

pub returns-then-heads-key-clause-list : goal.returns-then-heads-key-clause-list
returns-then-heads-key-clause-list c =
    let room : ℕ = length c.args.out.now in
    let book : (free : List ℕ) → (counts : List ℕ) → Book =
    λ free counts.
    book_of c.args.body.now c.args.heads.now c.args.mark free counts in
    let asked : (free : List ℕ) → (counts : List ℕ) → Answer Listed = λ free counts. reads (book free counts) c.args.key room in
    let whole : (free counts : List ℕ) → shape_broken (book free counts).space (length (book free counts).heads) ≡ false =
    λ free counts.
    sym (c.shape_broken.ensures free) ∙ c.if-shape_broken.false in
    (for_any asked c.args.out.now (λ free counts. read_no (asked free counts) c.args.out.now
    (read_beyond (book free counts) c.args.key room (whole free counts) c.if-heads-key.true))).1

pub read_key-requires : goal.read_key-requires
read_key-requires c =
    let book : (free : List ℕ) → (counts : List ℕ) → Book =
    λ free counts.
    book_of c.args.body.now c.args.heads.now c.args.mark free counts in
    let whole : (free counts : List ℕ) → shape_broken (book free counts).space (length (book free counts).heads) ≡ false =
    λ free counts.
    sym (c.shape_broken.ensures free) ∙ c.if-shape_broken.false in
    let within : c.args.mark ≤ length c.args.body.now =
    (shape_holds (book [] []).space (length (book [] []).heads) (whole [] [])).0.within in
    within

pub returns-in_err-length : goal.returns-in_err-length
returns-in_err-length c =
    let word : ℕ = get_or c.args.heads.now c.args.key 0 in
    let room : ℕ = length c.args.out.now in
    let held : Answer Content = content (body_ground c.args.body.now c.args.mark) word in
    let book : (free : List ℕ) → (counts : List ℕ) → Book =
    λ free counts.
    book_of c.args.body.now c.args.heads.now c.args.mark free counts in
    let asked : (free : List ℕ) → (counts : List ℕ) → Answer Listed = λ free counts. reads (book free counts) c.args.key room in
    let whole : (free counts : List ℕ) → shape_broken (book free counts).space (length (book free counts).heads) ≡ false =
    λ free counts.
    sym (c.shape_broken.ensures free) ∙ c.if-shape_broken.false in
    let is : (free counts : List ℕ) → asked free counts ≡ answered reading (in_room room held) =
    λ free counts.
    read_key (book free counts) c.args.key room (whole free counts) c.if-heads-key.false in
    let p = err_from_is_err_and c.from_residual.result c.from_residual.ensures.1 in
    record {
      answer = rw (p.1, p.2) (for_any asked c.args.out.now (λ free counts.
          read_refused (asked free counts) held _ c.args.out.now _ (is free counts)
          (c.in_err-length.ensures.answer, c.in_err-length.ensures.list) refl)).0;
      list = (for_any asked c.args.out.now (λ free counts.
          read_refused (asked free counts) held _ c.args.out.now _ (is free counts)
          (c.in_err-length.ensures.answer, c.in_err-length.ensures.list) refl)).1;
    }

pub returns-clause-answer : goal.returns-clause-answer
returns-clause-answer c =
    let word : ℕ = get_or c.args.heads.now c.args.key 0 in
    let room : ℕ = length c.args.out.now in
    let held : Answer Content = content (body_ground c.args.body.now c.args.mark) word in
    let book : (free : List ℕ) → (counts : List ℕ) → Book =
    λ free counts.
    book_of c.args.body.now c.args.heads.now c.args.mark free counts in
    let asked : (free : List ℕ) → (counts : List ℕ) → Answer Listed = λ free counts. reads (book free counts) c.args.key room in
    let whole : (free counts : List ℕ) → shape_broken (book free counts).space (length (book free counts).heads) ≡ false =
    λ free counts.
    sym (c.shape_broken.ensures free) ∙ c.if-shape_broken.false in
    let is : (free counts : List ℕ) → asked free counts ≡ answered reading (in_room room held) =
    λ free counts.
    read_key (book free counts) c.args.key room (whole free counts) c.if-heads-key.false in
    (for_any asked c.args.out.now (λ free counts.
    read_accepted (asked free counts) held _ c.args.out.now _ (is free counts)
    (c.in_ok-length.ensures.answer, c.in_ok-length.ensures.list)
    (record {
      length = c.in_ok-length.field-0.length;
      pages = c.in_ok-length.field-0.pages;
      padded = c.in_ok-length.field-0.padded;
    })
    refl)).0

pub returns-clause-list : goal.returns-clause-list
returns-clause-list c =
    let word : ℕ = get_or c.args.heads.now c.args.key 0 in
    let room : ℕ = length c.args.out.now in
    let held : Answer Content = content (body_ground c.args.body.now c.args.mark) word in
    let book : (free : List ℕ) → (counts : List ℕ) → Book =
    λ free counts.
    book_of c.args.body.now c.args.heads.now c.args.mark free counts in
    let asked : (free : List ℕ) → (counts : List ℕ) → Answer Listed = λ free counts. reads (book free counts) c.args.key room in
    let whole : (free counts : List ℕ) → shape_broken (book free counts).space (length (book free counts).heads) ≡ false =
    λ free counts.
    sym (c.shape_broken.ensures free) ∙ c.if-shape_broken.false in
    let is : (free counts : List ℕ) → asked free counts ≡ answered reading (in_room room held) =
    λ free counts.
    read_key (book free counts) c.args.key room (whole free counts) c.if-heads-key.false in
    (for_any asked c.args.out.now (λ free counts.
    read_accepted (asked free counts) held _ c.args.out.now _ (is free counts)
    (c.in_ok-length.ensures.answer, c.in_ok-length.ensures.list)
    (record {
      length = c.in_ok-length.field-0.length;
      pages = c.in_ok-length.field-0.pages;
      padded = c.in_ok-length.field-0.padded;
    })
    refl)).1
