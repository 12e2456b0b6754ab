-- `load` meets its contract, test by test.
use Rattle.std.proofs.Common.{◌^◌, ◌≤◌, ◌<◌, length, true, false, ◌≡◌, refl, sym, ◌∙◌, arith}
use Rattle.std.proofs.lemmas.Result.{err_from_is_err_and}
use Rattle.error.specs.Refusal.{accepted}
use Rattle.error.proofs.LawsAnswer.{accepted_inj}
use Rattle.scripthash_stream.specs.Stream.{stream_len, max_offered}
use Rattle.book_rules.proofs.LawsOffered.{offered_all}
use Rattle.book_desks.specs.Desks.{desks}
use Rattle.book_space.specs.Space.{shape_broken}
use Rattle.book_space.proofs.LawsShape.{shape_holds}
use Rattle.book.specs.Book.{Book}
use Rattle.book.specs.Answers.{book_of}
use Rattle.book_load.proofs.LawsLoad.{loads_shape, loads_desk, loads_beyond, loads_in_use, loads_too_many, loads_offered, ends_refused, loads_on}
use Rattle.book_load.proofs.loading.load.Goals as goal

pub returns-then-shape_broken : goal.returns-then-shape_broken
returns-then-shape_broken c =
    let a = c.args in
    let b : Book = book_of a.body.now a.heads.now a.mark.now a.free.now a.counts.now in
    let d = ends_refused b _ (loads_shape a.fit a.desk b a.key a.fks.now (sym (c.shape_broken.ensures a.free.now) ∙ c.if-shape_broken.true)) in
    record { answer = d.told; book = d.left }

pub returns-then-desk : goal.returns-then-desk
returns-then-desk c =
    let a = c.args in
    let b : Book = book_of a.body.now a.heads.now a.mark.now a.free.now a.counts.now in
    let good : shape_broken b.space (length b.heads) ≡ false = sym (c.shape_broken.ensures a.free.now) ∙ c.if-shape_broken.false in
    let d = ends_refused b _ (loads_desk a.fit a.desk b a.key a.fks.now good (omega (arith, c.if-desk.true))) in
    record { answer = d.told; book = d.left }

pub returns-then-heads-key : goal.returns-then-heads-key
returns-then-heads-key c =
    let a = c.args in
    let b : Book = book_of a.body.now a.heads.now a.mark.now a.free.now a.counts.now in
    let good : shape_broken b.space (length b.heads) ≡ false = sym (c.shape_broken.ensures a.free.now) ∙ c.if-shape_broken.false in
    let one : a.desk < desks = omega (arith, c.if-desk.false) in
    let d = ends_refused b _ (loads_beyond a.fit a.desk b a.key a.fks.now good one c.if-heads-key.true) in
    record { answer = d.told; book = d.left }

pub returns-then-heads-at-ne0 : goal.returns-then-heads-at-ne0
returns-then-heads-at-ne0 c =
    let a = c.args in
    let b : Book = book_of a.body.now a.heads.now a.mark.now a.free.now a.counts.now in
    let good : shape_broken b.space (length b.heads) ≡ false = sym (c.shape_broken.ensures a.free.now) ∙ c.if-shape_broken.false in
    let one : a.desk < desks = omega (arith, c.if-desk.false) in
    let known : a.key < length b.heads = omega (arith, c.if-heads-key.false) in
    let d = ends_refused b _ (loads_in_use a.fit a.desk b a.key a.fks.now good one known c.if-heads-at-ne0.true) in
    record { answer = d.told; book = d.left }

pub returns-then-fks-gt-MAX_OFFERED : goal.returns-then-fks-gt-MAX_OFFERED
returns-then-fks-gt-MAX_OFFERED c =
    let a = c.args in
    let b : Book = book_of a.body.now a.heads.now a.mark.now a.free.now a.counts.now in
    let good : shape_broken b.space (length b.heads) ≡ false = sym (c.shape_broken.ensures a.free.now) ∙ c.if-shape_broken.false in
    let one : a.desk < desks = omega (arith, c.if-desk.false) in
    let known : a.key < length b.heads = omega (arith, c.if-heads-key.false) in
    let d = ends_refused b _ (loads_too_many a.fit a.desk b a.key a.fks.now good one known c.if-heads-at-ne0.false c.if-fks-gt-MAX_OFFERED.true) in
    record { answer = d.told; book = d.left }

pub returns-in_err-bytes : goal.returns-in_err-bytes
returns-in_err-bytes c =
    let a = c.args in
    let b : Book = book_of a.body.now a.heads.now a.mark.now a.free.now a.counts.now in
    let p = err_from_is_err_and c.from_residual.result c.from_residual.ensures.1 in
    let good : shape_broken b.space (length b.heads) ≡ false = sym (c.shape_broken.ensures a.free.now) ∙ c.if-shape_broken.false in
    let one : a.desk < desks = omega (arith, c.if-desk.false) in
    let known : a.key < length b.heads = omega (arith, c.if-heads-key.false) in
    let few : length a.fks.now ≤ max_offered = omega (arith, c.if-fks-gt-MAX_OFFERED.false) in
    let d = ends_refused b _ (loads_offered a.fit a.desk b a.key a.fks.now good one known c.if-heads-at-ne0.false few (sym c.in_err-bytes.ensures)) in
    record { answer = rw (p.1, p.2) d.told; book = d.left }

pub load_judged-requires : goal.load_judged-requires
load_judged-requires c =
    let a = c.args in
    let b : Book = book_of a.body.now a.heads.now a.mark.now a.free.now a.counts.now in
    let good : shape_broken b.space (length b.heads) ≡ false = sym (c.shape_broken.ensures a.free.now) ∙ c.if-shape_broken.false in
    let one : a.desk < desks = omega (arith, c.if-desk.false) in
    let known : a.key < length b.heads = omega (arith, c.if-heads-key.false) in
    let few : length a.fks.now ≤ max_offered = omega (arith, c.if-fks-gt-MAX_OFFERED.false) in
    let judged = offered_all true 0 a.fks.now (accepted (stream_len a.fks.now)) (sym c.in_ok-bytes.ensures) in
    record {
      to_load = record { shape = (shape_holds b.space (length b.heads) good).0; known = one; keyed = known };
      judged = record { rises = judged.0; few = few };
      bytes_are = sym (accepted_inj judged.1);
    }

pub returns : goal.returns
returns c =
    let a = c.args in
    let b : Book = book_of a.body.now a.heads.now a.mark.now a.free.now a.counts.now in
    let good : shape_broken b.space (length b.heads) ≡ false = sym (c.shape_broken.ensures a.free.now) ∙ c.if-shape_broken.false in
    let one : a.desk < desks = omega (arith, c.if-desk.false) in
    let known : a.key < length b.heads = omega (arith, c.if-heads-key.false) in
    let few : length a.fks.now ≤ max_offered = omega (arith, c.if-fks-gt-MAX_OFFERED.false) in
    let judged = offered_all true 0 a.fks.now (accepted (stream_len a.fks.now)) (sym c.in_ok-bytes.ensures) in
    let d = c.load_judged.ensures in
    let on = loads_on a.fit a.desk b a.key a.fks.now good one known c.if-heads-at-ne0.false few judged.0 in
    record { answer = rw on d.told; book = rw on d.left }
