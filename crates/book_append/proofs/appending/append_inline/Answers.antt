-- `append_inline` meets its contract: the number against the inline one decides, then what placing both tells.
use Rattle.std.proofs.Common.{List, [], ◌∷◌, refl, ap, ℕ, arith}
use Rattle.std.proofs.lemmas.Result.{err_from_is_err_and}
use Rattle.scripthash_stream.specs.Stream.{Rising}
use Rattle.book_space.specs.Space.{Space, space}
use Rattle.book.specs.Book.{Book}
use Rattle.book.specs.Answers.{book_of}
use Rattle.book.proofs.LawsKey.{does_still}
use Rattle.book.proofs.LawsPlace.{placed_at, placed_none}
use Rattle.book_append.proofs.LawsAppend.{does_as, does_none, places_for, inline_low, inline_yes, inline_no}
use Rattle.book_append.proofs.appending.append_inline.Goals as goal

pub returns-then-n-entry : goal.returns-then-n-entry
returns-then-n-entry c used =
    let b : Book = book_of c.args.body.now c.args.heads.now c.args.mark.now c.args.free.now c.args.counts.now in
    let a = c.args in
    does_none b (inline_low a.desk b a.key a.n a.entry used c.if-n-entry.true)

pub move_list-requires : goal.move_list-requires
unfolding Rising
move_list-requires c =
    let above = c.if-n-entry.false in
    let known = c.requires.to_append in
    record {
      shape = known.shape;
      known = known.known;
      two = omega arith;
      few = omega arith;
      rises = (c.requires.some, omega (arith, known.low), (omega arith, known.low, tt));
    }

pub returns-in_err-place : goal.returns-in_err-place
returns-in_err-place c used =
    let p = err_from_is_err_and c.from_residual.result c.from_residual.ensures.1 in
    let b : Book = book_of c.args.body.now c.args.heads.now c.args.mark.now c.args.free.now c.args.counts.now in
    let list : List ℕ = c.args.entry ∷ c.args.n ∷ [] in
    let after : Space = space c.move_list.new.body c.move_list.new.mark c.move_list.new.free in
    let a = c.args in
    let none = placed_none b.space b.counts after c.move_list.new.counts (places_for a.desk b.space b.counts list)
    c.in_err-place.ensures refl in
    rw (p.1, p.2) (does_still b
    (inline_no a.desk b a.key a.n a.entry used
    (omega (arith, c.if-n-entry.false)) none.0)
    none.1 none.2)

pub returns : goal.returns
returns c used =
    let b : Book = book_of c.args.body.now c.args.heads.now c.args.mark.now c.args.free.now c.args.counts.now in
    let list : List ℕ = c.args.entry ∷ c.args.n ∷ [] in
    let after : Space = space c.move_list.new.body c.move_list.new.mark c.move_list.new.free in
    let a = c.args in
    let here = placed_at b.space b.counts after c.move_list.new.counts (places_for a.desk b.space b.counts list)
    c.in_ok-place.ensures refl in
    does_as
    (inline_yes a.desk b a.key a.n a.entry used
    (omega (arith, c.if-n-entry.false)) here)
    (c.accept_append.ensures b after c.move_list.new.counts refl)
