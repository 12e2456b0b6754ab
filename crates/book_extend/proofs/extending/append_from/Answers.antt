-- `append_from` meets its contract.
use Rattle.std.proofs.Common.{ℕ, ◌+◌, ◌-◌, ◌≤◌, ◌<◌, ◌≡◌, refl, ap, arith, rules, length}
use Rattle.error.specs.Refusal.{accepted}
use Rattle.book_rules.specs.Outcomes.{Appended, appended_to}
use Rattle.book.specs.Book.{Book}
use Rattle.book.specs.Answers.{book_of}
use Rattle.book_append.specs.Answers.{append_answer}
use Rattle.book_extend.specs.Extends.{moved}
use Rattle.book_extend.specs.Answers.{extended_by}
use Rattle.book_extend.specs.Steps.{Extending}
use Rattle.book_extend.proofs.LawsExtend.{extend_ends, step_stops, step_few, step_on}
use Rattle.book_extend.proofs.extending.append_from.Goals as goal

pub returns-in-Err : goal.returns-in-Err
returns-in-Err c =
    let more : c.loop-i.i < length c.args.fks.now = c.loop-i-test.true in
    let after : Book = book_of c.append_past.new.body c.append_past.new.heads c.append_past.new.mark c.append_past.new.free c.append_past.new.counts in
    λ whole x.
    step_stops (c.loop-i.invariant.3 whole x) more after c.in-Err.ensures.told c.in-Err.ensures.left refl (extended_by c.told.result)
    (λ place stands. c.told.ensures place stands)

pub overflow_add-moves : goal.overflow_add-moves
overflow_add-moves c =
    let b : Book = book_of c.loop-i.body c.loop-i.heads c.loop-i.mark c.loop-i.free c.loop-i.counts in
    let known : Extending c.args.desk c.args.key c.args.fks.now c.requires.whole b c.loop-i.i c.loop-i.moves c.loop-i.rewritten =
    c.loop-i.invariant.3 c.requires.whole c.requires.extending in
    let more : c.loop-i.i < length c.args.fks.now = c.loop-i-test.true in
    let after : Book =
    book_of c.append_past.new.body c.append_past.new.heads c.append_past.new.mark c.append_past.new.free
    c.append_past.new.counts in
    let to : Appended = appended_to c.in-Ok.to.place c.in-Ok.to.rewritten in
    let is : append_answer c.append_past.result ≡ accepted to = ap append_answer c.in-Ok.is in
    let few : (c.loop-i.rewritten + to.rewritten ≤ 65792) × (c.loop-i.moves + moved to.rewritten ≤ c.loop-i.i + 1) =
    step_few known more after c.append_past.ensures.told c.append_past.ensures.left is in
    omega (arith, c.moved-moves.ensures, few.1, more, c.well_formed)

pub overflow_add-rewritten : goal.overflow_add-rewritten
overflow_add-rewritten c =
    let b : Book = book_of c.loop-i.body c.loop-i.heads c.loop-i.mark c.loop-i.free c.loop-i.counts in
    let known : Extending c.args.desk c.args.key c.args.fks.now c.requires.whole b c.loop-i.i c.loop-i.moves c.loop-i.rewritten =
    c.loop-i.invariant.3 c.requires.whole c.requires.extending in
    let more : c.loop-i.i < length c.args.fks.now = c.loop-i-test.true in
    let after : Book =
    book_of c.append_past.new.body c.append_past.new.heads c.append_past.new.mark c.append_past.new.free
    c.append_past.new.counts in
    let to : Appended = appended_to c.in-Ok.to.place c.in-Ok.to.rewritten in
    let is : append_answer c.append_past.result ≡ accepted to = ap append_answer c.in-Ok.is in
    let few : (c.loop-i.rewritten + to.rewritten ≤ 65792) × (c.loop-i.moves + moved to.rewritten ≤ c.loop-i.i + 1) =
    step_few known more after c.append_past.ensures.told c.append_past.ensures.left is in
    omega (arith, few.0)

pub loop-i-preserved : goal.loop-i-preserved
loop-i-preserved c =
    let more : c.loop-i.i < length c.args.fks.now = c.loop-i-test.true in
    let after : Book =
    book_of c.append_past.new.body c.append_past.new.heads c.append_past.new.mark c.append_past.new.free
    c.append_past.new.counts in
    let to : Appended = appended_to c.in-Ok.to.place c.in-Ok.to.rewritten in
    let is : append_answer c.append_past.result ≡ accepted to = ap append_answer c.in-Ok.is in
    let counted : c.loop-i.moves + c.moved-moves.result ≡ c.loop-i.moves + moved to.rewritten =
    ap (λ (x : ℕ). c.loop-i.moves + x) c.moved-moves.ensures in (
      search rules,
      search rules,
      c.go_on-i.ensures.within,
      λ whole x.
          c.go_on-i.ensures.goes c.args.desk c.append_past.new.free c.append_past.new.counts
          c.requires.known whole _ _
          (step_on (c.loop-i.invariant.3 whole x) more after c.append_past.ensures.told c.append_past.ensures.left is
          (c.loop-i.moves + c.moved-moves.result) (c.loop-i.rewritten + to.rewritten) counted refl),
      c.go_on-i.ensures.stopped,
    )

pub returns : goal.returns
returns c = λ whole x.
    let y = c.loop-i.invariant.3 whole x in
    extend_ends y (omega (arith, c.loop-i-test.false)) (extended_by c.told-2.result)
    (c.told-2.ensures y.place y.stands)
