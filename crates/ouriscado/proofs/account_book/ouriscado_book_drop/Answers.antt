-- `ouriscado_book_drop` judges the call, and hands out what the core's drop does for the key's desk.
use Rattle.std.proofs.Common.{ℕ, refl}
use Rattle.error.specs.Refusal.{Answer, answered}
use Rattle.book_rules.specs.Outcomes.{Dropped, book_after}
use Rattle.book.specs.Book.{Book, Outcome}
use Rattle.book.specs.Answers.{book_of}
use Rattle.book_drop.specs.Drops.{drops}
use Rattle.ouriscado.proofs.LawsBook.{turned_back_with, made_with}
use Rattle.ouriscado.proofs.account_book.ouriscado_book_drop.Goals as goal

pub returns-in-Err : goal.returns-in-Err
unfolding book_after answered
returns-in-Err c =
    let b : Book = book_of c.args.body.now c.args.heads.now c.args.mark.now c.args.free.now c.args.counts.now in
    let call : ℕ → Answer (Outcome Dropped) = λ desk. drops desk b c.args.key in
    let told = c.judge_call.ensures c.args.heads.now c.args.free.now refl in
    let e = turned_back_with c.args.desks.now b c.args.key call told c.in-Err.is in
    let h = c.hand_out.ensures in
    record {
      number = rw e h.number;
      book = rw e refl;
      length = rw e h.value;
      kept = λ z. refl;
    }

pub returns : goal.returns
returns c =
    let b : Book = book_of c.args.body.now c.args.heads.now c.args.mark.now c.args.free.now c.args.counts.now in
    let call : ℕ → Answer (Outcome Dropped) = λ desk. drops desk b c.args.key in
    let told = c.judge_call.ensures c.args.heads.now c.args.free.now refl in
    let e = made_with c.args.desks.now b c.args.key call told c.in_default.is c.desk_of-desk.ensures in
    record {
      number = rw e c.ouriscado_core_drop.ensures.number;
      book = rw e c.ouriscado_core_drop.ensures.book;
      length = rw e c.ouriscado_core_drop.ensures.length;
      kept = c.ouriscado_core_drop.ensures.kept;
    }
