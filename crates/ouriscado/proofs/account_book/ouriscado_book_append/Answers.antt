-- `ouriscado_book_append` judges the call, and hands out what the core's append does for the key's desk.
use Rattle.std.proofs.Common.{ℕ, refl}
use Rattle.error.specs.Refusal.{Answer, answered}
use Rattle.book_rules.specs.Outcomes.{Appended, book_after}
use Rattle.book.specs.Book.{Book, Outcome}
use Rattle.book.specs.Answers.{book_of}
use Rattle.book_append.specs.Appends.{appends}
use Rattle.ouriscado.proofs.LawsBook.{turned_back_with, made_with}
use Rattle.ouriscado.proofs.account_book.ouriscado_book_append.Goals as goal

pub returns-in-Err : goal.returns-in-Err
unfolding book_after answered
returns-in-Err c =
    let b : Book = book_of c.args.body.now c.args.heads.now c.args.mark.now c.args.free.now c.args.counts.now in
    let call : ℕ → Answer (Outcome Appended) = λ desk. appends desk b c.args.key c.args.fk in
    let told = c.judge_call.ensures c.args.heads.now c.args.free.now refl in
    let e = turned_back_with c.args.desks.now b c.args.key call told c.in-Err.is in
    let h = c.put_appended.ensures in
    record {
      number = rw e h.number;
      book = rw e refl;
      kind = rw e h.kind;
      class = rw e h.class;
      used = rw e h.used;
      place = rw e h.place;
      rewritten = rw e h.rewritten;
      kept = λ z. refl;
    }

pub returns : goal.returns
returns c =
    let b : Book = book_of c.args.body.now c.args.heads.now c.args.mark.now c.args.free.now c.args.counts.now in
    let call : ℕ → Answer (Outcome Appended) = λ desk. appends desk b c.args.key c.args.fk in
    let told = c.judge_call.ensures c.args.heads.now c.args.free.now refl in
    let e = made_with c.args.desks.now b c.args.key call told c.in_default.is c.desk_of-desk.ensures in
    record {
      number = rw e c.ouriscado_core_append.ensures.number;
      book = rw e c.ouriscado_core_append.ensures.book;
      kind = rw e c.ouriscado_core_append.ensures.kind;
      class = rw e c.ouriscado_core_append.ensures.class;
      used = rw e c.ouriscado_core_append.ensures.used;
      place = rw e c.ouriscado_core_append.ensures.place;
      rewritten = rw e c.ouriscado_core_append.ensures.rewritten;
      kept = c.ouriscado_core_append.ensures.kept;
    }
