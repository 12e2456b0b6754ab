-- `ouriscado_book_read` judges the call, and hands out what the core's read does.
use Rattle.std.proofs.Common.{ℕ, List, ◌≡◌, refl, length}
use Rattle.error.specs.Refusal.{Answer, answered, refused}
use Rattle.error.specs.Answers.{number_of}
use Rattle.book_rules.specs.Outcomes.{Listed}
use Rattle.book_desks.specs.Desks.{desk_of}
use Rattle.book.specs.Book.{Book}
use Rattle.book.specs.Answers.{book_of}
use Rattle.book_read.specs.Reads.{reads, reads_with, list_after}
use Rattle.ouriscado.proofs.LawsBook.{turned_back_with, made_with}
use Rattle.ouriscado.proofs.account_book.ouriscado_book_read.Goals as goal

pub returns-in-Err : goal.returns-in-Err
unfolding list_after answered
returns-in-Err c =
    let b : (free : List ℕ) → Book = λ free. book_of c.args.body.now c.args.heads.now c.args.mark free c.args.counts.now in
    let back : (free : List ℕ) → reads_with c.args.desks.now (b free) c.args.key (length c.args.out.now) ≡ refused (number_of c.in-Err.refusal) =
    λ free. turned_back_with c.args.desks.now (b free) c.args.key (λ desk. reads (b free) c.args.key (length c.args.out.now))
    (c.judge_call.ensures c.args.heads.now free refl) c.in-Err.is in
    let h = c.put_listed.ensures in
    record {
      number = λ free. rw (back free) h.number;
      list = λ free. rw (back free) refl;
      length = λ free. rw (back free) h.count;
      pages = λ free. rw (back free) h.walked;
      padded = λ free. rw (back free) h.longer;
      kept = λ z. refl;
    }

pub returns : goal.returns
returns c =
    let b : (free : List ℕ) → Book = λ free. book_of c.args.body.now c.args.heads.now c.args.mark free c.args.counts.now in
    let call : (free : List ℕ) → ℕ → Answer Listed = λ free desk. reads (b free) c.args.key (length c.args.out.now) in
    let made : (free : List ℕ) → reads_with c.args.desks.now (b free) c.args.key (length c.args.out.now) ≡ call free 0 =
    λ free. made_with c.args.desks.now (b free) c.args.key (call free) {desk = desk_of c.args.desks.now c.args.key}
    (c.judge_call.ensures c.args.heads.now free refl) c.in_default.is refl in
    let h = c.ouriscado_core_read.ensures in
    let k : List ℕ = c.args.counts.now in
    record {
      number = λ free. rw (made free) (h.number free k);
      list = λ free. rw (made free) (h.list free k);
      length = λ free. rw (made free) (h.length free k);
      pages = λ free. rw (made free) (h.pages free k);
      padded = λ free. rw (made free) (h.padded free k);
      kept = h.kept;
    }
