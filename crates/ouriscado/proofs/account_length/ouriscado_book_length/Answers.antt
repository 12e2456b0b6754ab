-- `ouriscado_book_length` judges the call, and hands out what the core's length does.
use Rattle.std.proofs.Common.{List, ◌≡◌, refl}
use Prim.Native.Nat.{ℕ}
use Rattle.error.specs.Refusal.{Answer, refused}
use Rattle.error.specs.Answers.{number_of}
use Rattle.book_desks.specs.Desks.{desk_of}
use Rattle.book.specs.Answers.{book_of}
use Rattle.book_read.specs.Lengths.{lengths, lengths_with}
use Rattle.ouriscado.proofs.LawsBook.{turned_back_with, made_with}
use Rattle.ouriscado.proofs.account_length.ouriscado_book_length.Goals as goal

-- the call was turned back, whatever the free heads are
module _ (c : goal.After-hand_out) where
  back : (free : List ℕ) → lengths_with c.args.desks.now (book_of c.args.body.now c.args.heads.now c.args.mark free c.args.counts.now) c.args.key
      ≡ refused (number_of c.in-Err.refusal)
  back free =
      turned_back_with c.args.desks.now (book_of c.args.body.now c.args.heads.now c.args.mark free c.args.counts.now) c.args.key
      (λ desk. lengths (book_of c.args.body.now c.args.heads.now c.args.mark free c.args.counts.now) c.args.key)
      (c.judge_call.ensures c.args.heads.now free refl) c.in-Err.is

pub returns-in-Err-clause-number : goal.returns-in-Err-clause-number
returns-in-Err-clause-number c free = rw (back c free) c.hand_out.ensures.number

pub returns-in-Err-clause-length : goal.returns-in-Err-clause-length
returns-in-Err-clause-length c free = rw (back c free) c.hand_out.ensures.value

pub returns : goal.returns
returns c =
    let made : (free : List ℕ)
    → lengths_with c.args.desks.now (book_of c.args.body.now c.args.heads.now c.args.mark free c.args.counts.now) c.args.key
    ≡ lengths (book_of c.args.body.now c.args.heads.now c.args.mark free c.args.counts.now) c.args.key =
    λ free. made_with c.args.desks.now (book_of c.args.body.now c.args.heads.now c.args.mark free c.args.counts.now) c.args.key
    (λ desk. lengths (book_of c.args.body.now c.args.heads.now c.args.mark free c.args.counts.now) c.args.key)
    {desk = desk_of c.args.desks.now c.args.key} (c.judge_call.ensures c.args.heads.now free refl) c.in_default.is refl in
    let h = c.ouriscado_core_length.ensures in
    record {
      number = λ free. rw (made free) (h.number free c.args.counts.now);
      length = λ free. rw (made free) (h.length free c.args.counts.now);
    }
