-- Lists of calls from single calls: the two books answer alike and agree all along, from any pair that agrees. Assumes nothing.
use mathlib.Core.List.{List, [], ◌∷◌}
use Prim.Native.Nat.{ℕ}
use mathlib.Core.Path.{◌≡◌, refl, sym, ap, ap₂, subst, ◌∙◌}
use Rattle.error.specs.Refusal.{Answer, accepted, answered}
use Rattle.book_rules.specs.Outcomes.{book_after, answer_of}
use Rattle.book_statements.specs.Calls.{Enquiry, Change, Call, ask, change, Said, Made, Answers, asked, changed, after_calls, answers_to}
use Rattle.plain_book.specs.Book.{Book as PlainBook, Outcome as PlainOutcome, asks as plain_asks, does as plain_does, after as plain_after}
use Rattle.plain_book.specs.Book.{answers as plain_answers}
use Rattle.plain_book.specs.Good.{GoodPlain}
use Rattle.plain_book.proofs.LawsGood.{shape_kept, call_good}
use Rattle.book.specs.Book.{Book, Outcome}
use Rattle.book_history.specs.Calls.{asks, does, after, answers}
use Rattle.book_history.specs.Agrees.{Agrees}
use Rattle.book_history.proofs.LawsStep.{Alike, told_alike, refused_alike}

-- ---- one call

-- Answers alike tell the same.
pub alike_answer : {T : Type 0} {a : Answer (PlainOutcome T)} {b : Answer (Outcome T)} → Alike a b → answer_of b ≡ answer_of a
unfolding answered
alike_answer (told_alike e h) = ap accepted (sym e)
alike_answer refused_alike = refl

-- After answers alike the books agree.
pub alike_books : {T : Type 0} {plain : PlainBook} {book : Book} {a : Answer (PlainOutcome T)} {b : Answer (Outcome T)} → Alike a b
    → Agrees plain book
    → Agrees (book_after plain a) (book_after book b)
unfolding book_after
alike_books (told_alike e h) before = h
alike_books refused_alike before = before

-- ---- lists of calls

-- Each change is answered alike by any pair of books that agree, where the bytes are lent the plain book's desks.
abbrev pub EachAlike : Type 0
EachAlike = (plain : PlainBook) (b : Book) (c : Change) → GoodPlain plain → Agrees plain b
    → Alike (plain_does plain c) (does plain.desks b c)

-- Each enquiry gets the same answer from any pair of books that agree.
abbrev pub EachSame : Type 0
EachSame = (plain : PlainBook) (b : Book) (q : Enquiry) → GoodPlain plain → Agrees plain b → asks plain.desks b q ≡ plain_asks plain q

module _ (each : EachAlike) where
  -- A change keeps a plain book's desks.
  still_lent : {ds : List ℕ} (plain : PlainBook) (c : Change) → plain.desks ≡ ds → (book_after plain (plain_does plain c)).desks ≡ ds
  still_lent plain c e = let (size, keys, lent, limits) = shape_kept plain c in lent ∙ e

  -- One change, lent the plain book's desks.
  step : (ds : List ℕ) (plain : PlainBook) (b : Book) (c : Change) → plain.desks ≡ ds → GoodPlain plain → Agrees plain b
      → Alike (plain_does plain c) (does ds b c)
  step ds plain b c e g a = subst (λ (l : List ℕ). Alike (plain_does plain c) (does l b c)) e (each plain b c g a)

  -- The books agree after each list of calls.
  agree_lent : (ds : List ℕ) (plain : PlainBook) (b : Book) (cs : List Call) → plain.desks ≡ ds → GoodPlain plain → Agrees plain b
      → Agrees (plain_after plain cs) (after ds b cs)
  unfolding after_calls
  agree_lent ds plain b [] e g a = a
  agree_lent ds plain b (ask q ∷ cs) e g a = agree_lent ds plain b cs e g a
  agree_lent ds plain b (change c ∷ cs) e g a =
      agree_lent ds (book_after plain (plain_does plain c)) (book_after b (does ds b c)) cs (still_lent plain c e) (call_good c g)
      (alike_books (step ds plain b c e g a) a)

  pub books_agree : (plain : PlainBook) (b : Book) (cs : List Call) → GoodPlain plain → Agrees plain b
      → Agrees (plain_after plain cs) (after plain.desks b cs)
  books_agree plain b cs g a = agree_lent plain.desks plain b cs refl g a

  -- And each list of calls is answered alike.
  alike_lent : EachSame → (ds : List ℕ) (plain : PlainBook) (b : Book) (cs : List Call) → plain.desks ≡ ds → GoodPlain plain
      → Agrees plain b
      → answers ds b cs ≡ plain_answers plain cs
  unfolding answers_to
  alike_lent same ds plain b [] e g a = refl
  alike_lent same ds plain b (ask q ∷ cs) e g a =
      ap₂ (λ (x : Answer (Said q)) (xs : Answers cs). asked x xs)
      (subst (λ (l : List ℕ). asks l b q ≡ plain_asks plain q) e (same plain b q g a)) (alike_lent same ds plain b cs e g a)
  alike_lent same ds plain b (change c ∷ cs) e g a =
      let one = step ds plain b c e g a in
      ap₂ (λ (x : Answer (Made c)) (xs : Answers cs). changed x xs) (alike_answer one)
      (alike_lent same ds (book_after plain (plain_does plain c)) (book_after b (does ds b c)) cs (still_lent plain c e) (call_good c g)
      (alike_books one a))

  pub answers_alike : EachSame → (plain : PlainBook) (b : Book) (cs : List Call) → GoodPlain plain → Agrees plain b
      → answers plain.desks b cs ≡ plain_answers plain cs
  answers_alike same plain b cs g a = alike_lent same plain.desks plain b cs refl g a
