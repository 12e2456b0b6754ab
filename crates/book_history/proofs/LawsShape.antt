-- A book out of shape turns every call back, so that it stays as it is. Assumes nothing.
use Prim.Native.Nat.{ℕ}
use mathlib.Core.Bool.{true, ◌||◌}
use mathlib.Core.List.{List, [], ◌∷◌}
use mathlib.Core.Path.{◌≡◌, refl, ap, ◌∙◌}
use lib.ListN.{length}
use Rattle.error.specs.Refusal.{Answer, refused, shape_bad}
use Rattle.error.proofs.LawsAnswer.{refuse_yes}
use Rattle.book_rules.specs.Outcomes.{book_after}
use Rattle.book_statements.specs.Calls.{Change, load, append, drop, Call, ask, change, after_calls}
use Rattle.book_limits.specs.Limits.{out_of_shape}
use Rattle.plain_book.specs.Book.{Book as PlainBook, serves as plain_serves, after as plain_after}
use Rattle.plain_book.proofs.LawsGood.{unshaped}
use Rattle.book_space.specs.Space.{mark_bad, shape_broken}
use Rattle.book_desks.specs.Counts.{counts_high}
use Rattle.book.specs.Book.{Book, with_desks}
use Rattle.book_history.specs.Calls.{serves, does, after}

-- A book over bytes whose lengths break the limits.
abbrev pub Unshaped : Book → Type 0
Unshaped b = out_of_shape (length b.space.body) (length b.heads) ≡ true

-- It turns every change back.
pub bytes_unshaped : (ds : List ℕ) (b : Book) (c : Change) → Unshaped b → does ds b c ≡ refused shape_bad
unfolding does with_desks shape_broken
bytes_unshaped ds b c e = by_call c
  where
    broken : (out_of_shape (length b.space.body) (length b.heads) || mark_bad (length b.space.body) b.space.mark)
        || counts_high (length b.space.body) b.counts ≡ true
    broken = rw e refl

    by_call : (c : Change) → does ds b c ≡ refused shape_bad
    by_call (load fit key ns) = refuse_yes _ _ _ broken
    by_call (append key n) = refuse_yes _ _ _ broken
    by_call (drop key) = refuse_yes _ _ _ broken

-- It is the same after any list of calls.
pub bytes_still : (ds : List ℕ) (b : Book) (cs : List Call) → Unshaped b → after ds b cs ≡ b
unfolding after_calls book_after
bytes_still ds b [] e = refl
bytes_still ds b (ask q ∷ cs) e = bytes_still ds b cs e
bytes_still ds b (change c ∷ cs) e =
    ap (λ (a : Answer _). after_calls (serves ds) (book_after b a) cs) (bytes_unshaped ds b c e) ∙ bytes_still ds b cs e

-- So is a plain book.
pub plain_still : (b : PlainBook) (cs : List Call) → out_of_shape b.size (length b.keys) ≡ true → plain_after b cs ≡ b
unfolding after_calls book_after
plain_still b [] e = refl
plain_still b (ask q ∷ cs) e = plain_still b cs e
plain_still b (change c ∷ cs) e = ap (λ (a : Answer _). after_calls plain_serves (book_after b a) cs) (unshaped b c e) ∙ plain_still b cs e
