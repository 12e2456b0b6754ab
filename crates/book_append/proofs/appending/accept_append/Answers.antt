-- `accept_append` meets its contract: the key's word is written, and the place is told.
use Rattle.std.proofs.Common.{List, refl, sym, ap, ◌∙◌, ℕ, set}
use Rattle.error.specs.Refusal.{answered}
use Rattle.book_rules.specs.Outcomes.{book_after}
use Rattle.book_space.specs.Space.{Space}
use Rattle.book.specs.Book.{Book, head_word}
use Rattle.book_append.proofs.appending.accept_append.Goals as goal

-- a book of head words, a space and counts
abbrev with_heads : List ℕ → Space → List ℕ → Book
with_heads heads s counts = record { heads = heads; space = s; counts = counts }

pub returns : goal.returns
unfolding book_after answered
returns c b s counts e =
    let a = c.args in
    record {
      told = refl;
      left = ap (λ (h : List ℕ). with_heads h s counts) (c.put_head.ensures
          ∙ ap (λ (h : List ℕ). set h a.key (head_word a.place)) (sym e));
    }
