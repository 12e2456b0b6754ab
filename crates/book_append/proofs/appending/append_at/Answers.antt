-- `append_at_lem` meets its contract: the place decides which append it is.
use Rattle.std.proofs.Common.{◌≡◌, refl, ap, ◌∙◌}
use Rattle.scripthash_layout.specs.declared.head.ShHeadValue.{ShHeadValue}
use Rattle.error.specs.Refusal.{accepted}
use Rattle.book.specs.Book.{Book, word_of}
use Rattle.book.specs.Answers.{book_of}
use Rattle.book_append.specs.Appends.{append_at}
use Rattle.book_append.proofs.LawsAppend.{does_as, at_empty, inline_above}
use Rattle.book_append.proofs.appending.append_at.Goals as goal

pub append_inline-requires : goal.append_inline-requires
append_inline-requires c =
    let b : Book = book_of c.args.body.now c.args.heads.now c.args.mark.now c.args.free.now c.args.counts.now in
    record {
      to_append = c.requires.to_append;
      some = inline_above (word_of c.args.key b) _ _ (c.requires.stands ∙ ap accepted c.in-Inline.is);
    }

pub returns-in-Empty : goal.returns-in-Empty
returns-in-Empty c =
    let b : Book = book_of c.args.body.now c.args.heads.now c.args.mark.now c.args.free.now c.args.counts.now in
    let placed :
    (place : ShHeadValue)
    → c.args.place ≡ place
    → append_at c.args.desk b c.args.key c.args.n c.args.place ≡ append_at c.args.desk b c.args.key c.args.n place =
    λ _ e.
    ap (append_at c.args.desk b c.args.key c.args.n) e in
    does_as (placed _ c.in-Empty.is ∙ at_empty c.args.desk b c.args.key c.args.n)
    (c.accept_append.ensures b b.space b.counts refl)
