-- `append_past_at` meets its contract: the place decides which append it is.
use Rattle.std.proofs.Common.{ℕ, ◌≡◌, refl, ap, ◌∙◌, subst}
use Rattle.error.specs.Refusal.{accepted}
use Rattle.scripthash_layout.specs.declared.head.ShHeadValue.{ShHeadValue}
use Rattle.book.specs.Book.{Book, word_of, seen}
use Rattle.book.specs.Answers.{book_of}
use Rattle.book_append.specs.Appends.{append_at}
use Rattle.book_append.proofs.LawsAppend.{does_as, at_empty, inline_above}
use Rattle.book_extend.specs.Steps.{NotTaken, PastAt}
use Rattle.book_extend.proofs.past.append_past_at.Goals as goal

-- a number that doesn't stay at one place doesn't at another that is the same
past_as : (desk : ℕ) (b : Book) (key n : ℕ) {place same : ShHeadValue} → place ≡ same → PastAt desk b key n place → PastAt desk b key n same
past_as desk b key n e p =
    record {
      to_append = p.to_append;
      stands = p.stands ∙ ap accepted e;
      not_taken = subst (NotTaken (seen b.space) n) e p.not_taken;
    }

pub append_inline-requires : goal.append_inline-requires
append_inline-requires c =
    let b : Book = book_of c.args.body.now c.args.heads.now c.args.mark.now c.args.free.now c.args.counts.now in
    record {
      to_append = c.requires.to_append;
      some = inline_above (word_of c.args.key b) _ _ (c.requires.stands ∙ ap accepted c.in-Inline.is);
    }

pub slab_past-requires : goal.slab_past-requires
slab_past-requires c =
    let b : Book = book_of c.args.body.now c.args.heads.now c.args.mark.now c.args.free.now c.args.counts.now in
    past_as c.args.desk b c.args.key c.args.n c.in-Slab.is c.requires

pub page_past-requires : goal.page_past-requires
page_past-requires c =
    let b : Book = book_of c.args.body.now c.args.heads.now c.args.mark.now c.args.free.now c.args.counts.now in
    past_as c.args.desk b c.args.key c.args.n c.in-Extent.is c.requires

pub returns-in-Empty : goal.returns-in-Empty
returns-in-Empty c =
    let b : Book = book_of c.args.body.now c.args.heads.now c.args.mark.now c.args.free.now c.args.counts.now in
    does_as (ap (append_at c.args.desk b c.args.key c.args.n) c.in-Empty.is ∙ at_empty c.args.desk b c.args.key c.args.n)
    (c.accept_append.ensures b b.space b.counts refl)

pub returns-in-Inline : goal.returns-in-Inline
returns-in-Inline c =
    let b : Book = book_of c.args.body.now c.args.heads.now c.args.mark.now c.args.free.now c.args.counts.now in
    does_as (ap (append_at c.args.desk b c.args.key c.args.n) c.in-Inline.is) (c.append_inline.ensures _)

pub returns-in-Slab : goal.returns-in-Slab
returns-in-Slab c =
    let b : Book = book_of c.args.body.now c.args.heads.now c.args.mark.now c.args.free.now c.args.counts.now in
    does_as (ap (append_at c.args.desk b c.args.key c.args.n) c.in-Slab.is) c.slab_past.ensures

pub returns-in-Extent : goal.returns-in-Extent
returns-in-Extent c =
    let b : Book = book_of c.args.body.now c.args.heads.now c.args.mark.now c.args.free.now c.args.counts.now in
    does_as (ap (append_at c.args.desk b c.args.key c.args.n) c.in-Extent.is) c.page_past.ensures
