-- `drop_at` meets its contract, by the kinds of places.
use Rattle.std.proofs.Common.{[], ◌∷◌, refl, sym, ap, ◌∙◌}
use Rattle.scripthash_layout.specs.declared.head.ShHeadValue.TheVariants.{Empty, Inline}
use Rattle.book_space.proofs.LawsTake.{release_none}
use Rattle.book_keys.proofs.LawsContent.{content_empty, content_inline}
use Rattle.book.specs.Book.{Book, seen}
use Rattle.book.specs.Answers.{book_of}
use Rattle.book_drop.specs.Steps.{drops_at}
use Rattle.book.proofs.LawsKey.{does_same}
use Rattle.book_drop.proofs.LawsDrop.{drop_yes}
use Rattle.book_drop.proofs.dropping.drop_at.Goals as goal

pub returns-in-Empty : goal.returns-in-Empty
returns-in-Empty c =
    let book : Book = book_of c.args.body.now c.args.heads.now c.args.mark.now c.args.free.now c.args.counts.now in
    let b = book in
    let desk = c.args.desk in
    let key = c.args.key in
    does_same
    (drop_yes desk b key Empty (record { numbers = []; blocks = []; pages = 0; padded = 0 }) 0 b.space
    (content_empty (seen b.space)) refl refl (sym (release_none b.space))
    ∙ ap (drops_at desk b key) (sym c.in-Empty.is))
    (c.accept_drop.ensures b b.space b.counts refl)

pub returns-in-Inline : goal.returns-in-Inline
returns-in-Inline c =
    let book : Book = book_of c.args.body.now c.args.heads.now c.args.mark.now c.args.free.now c.args.counts.now in
    let b = book in
    let desk = c.args.desk in
    let key = c.args.key in
    let entry = c.in-Inline.entry in
    let used = c.in-Inline.used in
    does_same
    (drop_yes desk b key (Inline entry used) (record { numbers = entry ∷ []; blocks = []; pages = 0; padded = 0 }) 1 b.space
    (content_inline (seen b.space) entry used) refl refl
    (sym (release_none b.space)) ∙ ap (drops_at desk b key) (sym c.in-Inline.is))
    (c.accept_drop-in-Inline.ensures b b.space b.counts refl)
