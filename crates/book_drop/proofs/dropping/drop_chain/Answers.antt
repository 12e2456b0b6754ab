-- `drop_chain` meets its contract: the chain decides, then the counts, and its pages are given back.
use Rattle.std.proofs.Common.{◌<◌, false, ◌≡◌, refl, sym, ap, ◌∙◌, arith, length}
use Rattle.std.proofs.lemmas.Result.{err_from_is_err_and}
use Rattle.error.specs.Refusal.{accepted}
use Rattle.error.proofs.LawsAnswer.{was_accepted, was_refused}
use Rattle.scripthash_layout.specs.declared.head.ShHeadValue.TheVariants.{Extent}
use Rattle.book_space.specs.Space.{space}
use Rattle.book_keys.specs.Keys.{Chain, chain_at, content_at}
use Rattle.book_keys.specs.Steps.{ChainEndOf, chain_end_of, PagesLeft}
use Rattle.book_keys.proofs.LawsSound.{was_sound, unsound_told}
use Rattle.book_keys.proofs.LawsKeys.{chain_known}
use Rattle.book_keys.proofs.LawsContent.{in_pages, content_pages, content_no_pages}
use Rattle.book_space.proofs.LawsSteps.{number_some}
use Rattle.book.specs.Book.{Book, seen}
use Rattle.book.specs.Answers.{book_of}
use Rattle.book.proofs.LawsKey.{does_same}
use Rattle.book_drop.proofs.LawsDrop.{ends_refused, drop_no, drop_turned, drop_given}
use Rattle.book_keys.proofs.LawsNext.{chain_left}
use Rattle.book_drop.proofs.dropping.drop_chain.Goals as goal

pub returns-in_err-first : goal.returns-in_err-first
returns-in_err-first c =
    let p = err_from_is_err_and c.from_residual.result c.from_residual.ensures.1 in
    let a = c.args in
    let book : Book = book_of a.body.now a.heads.now a.mark.now a.free.now a.counts.now in
    let bad = unsound_told (chain_at (seen book.space) a.last) (sym (was_refused (chain_end_of false) _ (sym c.in_err-first.ensures))) in
    rw (p.1, p.2, bad.0)
    (ends_refused book _ (drop_no a.desk book a.key (Extent a.last) (content_no_pages (seen book.space) a.last bad.2)))

pub give_back-requires : goal.give_back-requires
give_back-requires c =
    let book : Book = book_of c.args.body.now c.args.heads.now c.args.mark.now c.args.free.now c.args.counts.now in
    let end : ChainEndOf =
    record { first = c.in_ok-first.field-0.first; length = c.in_ok-first.field-0.length; pages = c.in_ok-first.field-0.pages; padded = c.in_ok-first.field-0.padded } in
    let walked : (x : Chain) × (chain_at (seen book.space) c.args.last ≡ accepted x) × (chain_end_of false x ≡ end) =
    let got = was_accepted (chain_end_of false) _ (sym c.in_ok-first.ensures) in
    (got.0, was_sound _ got.1, got.2) in
    let all : length walked.0.offs ≡ end.pages = ap (λ (x : ChainEndOf). x.pages) walked.2 in
    let some : 0 < end.pages = omega (arith, all, (chain_known (seen book.space) c.args.last walked.0 walked.1).some.0) in
    record { known = c.requires.known; some = some }

pub returns-in_err-give_back : goal.returns-in_err-give_back
returns-in_err-give_back c =
    let p = err_from_is_err_and c.from_residual-in_err-give_back.result c.from_residual-in_err-give_back.ensures.1 in
    let book : Book = book_of c.args.body.now c.args.heads.now c.args.mark.now c.args.free.now c.args.counts.now in
    let end : ChainEndOf =
    record { first = c.in_ok-first.field-0.first; length = c.in_ok-first.field-0.length; pages = c.in_ok-first.field-0.pages; padded = c.in_ok-first.field-0.padded } in
    let walked : (x : Chain) × (chain_at (seen book.space) c.args.last ≡ accepted x) × (chain_end_of false x ≡ end) =
    let got = was_accepted (chain_end_of false) _ (sym c.in_ok-first.ensures) in
    (got.0, was_sound _ got.1, got.2) in
    let held : content_at (seen book.space) (Extent c.args.last) ≡ accepted (in_pages walked.0) =
    content_pages (seen book.space) c.args.last walked.0 walked.1 in
    let all : length walked.0.offs ≡ end.pages = ap (λ (x : ChainEndOf). x.pages) walked.2 in
    let some : 0 < end.pages = omega (arith, all, (chain_known (seen book.space) c.args.last walked.0 walked.1).some.0) in
    let a = c.args in
    let k = walked in
    rw (p.1, p.2)
    (drop_turned a.desk book a.key (Extent a.last) (in_pages k.0) end.pages held all some
    c.in_err-give_back.ensures (number_some _))

pub release_chain-requires : goal.release_chain-requires
release_chain-requires c =
    let book : Book = book_of c.args.body.now c.args.heads.now c.args.mark.now c.args.free.now c.args.counts.now in
    let end : ChainEndOf =
    record { first = c.in_ok-first.field-0.first; length = c.in_ok-first.field-0.length; pages = c.in_ok-first.field-0.pages; padded = c.in_ok-first.field-0.padded } in
    let walked : (x : Chain) × (chain_at (seen book.space) c.args.last ≡ accepted x) × (chain_end_of false x ≡ end) =
    let got = was_accepted (chain_end_of false) _ (sym c.in_ok-first.ensures) in
    (got.0, was_sound _ got.1, got.2) in
    let left : PagesLeft (seen book.space) end.first end.pages walked.0.offs =
    chain_left false (seen book.space) c.args.last walked.0 end c.requires.within walked.1 walked.2 in
    (c.args.mark.now, walked.0.offs, left)

pub returns : goal.returns
returns c =
    let book : Book = book_of c.args.body.now c.args.heads.now c.args.mark.now c.args.free.now c.args.counts.now in
    let end : ChainEndOf =
    record { first = c.in_ok-first.field-0.first; length = c.in_ok-first.field-0.length; pages = c.in_ok-first.field-0.pages; padded = c.in_ok-first.field-0.padded } in
    let walked : (x : Chain) × (chain_at (seen book.space) c.args.last ≡ accepted x) × (chain_end_of false x ≡ end) =
    let got = was_accepted (chain_end_of false) _ (sym c.in_ok-first.ensures) in
    (got.0, was_sound _ got.1, got.2) in
    let left : PagesLeft (seen book.space) end.first end.pages walked.0.offs =
    chain_left false (seen book.space) c.args.last walked.0 end c.requires.within walked.1 walked.2 in
    let held : content_at (seen book.space) (Extent c.args.last) ≡ accepted (in_pages walked.0) =
    content_pages (seen book.space) c.args.last walked.0 walked.1 in
    let all : length walked.0.offs ≡ end.pages = ap (λ (x : ChainEndOf). x.pages) walked.2 in
    let some : 0 < end.pages = omega (arith, all, (chain_known (seen book.space) c.args.last walked.0 walked.1).some.0) in
    let done = c.accept_drop in
    let a = c.args in
    let k = walked in
    let after = space c.release_chain.new.body a.mark.now c.release_chain.new.free in
    does_same
    (drop_given a.desk book a.key (Extent a.last) (in_pages k.0) end.pages held all some
    c.in_ok-give_back.ensures refl end.length after (ap (λ (x : ChainEndOf). x.length) k.2)
    (c.release_chain.ensures a.mark.now k.0.offs left))
    (done.ensures book after c.give_back.new.counts refl)
