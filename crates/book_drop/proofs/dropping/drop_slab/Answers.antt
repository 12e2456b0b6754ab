-- `drop_slab` meets its contract: the slab decides, and is the one block that is given back.
use Rattle.std.proofs.Common.{ℕ, List, ◌≡◌, refl, sym, ap, ◌∙◌, length}
use Rattle.std.proofs.lemmas.Result.{err_from_is_err_and}
use Rattle.error.specs.Refusal.{Answer, accepted, refused}
use Rattle.error.proofs.LawsAnswer.{was_accepted, was_refused}
use Rattle.scripthash_layout.specs.declared.head.ShHeadValue.TheVariants.{Slab}
use Rattle.scripthash_stream.specs.Stream.{Scan, end_from}
use Rattle.scripthash_stream.specs.Answers.{scan_answer}
use Rattle.book_space.specs.Space.{Space, space}
use Rattle.book_space.proofs.LawsLists.{stands_further}
use Rattle.book_keys.specs.Keys.{soundly, slab_scan}
use Rattle.book_keys.proofs.LawsSound.{was_sound, unsound_told}
use Rattle.book_keys.proofs.LawsSlab.{SoundSlab, slab_sound}
use Rattle.book_keys.proofs.LawsContent.{in_slab, content_slab, content_no_slab}
use Rattle.book.specs.Book.{Book, seen}
use Rattle.book.specs.Answers.{book_of}
use Rattle.book.proofs.LawsKey.{does_same}
use Rattle.book_drop.proofs.LawsDrop.{ends_refused, drop_no, drop_yes}
use Rattle.book_drop.proofs.dropping.drop_slab.Goals as goal

pub returns-in_err-slab_end : goal.returns-in_err-slab_end
returns-in_err-slab_end c desk counts =
    let p = err_from_is_err_and c.from_residual.result c.from_residual.ensures.1 in
    let a = c.args in
    let here : Space = space a.body.now a.mark.now a.free.now in
    let bad = unsound_told (slab_scan (seen here) a.class a.used a.off) (sym (was_refused (end_from 0) _ (sym c.in_err-slab_end.ensures))) in
    rw (p.1, p.2, bad.0)
    (ends_refused (book_of a.body.now a.heads.now a.mark.now a.free.now counts) _
    (drop_no desk (book_of a.body.now a.heads.now a.mark.now a.free.now counts) a.key (Slab a.class a.used a.off)
    (content_no_slab (seen here) a.class a.used a.off bad.2)))

pub release_block-requires : goal.release_block-requires
release_block-requires c =
    let here : Space = space c.args.body.now c.args.mark.now c.args.free.now in
    let scan : Answer Scan = slab_scan (seen here) c.args.class c.args.used c.args.off in
    let scanned : (x : Scan) × (scan ≡ accepted x) =
    let got = was_accepted (end_from 0) (soundly scan) (sym c.in_ok-slab_end.ensures) in
    (got.0, was_sound scan got.1) in
    let sound : SoundSlab (seen here) c.args.class c.args.used c.args.off scanned.0 =
    slab_sound (seen here) c.args.class c.args.used c.args.off scanned.0 scanned.1 in
    let a = c.args in
    stands_further a.class a.off a.mark.now (length a.body.now) c.requires.within sound.stands

pub returns : goal.returns
returns c desk counts =
    let here : Space = space c.args.body.now c.args.mark.now c.args.free.now in
    let scan : Answer Scan = slab_scan (seen here) c.args.class c.args.used c.args.off in
    let book : List ℕ → Book = λ counts. book_of c.args.body.now c.args.heads.now c.args.mark.now c.args.free.now counts in
    let scanned : (x : Scan) × (scan ≡ accepted x) =
    let got = was_accepted (end_from 0) (soundly scan) (sym c.in_ok-slab_end.ensures) in
    (got.0, was_sound scan got.1) in
    let sound : SoundSlab (seen here) c.args.class c.args.used c.args.off scanned.0 =
    slab_sound (seen here) c.args.class c.args.used c.args.off scanned.0 scanned.1 in
    let done = c.accept_drop in
    let a = c.args in
    let after = space c.release_block.new.body a.mark.now c.release_block.new.free in
    does_same
    (drop_yes desk (book counts) a.key (Slab a.class a.used a.off)
    (in_slab (seen here) a.class a.off scanned.0) c.from.result after
    (content_slab (seen here) a.class a.used a.off scanned.0 scanned.1) refl (sound.counted ∙ sym c.from.ensures)
    (c.release_block.ensures a.mark.now))
    (done.ensures (book counts) after counts refl)
