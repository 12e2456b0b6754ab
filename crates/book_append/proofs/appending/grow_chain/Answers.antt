-- `grow_chain` meets its contract: what the take tells decides; the pages' writes are those of the definition.
use Rattle.std.proofs.Common.{ℕ, ◌+◌, ◌≤◌, [], ◌∷◌, ◌≡◌, refl, ap, ◌∙◌, arith, length}
use Rattle.std.proofs.lemmas.Result.{err_from_is_err_and}
use Rattle.error.specs.Refusal.{accepted}
use Rattle.buffer.specs.Bytes.{overwrite}
use Rattle.scripthash_layout.specs.Sizes.{page_class, page_size}
use Rattle.book_space.specs.Space.{Space, space}
use Rattle.book_space.specs.Desks.{TakenFor, page_for}
use Rattle.book_keys.proofs.LawsPages.{page_inside}
use Rattle.book_blocks.specs.Blocks.{last_page_of}
use Rattle.book.specs.Book.{Book, seen}
use Rattle.book.specs.Answers.{book_of}
use Rattle.book.proofs.LawsKey.{does_still}
use Rattle.book_space.proofs.LawsDesks.{page_for_lem}
use Rattle.book.proofs.LawsPlace.{took_at, took_none, block_lies, page_named}
use Rattle.book_append.proofs.LawsAppend.{SoundTail, tail_sound, does_as, one_fits, chain_no, chain_yes}
use Rattle.book_append.proofs.appending.grow_chain.Goals as goal

pub returns-in_err-off : goal.returns-in_err-off
returns-in_err-off c =
    let p = err_from_is_err_and c.from_residual.result c.from_residual.ensures.1 in
    let a = c.args in
    let b : Book = book_of a.body.now a.heads.now a.mark.now a.free.now a.counts.now in
    let after : Space = space c.page_for.new.body c.page_for.new.mark c.page_for.new.free in
    let none = took_none b.space b.counts after c.page_for.new.counts (page_for a.desk b.space b.counts) c.in_err-off.ensures refl in
    rw (p.1, p.2)
    (does_still b (chain_no a.desk b a.key a.n a.last a.first a.creates c.requires none.0) none.1 none.2)

pub link_page-requires : goal.link_page-requires
link_page-requires c =
    let b : Book = book_of c.args.body.now c.args.heads.now c.args.mark.now c.args.free.now c.args.counts.now in
    let sound : SoundTail b.space c.args.last c.requires.tail = tail_sound b.space c.args.last c.requires.tail c.requires.sound in
    let last_inside : c.args.last + page_size ≤ length c.args.body.now =
    page_inside (seen b.space) c.args.last sound.stands c.args.body.now c.requires.to_append.shape.within in
    let h = last_inside in omega arith

pub put_last_page-requires : goal.put_last_page-requires
put_last_page-requires c =
    let b : Book = book_of c.args.body.now c.args.heads.now c.args.mark.now c.args.free.now c.args.counts.now in
    let after : Space = space c.page_for.new.body c.page_for.new.mark c.page_for.new.free in
    let taken : TakenFor = record { off = c.in_ok-off.off; space = after; counts = c.page_for.new.counts } in
    let took : page_for c.args.desk b.space b.counts ≡ accepted taken =
    took_at b.space b.counts after c.page_for.new.counts _ c.in_ok-off.ensures refl in
    let pre = c.requires.to_append in
    let page = page_for_lem c.args.desk b.space b.counts took in
    let lies = block_lies page_class b.space taken pre.shape (omega arith) page in
    record {
      inside = omega (arith, lies.ends);
      last = record {
        numbers = one_fits c.args.n pre.above pre.low;
        base_named = page_named b.space taken pre.shape page;
        some_extents = omega arith;
      };
    }

pub returns : goal.returns
returns c =
    let b : Book = book_of c.args.body.now c.args.heads.now c.args.mark.now c.args.free.now c.args.counts.now in
    let after : Space = space c.page_for.new.body c.page_for.new.mark c.page_for.new.free in
    let taken : TakenFor = record { off = c.in_ok-off.off; space = after; counts = c.page_for.new.counts } in
    let took : page_for c.args.desk b.space b.counts ≡ accepted taken =
    took_at b.space b.counts after c.page_for.new.counts _ c.in_ok-off.ensures refl in
    let a = c.args in
    does_as
    (chain_yes a.desk b a.key a.n a.last a.first a.creates c.requires c.link_page.new.body
    c.put_last_page.new.body took
    c.link_page.ensures
    (c.put_last_page.ensures
    ∙ ap (λ (n : ℕ). overwrite c.link_page.new.body c.in_ok-off.off (last_page_of a.first c.in_ok-off.off 1 n (a.n ∷ [])))
    c.total_with-total.ensures))
    (c.accept_append.ensures b (space c.put_last_page.new.body after.mark after.free)
    c.page_for.new.counts refl)
