-- `place_in_page` meets its contract: what the take tells decides.
use Rattle.std.proofs.Common.{◌≡◌, ap, arith, refl}
use Rattle.std.proofs.lemmas.Result.{err_from_is_err_and}
use Rattle.error.specs.Refusal.{accepted}
use Rattle.scripthash_layout.specs.Sizes.{page_class}
use Rattle.book_space.specs.Space.{Space, space}
use Rattle.book_space.specs.Desks.{TakenFor, page_for}
use Rattle.book_space.proofs.LawsDesks.{page_for_lem}
use Rattle.book.proofs.LawsPlace.{took_at, took_none, block_lies, page_named, page_refused, page_placed}
use Rattle.book.proofs.place.place_in_page.Goals as goal

pub returns-in_err-off : goal.returns-in_err-off
returns-in_err-off c =
    let p = err_from_is_err_and c.from_residual.result c.from_residual.ensures.1 in
    let before : Space = space c.args.body.now c.args.mark.now c.args.free.now in
    let after : Space = space c.page_for.new.body c.page_for.new.mark c.page_for.new.free in
    rw (p.1, p.2)
    (page_refused c.args.desk before c.args.counts.now c.args.fks.now after c.page_for.new.counts
    (took_none before c.args.counts.now after c.page_for.new.counts (page_for c.args.desk before c.args.counts.now)
    c.in_err-off.ensures refl))

pub put_last_page-requires : goal.put_last_page-requires
put_last_page-requires c =
    let before : Space = space c.args.body.now c.args.mark.now c.args.free.now in
    let after : Space = space c.page_for.new.body c.page_for.new.mark c.page_for.new.free in
    let taken : TakenFor = record { off = c.in_ok-off.off; space = after; counts = c.page_for.new.counts } in
    let took : page_for c.args.desk before c.args.counts.now ≡ accepted taken =
    took_at before c.args.counts.now after c.page_for.new.counts _ c.in_ok-off.ensures refl in
    let pre = c.requires in
    let page = page_for_lem c.args.desk before c.args.counts.now took in
    let lies = block_lies page_class before taken pre.shape (omega arith) page in
    record {
      inside = omega (arith, lies.ends);
      last = record {
        numbers = record { rises = pre.rises; fits = pre.fits };
        base_named = page_named before taken pre.shape page;
        some_extents = omega arith;
      };
    }

pub returns : goal.returns
returns c =
    let before : Space = space c.args.body.now c.args.mark.now c.args.free.now in
    let after : Space = space c.page_for.new.body c.page_for.new.mark c.page_for.new.free in
    let taken : TakenFor = record { off = c.in_ok-off.off; space = after; counts = c.page_for.new.counts } in
    let took : page_for c.args.desk before c.args.counts.now ≡ accepted taken =
    took_at before c.args.counts.now after c.page_for.new.counts _ c.in_ok-off.ensures refl in
    page_placed c.args.desk before c.args.counts.now c.args.fks.now after c.page_for.new.counts took c.put_last_page.new.body
    c.put_last_page.ensures
