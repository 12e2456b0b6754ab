-- `place_in_slab` meets its contract: what the take tells decides.
use Rattle.std.proofs.Common.{◌≡◌, ap, ◌∙◌, arith, refl}
use Rattle.std.proofs.lemmas.Result.{err_from_is_err_and}
use Rattle.error.specs.Refusal.{accepted}
use Rattle.scripthash_free.proofs.LawsBlock.{bytes_fit}
use Rattle.book_space.specs.Space.{Space, space}
use Rattle.book_space.specs.Desks.{TakenFor, slab_for}
use Rattle.book_space.proofs.LawsDesks.{slab_for_lem}
use Rattle.book.proofs.LawsPlace.{took_at, took_none, block_lies, slab_refused, slab_placed}
use Rattle.book.proofs.place.place_in_slab.Goals as goal

pub returns-in_err-off : goal.returns-in_err-off
returns-in_err-off c =
    let p = err_from_is_err_and c.from_residual.result c.from_residual.ensures.1 in
    let before : Space = space c.args.body.now c.args.mark.now c.args.free.now in
    let after : Space = space c.slab_for.new.body c.slab_for.new.mark c.slab_for.new.free in
    rw (p.1, p.2)
    (slab_refused c.args.desk before c.args.counts.now c.args.fks.now after c.args.counts.now c.args.class
    (took_none before c.args.counts.now after c.args.counts.now (slab_for c.args.desk c.args.class before c.args.counts.now)
    c.in_err-off.ensures refl))

pub put_slab-requires : goal.put_slab-requires
put_slab-requires c =
    let before : Space = space c.args.body.now c.args.mark.now c.args.free.now in
    let after : Space = space c.slab_for.new.body c.slab_for.new.mark c.slab_for.new.free in
    let taken : TakenFor = record { off = c.in_ok-off.off; space = after; counts = c.args.counts.now } in
    let took : slab_for c.args.desk c.args.class before c.args.counts.now ≡ accepted taken =
    took_at before c.args.counts.now after c.args.counts.now _ c.in_ok-off.ensures refl in
    let pre = c.requires in
    let size = c.slab_bytes-size.ensures ∙ bytes_fit c.args.class (omega (arith, pre.low)) in
    let lies = block_lies c.args.class before taken pre.shape (omega (arith, pre.low))
    (slab_for_lem c.args.desk before c.args.counts.now c.args.class took) in
    record {
      inside = omega (arith, size, lies.ends);
      fits = omega (arith, size, pre.fits);
      few = omega (arith, pre.few);
      rises = pre.rises;
    }

pub returns : goal.returns
returns c =
    let before : Space = space c.args.body.now c.args.mark.now c.args.free.now in
    let after : Space = space c.slab_for.new.body c.slab_for.new.mark c.slab_for.new.free in
    let taken : TakenFor = record { off = c.in_ok-off.off; space = after; counts = c.args.counts.now } in
    let took : slab_for c.args.desk c.args.class before c.args.counts.now ≡ accepted taken =
    took_at before c.args.counts.now after c.args.counts.now _ c.in_ok-off.ensures refl in
    slab_placed c.args.desk before c.args.counts.now c.args.fks.now after c.args.counts.now c.args.class took c.put_slab.new.body
    c.put_slab.ensures
