-- `sh_page_try_append`: a spot that was found has room in the page.
use mathlib.Core.Option.{some}
use mathlib.Core.Path.{◌≡◌, sym, ap, ◌∙◌}
use native.Mathlib.Omega.{arith}
use Rattle.std.specs.Prelude.{Option, Ok}
use Rattle.error.specs.Refusal.{accepted}
use Rattle.scripthash_pages.specs.Entries.{Spot, append_spot}
use Rattle.scripthash_pages.specs.Answers.{spot_answer}
use Rattle.scripthash_pages.specs.declared.appending.AppendSpot.{AppendSpot}
use Rattle.scripthash_pages.proofs.LawsAppend.{spot_accepted, scan_ends}
use Rattle.scripthash_pages.proofs.appending.sh_page_try_append.Goals as goal

pub append_form-requires : goal.append_form-requires
append_form-requires c =
    let spot : Spot = record { at = c.in-Some.spot.at; difference = c.in-Some.spot.difference } in
    let is : append_spot c.args.page.now c.args.fk ≡ accepted (some spot) =
    sym c.in_ok-spot.ensures ∙ ap (λ (o : Option AppendSpot). spot_answer (Ok o)) c.in-Some.is in
    let roomy = spot_accepted c.args.page.now c.args.fk spot is in
    let ends = scan_ends c.args.page.now roomy.scanned roomy.is in
    (omega (arith, ends.long), omega (arith, ends.few), omega (arith, roomy.fits, ends.long))
