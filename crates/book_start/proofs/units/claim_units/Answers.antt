-- `claim_units` meets its contract: its units are those of the slab's bytes.
use Rattle.std.proofs.Common.{◌/◌, ◌≤◌, ◌≡◌, sym, ◌∙◌, arith}
use Rattle.scripthash_layout.specs.Sizes.{slab_bytes}
use Rattle.scripthash_free.proofs.LawsBlock.{bytes_fit}
use Rattle.book_start.specs.Start.{block}
use Rattle.scripthash_layout.proofs.LawsSizes.{size_mono}
use Rattle.book_start.specs.Steps.{UnitsIn}
use Rattle.book_start.specs.Units.{units_of, units_free}
use Rattle.book_start.proofs.LawsBits.{units_long}
use Rattle.book_start.proofs.LawsUnits.{units_by, mark_by, claim_kept, claim_marks}
use Rattle.book_start.proofs.units.claim_units.Goals as goal

pub units_free-requires : goal.units_free-requires
units_free-requires c =
    let size : c.slab_bytes.result ≡ slab_bytes c.args.class = c.slab_bytes.ensures ∙ bytes_fit c.args.class c.requires.class_to_8 in
    let inside : UnitsIn (c.args.off / 16) (c.slab_bytes.result / 16) c.args.work.now =
    let e = size in
    let p = c.requires.inside in
    let long = units_long c.args.work.now in
    let few : slab_bytes c.args.class ≤ 4096 = size_mono 4 {c = c.args.class} {d = 8} c.requires.class_to_8 in
    record { inside = omega arith; few = omega arith } in
    inside

pub returns-then-not-units_free : goal.returns-then-not-units_free
returns-then-not-units_free c =
    let size : c.slab_bytes.result ≡ slab_bytes c.args.class = c.slab_bytes.ensures ∙ bytes_fit c.args.class c.requires.class_to_8 in
    let told : c.units_free.result ≡ units_free (block c.args.class c.args.off) (units_of c.args.work.now) =
    c.units_free.ensures ∙ units_by c.args.class c.args.off _ size (units_of c.args.work.now) in
    let free = sym told ∙ c.if-not-units_free.true in
    record { free = sym free; list = sym (claim_kept (block c.args.class c.args.off) (units_of c.args.work.now) free) }

pub mark_units-requires : goal.mark_units-requires
mark_units-requires c =
    let size : c.slab_bytes.result ≡ slab_bytes c.args.class = c.slab_bytes.ensures ∙ bytes_fit c.args.class c.requires.class_to_8 in
    let inside : UnitsIn (c.args.off / 16) (c.slab_bytes.result / 16) c.args.work.now =
    let e = size in
    let p = c.requires.inside in
    let long = units_long c.args.work.now in
    let few : slab_bytes c.args.class ≤ 4096 = size_mono 4 {c = c.args.class} {d = 8} c.requires.class_to_8 in
    record { inside = omega arith; few = omega arith } in
    inside

pub returns : goal.returns
returns c =
    let size : c.slab_bytes.result ≡ slab_bytes c.args.class = c.slab_bytes.ensures ∙ bytes_fit c.args.class c.requires.class_to_8 in
    let told : c.units_free.result ≡ units_free (block c.args.class c.args.off) (units_of c.args.work.now) =
    c.units_free.ensures ∙ units_by c.args.class c.args.off _ size (units_of c.args.work.now) in
    let free = sym told ∙ c.if-not-units_free.false in
    record {
      free = sym free;
      list = c.mark_units.ensures
          ∙ mark_by c.args.class c.args.off _ size (units_of c.args.work.now)
          ∙ sym (claim_marks (block c.args.class c.args.off) (units_of c.args.work.now) free);
    }
