-- `claim_page` meets its contract: the units of a page are 32 bytes of the work list.
use Rattle.std.proofs.Common.{ℕ, ◌+◌, ◌*◌, ◌/◌, ◌≤◌, List, ◌≡◌, sym, ap, ◌∙◌, arith, length, replicate}
use Rattle.buffer.specs.Bytes.{part, overwrite}
use Rattle.scripthash_layout.specs.Sizes.{page_class}
use Rattle.book_start.specs.Start.{block}
use Rattle.book_start.specs.Units.{units_of, all_free, units_free, marked}
use Rattle.book_start.proofs.LawsBits.{units_long, units_part, units_overwrite, units_full, bytes_free}
use Rattle.book_start.proofs.LawsUnits.{claim_kept, claim_marks}
use Rattle.book_start.proofs.units.claim_page.Goals as goal

-- Whether its units are free is told by its bytes.
page_free : (off : ℕ) (work : List ℕ) → 8 * (off / 128) ≡ off / 16 → all_free (part work (off / 128) 32)
    ≡ units_free (block page_class off) (units_of work)
unfolding units_free
page_free off work at =
    sym (bytes_free (part work (off / 128) 32)) ∙ ap all_free (units_part work (off / 128) 32 ∙ ap (λ (u : ℕ). part (units_of work) u 256)
    at)

-- Its units are marked with its bytes.
page_marked : (off : ℕ) (work after : List ℕ) → 8 * (off / 128) ≡ off / 16 → after ≡ overwrite work (off / 128) (replicate 32 255)
    → units_of after ≡ marked (block page_class off) (units_of work)
unfolding marked
page_marked off work after at e =
    ap units_of e ∙ units_overwrite work (off / 128) (replicate 32 255)
    ∙ ap (λ (u : ℕ). overwrite (units_of work) u (units_of (replicate 32 255))) at
    ∙ ap (overwrite (units_of work) (off / 16)) (units_full 32)

pub bytes_free-requires : goal.bytes_free-requires
bytes_free-requires c =
    let inside : c.args.off / 128 + 32 ≤ length c.args.work.now =
    omega (arith, c.requires.inside, c.requires.paged, units_long c.args.work.now) in
    inside

pub returns-then-not-bytes_free : goal.returns-then-not-bytes_free
returns-then-not-bytes_free c =
    let at_byte : 8 * (c.args.off / 128) ≡ c.args.off / 16 = omega (arith, c.requires.paged) in
    let free = sym (page_free c.args.off c.args.work.now at_byte) ∙ sym c.bytes_free.ensures ∙ c.if-not-bytes_free.true in
    record { free = sym free; list = sym (claim_kept (block page_class c.args.off) (units_of c.args.work.now) free) }

pub fill_bytes-requires : goal.fill_bytes-requires
fill_bytes-requires c =
    let inside : c.args.off / 128 + 32 ≤ length c.args.work.now =
    omega (arith, c.requires.inside, c.requires.paged, units_long c.args.work.now) in
    inside

pub returns : goal.returns
returns c =
    let at_byte : 8 * (c.args.off / 128) ≡ c.args.off / 16 = omega (arith, c.requires.paged) in
    let free = sym (page_free c.args.off c.args.work.now at_byte) ∙ sym c.bytes_free.ensures ∙ c.if-not-bytes_free.false in
    record {
      free = sym free;
      list = page_marked c.args.off c.args.work.now _ at_byte c.fill_bytes.ensures
          ∙ sym (claim_marks (block page_class c.args.off) (units_of c.args.work.now) free);
    }
