-- `short_slab` meets its contract: the count in its first two bytes, then the try at its stream.
use Rattle.std.proofs.Common.{ℕ, ◌^◌, List, sym, ◌∙◌, subst, arith}
use Rattle.buffer.proofs.LawsBytes.{part_to_end}
use Rattle.scripthash_stream.specs.Stream.{scan}
use Rattle.scripthash_forms.specs.Quick.{ShortRead}
use Rattle.book_keys.proofs.LawsListed.{short_slab, slab_untried}
use Rattle.book_keys.proofs.slab.short_slab.Goals as goal

pub returns-then-taken-eq0 : goal.returns-then-taken-eq0
returns-then-taken-eq0 c =
    slab_untried c.read_short_stream-taken.result c.args.out.now c.read_short_stream-taken.new.out _ _ c.if-taken-eq0.true c.read_short_stream-taken.ensures

pub returns : goal.returns
returns c =
    let told = c.read_short_stream-taken.result in
    let after = c.read_short_stream-taken.new.out in
    short_slab c.args.slab.now c.args.used told c.args.out.now after c.if-used-gt-SLAB_MOST.false (sym c.get_u16.ensures ∙ c.if-get_u16-used.false)
    c.requires (omega (arith, c.if-taken-eq0.false))
    (subst (λ (bs : List ℕ). ShortRead told (2 ^ 62) c.args.out.now after (scan c.args.used bs)) (part_to_end c.args.slab.now 2)
    (rw c.from.ensures at c.read_short_stream-taken.ensures))
