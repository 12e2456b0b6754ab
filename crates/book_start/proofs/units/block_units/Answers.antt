-- `block_units` meets its contract: its bytes are whole units.
use Rattle.std.proofs.Common.{◌∙◌, arith}
use Rattle.scripthash_free.proofs.LawsBlock.{bytes_fit}
use Rattle.book_start.proofs.units.block_units.Goals as goal

pub returns : goal.returns
returns c =
    let size = c.slab_bytes.ensures ∙ bytes_fit c.args.class c.requires in
    omega arith
