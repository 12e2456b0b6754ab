-- `is_slab` meets its contract: a slab that fails a test cannot stand, and one that passes them all does. Assumes nothing.
use mathlib.Core.Path.{sym}
use native.Mathlib.Omega.{arith}
use borrow.Author.Rules.{rules}
use Rattle.scripthash_free.proofs.LawsBlock.{no_block, parts_fit, parts_short, slab_aligned, slab_stands}
use Rattle.scripthash_free.proofs.is_slab.Statement.{statement}
use Rattle.scripthash_free.proofs.is_slab.Tie as tie

returns-then-off-lt-SH_PREFIX_PAGE : tie.Need-returns-then-off-lt-SH_PREFIX_PAGE
returns-then-off-lt-SH_PREFIX_PAGE c = sym (no_block _ _ _ (λ b. let h = b.begins in omega arith))

returns-then-end-off : tie.Need-returns-then-end-off
returns-then-end-off c = sym (no_block _ _ _ (λ b. let h = b.ends in omega arith))

returns-then-off-ne0 : tie.Need-returns-then-off-ne0
returns-then-off-ne0 c =
    let s = c.before.before.before in
    sym (no_block _ _ _ (λ b. c.if-off-ne0.true (slab_aligned s.args.class s.args.off s.requires b.aligned)))

overflow_shr-end : tie.Need-overflow_shr-end
overflow_shr-end c = search rules

returns-then-end-off-lt-SH_SLAB_BASE_BYTES : tie.Need-returns-then-end-off-lt-SH_SLAB_BASE_BYTES
returns-then-end-off-lt-SH_SLAB_BASE_BYTES c =
    let s = c.before.before.before.before in
    sym (no_block _ _ _ (λ b. let h = b.ends in omega (arith, parts_short s.args.class _ c.if-end-off-lt-SH_SLAB_BASE_BYTES.true)))

returns : tie.Need-returns
returns c =
    let s = c.before.before.before.before in
    sym (slab_stands s.args.class s.args.off s.args.end s.requires c.before.if-off-ne0.false (omega arith)
    (omega (arith, parts_fit s.args.class _ c.if-end-off-lt-SH_SLAB_BASE_BYTES.false)))

pub is_slab_spec : {M : Type 1} → statement M
is_slab_spec = tie.close (tie.spec returns-then-off-lt-SH_PREFIX_PAGE returns-then-end-off returns-then-off-ne0 overflow_shr-end returns-then-end-off-lt-SH_SLAB_BASE_BYTES returns)
