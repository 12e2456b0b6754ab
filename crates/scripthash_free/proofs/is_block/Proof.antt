-- `is_block` meets its contract: the class decides. Assumes nothing.
use Prim.Native.Nat.{ℕ}
use mathlib.Core.Path.{sym, ap, ◌∙◌}
use native.Mathlib.Omega.{arith}
use Rattle.scripthash_free.specs.FreeList.{is_block}
use Rattle.scripthash_free.proofs.LawsBlock.{no_block}
use borrow.Author.Rules.{rules}
use Rattle.scripthash_free.proofs.is_block.Statement.{statement}
use Rattle.scripthash_free.proofs.is_block.Tie as tie

is_page-requires : tie.Need-is_page-requires
is_page-requires c κs = search rules

returns-then-class-eq-SH_PAGE_SLAB_CLASS : tie.Need-returns-then-class-eq-SH_PAGE_SLAB_CLASS
returns-then-class-eq-SH_PAGE_SLAB_CLASS c =
    let a = c.before.before.before.args in
    c.is_page.ensures ∙ ap (λ (class : ℕ). is_block class a.off a.end) (sym c.before.if-class-eq-SH_PAGE_SLAB_CLASS.true)

returns-then-class-ge-SH_PAGE_SLAB_CLASS : tie.Need-returns-then-class-ge-SH_PAGE_SLAB_CLASS
returns-then-class-ge-SH_PAGE_SLAB_CLASS c = sym (no_block _ _ _ (λ s. let h = s.class_to_8 in c.if-class-eq-SH_PAGE_SLAB_CLASS.false (omega arith)))

is_slab-requires : tie.Need-is_slab-requires
is_slab-requires c κs = search rules

returns : tie.Need-returns
returns c = search rules

pub is_block_spec : {M : Type 1} → statement M
is_block_spec = tie.close (tie.spec is_page-requires returns-then-class-eq-SH_PAGE_SLAB_CLASS returns-then-class-ge-SH_PAGE_SLAB_CLASS is_slab-requires returns)
