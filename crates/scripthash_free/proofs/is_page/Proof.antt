-- `is_page` meets its contract: a page that fails a test cannot stand, and one that passes them all does. Assumes nothing.
use mathlib.Core.Path.{sym}
use native.Mathlib.Omega.{arith}
use Rattle.scripthash_free.proofs.LawsBlock.{stands_block, no_block}
use Rattle.scripthash_free.proofs.is_page.Statement.{statement}
use Rattle.scripthash_free.proofs.is_page.Tie as tie

returns-then-off-ne0 : tie.Need-returns-then-off-ne0
returns-then-off-ne0 c = sym (no_block 8 _ _ (λ s. c.if-off-ne0.true s.aligned))

returns-then-off-lt-SH_PREFIX_PAGE : tie.Need-returns-then-off-lt-SH_PREFIX_PAGE
returns-then-off-lt-SH_PREFIX_PAGE c = sym (no_block 8 _ _ (λ s. let h = s.begins in omega arith))

returns-then-end-off : tie.Need-returns-then-end-off
returns-then-end-off c = sym (no_block 8 _ _ (λ s. let h = s.ends in omega arith))

returns-then-end-off-lt-SH_PAGE_BYTES : tie.Need-returns-then-end-off-lt-SH_PAGE_BYTES
returns-then-end-off-lt-SH_PAGE_BYTES c = sym (no_block 8 _ _ (λ s. let h = s.ends in omega arith))

returns : tie.Need-returns
returns c =
    sym (stands_block 8 _ _ (record {
      class_to_8 = omega arith;
      aligned = c.before.before.before.if-off-ne0.false;
      begins = omega arith;
      ends = omega arith;
    }))

pub is_page_spec : {M : Type 1} → statement M
is_page_spec = tie.close (tie.spec returns-then-off-ne0 returns-then-off-lt-SH_PREFIX_PAGE returns-then-end-off returns-then-end-off-lt-SH_PAGE_BYTES returns)
