-- `pack8` answers the word that the definition names: each arm is one case of it, and the tests on the way decide it.
use Rattle.std.proofs.Common.{rules, le-leb, eq-eqb, ne_eqb}
use borrow.Author.Tests.{lt-leb}
use Rattle.error.specs.Refusal.{refuse_if}
use Rattle.scripthash_layout.specs.Head.{pack_head}
use Rattle.scripthash_layout.proofs.head.pack8.Goals as goal

pub returns-then-from-ne-SH_INLINE_CAP : goal.returns-then-from-ne-SH_INLINE_CAP
unfolding pack_head refuse_if
returns-then-from-ne-SH_INLINE_CAP c = rw c.in-Inline.is (search (rules, lt-leb, le-leb, eq-eqb, ne_eqb))

pub returns-then-entry-ge-SH8_MODE_UNIT : goal.returns-then-entry-ge-SH8_MODE_UNIT
unfolding pack_head refuse_if
returns-then-entry-ge-SH8_MODE_UNIT c = rw c.in-Inline.is (search (rules, lt-leb, le-leb, eq-eqb))

pub returns-then-off-ge-SH8_USED_UNIT : goal.returns-then-off-ge-SH8_USED_UNIT
unfolding pack_head refuse_if
returns-then-off-ge-SH8_USED_UNIT c = rw c.in-Slab.is (search (rules, lt-leb, le-leb, eq-eqb))

pub returns-then-from-ge-SH8_CLASS_RANGE : goal.returns-then-from-ge-SH8_CLASS_RANGE
unfolding pack_head refuse_if
returns-then-from-ge-SH8_CLASS_RANGE c = rw c.in-Slab.is (search (rules, lt-leb, le-leb, eq-eqb))

pub returns-then-last_page-eq0 : goal.returns-then-last_page-eq0
unfolding pack_head refuse_if
returns-then-last_page-eq0 c = rw c.in-Extent.is (search (rules, lt-leb, le-leb, eq-eqb))

pub returns-then-last_page-ge-SH8_MODE_UNIT : goal.returns-then-last_page-ge-SH8_MODE_UNIT
unfolding pack_head refuse_if
returns-then-last_page-ge-SH8_MODE_UNIT c = rw c.in-Extent.is (search (rules, lt-leb, le-leb, eq-eqb, ne_eqb))

pub returns-in-Empty : goal.returns-in-Empty
unfolding pack_head refuse_if
returns-in-Empty c = rw c.in-Empty.is (search rules)

pub returns-else-entry-ge-SH8_MODE_UNIT : goal.returns-else-entry-ge-SH8_MODE_UNIT
unfolding pack_head refuse_if
returns-else-entry-ge-SH8_MODE_UNIT c = rw c.in-Inline.is (search (rules, lt-leb, le-leb, eq-eqb))

pub returns-else-from-ge-SH8_CLASS_RANGE : goal.returns-else-from-ge-SH8_CLASS_RANGE
unfolding pack_head refuse_if
returns-else-from-ge-SH8_CLASS_RANGE c = rw c.in-Slab.is (search (rules, lt-leb, le-leb, eq-eqb))

pub returns-else-last_page-ge-SH8_MODE_UNIT : goal.returns-else-last_page-ge-SH8_MODE_UNIT
unfolding pack_head refuse_if
returns-else-last_page-ge-SH8_MODE_UNIT c = rw c.in-Extent.is (search (rules, lt-leb, le-leb, eq-eqb, ne_eqb))
