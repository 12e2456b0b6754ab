-- What the loop of `extend_slab` keeps: the slab ends where the code says, its key stands there, and what is left gives the whole.
use Rattle.scripthash_layout.specs.declared.head.ShHeadValue.TheVariants.{Slab}
use Rattle.book_keys.specs.Keys.{body_ground}
use Rattle.book_extend.proofs.LawsSlab.{SlabEnds}
use Rattle.book_extend.proofs.LawsInPlace.{Put}
use Rattle.book_extend.proofs.slab.extend_slab.Given as goal

abbrev pub invariant-loop-i : goal.invariant-loop-i
invariant-loop-i l = record {
  put : Put l.fn.body l.fn.heads l.mark l.key l.fks l.from l.body l.heads l.i (Slab l.class l.count l.off);
  ends : SlabEnds (body_ground l.body l.mark) l.class l.count l.off l.at l.prev;
}
