-- What the loop of `extend_page` keeps: the page ends where the code says, its key stands there, and what is left gives the whole.
use Rattle.scripthash_layout.specs.declared.head.ShHeadValue.TheVariants.{Extent}
use Rattle.book_keys.specs.Keys.{body_ground}
use Rattle.book_extend.proofs.LawsPage.{PageEnds}
use Rattle.book_extend.proofs.LawsInPlace.{Put}
use Rattle.book_extend.proofs.page.extend_page.Given as goal

abbrev pub invariant-loop-i : goal.invariant-loop-i
invariant-loop-i l = record {
  put : Put l.fn.body l.fn.heads l.mark l.key l.fks l.from l.body l.heads l.i (Extent l.last);
  ends : PageEnds (body_ground l.body l.mark) l.last l.at l.prev l.total;
}
