-- `sh_page_chunk_ranges` meets its contract: all numbers are cut, into the lent list from its start on.
use native.Mathlib.Nat.{zero-add}
use Rattle.scripthash_cutting.specs.Cutting.{chunk_ranges, after_chunk_ranges}
use Rattle.scripthash_cutting.specs.Steps.{cut_from, after_cut_from}
use Rattle.scripthash_cutting.proofs.cut.sh_page_chunk_ranges.Goals as goal

pub returns-clause-answer : goal.returns-clause-answer
unfolding cut_from chunk_ranges
returns-clause-answer c = simp (zero-add, c.new.ensures) at c.cut_from.ensures.answer

pub returns-clause-list : goal.returns-clause-list
unfolding after_cut_from after_chunk_ranges
returns-clause-list c = simp (zero-add, c.new.ensures) at c.cut_from.ensures.list
