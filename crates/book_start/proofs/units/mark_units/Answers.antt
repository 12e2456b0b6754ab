-- `mark_units` meets its contract.
use Rattle.std.proofs.Common.{sym, ◌∙◌, arith, length-set}
use Rattle.book_start.specs.Units.{units_of}
use Rattle.book_start.proofs.LawsUnits.{fill_end, mark_turn}
use Rattle.book_start.proofs.units.mark_units.Goals as goal

pub loop-i-preserved : goal.loop-i-preserved
loop-i-preserved c =
    let l = c.loop-i in
    record {
      same = simp length-set l.invariant.same;
      to_end = omega arith;
      gives = mark_turn l.work l.i _ c.with_bit.result (omega arith) (omega arith) c.with_bit.ensures ∙ l.invariant.gives;
    }

pub returns : goal.returns
returns c = let l = c.loop-i in sym (fill_end (units_of l.work) l.i _ _ (omega arith)) ∙ l.invariant.gives
