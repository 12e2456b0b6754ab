-- `fill_bytes` meets its contract.
use Rattle.std.proofs.Common.{sym, ◌∙◌, arith, length-set}
use Rattle.book_start.proofs.LawsUnits.{fill_end, fill_turn}
use Rattle.book_start.proofs.units.fill_bytes.Goals as goal

pub loop-i-preserved : goal.loop-i-preserved
loop-i-preserved c =
    let l = c.loop-i in
    record {
      same = simp length-set l.invariant.same;
      to_end = omega arith;
      gives = fill_turn l.work l.i _ (omega arith) (omega arith) _ ∙ l.invariant.gives;
    }

pub returns : goal.returns
returns c = let l = c.loop-i in sym (fill_end l.work l.i _ _ (omega arith)) ∙ l.invariant.gives
