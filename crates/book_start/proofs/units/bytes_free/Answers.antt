-- `bytes_free` meets its contract.
use Rattle.std.proofs.Common.{sym, ◌∙◌, arith}
use Rattle.book_start.proofs.LawsUnits.{free_end, free_turn, free_taken}
use Rattle.book_start.proofs.units.bytes_free.Goals as goal

pub returns-then-work-i-ne0 : goal.returns-then-work-i-ne0
returns-then-work-i-ne0 c =
    let l = c.loop-i in
    sym (free_taken _ l.i _ (omega arith) (omega arith) (λ z. omega arith)) ∙ l.invariant.gives

pub loop-i-preserved : goal.loop-i-preserved
loop-i-preserved c =
    let l = c.loop-i in
    record { to_end = omega arith; gives = free_turn _ l.i _ (omega arith) (omega arith) (omega arith) ∙ l.invariant.gives }

pub returns : goal.returns
returns c = let l = c.loop-i in sym (free_end _ l.i _ (omega arith)) ∙ l.invariant.gives
