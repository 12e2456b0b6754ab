-- `units_free` meets its contract.
use Rattle.std.proofs.Common.{ℕ, ◌*◌, ◌/◌, ◌%◌, ◌^◌, ◌<◌, List, ◌≡◌, sym, ◌∙◌, arith, length, get_or}
use Rattle.book_start.specs.Units.{units_of}
use Rattle.book_start.proofs.LawsBits.{units_long, unit_at, bit_is}
use Rattle.book_start.proofs.LawsUnits.{free_end, free_turn, free_taken}
use Rattle.book_start.proofs.units.units_free.Goals as goal

-- A unit is the bit that is looked at.
unit_is : (work : List ℕ) (i : ℕ) → i < 8 * length work → get_or work (i / 8) 0 < 256
    → get_or (units_of work) i 0 ≡ get_or work (i / 8) 0 / 2 ^ (i % 8) % 2
unit_is work i h low = unit_at work i h ∙ bit_is (get_or work (i / 8) 0) (i % 8) low (omega arith)

pub returns-then-work-i-ne0 : goal.returns-then-work-i-ne0
returns-then-work-i-ne0 c =
    let l = c.loop-i in
    let known = unit_is c.args.work.now l.i (omega arith) (omega (arith, c.type_inv.work (l.i / 8))) in
    sym (free_taken _ l.i _ (omega arith) (let n = units_long c.args.work.now in omega arith)
    (λ z. c.if-work-i-ne0.true (sym known ∙ z))) ∙ l.invariant.gives

pub loop-i-preserved : goal.loop-i-preserved
loop-i-preserved c =
    let l = c.loop-i in
    let known = unit_is c.args.work.now l.i (omega arith) (omega (arith, c.type_inv.work (l.i / 8))) in
    record {
      to_end = omega arith;
      gives = free_turn _ l.i _ (omega arith) (let n = units_long c.args.work.now in omega arith) (known ∙ c.if-work-i-ne0.false)
          ∙ l.invariant.gives;
    }

pub returns : goal.returns
returns c = let l = c.loop-i in sym (free_end _ l.i _ (omega arith)) ∙ l.invariant.gives
