-- `calls_spelled` meets its contract: what the index behind a call tells is a law of `LawsSteps`.
use Prim.Native.Nat.{ℕ, ◌-◌, ◌≤◌}
use mathlib.Core.Path.{◌≡◌, refl, sym, ap, subst, ◌∙◌}
use native.Mathlib.Omega.{arith}
use lib.ListN.{length, drop}
use Rattle.book_calls.specs.Steps.{is_some, NextIs}
use Rattle.book_calls.proofs.LawsSteps.{was_somewhere, spelled_end, spelled_nowhere, spelled_next}
use Rattle.book_calls.proofs.words.calls_spelled.Goals as goal

pub loop-at-init : goal.loop-at-init
loop-at-init c = record { within = omega arith; same = refl }

pub returns-in_default : goal.returns-in_default
returns-in_default c =
    let told = subst (NextIs _ _ _) c.in_default.is c.next_call.ensures in
    sym (ap is_some (spelled_nowhere c.args.calls.now c.loop-at.at c.loop-at-test.true told)) ∙ c.loop-at.invariant.same

pub loop-at-smaller : goal.loop-at-smaller
loop-at-smaller c =
    let (b, e, r, l, m) = was_somewhere _ _ _ _ (subst (NextIs _ _ _) c.in-Some.is c.next_call.ensures) in omega (arith, l, m)

pub loop-at-preserved : goal.loop-at-preserved
loop-at-preserved c =
    let begun = subst (NextIs _ _ _) c.in-Some.is c.next_call.ensures in
    let (b, e, r, l, m) = was_somewhere _ _ _ _ begun in
    record {
      within = m;
      same = sym (spelled_next c.args.calls.now c.loop-at.at c.loop-at-test.true _ begun) ∙ c.loop-at.invariant.same;
    }

pub returns : goal.returns
returns c = sym (ap is_some (spelled_end c.args.calls.now c.loop-at.at (omega arith))) ∙ c.loop-at.invariant.same
