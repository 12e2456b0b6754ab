-- `calls_fit` meets its contract: a call's turn is a law of `LawsSteps`.
use Prim.Native.Nat.{ℕ, ◌+◌, ◌-◌, ◌≤◌, ◌<◌}
use mathlib.Core.List.{List}
use mathlib.Core.Option.{some}
use mathlib.Core.Path.{◌≡◌, subst}
use native.Mathlib.Omega.{arith}
use borrow.Author.Rules.{rules}
use lib.ListN.{length, drop}
use Rattle.std.specs.Prelude as prelude
use Rattle.book_words.specs.Spelled.{SpelledCall}
use Rattle.book_words.specs.SpellCalls.{call_at}
use Rattle.book_calls.specs.Steps.{NextIs, RoomIs}
use Rattle.book_calls.proofs.LawsSteps.{was_somewhere, fit_starts, fit_ends, fit_nowhere, fit_short, fit_goes}
use Rattle.book_calls.proofs.words.calls_fit.Goals as goal

-- a call that begins at an index has three words
inside : (calls : List ℕ) (at : ℕ) (o : prelude.Option ℕ) {behind : ℕ} → NextIs calls at (call_at (drop at calls)) o → o ≡ prelude.Some behind
    → at + 3 ≤ length calls
inside calls at o n is = let (b, e, r, l, m) = was_somewhere _ _ _ _ (subst (NextIs _ _ _) is n) in omega (arith, l, m)

pub loop-at-init : goal.loop-at-init
loop-at-init c = record { within = omega arith; fitting = λ cs e. fit_starts _ _ cs e }

pub returns-in_default : goal.returns-in_default
returns-in_default c =
    let told = subst (NextIs _ _ _) c.in_default.is c.next_call.ensures in
    λ cs e. absurd (fit_nowhere (c.loop-at.invariant.fitting cs e) c.loop-at-test.true told)

pub overflow_add-at : goal.overflow_add-at
overflow_add-at c = search (rules, inside _ _ _ c.next_call.ensures c.in-Some.is)

pub bounds-calls-at-in-loop-at : goal.bounds-calls-at-in-loop-at
bounds-calls-at-in-loop-at c = omega (arith, inside _ _ _ c.next_call.ensures c.in-Some.is)

pub returns-in_default-room_behind : goal.returns-in_default-room_behind
unfolding RoomIs
returns-in_default-room_behind c =
    let begun = subst (NextIs _ _ _) c.in-Some.is c.next_call.ensures in
    let little = subst (RoomIs _ _) c.in_default-room_behind.is c.room_behind.ensures in
    λ cs e. fit_short (c.loop-at.invariant.fitting cs e) c.loop-at-test.true _ begun little

pub loop-at-smaller : goal.loop-at-smaller
loop-at-smaller c =
    let (b, e, r, l, m) = was_somewhere _ _ _ _ (subst (NextIs _ _ _) c.in-Some.is c.next_call.ensures) in omega (arith, l, m)

pub loop-at-preserved : goal.loop-at-preserved
unfolding RoomIs
loop-at-preserved c =
    let begun = subst (NextIs _ _ _) c.in-Some.is c.next_call.ensures in
    let (b, e, r, l, m) = was_somewhere _ _ _ _ begun in
    let left = subst (RoomIs _ _) c.in-Some-room_behind.is c.room_behind.ensures in
    record { within = m; fitting = λ cs e. fit_goes (c.loop-at.invariant.fitting cs e) c.loop-at-test.true _ begun _ left }

pub returns : goal.returns
returns c = λ cs e. fit_ends (c.loop-at.invariant.fitting cs e) (omega arith)
