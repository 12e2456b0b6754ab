-- `run_spelled` meets its contract.
use Rattle.std.proofs.Common.{◌+◌, ◌-◌, ◌<◌, List, ◌≡◌, subst, arith, rules, length, drop}
use Rattle.std.proofs.Math.Option.{some}
use borrow.Rule.Slice.PartMut.{put_mid}
use Rattle.book_words.specs.Spelled.{SpelledCall}
use Rattle.book.specs.Book.{Book}
use Rattle.book.specs.Answers.{book_of}
use Rattle.book_words.specs.SpellCalls.{call_at, calls_of}
use Rattle.book_calls.specs.Steps.{NextIs}
use Rattle.std.specs.Prelude.{Some}
use Rattle.book_calls.proofs.LawsSteps.{was_somewhere}
use Rattle.book_calls.proofs.LawsRun.{Running, here_in, runs_end, runs_nowhere, runs_split, runs_here, runs_step}
use Rattle.book_calls.proofs.running.run_spelled.Goals as goal

pub returns-in_default : goal.returns-in_default
returns-in_default c =
    let told = subst (NextIs _ _ _) c.in_default.is c.next_call.ensures in
    λ cs e. absurd (runs_nowhere (c.loop-at.invariant.5 cs e) c.loop-at-test.true told)

pub run_call-to-requires : goal.run_call-to-requires
run_call-to-requires c =
    let more : c.loop-at.at < length c.args.calls.now = c.loop-at-test.true in
    let begun : NextIs c.args.calls.now c.loop-at.at (call_at (drop c.loop-at.at c.args.calls.now)) (Some c.in-Some.behind) =
    subst (NextIs _ _ _) c.in-Some.is c.next_call.ensures in
    let s = c.requires in
    here_in c.loop-at.out c.loop-at.to (runs_here (c.loop-at.invariant.5 s.list s.is) more _ begun)

pub overflow_add-to : goal.overflow_add-to
overflow_add-to c =
    let first : Book = book_of c.args.body.now c.args.heads.now c.args.mark.now c.args.free.now c.args.counts.now in
    let more : c.loop-at.at < length c.args.calls.now = c.loop-at-test.true in
    let begun : NextIs c.args.calls.now c.loop-at.at (call_at (drop c.loop-at.at c.args.calls.now)) (Some c.in-Some.behind) =
    subst (NextIs _ _ _) c.in-Some.is c.next_call.ensures in
    let stepped :
    (cs : List SpelledCall)
    → calls_of c.args.calls.now ≡ some cs
    → Running c.args.desks.now first cs c.args.calls.now c.args.out.now (book_of c.run_call-to.new.body c.run_call-to.new.heads
    c.run_call-to.new.mark c.run_call-to.new.free c.run_call-to.new.counts) (put_mid c.loop-at.to (length c.loop-at.out -
    c.loop-at.to) c.loop-at.out c.run_call-to.new.out) c.in-Some.behind (c.loop-at.to + c.run_call-to.result) =
    λ cs e.
    let r = c.loop-at.invariant.5 cs e in
    let x = runs_split r more _ begun in
    runs_step r more _ begun _ _ _ (c.run_call-to.ensures x.0 x.1) in
    let s = c.requires in
    let r = stepped s.list s.is in
    omega (arith, r.room, r.same, c.well_formed)

pub loop-at-smaller : goal.loop-at-smaller
loop-at-smaller c =
    let begun : NextIs c.args.calls.now c.loop-at.at (call_at (drop c.loop-at.at c.args.calls.now)) (Some c.in-Some.behind) =
    subst (NextIs _ _ _) c.in-Some.is c.next_call.ensures in
    let (b, e, r, l, m) = was_somewhere _ _ _ _ begun in omega (arith, l, m)

pub loop-at-preserved : goal.loop-at-preserved
loop-at-preserved c =
    let first : Book = book_of c.args.body.now c.args.heads.now c.args.mark.now c.args.free.now c.args.counts.now in
    let more : c.loop-at.at < length c.args.calls.now = c.loop-at-test.true in
    let begun : NextIs c.args.calls.now c.loop-at.at (call_at (drop c.loop-at.at c.args.calls.now)) (Some c.in-Some.behind) =
    subst (NextIs _ _ _) c.in-Some.is c.next_call.ensures in
    let stepped :
    (cs : List SpelledCall)
    → calls_of c.args.calls.now ≡ some cs
    → Running c.args.desks.now first cs c.args.calls.now c.args.out.now (book_of c.run_call-to.new.body c.run_call-to.new.heads
    c.run_call-to.new.mark c.run_call-to.new.free c.run_call-to.new.counts) (put_mid c.loop-at.to (length c.loop-at.out -
    c.loop-at.to) c.loop-at.out c.run_call-to.new.out) c.in-Some.behind (c.loop-at.to + c.run_call-to.result) =
    λ cs e.
    let r = c.loop-at.invariant.5 cs e in
    let x = runs_split r more _ begun in
    runs_step r more _ begun _ _ _ (c.run_call-to.ensures x.0 x.1) in
    let s = c.requires in
    let r = stepped s.list s.is in
    let (b, e, t, l, m) = was_somewhere _ _ _ _ begun in
    (search rules, search rules, r.same, m, omega (arith, r.room), λ cs e. stepped cs e)

pub returns : goal.returns
returns c = λ cs e. runs_end (c.loop-at.invariant.5 cs e) (omega arith)
