use Rattle.std.proofs.Common.{◌≡◌, ℕ, ◌*◌, true, sym, ap, ◌∙◌, arith}
use mathlib.Core.Option.{Option}
use Rattle.error.specs.Refusal.{accepted}
use Rattle.free_runs.specs.Steps.{Sought}
use Rattle.free_runs.specs.Freed.{pages_of, passes}
use Rattle.free_runs.proofs.LawsRuns.{lowest_is, lowest_missed}
use Rattle.free_runs.proofs.LawsWalk.{walked_pages}
use Rattle.free_runs.proofs.LawsSought.{sought_past, sought_lowest, sought_missed, run_found_lem, run_strays}
use Rattle.free_runs.proofs.search.search_windows.Goals as goal

pub returns-in_default : goal.returns-in_default
returns-in_default c =
    let list = c.args.list.now in sym (run_strays list.mark list.count list.body.now list.head c.args.pages (sym c.in_default.ensures.passed))

pub returns-then-end-first : goal.returns-then-end-first
returns-then-end-first c =
    let a = c.args in
    let list = a.list.now in
    let got = c.in-Some.got in
    let os = pages_of list in
    let passes : passes list ≡ true = sym c.in-Some.ensures.passed in
    let sought : Sought a.pages got.end got.start os = c.in-Some.ensures.looks.sought c.loop-from.invariant.sought in
    let s = sought.at in
    let some = c.requires.some_pages in
    sym (run_found_lem list.mark list.count list.body.now list.head a.pages passes
    ∙ ap (λ (r : Option ℕ). accepted r)
    (lowest_is a.pages os some (got.start * 4096)
    (sought_lowest list.mark a.pages got.end got.start os (walked_pages list.mark list.body.now list.count list.head passes) some sought (omega arith))))

pub loop-from-preserved-then-end-next : goal.loop-from-preserved-then-end-next
loop-from-preserved-then-end-next c =
    let a = c.args in
    let list = a.list.now in
    let got = c.in-Some.got in
    let looks = c.in-Some.ensures.looks in
    let sought : Sought a.pages got.end got.start (pages_of list) = looks.sought c.loop-from.invariant.sought in
    let s = sought.at in
    let e = looks.more in
    let some = c.requires.some_pages in
    record {
      inside = looks.limit;
      goes_on = record { some_pages = some; begun = omega arith; short = omega arith };
      sought = sought_past a.pages got.end got.start (pages_of list) sought got.next some (omega arith) (omega arith)
          looks.none_between;
      judged = λ h. sym c.in-Some.ensures.passed;
    }

pub returns : goal.returns
returns c =
    let a = c.args in
    let list = a.list.now in
    let l = c.loop-from in
    let some = c.requires.some_pages in
    let passed = l.invariant.judged (let p = c.requires.some_below in omega arith) in
    sym (run_found_lem list.mark list.count list.body.now list.head a.pages passed
    ∙ ap (λ (r : Option ℕ). accepted r)
    (lowest_missed a.pages (pages_of list) some
    (sought_missed list.mark a.pages l.from l.start (pages_of list)
    (walked_pages list.mark list.body.now list.count list.head passed) some l.invariant.sought l.invariant.goes_on.short (omega arith))))
