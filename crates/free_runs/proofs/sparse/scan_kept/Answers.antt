use Rattle.std.proofs.Common.{length, ◌≡◌, ℕ, ◌+◌, subst, arith}
use Rattle.free_runs.specs.Steps.{Sought}
use Rattle.free_runs.specs.Sparse.{begins_from}
use Rattle.free_runs.proofs.LawsSought.{sought_found}
use Rattle.free_runs.proofs.LawsSparse.{begins_there, begins_freed, begins_on}
use Rattle.free_runs.proofs.sparse.scan_kept.Goals as goal

pub returns-then-next-end : goal.returns-then-next-end
returns-then-next-end c os f s =
    let a = c.args in
    let l = c.loop-page in
    rw c.begin-start.ensures
    (subst (λ (p : ℕ). Sought a.pages p (begins_from l.start l.page c.least_from-next.result) os) c.if-next-end.true
    (begins_there os a.from a.end a.kept.now (length a.kept.now) f a.pages l.page l.start (l.invariant.sought os f s) l.invariant.goes_on
    l.invariant.low c.least_from-next.result c.least_from-next.ensures))

pub overflow_sub-page : goal.overflow_sub-page
overflow_sub-page c =
    let l = c.loop-page in
    let g = (begins_on l.start l.page c.least_from-next.result c.args.pages l.invariant.goes_on c.least_from-next.ensures.low).begun in
    let e = c.begin-start.ensures in
    omega arith

pub returns-then-page-start : goal.returns-then-page-start
returns-then-page-start c os f s =
    let a = c.args in
    let l = c.loop-page in
    let h = c.least_from-next.ensures.high in
    let g = (begins_on l.start l.page c.least_from-next.result a.pages l.invariant.goes_on c.least_from-next.ensures.low).begun in
    let e = c.begin-start.ensures in
    let n = c.if-next-end.false in
    sought_found a.pages (c.least_from-next.result + 1) c.begin-start.result os
    (rw c.begin-start.ensures
    (begins_freed os a.from a.end a.kept.now (length a.kept.now) f a.pages l.page l.start (l.invariant.sought os f s) l.invariant.goes_on
    l.invariant.low c.least_from-next.result c.least_from-next.ensures (omega arith)))
    a.end (omega arith) (omega arith)

pub loop-page-preserved : goal.loop-page-preserved
loop-page-preserved c =
    let a = c.args in
    let l = c.loop-page in
    let h = c.least_from-next.ensures.high in
    let low = c.least_from-next.ensures.low in
    let g = begins_on l.start l.page c.least_from-next.result a.pages l.invariant.goes_on low in
    let begun = g.begun in
    let e = c.begin-start.ensures in
    record {
      low = omega arith;
      high = omega arith;
      goes_on = record { some_pages = g.some_pages; begun = omega arith; short = omega arith };
      sought = λ os f s.
          rw e
          (begins_freed os a.from a.end a.kept.now (length a.kept.now) f a.pages l.page l.start (l.invariant.sought os f s) l.invariant.goes_on
          l.invariant.low c.least_from-next.result c.least_from-next.ensures (omega arith));
    }

pub returns : goal.returns
returns c os f s =
    let l = c.loop-page in
    let z : l.page ≡ c.args.end = omega arith in
    subst (λ (p : ℕ). Sought c.args.pages p l.start os) z (l.invariant.sought os f s)
