use Rattle.std.proofs.Common.{◌≡◌, ℕ, ◌+◌, ◌-◌, ◌*◌, ◌/◌, ◌%◌, ◌^◌, ◌<◌, ◌≤◌, false, eqb, List, get_or, sym, ap, ◌∙◌, subst, arith, ne_eqb}
use Rattle.free_runs.specs.Runs.{is_in}
use Rattle.free_runs.specs.Steps.{flag, Flags}
use Rattle.free_runs.proofs.LawsFlags.{no_flags}
use Rattle.free_runs.proofs.LawsSought.{sought_freed, sought_found, sought_past}
use Rattle.free_runs.proofs.flags.scan.Goals as goal

-- What the flag of a page tells.
told : (words : List ℕ) (from end page : ℕ) (os : List ℕ) (b : ℕ) → Flags words from (end - from) os → from ≤ page → page < end
    → get_or words ((page - from) / 64) 0 / 2 ^ ((page - from) % 64) % 2 ≡ b → eqb b 1 ≡ is_in (page * 4096) os
unfolding flag
told words from end page os b f l h e =
    let z : from + (page - from) ≡ page = omega arith in
    ap (λ (x : ℕ). eqb x 1) (sym e) ∙ (rw z at (f.tells (page - from) (omega arith)))

-- Where nothing is left of a word, no page of its rest is freed.
empty : (words : List ℕ) (from end page : ℕ) (os : List ℕ) → Flags words from (end - from) os → from ≤ page
    → get_or words ((page - from) / 64) 0 / 2 ^ ((page - from) % 64) ≡ 0
    → (to : ℕ) → to ≤ page + (64 - (page - from) % 64) → to ≤ end → (p : ℕ) → page ≤ p → p < to → is_in (p * 4096) os ≡ false
empty words from end page os f l e to h k p m n =
    let z : from + (p - from) ≡ p = omega arith in
    let t : eqb (flag words (p - from)) 1 ≡ is_in (p * 4096) os = rw z at (f.tells (p - from) (omega arith)) in
    sym t ∙ no_flags words (page - from) (p - from) e (omega arith) (omega arith)

pub loop-page-preserved-then-rest-eq0 : goal.loop-page-preserved-then-rest-eq0
loop-page-preserved-then-rest-eq0 c =
    let l = c.loop-page in
    let a = c.args in
    let e = c.min-page.ensures in
    record {
      low = omega arith;
      high = omega arith;
      goes_on = record { some_pages = omega arith; begun = omega arith; short = omega arith };
      sought = λ os f s.
          sought_past a.pages l.page l.start os (l.invariant.sought os f s) c.min-page.result (omega arith) (omega arith)
          (omega arith)
          (empty a.words.now a.from a.end l.page os f (omega arith) (omega (arith, c.if-rest-eq0.true)) c.min-page.result
          (omega arith) (omega arith));
    }

pub returns-then-page-start : goal.returns-then-page-start
returns-then-page-start c os f s =
    let l = c.loop-page in
    let a = c.args in
    let yes = sym (told a.words.now a.from a.end l.page os 1 f (omega arith) (omega arith) (omega (arith, c.if-rest-eq1.true))) in
    sought_found a.pages (l.page + 1) l.start os (sought_freed a.pages l.page l.start os (l.invariant.sought os f s) yes)
    a.end (omega arith) (omega arith)

pub loop-page-preserved-else-page-start : goal.loop-page-preserved-else-page-start
loop-page-preserved-else-page-start c =
    let l = c.loop-page in
    let a = c.args in
    record {
      low = omega arith;
      high = omega arith;
      goes_on = record { some_pages = omega arith; begun = omega arith; short = omega arith };
      sought = λ os f s.
          sought_freed a.pages l.page l.start os (l.invariant.sought os f s)
          (sym (told a.words.now a.from a.end l.page os 1 f (omega arith) (omega arith) (omega (arith, c.if-rest-eq1.true))));
    }

pub loop-page-preserved : goal.loop-page-preserved
loop-page-preserved c =
    let l = c.loop-page in
    let a = c.args in
    record {
      low = omega arith;
      high = omega arith;
      goes_on = record { some_pages = omega arith; begun = omega arith; short = omega arith };
      sought = λ os f s.
          sought_past a.pages l.page l.start os (l.invariant.sought os f s) (l.page + 1) (omega arith) (omega arith) (omega arith)
          (λ p m n.
          let z : p ≡ l.page = omega arith in
          let t = told a.words.now a.from a.end l.page os 0 f (omega arith) (omega arith) (omega (arith, c.if-rest-eq1.false)) in
          subst (λ (q : ℕ). is_in (q * 4096) os ≡ false) (sym z) (sym t ∙ ne_eqb 0 1 (λ e. omega arith)));
    }
