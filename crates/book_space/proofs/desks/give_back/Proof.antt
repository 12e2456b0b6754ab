-- `give_back` meets its contract: the counts, and then the desk's pages decide. Assumes nothing.
use Prim.Native.Nat.{ℕ}
use mathlib.Core.List.{List}
use mathlib.Core.Bool.{false}
use mathlib.Core.Path.{◌≡◌, sym, ◌∙◌}
use native.Mathlib.Omega.{arith}
use Rattle.error.specs.Refusal.{accepted}
use Rattle.error.proofs.LawsOut.{number_accepted, number_refused, value_accepted, value_refused}
use Rattle.book_desks.specs.Counts.{counts_high}
use Rattle.book_desks.proofs.LawsCounts.{counts_low}
use Rattle.book_space.proofs.LawsDesks.{back_high, back_few, back_given}
use borrow.Author.Rules.{rules}
use Rattle.book_space.proofs.desks.give_back.Statement.{statement}
use Rattle.book_space.proofs.desks.give_back.Tie as tie

-- the counts aren't high
module _ (t : tie.Else-counts_high) where
  abbrev start : tie.Start
  start = t.before.before

  abbrev counts : List ℕ
  counts = start.args.counts.now

  low : counts_high start.args.size counts ≡ false
  low = sym t.before.counts_high.ensures ∙ t.if-counts_high.false

counts_high-requires : tie.Need-counts_high-requires
counts_high-requires c κs = search rules

returns-then-counts_high : tie.Need-returns-then-counts_high
returns-then-counts_high c =
    let start = c.before.before in
    let a = start.args in
    let high = sym c.before.counts_high.ensures ∙ c.if-counts_high.true in
    let is = back_high a.size a.desk a.pages a.counts.now start.requires.some {A = List ℕ} accepted high in
    record { told = number_refused is; left = value_refused (λ (x : List ℕ). x) a.counts.now is }

overflow_add-held : tie.Need-overflow_add-held
overflow_add-held c = search rules

offset_bounds-counts-desk : tie.Need-offset_bounds-counts-desk
offset_bounds-counts-desk c = search rules

bounds-counts-desk : tie.Need-bounds-counts-desk
bounds-counts-desk c = search rules

returns-then-held-pages : tie.Need-returns-then-held-pages
returns-then-held-pages c =
    let t = c.before.before.before in
    let a = (start t).args in
    let is = back_few a.size a.desk a.pages (counts t) (start t).requires.some {A = List ℕ} accepted (low t) c.if-held-pages.true in
    record { told = number_refused is; left = value_refused (λ (x : List ℕ). x) (counts t) is }

bounds-counts-0 : tie.Need-bounds-counts-0
bounds-counts-0 c = search rules

overflow_add-freed : tie.Need-overflow_add-freed
overflow_add-freed c =
    let t = c.before.before.before.before.before in
    let a = (start t).args in
    let l = counts_low a.size (counts t) (low t) in
    omega (arith, l.freed, l.held a.desk (start t).requires.known, c.before.before.if-held-pages.false)

put_counts-requires : tie.Need-put_counts-requires
put_counts-requires c κs = search rules

returns : tie.Need-returns
returns c =
    let t = c.before.before.before.before.before.before in
    let a = (start t).args in
    let is = back_given a.size a.desk a.pages (counts t) (start t).requires.some {A = List ℕ} accepted (low t)
    c.before.before.before.if-held-pages.false in
    record { told = number_accepted is; left = c.put_counts.ensures ∙ value_accepted (λ (x : List ℕ). x) (counts t) is }

pub give_back_spec : {M : Type 1} → statement M
give_back_spec =
    tie.close
    (tie.spec
    counts_high-requires
    returns-then-counts_high
    overflow_add-held
    offset_bounds-counts-desk
    bounds-counts-desk
    returns-then-held-pages
    bounds-counts-0
    overflow_add-freed
    put_counts-requires
    returns)
