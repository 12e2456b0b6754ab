use Rattle.std.proofs.Common.{◌≡◌, ℕ, ◌-◌, Bool, true, false, eqb, List, sym, ◌∙◌, arith}
use Rattle.std.proofs.Math.Nat.{sub-zero}
use Rattle.scripthash_free.proofs.LawsBlock.{block_stands}
use Rattle.std.specs.Bool.{then_some}
use Rattle.free_runs.specs.Steps.{Marks, FlagsList}
use Rattle.free_runs.specs.declared.list.FreedPages.{FreedPages}
use Rattle.free_runs.specs.Freed.{pages_of, passes}
use Rattle.free_runs.proofs.LawsWalk.{ends_none, ends_next, ends_strays, walked_none, walked_next}
use Rattle.free_runs.proofs.LawsMark.{going_starts, going_on, going_done}
use Rattle.free_runs.proofs.flags.flag_pages.Goals as goal

pub loop-walked-init : goal.loop-walked-init
loop-walked-init c = record { tells = rw (sub-zero c.args.list.now.count); going = rw (sub-zero c.args.list.now.count) (going_starts _ _ _ _ c.told-words) }

pub returns-then-not-is_page : goal.returns-then-not-is_page
returns-then-not-is_page c =
    let l = c.loop-walked in
    record {
      passed = sym (ends_strays c.args.list.now.mark c.args.list.now.body.now (c.args.list.now.count - l._walked) l.at (omega arith)
          (sym c.is_page.ensures ∙ c.if-not-is_page.true))
          ∙ l.invariant.tells;
      marks = tt;
    }

pub get_u64-at-requires : goal.get_u64-at-requires
get_u64-at-requires c =
    let s = (block_stands 8 c.loop-walked.at c.args.list.now.mark (sym c.is_page.ensures ∙ c.if-not-is_page.false)).ends in
    let p = c.args.list.now.within in
    omega arith

pub loop-walked-preserved : goal.loop-walked-preserved
loop-walked-preserved c =
    let l = c.loop-walked in
    let a = c.args in
    let list = a.list.now in
    let yes = sym c.is_page.ensures ∙ c.if-not-is_page.false in
    rw c.get_u64-at.ensures
    (record {
      tells = sym (ends_next list.mark list.body.now list.count l._walked l.at (omega arith) yes) ∙ l.invariant.tells;
      going = going_on _ _ _ _ l.words _ l.at _ l.next _ (block_stands 8 l.at list.mark yes).aligned
          (rw (walked_next list.mark list.body.now list.count l._walked l.at (omega arith)) at l.invariant.going) c.flag_page-next.ensures;
    })

-- A next page is told where the list passes.
flagged : (t : Bool) (list : FreedPages) (from : ℕ) (before after : List ℕ) (next : ℕ) → t ≡ passes list
    → Marks list.mark (pages_of list) from before after next → FlagsList list from before after (then_some t next)
flagged true list from before after next e m = record { passed = e; marks = m }
flagged false list from before after next e m = record { passed = e; marks = tt }

pub returns : goal.returns
returns c =
    let l = c.loop-walked in
    let a = c.args in
    let list = a.list.now in
    let z : list.count - l._walked ≡ 0 = omega arith in
    rw c.then_some.ensures
    (flagged (eqb l.at 0) list a.from a.words.now l.words l.next
    (sym (ends_none list.mark list.body.now l.at) ∙ (rw z at l.invariant.tells))
    (going_done _ _ _ _ _ _ (rw (z, walked_none list.mark list.body.now l.at) at l.invariant.going)))
