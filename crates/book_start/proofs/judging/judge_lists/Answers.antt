-- `judge_lists` meets its contract: a list's turn and the ways that it ends are laws of `LawsVerdict`.
use Prim.Native.Nat.{ℕ, ◌≤◌}
use mathlib.Core.List.{List}
use mathlib.Core.Path.{◌≡◌, refl, ap, ◌∙◌}
use native.Mathlib.Omega.{arith}
use Rattle.std.specs.Prelude.{Err}
use lib.ListN.{length}
use Rattle.book_space.specs.Space.{Space, space}
use Rattle.book_start.specs.Start.{judge_lists}
use Rattle.book_start.specs.Units.{units_of}
use Rattle.book_start.proofs.LawsVerdict.{ListsGo, lists_took, lists_turn, lists_strays, lists_shared, lists_end}
use Rattle.book_start.proofs.judging.judge_lists.Goals as goal

pub loop-class-init : goal.loop-class-init
loop-class-init c =
    record {
      same = refl;
      to_end = omega arith;
      goes = λ units lent claims m l. record { claims = claims; shows = m; left = l; gives = refl };
    }

pub overflow_cast-class : goal.overflow_cast-class
overflow_cast-class c = let e = c.requires.nine in let h = c.loop-class-test.true in omega arith

pub claim_freed-requires : goal.claim_freed-requires
claim_freed-requires c =
    let s = space c.args.body.now c.args.mark c.args.free.now in
    let go : ListsGo c.requires.units c.requires.lent (judge_lists s 0 c.args.free.now c.requires.claims) s c.loop-class.class
    (units_of c.loop-class.work) c.loop-class.lost =
    c.loop-class.invariant.goes c.requires.units c.requires.lent c.requires.claims c.requires.marked c.requires.leaves in
    record {
      class_to_8 = let e = c.requires.nine in let h = c.loop-class-test.true in omega arith;
      within = c.requires.within;
      shown = record { units = c.requires.units; lent = c.requires.lent; claims = go.claims; shows = go.shows };
    }

pub overflow_sub-lost : goal.overflow_sub-lost
overflow_sub-lost c =
    let s = space c.args.body.now c.args.mark c.args.free.now in
    let go : ListsGo c.requires.units c.requires.lent (judge_lists s 0 c.args.free.now c.requires.claims) s c.loop-class.class
    (units_of c.loop-class.work) c.loop-class.lost =
    c.loop-class.invariant.goes c.requires.units c.requires.lent c.requires.claims c.requires.marked c.requires.leaves in
    lists_took c.requires.units c.requires.lent _ s c.loop-class.class (units_of c.loop-class.work) c.loop-class.lost go
    c.loop-class-test.true _ c.claim_freed.result
    (c.claim_freed.ensures c.args.free.now c.requires.units c.requires.lent go.claims go.shows) _ c.in-Ok.is

pub returns-in-Err-Unfit : goal.returns-in-Err-Unfit
returns-in-Err-Unfit c units lent claims m left =
    let s = space c.args.body.now c.args.mark c.args.free.now in
    let g = c.loop-class.invariant.goes units lent claims m left in
    lists_strays units lent _ s c.loop-class.class (units_of c.loop-class.work) c.loop-class.lost g c.loop-class-test.true _
    c.claim_freed.result (c.claim_freed.ensures c.args.free.now units lent g.claims g.shows)
    (c.in-Err-Unfit.is ∙ ap Err c.in-Err-Unfit.field-0-is)

pub returns-in-Err-Shared : goal.returns-in-Err-Shared
returns-in-Err-Shared c units lent claims m left =
    let s = space c.args.body.now c.args.mark c.args.free.now in
    let g = c.loop-class.invariant.goes units lent claims m left in
    lists_shared units lent _ s c.loop-class.class (units_of c.loop-class.work) c.loop-class.lost g c.loop-class-test.true _
    c.claim_freed.result (c.claim_freed.ensures c.args.free.now units lent g.claims g.shows)
    (c.in-Err-Shared.is ∙ ap Err c.in-Err-Shared.field-0-is)

pub loop-class-preserved : goal.loop-class-preserved
loop-class-preserved c =
    let s = space c.args.body.now c.args.mark c.args.free.now in
    record {
      same = c.claim_freed.auto.work ∙ c.loop-class.invariant.same;
      to_end = omega arith;
      goes = λ units lent claims m left.
          let g = c.loop-class.invariant.goes units lent claims m left in
          lists_turn units lent _ s c.loop-class.class (units_of c.loop-class.work) c.loop-class.lost g c.loop-class-test.true _
          c.claim_freed.result (c.claim_freed.ensures c.args.free.now units lent g.claims g.shows) _ c.in-Ok.is;
    }

pub returns : goal.returns
returns c units lent claims m left =
    lists_end units lent _ (space c.args.body.now c.args.mark c.args.free.now) c.loop-class.class (units_of c.loop-class.work) c.loop-class.lost
    (c.loop-class.invariant.goes units lent claims m left) (omega arith)
