-- `judge_keys` meets its contract: a key's turn and the ways that it ends are laws of `LawsVerdict`.
use Prim.Native.Nat.{ℕ, ◌≤◌}
use mathlib.Core.List.{List, []}
use mathlib.Core.Path.{◌≡◌, refl, ap, ◌∙◌}
use native.Mathlib.Omega.{arith}
use Rattle.std.specs.Prelude.{Err}
use lib.ListN.{length}
use Rattle.book_space.specs.Space.{Space, space}
use Rattle.book_start.specs.Start.{judge_keys}
use Rattle.book_start.specs.Units.{units_of}
use Rattle.book_start.proofs.LawsVerdict.{KeysGo, keys_took, keys_turn, keys_unsound, keys_shared, keys_end, none_leave}
use Rattle.book_start.proofs.judging.judge_keys.Goals as goal

pub overflow_sub-lost : goal.overflow_sub-lost
overflow_sub-lost c = let f = c.requires.marked.from in omega arith

pub loop-key-init : goal.loop-key-init
loop-key-init c =
    record {
      same = refl;
      to_end = omega arith;
      goes = λ units lent m. record {
        claims = [];
        shows = m;
        left = none_leave c.args.mark m.from c.requires.aligned;
        gives = refl;
      };
    }

pub claim_key-requires : goal.claim_key-requires
claim_key-requires c =
    let s = space c.args.body.now c.args.mark c.args.free.now in
    let go : KeysGo c.requires.units c.requires.lent (judge_keys s 0 c.args.heads.now []) s c.args.heads.now c.loop-key.key
    (units_of c.loop-key.work) c.loop-key.lost = c.loop-key.invariant.goes c.requires.units c.requires.lent c.requires.marked in
    record {
      within = c.requires.within;
      shown = record { units = c.requires.units; lent = c.requires.lent; claims = go.claims; shows = go.shows };
    }

pub overflow_sub-lost-in-Ok : goal.overflow_sub-lost-in-Ok
overflow_sub-lost-in-Ok c =
    let s = space c.args.body.now c.args.mark c.args.free.now in
    let go : KeysGo c.requires.units c.requires.lent (judge_keys s 0 c.args.heads.now []) s c.args.heads.now c.loop-key.key
    (units_of c.loop-key.work) c.loop-key.lost = c.loop-key.invariant.goes c.requires.units c.requires.lent c.requires.marked in
    keys_took c.requires.units c.requires.lent _ s c.args.heads.now c.loop-key.key (units_of c.loop-key.work) c.loop-key.lost go
    c.loop-key-test.true _ c.claim_key.result (c.claim_key.ensures c.requires.units c.requires.lent go.claims go.shows) _ c.in-Ok.is

pub returns-in-Err-Unfit : goal.returns-in-Err-Unfit
returns-in-Err-Unfit c units lent m =
    let s = space c.args.body.now c.args.mark c.args.free.now in
    let g = c.loop-key.invariant.goes units lent m in
    keys_unsound units lent _ s c.args.heads.now c.loop-key.key (units_of c.loop-key.work) c.loop-key.lost g c.loop-key-test.true _
    c.claim_key.result (c.claim_key.ensures units lent g.claims g.shows)
    (c.in-Err-Unfit.is ∙ ap Err c.in-Err-Unfit.field-0-is)

pub returns-in-Err-Shared : goal.returns-in-Err-Shared
returns-in-Err-Shared c units lent m =
    let s = space c.args.body.now c.args.mark c.args.free.now in
    let g = c.loop-key.invariant.goes units lent m in
    keys_shared units lent _ s c.args.heads.now c.loop-key.key (units_of c.loop-key.work) c.loop-key.lost g c.loop-key-test.true _
    c.claim_key.result (c.claim_key.ensures units lent g.claims g.shows)
    (c.in-Err-Shared.is ∙ ap Err c.in-Err-Shared.field-0-is)

pub loop-key-preserved : goal.loop-key-preserved
loop-key-preserved c =
    let s = space c.args.body.now c.args.mark c.args.free.now in
    record {
      same = c.claim_key.auto.work ∙ c.loop-key.invariant.same;
      to_end = omega arith;
      goes = λ units lent m.
          let g = c.loop-key.invariant.goes units lent m in
          keys_turn units lent _ s c.args.heads.now c.loop-key.key (units_of c.loop-key.work) c.loop-key.lost g c.loop-key-test.true _
          c.claim_key.result (c.claim_key.ensures units lent g.claims g.shows) _ c.in-Ok.is;
    }

pub judge_lists-requires : goal.judge_lists-requires
judge_lists-requires c =
    let s = space c.args.body.now c.args.mark c.args.free.now in
    let go : KeysGo c.requires.units c.requires.lent (judge_keys s 0 c.args.heads.now []) s c.args.heads.now c.loop-key.key
    (units_of c.loop-key.work) c.loop-key.lost = c.loop-key.invariant.goes c.requires.units c.requires.lent c.requires.marked in
    record {
      nine = c.requires.nine;
      within = c.requires.within;
      units = c.requires.units;
      lent = c.requires.lent;
      claims = go.claims;
      marked = go.shows;
      leaves = go.left;
    }

pub returns : goal.returns
returns c units lent m =
    let s = space c.args.body.now c.args.mark c.args.free.now in
    let g = keys_end units lent _ s c.args.heads.now c.loop-key.key (units_of c.loop-key.work) c.loop-key.lost
    (c.loop-key.invariant.goes units lent m) (omega arith) in
    let r = c.judge_lists.ensures units lent g.claims g.shows g.left in
    record { claims = r.claims; shows = r.shows; told = r.told ∙ g.gives }
