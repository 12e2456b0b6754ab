-- `claim_freed` meets its contract.
use Rattle.std.proofs.Common.{ℕ, ◌+◌, ◌-◌, ◌*◌, ◌/◌, ◌≤◌, ◌<◌, true, List, [], ◌≡◌, sym, ◌∙◌, arith, length}
use Rattle.scripthash_free.specs.FreeList.{Block, is_block}
use Rattle.book_space.specs.Space.{Space, space}
use Rattle.book_start.specs.Start.{claim_freed}
use Rattle.book_start.specs.Units.{units_of, Marked}
use Rattle.book_start.proofs.LawsBits.{units_long}
use Rattle.book_start.proofs.LawsShown.{shown_long, link_inside, FreedGo, list_few, list_end, list_long, list_strays, list_shared, list_turn}
use Rattle.book_start.proofs.claiming.claim_freed.Goals as goal

pub returns-then-left-eq0 : goal.returns-then-left-eq0
returns-then-left-eq0 c free units lent claims m =
    let s : List ℕ → Space = λ free. space c.args.body.now c.args.mark free in
    let work : List ℕ = units_of c.loop-off.work in
    let more : c.loop-off.off ≡ 0 → ⊥ = λ z. c.loop-off-test.true z in
    list_long units lent claims _ (s free) c.args.class c.loop-off.off c.loop-off.left work c.loop-off.taken
    (c.loop-off.invariant.goes free units lent claims m)
    more (omega arith)

pub returns-then-not-is_block : goal.returns-then-not-is_block
returns-then-not-is_block c free units lent claims m =
    let s : List ℕ → Space = λ free. space c.args.body.now c.args.mark free in
    let work : List ℕ = units_of c.loop-off.work in
    let more : c.loop-off.off ≡ 0 → ⊥ = λ z. c.loop-off-test.true z in
    list_strays units lent claims _ (s free) c.args.class c.loop-off.off c.loop-off.left work c.loop-off.taken
    (c.loop-off.invariant.goes free units lent claims m)
    more
    (let n = c.if-left-eq0.false in omega arith) (sym c.is_block.ensures ∙ c.if-not-is_block.true)

pub claim_block-requires : goal.claim_block-requires
claim_block-requires c =
    let work : List ℕ = units_of c.loop-off.work in
    let long : c.args.mark ≤ 16 * length work =
    let e = c.loop-off.invariant.same in
    let now = units_long c.loop-off.work in
    let then = units_long c.args.work.now in
    let p = shown_long c.args.mark (units_of c.args.work.now) c.requires.shown in
    omega arith in
    let stands : is_block c.args.class c.loop-off.off c.args.mark ≡ true = sym c.is_block.ensures ∙ c.if-not-is_block.false in
    record { mark = c.args.mark; stands = stands; long = long }

pub returns-then-not-claim_block : goal.returns-then-not-claim_block
returns-then-not-claim_block c free units lent claims m =
    let s : List ℕ → Space = λ free. space c.args.body.now c.args.mark free in
    let work : List ℕ = units_of c.loop-off.work in
    let more : c.loop-off.off ≡ 0 → ⊥ = λ z. c.loop-off-test.true z in
    let stands : is_block c.args.class c.loop-off.off c.args.mark ≡ true = sym c.is_block.ensures ∙ c.if-not-is_block.false in
    let some : 0 < c.loop-off.left = let n = c.if-left-eq0.false in omega arith in
    let b = c.claim_block in
    list_shared units lent claims _ (s free) c.args.class c.loop-off.off c.loop-off.left work c.loop-off.taken
    (c.loop-off.invariant.goes free units lent claims m)
    more some stands _
    b.ensures.list (sym b.ensures.free ∙ c.if-not-claim_block.true)

pub get_u64-off-requires : goal.get_u64-off-requires
get_u64-off-requires c =
    let stands : is_block c.args.class c.loop-off.off c.args.mark ≡ true = sym c.is_block.ensures ∙ c.if-not-is_block.false in
    link_inside c.args.body.now c.args.mark c.args.class c.loop-off.off c.requires.within stands

pub overflow_add-taken : goal.overflow_add-taken
overflow_add-taken c =
    let s : List ℕ → Space = λ free. space c.args.body.now c.args.mark free in
    let work : List ℕ = units_of c.loop-off.work in
    let more : c.loop-off.off ≡ 0 → ⊥ = λ z. c.loop-off-test.true z in
    let stands : is_block c.args.class c.loop-off.off c.args.mark ≡ true = sym c.is_block.ensures ∙ c.if-not-is_block.false in
    let some : 0 < c.loop-off.left = let n = c.if-left-eq0.false in omega arith in
    let goes :
    (free : List ℕ) (units : ℕ) (lent : List ℕ) (claims : List Block)
    → Marked units c.args.mark lent claims (units_of c.args.work.now)
    → FreedGo units lent claims (claim_freed (c.args.mark / 16) (s free) c.args.class claims c.args.head) (s free) c.args.class
    c.get_u64-off.result (c.loop-off.left - 1) (units_of c.claim_block.new.work) (c.loop-off.taken + c.block_units-size.result) =
    λ free units lent claims m.
    let b = c.claim_block in
    list_turn units lent claims _ (s free) c.args.class c.loop-off.off c.loop-off.left work c.loop-off.taken
    (c.loop-off.invariant.goes free units lent claims m) more some stands _ b.ensures.list c.get_u64-off.result
    c.get_u64-off.ensures (sym b.ensures.free ∙ c.if-not-claim_block.false) c.block_units-size.result c.block_units-size.ensures
    in
    let w = c.requires.shown in
    let few = list_few w.units w.lent w.claims _ (s []) c.args.class c.get_u64-off.result (c.loop-off.left - 1) _
    (c.loop-off.taken + c.block_units-size.result) (goes [] w.units w.lent w.claims w.shows) in
    omega arith

pub loop-off-preserved : goal.loop-off-preserved
loop-off-preserved c =
    let s : List ℕ → Space = λ free. space c.args.body.now c.args.mark free in
    let work : List ℕ = units_of c.loop-off.work in
    let more : c.loop-off.off ≡ 0 → ⊥ = λ z. c.loop-off-test.true z in
    let stands : is_block c.args.class c.loop-off.off c.args.mark ≡ true = sym c.is_block.ensures ∙ c.if-not-is_block.false in
    let some : 0 < c.loop-off.left = let n = c.if-left-eq0.false in omega arith in
    let goes :
    (free : List ℕ) (units : ℕ) (lent : List ℕ) (claims : List Block)
    → Marked units c.args.mark lent claims (units_of c.args.work.now)
    → FreedGo units lent claims (claim_freed (c.args.mark / 16) (s free) c.args.class claims c.args.head) (s free) c.args.class
    c.get_u64-off.result (c.loop-off.left - 1) (units_of c.claim_block.new.work) (c.loop-off.taken + c.block_units-size.result) =
    λ free units lent claims m.
    let b = c.claim_block in
    list_turn units lent claims _ (s free) c.args.class c.loop-off.off c.loop-off.left work c.loop-off.taken
    (c.loop-off.invariant.goes free units lent claims m) more some stands _ b.ensures.list c.get_u64-off.result
    c.get_u64-off.ensures (sym b.ensures.free ∙ c.if-not-claim_block.false) c.block_units-size.result c.block_units-size.ensures
    in
    let b = c.claim_block in
    let class = c.args.class in
    record {
      same = b.auto.work ∙ c.loop-off.invariant.same;
      goes = goes;
    }

pub returns : goal.returns
returns c free units lent claims m =
    let l = c.loop-off in
    let a = c.args in
    list_end units lent claims _ (space a.body.now a.mark free) a.class l.off l.left (units_of l.work) l.taken
    (l.invariant.goes free units lent claims m) (omega arith)
