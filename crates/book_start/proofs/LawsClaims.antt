-- Blocks that are claimed one after the other: they are claimed exactly where no two share a byte. Assumes nothing.
use Prim.Native.Nat.{ℕ, ◌+◌}
use mathlib.Core.Bool.{Bool, true, false, cond, ◌&&◌}
use mathlib.Core.List.{List, [], ◌∷◌, ◌++◌}
use mathlib.Core.Logic.{◌⊎◌, inl, inr, ⊎_elim}
use mathlib.Core.Path.{◌≡◌, refl, sym, ◌∙◌}
use native.Mathlib.Omega.{arith}
use borrow.Author.Tests.{ltb-false, le-ltb}
use lib.Dec.{ltb}
use Rattle.error.proofs.LawsAnswer.{neither}
use Rattle.scripthash_layout.specs.Sizes.{slab_bytes}
use Rattle.scripthash_free.specs.FreeList.{Disjoint, Block, Each}
use Rattle.scripthash_free.proofs.LawsGap.{each_map}
use Rattle.book_start.specs.Start.{AllApart, shares, shares_one, claimed, unfit, shared, claim_all}

-- ---- two blocks

-- What shares no byte with another, the other shares none with it.
pub disjoint_sym : (x y : Block) → Disjoint x y → Disjoint y x
disjoint_sym x y d = ⊎_elim (λ h. inr h) (λ h. inl h) d

-- One of two tests that don't both hold fails.
not_both : (a b : Bool) → a && b ≡ false → (a ≡ false) ⊎ (b ≡ false)
not_both true b e = inr e
not_both false b e = inl refl

-- A test fails beside one that fails.
beside_false : (a b : Bool) → b ≡ false → a && b ≡ false
beside_false true b e = e
beside_false false b e = refl

-- Two blocks that share no byte, told by the test.
pub shares_no : (x y : Block) → shares x y ≡ false → Disjoint x y
unfolding shares
shares_no x y e = ⊎_elim (λ f. inr (ltb-false _ _ f)) (λ f. inl (ltb-false _ _ f)) (not_both _ _ e)

-- The test of two blocks that share no byte.
pub disjoint_shares : (x y : Block) → Disjoint x y → shares x y ≡ false
unfolding shares
disjoint_shares x y d =
    ⊎_elim (λ h. beside_false (ltb x.off (y.off + slab_bytes y.class)) _ (le-ltb _ _ h))
    (λ h. rw (le-ltb x.off (y.off + slab_bytes y.class) h)) d

-- A block that shares no byte with any of some, told by the test.
pub alone_each : (x : Block) (ys : List Block) → shares_one x ys ≡ false → Each (Disjoint x) ys
unfolding shares_one Each
alone_each x [] e = tt
alone_each x (y ∷ ys) e = let p = neither (shares x y) (shares_one x ys) e in (shares_no x y p.0, alone_each x ys p.1)

-- The test of a block that shares no byte with any of some.
pub each_alone : (x : Block) (ys : List Block) → Each (Disjoint x) ys → shares_one x ys ≡ false
unfolding shares_one Each
each_alone x [] d = refl
each_alone x (y ∷ ys) (d, ds) = rw (disjoint_shares x y d) (each_alone x ys ds)

-- ---- blocks claimed

-- A refused claim isn't one that stands.
pub shared≢claimed : {bs : List Block} → shared ≡ claimed bs → ⊥
shared≢claimed e = let z : ◌≡◌ {A = ℕ} 0 1 = cc in omega arith

pub unfit≢claimed : {bs : List Block} → unfit ≡ claimed bs → ⊥
unfit≢claimed e = let z : ◌≡◌ {A = ℕ} 0 1 = cc in omega arith

-- A block that is claimed, and then the others.
pub claim_step : (before : List Block) (x : Block) (xs : List Block) → shares_one x before ≡ false
    → claim_all before (x ∷ xs) ≡ claim_all (x ∷ before) xs
unfolding claim_all
claim_step before x xs e = rw e

-- A block that shares a byte with one claimed before ends it.
pub claim_shared : (before : List Block) (x : Block) (xs : List Block) → shares_one x before ≡ true → claim_all before (x ∷ xs) ≡ shared
unfolding claim_all
claim_shared before x xs e = rw e

-- Blocks are claimed.
pub record Claims (before : List Block) (xs : List Block) : Type 0 where
  pub after : List Block
  pub is : claim_all before xs ≡ claimed after

-- The first of some that are claimed shares no byte with those before, and the others are claimed behind it.
pub claims_first : (before : List Block) (x : Block) (xs : List Block) → Claims before (x ∷ xs)
    → (shares_one x before ≡ false) × Claims (x ∷ before) xs
unfolding claim_all
claims_first before x xs c = by_test (shares_one x before) refl c.is
  where
    by_test : (t : Bool) → shares_one x before ≡ t → cond t shared (claim_all (x ∷ before) xs) ≡ claimed c.after
        → (shares_one x before ≡ false) × Claims (x ∷ before) xs
    by_test true q e = absurd (shared≢claimed e)
    by_test false q e = (q, record { after = c.after; is = e })

-- Nothing to claim leaves what is claimed.
pub claim_none : (before : List Block) → claim_all before [] ≡ claimed before
unfolding claim_all
claim_none before = refl

-- Blocks, and then others behind them.
pub claim_both : (before xs ys : List Block) {after : List Block} → claim_all before xs ≡ claimed after
    → claim_all before (xs ++ ys) ≡ claim_all after ys
unfolding claim_all
claim_both before [] ys {after} e = let same : before ≡ after = cc in rw same
claim_both before (x ∷ xs) ys {after} e =
    let p = claims_first before x xs (record { after = after; is = e }) in
    claim_step before x (xs ++ ys) p.0 ∙ claim_both (x ∷ before) xs ys (sym (claim_step before x xs p.0) ∙ e)

-- Of blocks and others behind them that are claimed, the first ones are.
pub claims_left : (before xs ys : List Block) → Claims before (xs ++ ys) → Claims before xs
unfolding claim_all
claims_left before [] ys c = record { after = before; is = refl }
claims_left before (x ∷ xs) ys c =
    let p = claims_first before x (xs ++ ys) c in
    let q = claims_left (x ∷ before) xs ys p.1 in
    record { after = q.after; is = claim_step before x xs p.0 ∙ q.is }

-- ---- claimed exactly where apart

-- Each of some blocks shares no byte with any of others.
abbrev pub Cross : List Block → List Block → Type 0
Cross xs ys = Each (λ x. Each (Disjoint x) ys) xs

-- Each of some blocks, with one more that none of them meets.
cross_more : (y : Block) (xs ys : List Block) → Each (Disjoint y) xs → Cross xs ys → Cross xs (y ∷ ys)
unfolding Each
cross_more y [] ys d c = tt
cross_more y (x ∷ xs) ys (d, ds) (c, cs) = ((disjoint_sym y x d, c), cross_more y xs ys ds cs)

-- Blocks that are claimed share no byte with those before, nor with each other.
pub claims_apart : (before xs : List Block) → Claims before xs → Cross xs before × AllApart xs
unfolding Each AllApart
claims_apart before [] c = (tt, tt)
claims_apart before (x ∷ xs) c =
    let p = claims_first before x xs c in
    let q = claims_apart (x ∷ before) xs p.1 in
    let mine = each_map (λ y. Each (Disjoint y) (x ∷ before)) (Disjoint x) (λ y d. disjoint_sym y x d.0) xs q.0 in
    let others = each_map (λ y. Each (Disjoint y) (x ∷ before)) (λ y. Each (Disjoint y) before) (λ y d. d.1) xs q.0 in
    ((alone_each x before p.0, others), (mine, q.1))

-- Blocks that share no byte with those before, nor with each other, are claimed.
pub apart_claims : (before xs : List Block) → Cross xs before → AllApart xs → Claims before xs
unfolding Each AllApart
apart_claims before [] c a = record { after = before; is = claim_none before }
apart_claims before (x ∷ xs) (c, cs) (a, rest) =
    let q = apart_claims (x ∷ before) xs (cross_more x xs before a cs) rest in
    record { after = q.after; is = claim_step before x xs (each_alone x before c) ∙ q.is }
