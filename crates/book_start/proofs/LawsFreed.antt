-- The free list of a class: its blocks are claimed exactly where it ends, they stand, and no two blocks share a byte. Assumes nothing.
use Prim.Native.Nat.{ℕ, zero, suc, ◌≤◌}
use mathlib.Core.Bool.{Bool, true, false, cond}
use mathlib.Core.List.{List, [], ◌∷◌}
use mathlib.Core.Logic.{◌⊎◌, inl, inr, ⊎_elim}
use mathlib.Core.Path.{◌≡◌, refl, sym, ap, subst, ◌∙◌}
use native.Mathlib.Omega.{arith}
use borrow.Author.Tests.{eqb-true, eqb-false, eq-eqb, ne_eqb}
use lib.Dec.{eqb}
use lib.ListN.{length}
use Rattle.scripthash_free.specs.FreeList.{Block, is_block, next_of, IsFreeList, Each}
use Rattle.scripthash_free.proofs.LawsBlock.{block_stands, bytes_from_16}
use Rattle.book_space.specs.Space.{Space}
use Rattle.book_start.specs.Start.{Stands, block, blocks_at, followed, shares_one, claimed, unfit, shared, claim_all, claim_freed}
use Rattle.book_start.proofs.LawsClaims.{shared≢claimed, unfit≢claimed, claim_none, claim_step, claims_first}

-- A free list that ends, each of its blocks one that 35 would pass.
pub record Ending (s : Space) (class off : ℕ) (os : List ℕ) : Type 0 where
  pub names : IsFreeList s.body off os
  pub stand : Each (Stands s.mark) (blocks_at class os)

-- ---- steps

module _ (k : ℕ) (s : Space) (class : ℕ) (before : List Block) (off : ℕ) where
  -- 0 ends the list
  pub freed_end : off ≡ 0 → claim_freed k s class before off ≡ claimed before
  unfolding claim_freed
  freed_end z = by_fuel k
    where
      by_fuel : (n : ℕ) → claim_freed n s class before off ≡ claimed before
      by_fuel zero = rw (eq-eqb off 0 z)
      by_fuel (suc n) = rw (eq-eqb off 0 z)

  module _ (more : off ≡ 0 → ⊥) where
    -- a block that 35 would turn back
    pub freed_unfit : is_block class off s.mark ≡ false → claim_freed (suc k) s class before off ≡ unfit
    unfolding claim_freed
    freed_unfit e = rw (ne_eqb off 0 more, e)

    -- a block that shares a byte
    pub freed_shared : is_block class off s.mark ≡ true → shares_one (block class off) before ≡ true
        → claim_freed (suc k) s class before off ≡ shared
    unfolding claim_freed
    freed_shared e f = rw (ne_eqb off 0 more, e, f)

    -- a block that is claimed
    pub freed_step : is_block class off s.mark ≡ true → shares_one (block class off) before ≡ false
        → claim_freed (suc k) s class before off ≡ claim_freed k s class (block class off ∷ before) (next_of s.body off)
    unfolding claim_freed
    freed_step e f = rw (ne_eqb off 0 more, e, f)

-- more blocks than there is room for
pub freed_none_left : (s : Space) (class : ℕ) (before : List Block) (off : ℕ) → (off ≡ 0 → ⊥) → claim_freed 0 s class before off ≡ shared
unfolding claim_freed
freed_none_left s class before off more = rw (ne_eqb off 0 more)

-- ---- whole lists

-- 0 names nothing.
pub followed_end : (k : ℕ) (body : List ℕ) (off : ℕ) → off ≡ 0 → followed k body off ≡ []
unfolding followed
followed_end zero body off z = refl
followed_end (suc k) body off z = rw (eq-eqb off 0 z)

-- Another offset is named, and then what its block names.
pub followed_more : (k : ℕ) (body : List ℕ) (off : ℕ) → (off ≡ 0 → ⊥) → followed (suc k) body off ≡ off ∷ followed k body (next_of body off)
unfolding followed
followed_more k body off more = rw (ne_eqb off 0 more)

-- A claimed block of a free list, and the rest of it.
record Goes (k : ℕ) (s : Space) (class : ℕ) (before : List Block) (off : ℕ) (after : List Block) : Type 0 where
  more : off ≡ 0 → ⊥
  stands : is_block class off s.mark ≡ true
  alone : shares_one (block class off) before ≡ false
  rest : claim_freed k s class (block class off ∷ before) (next_of s.body off) ≡ claimed after

-- A free list that is claimed ends, or goes on behind a claimed block.
freed_was : (k : ℕ) (s : Space) (class : ℕ) (before : List Block) (off : ℕ) {after : List Block}
    → claim_freed (suc k) s class before off ≡ claimed after → ((off ≡ 0) × (before ≡ after)) ⊎ Goes k s class before off after
unfolding claim_freed
freed_was k s class before off {after} e = by_end (eqb off 0) refl e
  where
    by_share : (t : Bool) → shares_one (block class off) before ≡ t → (off ≡ 0 → ⊥) → is_block class off s.mark ≡ true
        → cond t shared (claim_freed k s class (block class off ∷ before) (next_of s.body off)) ≡ claimed after
        → Goes k s class before off after
    by_share true q more stands e = absurd (shared≢claimed e)
    by_share false q more stands e = record { more = more; stands = stands; alone = q; rest = e }

    by_block : (t : Bool) → is_block class off s.mark ≡ t → (off ≡ 0 → ⊥)
        → cond t (cond (shares_one (block class off) before) shared (claim_freed k s class (block class off ∷ before) (next_of
        s.body off))) unfit
        ≡ claimed after
        → Goes k s class before off after
    by_block true q more e = by_share (shares_one (block class off) before) refl more q e
    by_block false q more e = absurd (unfit≢claimed e)

    by_end : (t : Bool) → eqb off 0 ≡ t
        → cond t (claimed before)
        (cond (is_block class off s.mark)
        (cond (shares_one (block class off) before) shared (claim_freed k s class (block class off ∷ before) (next_of s.body off))) unfit)
        ≡ claimed after
        → ((off ≡ 0) × (before ≡ after)) ⊎ Goes k s class before off after
    by_end true q e = inl (eqb-true off 0 q, cc)
    by_end false q e = inr (by_block (is_block class off s.mark) refl (eqb-false off 0 q) e)

-- A list that names nothing ends.
ending_none : (s : Space) (class off : ℕ) → off ≡ 0 → Ending s class off []
unfolding IsFreeList blocks_at Each
ending_none s class off z = record { names = z; stand = tt }

-- A block that stands before a list that ends.
ending_more : (s : Space) (class off : ℕ) (os : List ℕ) → s.mark ≤ length s.body → is_block class off s.mark ≡ true
    → Ending s class (next_of s.body off) os → Ending s class off (off ∷ os)
unfolding IsFreeList blocks_at Each
ending_more s class off os within stands n =
    let b = block_stands class off s.mark stands in
    let low = b.begins in
    let high = b.ends in
    let size = bytes_from_16 class in
    record { names = (refl, omega arith, omega arith, n.names); stand = (stands, n.stand) }

-- What is claimed of a free list: it ends, its blocks stand, and they are claimed.
pub record FreedClaims (s : Space) (class : ℕ) (before : List Block) (off : ℕ) (os : List ℕ) (after : List Block) : Type 0 where
  pub ends : Ending s class off os
  pub is : claim_all before (blocks_at class os) ≡ claimed after

claims_none : (s : Space) (class : ℕ) (before : List Block) (off : ℕ) (after : List Block) → off ≡ 0 → before ≡ after
    → FreedClaims s class before off [] after
unfolding blocks_at
claims_none s class before off after z e = record { ends = ending_none s class off z; is = claim_none before ∙ ap claimed e }

claims_more : (s : Space) (class : ℕ) (before : List Block) (off : ℕ) (os : List ℕ) (after : List Block) → s.mark ≤ length s.body
    → is_block class off s.mark ≡ true → shares_one (block class off) before ≡ false
    → FreedClaims s class (block class off ∷ before) (next_of s.body off) os after
    → FreedClaims s class before off (off ∷ os) after
unfolding blocks_at
claims_more s class before off os after within stands alone r =
    record {
      ends = ending_more s class off os within stands r.ends;
      is = claim_step before (block class off) (blocks_at class os) alone ∙ r.is;
    }

-- A free list that is claimed ends, and its blocks stand and are claimed.
pub freed_claimed : (k : ℕ) (s : Space) (class : ℕ) (before : List Block) (off : ℕ) {after : List Block} → s.mark ≤ length s.body
    → claim_freed k s class before off ≡ claimed after → FreedClaims s class before off (followed k s.body off) after
unfolding claim_freed followed
freed_claimed zero s class before off {after} within e = by_end (eqb off 0) refl e
  where
    by_end : (t : Bool) → eqb off 0 ≡ t → cond t (claimed before) shared ≡ claimed after → FreedClaims s class before off [] after
    by_end true q e = claims_none s class before off after (eqb-true off 0 q) (cc)
    by_end false q e = absurd (shared≢claimed e)
freed_claimed (suc k) s class before off {after} within e =
    ⊎_elim
    (λ (z : (off ≡ 0) × (before ≡ after)).
    subst (λ (os : List ℕ). FreedClaims s class before off os after) (sym (followed_end (suc k) s.body off z.0))
    (claims_none s class before off after z.0 z.1))
    (λ (g : Goes k s class before off after).
    subst (λ (os : List ℕ). FreedClaims s class before off os after) (sym (followed_more k s.body off g.more))
    (claims_more s class before off (followed k s.body (next_of s.body off)) after within g.stands g.alone
    (freed_claimed k s class (block class off ∷ before) (next_of s.body off) within g.rest)))
    (freed_was k s class before off e)

-- A free list that ends, of blocks that stand and are claimed, is claimed.
pub claimed_freed : (k : ℕ) (s : Space) (class : ℕ) (before : List Block) (off : ℕ) (os : List ℕ) {after : List Block}
    → length os ≤ k → Ending s class off os → claim_all before (blocks_at class os) ≡ claimed after
    → claim_freed k s class before off ≡ claimed after
unfolding claim_all blocks_at Each IsFreeList
claimed_freed k s class before off [] few n e = freed_end k s class before off n.names ∙ e
claimed_freed zero s class before off (o ∷ os) few n e = absurd (omega arith)
claimed_freed (suc k) s class before off (o ∷ os) {after} few n e =
    let here : off ≡ o = n.names.0 in
    let more : off ≡ 0 → ⊥ = λ z. let p = n.names.1 in omega arith in
    let p = claims_first before (block class o) (blocks_at class os) (record { after = after; is = e }) in
    let stands : is_block class off s.mark ≡ true = ap (λ (x : ℕ). is_block class x s.mark) here ∙ n.stand.0 in
    let alone : shares_one (block class off) before ≡ false = ap (λ (x : ℕ). shares_one (block class x) before) here ∙ p.0 in
    freed_step k s class before off more stands alone
    ∙ ap (λ (x : ℕ). claim_freed k s class (block class x ∷ before) (next_of s.body x)) here
    ∙ claimed_freed k s class (block class o ∷ before) (next_of s.body o) os (omega arith)
    (record { names = n.names.3; stand = n.stand.1 }) (sym (claim_step before (block class o) (blocks_at class os) p.0) ∙ e)

-- Following a list over so many blocks names at most so many.
pub followed_few : (k : ℕ) (body : List ℕ) (off : ℕ) → length (followed k body off) ≤ k
unfolding followed
followed_few zero body off = omega arith
followed_few (suc k) body off = by_end (eqb off 0) (followed_few k body (next_of body off))
  where
    by_end : (t : Bool) → length (followed k body (next_of body off)) ≤ k
        → length (cond t [] (off ∷ followed k body (next_of body off))) ≤ suc k
    by_end true h = omega arith
    by_end false h = omega arith
