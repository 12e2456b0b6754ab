-- The list of freed pages, walked: what its test tells, and that it holds no page twice. Assumes nothing.
use Rattle.std.proofs.Common.{◌≡◌, ℕ, zero, suc, ◌+◌, ◌-◌, ◌<◌, ◌≤◌, true, false, eqb, List, [], ◌∷◌, sym, refl, ap, subst, ⊎_elim, true≢false, arith, eqb-true}
use Rattle.scripthash_free.specs.FreeList.{next_of, is_block}
use Rattle.scripthash_free.proofs.LawsBlock.{both, not_holds, block_stands, Standing}
use Rattle.free_runs.specs.Runs.{is_in}
use Rattle.free_runs.specs.PageList.{walked, pages_end}
use Rattle.free_runs.proofs.LawsRuns.{either}
use Rattle.free_runs.proofs.LawsSought.{Pages}

module _ (mark : ℕ) (body : List ℕ) where
  pub ends_none : (o : ℕ) → pages_end mark 0 body o ≡ eqb o 0
  unfolding pages_end
  ends_none o = refl

  pub ends_step : (k o : ℕ) → 0 < k → is_block 8 o mark ≡ true → pages_end mark k body o ≡ pages_end mark (k - 1) body (next_of body o)
  unfolding pages_end
  ends_step zero o h e = absurd (omega arith)
  ends_step (suc k) o h e = let z : suc k - 1 ≡ k = omega arith in rw (e, z)

  pub ends_strays : (k o : ℕ) → 0 < k → is_block 8 o mark ≡ false → pages_end mark k body o ≡ false
  unfolding pages_end
  ends_strays zero o h e = absurd (omega arith)
  ends_strays (suc k) o h e = rw e

  -- Where pages are left, there is one, and those behind it.
  pub ends_page : (k o : ℕ) → 0 < k → pages_end mark k body o ≡ true
      → Standing 8 o mark × (pages_end mark (k - 1) body (next_of body o) ≡ true)
  unfolding pages_end
  ends_page zero o h e = absurd (omega arith)
  ends_page (suc k) o h e =
      let p = both (is_block 8 o mark) (pages_end mark k body (next_of body o)) e in
      let z : suc k - 1 ≡ k = omega arith in
      (block_stands 8 o mark p.0, rw z p.1)

  pub walked_none : (o : ℕ) → walked 0 body o ≡ []
  unfolding walked
  walked_none o = refl

  pub walked_step : (k o : ℕ) → 0 < k → walked k body o ≡ o ∷ walked (k - 1) body (next_of body o)
  unfolding walked
  walked_step zero o h = absurd (omega arith)
  walked_step (suc k) o h = let z : suc k - 1 ≡ k = omega arith in rw z

  -- The same where some pages of a list were walked, and one more is.
  pub ends_next : (k n o : ℕ) → n < k → is_block 8 o mark ≡ true
      → pages_end mark (k - n) body o ≡ pages_end mark (k - (n + 1)) body (next_of body o)
  ends_next k n o h e = let z : k - (n + 1) ≡ k - n - 1 = omega arith in rw z (ends_step (k - n) o (omega arith) e)

  pub walked_next : (k n o : ℕ) → n < k → walked (k - n) body o ≡ o ∷ walked (k - (n + 1)) body (next_of body o)
  walked_next k n o h = let z : k - (n + 1) ≡ k - n - 1 = omega arith in rw z (walked_step (k - n) o (omega arith))

  -- A list that ends has one length.
  pub ends_once : (j k o : ℕ) → pages_end mark j body o ≡ true → pages_end mark k body o ≡ true → j ≡ k
  unfolding pages_end
  ends_once zero zero o e f = refl
  ends_once zero (suc k) o e f =
      let s = (ends_page (suc k) o (omega arith) f).0.begins in let z = eqb-true o 0 e in absurd (omega arith)
  ends_once (suc j) zero o e f =
      let s = (ends_page (suc j) o (omega arith) e).0.begins in let z = eqb-true o 0 f in absurd (omega arith)
  ends_once (suc j) (suc k) o e f =
      let p = both (is_block 8 o mark) (pages_end mark j body (next_of body o)) e in
      let q = both (is_block 8 o mark) (pages_end mark k body (next_of body o)) f in
      ap (λ (n : ℕ). suc n) (ends_once j k (next_of body o) p.1 q.1)

  -- Each offset of a list that ends is a page from which it ends too, in no more steps.
  pub from_member : (k o x : ℕ) → pages_end mark k body o ≡ true → is_in x (walked k body o) ≡ true
      → (j : ℕ) × (j ≤ k) × (0 < j) × (pages_end mark j body x ≡ true)
  unfolding walked is_in
  from_member zero o x e h = absurd (true≢false (sym h))
  from_member (suc k) o x e h =
      ⊎_elim
      (λ (q : eqb o x ≡ true).
      (suc k, omega arith, omega arith, subst (λ (y : ℕ). pages_end mark (suc k) body y ≡ true) (eqb-true o x q) e))
      (λ (q : is_in x (walked k body (next_of body o)) ≡ true).
      let z : suc k - 1 ≡ k = omega arith in
      let r = from_member k (next_of body o) x (rw z at (ends_page (suc k) o (omega arith) e).1) q in
      (r.0, omega (arith, r.1), r.2, r.3))
      (either (eqb o x) (is_in x (walked k body (next_of body o))) h)

  -- A page isn't among those behind it: the list holds no page twice.
  pub ends_apart : (k o : ℕ) → pages_end mark (suc k) body o ≡ true → is_in o (walked k body (next_of body o)) ≡ false
  ends_apart k o e =
      not_holds _ (λ h.
      let z : suc k - 1 ≡ k = omega arith in
      let r = from_member k (next_of body o) o (rw z at (ends_page (suc k) o (omega arith) e).1) h in
      let same = ends_once r.0 (suc k) o r.3 e in
      omega (arith, r.1))

  -- Its offsets are pages'.
  pub walked_pages : (k o : ℕ) → pages_end mark k body o ≡ true → Pages mark (walked k body o)
  walked_pages k o e =
      let stands : (x : ℕ) → is_in x (walked k body o) ≡ true → Standing 8 x mark =
      λ x h. let r = from_member k o x e h in (ends_page r.0 x r.2 r.3).0 in
      record { aligned = λ x h. (stands x h).aligned; below = λ x h. (stands x h).ends }
