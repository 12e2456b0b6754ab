-- Blocks that share no byte and lie between two offsets take no more bytes than lie there; where they take as many, each byte there is one
-- of theirs. Assumes nothing.
use Prim.Native.Nat.{ℕ, zero, suc, ◌+◌, ◌%◌, ◌≤◌, ◌<◌}
use mathlib.Core.Bool.{Bool, true, false, cond}
use mathlib.Core.List.{List, [], ◌∷◌, ◌++◌}
use mathlib.Core.Logic.{◌⊎◌, inl, inr, ⊎_elim}
use mathlib.Core.Path.{◌≡◌, refl, sym, ◌∙◌}
use native.Mathlib.Nat.{zero-add, le_refl}
use native.Mathlib.Omega.{arith}
use lib.Dec.{ltb}
use lib.ListN.{length, get_or}
use borrow.Author.Tests.{ltb-true, ltb-false}
use Rattle.buffer.proofs.LawsOrder.{lt_or_ge}
use Rattle.scripthash_layout.specs.Sizes.{slab_bytes}
use Rattle.scripthash_free.specs.FreeList.{Block, Disjoint, Each, Within}
use Rattle.scripthash_free.proofs.LawsBlock.{bytes_from_16, block_stands}
use Rattle.scripthash_free.proofs.LawsGap.{each_map}
use Rattle.book.specs.Book.{Book}
use Rattle.book_start.specs.Start.{claimed, claim_all, AllApart, Stands, blocks_at, bytes_taken, followed_from, held_by, freed_by, blocks_of}
use Rattle.book_start.specs.Start.{held_of, list_of}
use Rattle.book_start.specs.Start.{GoodBlocks}
use Rattle.book_start.specs.Covered.{Has, OneHas, lost_in, Covered}
use Rattle.book_start.proofs.LawsClaims.{claims_first, claim_step}
use Rattle.book_start.proofs.LawsPairs.{gather, gather_same, held_gathered, freed_gathered, held_stand}

-- ---- blocks on either side of an offset

-- Those that begin below it, and those that don't.
unfoldable below : ℕ → List Block → List Block
below o [] = []
below o (x ∷ xs) = cond (ltb x.off o) (x ∷ below o xs) (below o xs)

unfoldable above : ℕ → List Block → List Block
above o [] = []
above o (x ∷ xs) = cond (ltb x.off o) (above o xs) (x ∷ above o xs)

-- Both are no more than all, and take as many bytes.
split_bytes : (o : ℕ) (xs : List Block) → bytes_taken xs ≡ bytes_taken (below o xs) + bytes_taken (above o xs)
unfolding bytes_taken below above
split_bytes o [] = omega arith
split_bytes o (x ∷ xs) = go (ltb x.off o) (split_bytes o xs)
  where
    go : (t : Bool) → bytes_taken xs ≡ bytes_taken (below o xs) + bytes_taken (above o xs)
        → slab_bytes x.class + bytes_taken xs ≡ bytes_taken (cond t (x ∷ below o xs) (below o xs))
        + bytes_taken (cond t (above o xs) (x ∷ above o xs))
    go true e = omega arith
    go false e = omega arith

few_below : (o : ℕ) (xs : List Block) → length (below o xs) ≤ length xs
unfolding below
few_below o [] = omega arith
few_below o (x ∷ xs) = go (ltb x.off o) (few_below o xs)
  where
    go : (t : Bool) → length (below o xs) ≤ length xs → length (cond t (x ∷ below o xs) (below o xs)) ≤ suc (length xs)
    go true e = omega arith
    go false e = omega arith

few_above : (o : ℕ) (xs : List Block) → length (above o xs) ≤ length xs
unfolding above
few_above o [] = omega arith
few_above o (x ∷ xs) = go (ltb x.off o) (few_above o xs)
  where
    go : (t : Bool) → length (above o xs) ≤ length xs → length (cond t (above o xs) (x ∷ above o xs)) ≤ suc (length xs)
    go true e = omega arith
    go false e = omega arith

-- What holds of each holds of these, by where they begin.
module _ (P Q : Block → Type 0) (o : ℕ) where
  each_below : ((x : Block) → P x → x.off < o → Q x) → (xs : List Block) → Each P xs → Each Q (below o xs)
  unfolding Each below
  each_below f [] e = tt
  each_below f (x ∷ xs) (p, e) = go (ltb x.off o) refl (each_below f xs e)
    where
      go : (t : Bool) → ltb x.off o ≡ t → Each Q (below o xs) → Each Q (cond t (x ∷ below o xs) (below o xs))
      go true q r = (f x p (ltb-true x.off o q), r)
      go false q r = r

  each_above : ((x : Block) → P x → o ≤ x.off → Q x) → (xs : List Block) → Each P xs → Each Q (above o xs)
  unfolding Each above
  each_above f [] e = tt
  each_above f (x ∷ xs) (p, e) = go (ltb x.off o) refl (each_above f xs e)
    where
      go : (t : Bool) → ltb x.off o ≡ t → Each Q (above o xs) → Each Q (cond t (above o xs) (x ∷ above o xs))
      go true q r = r
      go false q r = (f x p (ltb-false x.off o q), r)

apart_below : (o : ℕ) (xs : List Block) → AllApart xs → AllApart (below o xs)
unfolding AllApart below
apart_below o [] a = tt
apart_below o (x ∷ xs) (d, a) = go (ltb x.off o) (apart_below o xs a)
  where
    go : (t : Bool) → AllApart (below o xs) → AllApart (cond t (x ∷ below o xs) (below o xs))
    go true r = (each_below (Disjoint x) (Disjoint x) o (λ y e l. e) xs d, r)
    go false r = r

apart_above : (o : ℕ) (xs : List Block) → AllApart xs → AllApart (above o xs)
unfolding AllApart above
apart_above o [] a = tt
apart_above o (x ∷ xs) (d, a) = go (ltb x.off o) (apart_above o xs a)
  where
    go : (t : Bool) → AllApart (above o xs) → AllApart (cond t (above o xs) (x ∷ above o xs))
    go true r = r
    go false r = (each_above (Disjoint x) (Disjoint x) o (λ y e l. e) xs d, r)

-- A byte of one of these is a byte of one of all.
has_below : (o k : ℕ) (xs : List Block) → OneHas k (below o xs) → OneHas k xs
unfolding OneHas below
has_below o k [] h = h
has_below o k (x ∷ xs) h = go (ltb x.off o) (has_below o k xs) h
  where
    go : (t : Bool) → (OneHas k (below o xs) → OneHas k xs) → OneHas k (cond t (x ∷ below o xs) (below o xs)) → Has k x ⊎ OneHas k xs
    go true rest h = ⊎_elim (λ m. inl m) (λ m. inr (rest m)) h
    go false rest h = inr (rest h)

has_above : (o k : ℕ) (xs : List Block) → OneHas k (above o xs) → OneHas k xs
unfolding OneHas above
has_above o k [] h = h
has_above o k (x ∷ xs) h = go (ltb x.off o) (has_above o k xs) h
  where
    go : (t : Bool) → (OneHas k (above o xs) → OneHas k xs) → OneHas k (cond t (above o xs) (x ∷ above o xs)) → Has k x ⊎ OneHas k xs
    go true rest h = inr (rest h)
    go false rest h = ⊎_elim (λ m. inl m) (λ m. inr (rest m)) h

-- ---- between two offsets

each_two : (P Q : Block → Type 0) (xs : List Block) → Each P xs → Each Q xs → Each (λ x. P x × Q x) xs
unfolding Each
each_two P Q [] e f = tt
each_two P Q (x ∷ xs) (p, e) (q, f) = ((p, q), each_two P Q xs e f)

-- Of blocks that share no byte with one, those that begin below it end there, and the others begin where it ends.
module _ (lo hi : ℕ) (x : Block) (xs : List Block) (d : Each (Disjoint x) xs) (w : Each (Within lo hi) xs) where
  abbrev Both : Block → Type 0
  Both y = Disjoint x y × Within lo hi y

  both : Each Both xs
  both = each_two (Disjoint x) (Within lo hi) xs d w

  within_below : Each (Within lo x.off) (below x.off xs)
  within_below = each_below Both (Within lo x.off) x.off low xs both
    where
      low : (y : Block) → Both y → y.off < x.off → Within lo x.off y
      low y (e, f) l = let big = bytes_from_16 x.class in ⊎_elim (λ m. absurd (omega arith)) (λ m. (f.0, m)) e

  within_above : Each (Within (x.off + slab_bytes x.class) hi) (above x.off xs)
  within_above = each_above Both (Within (x.off + slab_bytes x.class) hi) x.off high xs both
    where
      high : (y : Block) → Both y → x.off ≤ y.off → Within (x.off + slab_bytes x.class) hi y
      high y (e, f) l = let big = bytes_from_16 y.class in ⊎_elim (λ m. (m, f.1)) (λ m. absurd (omega arith)) e

-- They take no more bytes than lie there.
pub room_for : (n lo hi : ℕ) (xs : List Block) → length xs ≤ n → lo ≤ hi → AllApart xs → Each (Within lo hi) xs → lo + bytes_taken xs ≤ hi
unfolding AllApart Each bytes_taken
room_for zero lo hi [] few l a w = omega arith
room_for zero lo hi (x ∷ xs) few l a w = absurd (omega arith)
room_for (suc n) lo hi [] few l a w = omega arith
room_for (suc n) lo hi (x ∷ xs) few l (d, a) ((from, to), w) =
    let fb = few_below x.off xs in
    let fa = few_above x.off xs in
    let low = room_for n lo x.off (below x.off xs) (omega arith) from (apart_below x.off xs a) (within_below lo hi x xs d w) in
    let high = room_for n (x.off + slab_bytes x.class) hi (above x.off xs) (omega arith) to (apart_above x.off xs a)
    (within_above lo hi x xs d w) in
    let all = split_bytes x.off xs in
    omega arith

-- Where they take as many, each byte there is one of theirs.
pub all_covered : (n lo hi : ℕ) (xs : List Block) → length xs ≤ n → AllApart xs → Each (Within lo hi) xs → lo + bytes_taken xs ≡ hi
    → (o : ℕ) → lo ≤ o → o < hi → OneHas o xs
unfolding AllApart Each bytes_taken OneHas
all_covered zero lo hi [] few a w full o l h = absurd (omega arith)
all_covered zero lo hi (x ∷ xs) few a w full o l h = absurd (omega arith)
all_covered (suc n) lo hi [] few a w full o l h = absurd (omega arith)
all_covered (suc n) lo hi (x ∷ xs) few (d, a) ((from, to), w) full o l h =
    let fb = few_below x.off xs in
    let fa = few_above x.off xs in
    let low = room_for n lo x.off (below x.off xs) (omega arith) from (apart_below x.off xs a) (within_below lo hi x xs d w) in
    let high = room_for n (x.off + slab_bytes x.class) hi (above x.off xs) (omega arith) to (apart_above x.off xs a)
    (within_above lo hi x xs d w) in
    let all = split_bytes x.off xs in
    ⊎_elim
    (λ (before : o < x.off).
    inr (has_below x.off o xs
    (all_covered n lo x.off (below x.off xs) (omega arith) (apart_below x.off xs a) (within_below lo hi x xs d w) (omega arith) o l
    before)))
    (λ (from' : x.off ≤ o).
    ⊎_elim (λ (inside : o < x.off + slab_bytes x.class). inl (from', inside))
    (λ (behind : x.off + slab_bytes x.class ≤ o).
    inr (has_above x.off o xs
    (all_covered n (x.off + slab_bytes x.class) hi (above x.off xs) (omega arith) (apart_above x.off xs a)
    (within_above lo hi x xs d w) (omega arith) o behind h)))
    (lt_or_ge o (x.off + slab_bytes x.class)))
    (lt_or_ge o x.off)

-- Blocks that stand lie between 4,096 and the mark.
pub stand_within : (mark : ℕ) (xs : List Block) → Each (Stands mark) xs → Each (Within 4096 mark) xs
stand_within mark xs e =
    each_map (Stands mark) (Within 4096 mark)
    (λ x s. let b = block_stands x.class x.off mark s in (b.begins, b.ends)) xs e

-- ---- a good start

-- What holds of each block of some lists holds of all.
each_both : (P : Block → Type 0) (xs ys : List Block) → Each P xs → Each P ys → Each P (xs ++ ys)
unfolding Each
each_both P [] ys e f = f
each_both P (x ∷ xs) ys (p, e) f = (p, each_both P xs ys e f)

each_gather : (P : Block → Type 0) (n : ℕ) (f : ℕ → List Block) → ((i : ℕ) → i < n → Each P (f i)) → Each P (gather n f)
unfolding gather Each
each_gather P zero f e = tt
each_gather P (suc n) f e =
    each_both P (f 0) (gather n (λ i. f (suc i))) (e 0 (omega arith)) (each_gather P n (λ i. f (suc i)) (λ i l. e (suc i) (omega arith)))

module _ (b : Book) (g : GoodBlocks b) where
  -- All its blocks stand below the mark.
  pub all_stand : Each (Stands b.space.mark) (blocks_of b)
  all_stand =
      let n = g.nine in
      let lists : freed_by b.space 0 b.space.free ≡ gather (length b.space.free) (list_of b)
      = freed_gathered b.space 0 b.space.free
      ∙ gather_same (length b.space.free) (λ i. blocks_at (0 + i) (followed_from b.space (get_or b.space.free i 0))) (list_of b)
      (λ i. rw (zero-add i)) in
      each_both (Stands b.space.mark) (held_by b.space b.heads) (freed_by b.space 0 b.space.free)
      (rw (held_gathered b.space b.heads)
      (each_gather (Stands b.space.mark) (length b.heads) (held_of b) (λ i l. held_stand b g i l)))
      (rw lists (each_gather (Stands b.space.mark) (length b.space.free) (list_of b) (λ i l. g.stand i (omega arith))))

  -- They take no more bytes than lie between 4,096 and the mark.
  pub start_room : 4096 ≤ b.space.mark → 4096 + bytes_taken (blocks_of b) ≤ b.space.mark
  start_room from =
      room_for (length (blocks_of b)) 4096 b.space.mark (blocks_of b) (le_refl _) from g.apart
      (stand_within b.space.mark (blocks_of b) all_stand)

  -- Where no byte is lost, each is a block's.
  pub start_covered : 4096 ≤ b.space.mark → lost_in b ≡ 0 → Covered b
  unfolding lost_in
  start_covered from none' o l h =
      let room = start_room from in
      all_covered (length (blocks_of b)) 4096 b.space.mark (blocks_of b) (le_refl _) g.apart
      (stand_within b.space.mark (blocks_of b) all_stand) (omega arith) o l h

-- ---- what claimed blocks take

-- Blocks take whole units.
pub whole_units : (xs : List Block) → bytes_taken xs % 16 ≡ 0
unfolding bytes_taken
whole_units [] = refl
whole_units (x ∷ xs) = let e = whole_units xs in omega arith

-- All claimed blocks take what those before take and what those take that were claimed behind them.
pub claimed_bytes : (before xs after : List Block) → claim_all before xs ≡ claimed after
    → bytes_taken after ≡ bytes_taken before + bytes_taken xs
unfolding claim_all bytes_taken
claimed_bytes before [] after e = let same : before ≡ after = cc in rw same (omega arith)
claimed_bytes before (x ∷ xs) after e =
    let p = claims_first before x xs (record { after = after; is = e }) in
    let rest = claimed_bytes (x ∷ before) xs after (sym (claim_step before x xs p.0) ∙ e) in
    omega arith
