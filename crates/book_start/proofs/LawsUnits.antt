-- The work list: the units of a block are free exactly where it shares no byte with a claimed one. Assumes nothing.
use Prim.Native.Nat.{ℕ, zero, suc, ◌+◌, ◌-◌, ◌*◌, ◌/◌, ◌%◌, ◌≤◌, ◌<◌}
use mathlib.Core.Bool.{Bool, true, false, cond, not, ◌&&◌, ◌||◌}
use mathlib.Core.List.{List, [], ◌∷◌, ◌++◌}
use mathlib.Core.Logic.{⊎_elim}
use mathlib.Core.Path.{◌≡◌, refl, sym, ap, ◌∙◌}
use native.Mathlib.Omega.{arith}
use borrow.Author.Tests.{ltb-true, eq-eqb, ne_eqb}
use lib.Dec.{ltb, eqb}
use lib.ListN.{length, get_or, take, drop, set, replicate, length-replicate}
use lib.Pow.{pow_pos}
use Rattle.buffer.specs.Bytes.{part, overwrite}
use Rattle.buffer.proofs.LawsBytes.{overwrite_nil, overwrite_step, length_overwrite, part_to_end}
use Rattle.buffer.proofs.LawsFields.{part_add}
use Rattle.buffer.proofs.LawsOrder.{lt_or_ge}
use Rattle.buffer.proofs.LawsOverwrite.{part_none, part_step, part_within, part_before, part_after}
use Rattle.scripthash_layout.specs.Sizes.{slab_bytes, page_class}
use Rattle.scripthash_free.specs.FreeList.{Disjoint, Block, Each, unit_of}
use Rattle.scripthash_free.proofs.LawsBlock.{both, block_stands}
use Rattle.book_start.specs.Start.{Stands, block, shares, shares_one}
use Rattle.book_start.specs.Units.{bits_of, units_of, all_free, units_free, marked, claim_units, mark_all, cleared}
use Rattle.book_start.proofs.LawsBits.{units_long, set_unit}
use Rattle.book_start.proofs.LawsClaims.{shares_no}

-- So many units that are marked, and that are cleared.
abbrev ones : ℕ → List ℕ
ones k = replicate k 1

abbrev zeros : ℕ → List ℕ
zeros k = replicate k 0

length_ones : (k : ℕ) → length (ones k) ≡ k
length_ones k = length-replicate k 1

length_zeros : (k : ℕ) → length (zeros k) ≡ k
length_zeros k = length-replicate k 0

-- ---- units one after the other

module _ (work : List ℕ) (i end : ℕ) where
  -- Where no unit is left, all were given the value.
  pub fill_end : (value : ℕ) → end ≤ i → overwrite work i (replicate (end - i) value) ≡ work
  fill_end value h = let none : end - i ≡ 0 = omega arith in rw none (overwrite_nil work i)

  -- Where no unit is left, all were free.
  pub free_end : end ≤ i → all_free (part work i (end - i)) ≡ true
  unfolding all_free
  free_end h = let none : end - i ≡ 0 = omega arith in rw (none, part_none work i)

  module _ (more : i < end) (within : i < length work) where
    left : end - i ≡ suc (end - (i + 1))
    left = omega arith

    -- A unit is given the value, and then those behind it.
    pub fill_turn : (value : ℕ) → overwrite (set work i value) (i + 1) (replicate (end - (i + 1)) value)
        ≡ overwrite work i (replicate (end - i) value)
    fill_turn value = rw left (sym (overwrite_step work i value (replicate (end - (i + 1)) value) within))

    first : part work i (end - i) ≡ get_or work i 0 ∷ part work (i + 1) (end - (i + 1))
    first = let n : end - i ≡ end - (i + 1) + 1 = omega arith in ap (λ (k : ℕ). part work i k) n ∙ part_step work i (end - (i + 1)) within

    -- A free unit leaves it to those behind it.
    pub free_turn : get_or work i 0 ≡ 0 → all_free (part work (i + 1) (end - (i + 1))) ≡ all_free (part work i (end - i))
    unfolding all_free
    free_turn z = rw (first, eq-eqb (get_or work i 0) 0 z)

    -- A taken unit ends it.
    pub free_taken : (get_or work i 0 ≡ 0 → ⊥) → all_free (part work i (end - i)) ≡ false
    unfolding all_free
    free_taken n = rw (first, ne_eqb (get_or work i 0) 0 n)

-- ---- which units are free

-- Units of two lists are free where those of both are.
free_append : (xs ys : List ℕ) → all_free (xs ++ ys) ≡ all_free xs && all_free ys
unfolding all_free
free_append [] ys = refl
free_append (x ∷ xs) ys = rw (free_append xs ys) (regroup (eqb x 0) (all_free xs) (all_free ys))
  where
    regroup : (a b c : Bool) → a && (b && c) ≡ (a && b) && c
    regroup true b c = refl
    regroup false b c = refl

-- A test fails before or behind one that fails.
fails_behind : (a : Bool) → a && false ≡ false
fails_behind true = refl
fails_behind false = refl

-- Some units aren't free where one of them is marked.
free_hit : (work : List ℕ) (from n i : ℕ) → from ≤ i → i < from + n → part work i 1 ≡ 1 ∷ [] → all_free (part work from n) ≡ false
unfolding all_free
free_hit work from n i low high hit =
    let cut : n ≡ i - from + (1 + (n - (i - from + 1))) = omega arith in
    let there : from + (i - from) ≡ i = omega arith in
    ap (λ (k : ℕ). all_free (part work from k)) cut ∙ ap all_free (part_add work from (i - from) (1 + (n - (i - from + 1))))
    ∙ free_append (part work from (i - from)) (part work (from + (i - from)) (1 + (n - (i - from + 1))))
    ∙ ap (λ (l : List ℕ). all_free (part work from (i - from)) && all_free l)
    (ap (λ (k : ℕ). part work k (1 + (n - (i - from + 1)))) there ∙ part_add work i 1 (n - (i - from + 1))
    ∙ ap (λ (l : List ℕ). l ++ part work (i + 1) (n - (i - from + 1))) hit)
    ∙ fails_behind (all_free (part work from (i - from)))

-- A marked unit.
one_marked : (k j : ℕ) → j < k → part (ones k) j 1 ≡ 1 ∷ []
unfolding part
one_marked zero j h = absurd (omega arith)
one_marked (suc k) zero h = refl
one_marked (suc k) (suc j) h = one_marked k j (omega arith)

-- Units of cleared ones are free.
zeros_free : (u from n : ℕ) → all_free (part (zeros u) from n) ≡ true
unfolding part all_free
zeros_free zero zero zero = refl
zeros_free zero zero (suc n) = refl
zeros_free zero (suc from) zero = refl
zeros_free zero (suc from) (suc n) = refl
zeros_free (suc u) zero zero = refl
zeros_free (suc u) zero (suc n) = zeros_free u zero n
zeros_free (suc u) (suc from) n = zeros_free u from n

-- ---- blocks

-- What is known of a block below the mark, in units: it begins at one, and lies within a work list for so many.
pub record Placed (units : ℕ) (x : Block) : Type 0 where
  pub aligned : x.off % 16 ≡ 0
  pub inside : x.off / 16 + slab_bytes x.class / 16 ≤ units

-- A block begins at a multiple of 16.
aligned_16 : (class off : ℕ) → off % unit_of class ≡ 0 → off % 16 ≡ 0
aligned_16 class off e = by_class (eqb class page_class) e
  where
    by_class : (t : Bool) → off % cond t 4096 16 ≡ 0 → off % 16 ≡ 0
    by_class true e = omega arith
    by_class false e = e

pub placed : (units mark : ℕ) (x : Block) → mark ≤ 16 * units → Stands mark x → Placed units x
placed units mark x fits stands =
    let s = block_stands x.class x.off mark stands in
    let aligned = aligned_16 x.class x.off s.aligned in
    let ends = s.ends in
    record { aligned = aligned; inside = omega arith }

module _ (units : ℕ) (x y : Block) (p : Placed units x) (q : Placed units y) (work : List ℕ) (long : units ≤ length work) where
  fits : y.off / 16 + length (ones (slab_bytes y.class / 16)) ≤ length work
  fits = let n = length_ones (slab_bytes y.class / 16) in let i = q.inside in omega arith

  -- A block that shares no byte with another is as free as before that one was marked.
  free_apart : Disjoint x y → units_free x (marked y work) ≡ units_free x work
  unfolding units_free marked
  free_apart d =
      let n = length_ones (slab_bytes y.class / 16) in
      let ax = p.aligned in
      let ay = q.aligned in
      ap all_free
      (⊎_elim
      (λ h. part_before work (y.off / 16) (ones (slab_bytes y.class / 16)) fits (x.off / 16) (slab_bytes x.class / 16) (omega arith))
      (λ h. part_after work (y.off / 16) (ones (slab_bytes y.class / 16)) fits (x.off / 16) (slab_bytes x.class / 16) (omega arith))
      d)

  -- A unit of both is marked.
  hit_at : (i : ℕ) → y.off / 16 ≤ i → i < y.off / 16 + slab_bytes y.class / 16 → part (marked y work) i 1 ≡ 1 ∷ []
  unfolding marked
  hit_at i low high =
      let k = slab_bytes y.class / 16 in
      let o = y.off / 16 in
      let n = length_ones k in
      let there : o + (i - o) ≡ i = omega arith in
      ap (λ (j : ℕ). part (overwrite work o (ones k)) j 1) (sym there)
      ∙ part_within work o (ones k) fits (i - o) 1 (omega arith) ∙ one_marked k (i - o) (omega arith)

  -- A block that shares a byte with another isn't free once that one was marked.
  free_shared : shares x y ≡ true → units_free x (marked y work) ≡ false
  unfolding shares units_free
  free_shared e =
      let w = both (ltb x.off (y.off + slab_bytes y.class)) (ltb y.off (x.off + slab_bytes x.class)) e in
      let a : x.off < y.off + slab_bytes y.class = ltb-true x.off (y.off + slab_bytes y.class) w.0 in
      let b : y.off < x.off + slab_bytes x.class = ltb-true y.off (x.off + slab_bytes x.class) w.1 in
      let ax = p.aligned in
      let ay = q.aligned in
      let px = pow_pos x.class in
      let py = pow_pos y.class in
      ⊎_elim
      (λ (h : x.off / 16 < y.off / 16).
      free_hit (marked y work) (x.off / 16) (slab_bytes x.class / 16) (y.off / 16) (omega arith) (omega arith)
      (hit_at (y.off / 16) (omega arith) (omega arith)))
      (λ (h : y.off / 16 ≤ x.off / 16).
      free_hit (marked y work) (x.off / 16) (slab_bytes x.class / 16) (x.off / 16) (omega arith) (omega arith)
      (hit_at (x.off / 16) (omega arith) (omega arith)))
      (lt_or_ge (x.off / 16) (y.off / 16))

  -- So it is free where it was, and shares no byte with the block that was marked.
  pub free_step : units_free x (marked y work) ≡ not (shares x y) && units_free x work
  free_step = by_share (shares x y) refl
    where
      by_share : (t : Bool) → shares x y ≡ t → units_free x (marked y work) ≡ not t && units_free x work
      by_share true e = free_shared e
      by_share false e = free_apart (shares_no x y e)

-- Marking a block keeps the work list's length.
pub length_marked : (units : ℕ) (x : Block) (work : List ℕ) → Placed units x → units ≤ length work → length (marked x work) ≡ length work
unfolding marked
length_marked units x work p long =
    let n = length_ones (slab_bytes x.class / 16) in
    let i = p.inside in
    length_overwrite work (x.off / 16) (ones (slab_bytes x.class / 16)) (omega arith)

-- ---- claiming a block, as the code finds its units

module _ (class off n : ℕ) (size : n ≡ slab_bytes class) (work : List ℕ) where
  pub units_by : all_free (part work (off / 16) (n / 16)) ≡ units_free (block class off) work
  unfolding units_free
  units_by = rw size

  pub mark_by : overwrite work (off / 16) (ones (n / 16)) ≡ marked (block class off) work
  unfolding marked
  mark_by = rw size

module _ (x : Block) (work : List ℕ) where
  pub claim_kept : units_free x work ≡ false → claim_units x work ≡ work
  unfolding claim_units
  claim_kept e = rw e

  pub claim_marks : units_free x work ≡ true → claim_units x work ≡ marked x work
  unfolding claim_units
  claim_marks e = rw e

  -- Claiming a block below the mark keeps the work list's length.
  pub length_claim : (mark : ℕ) → mark ≤ 16 * length work → Stands mark x → length (claim_units x work) ≡ length work
  length_claim mark fits stands = by_free (units_free x work) refl
    where
      by_free : (t : Bool) → units_free x work ≡ t → length (claim_units x work) ≡ length work
      by_free true e = ap length (claim_marks e)
          ∙ length_marked (length work) x work (placed (length work) mark x fits stands) (omega arith)
      by_free false e = ap length (claim_kept e)

-- Blocks below the mark lie within the work list.
pub placed_all : (units mark : ℕ) (xs : List Block) → mark ≤ 16 * units → Each (Stands mark) xs → Each (Placed units) xs
unfolding Each
placed_all units mark [] fits e = tt
placed_all units mark (x ∷ xs) fits (s, e) = (placed units mark x fits s, placed_all units mark xs fits e)

pub length_mark_all : (units : ℕ) (xs : List Block) (work : List ℕ) → Each (Placed units) xs → units ≤ length work
    → length (mark_all xs work) ≡ length work
unfolding Each mark_all
length_mark_all units [] work e long = refl
length_mark_all units (x ∷ xs) work (p, e) long =
    let n = length_mark_all units xs work e long in length_marked units x (mark_all xs work) p (omega arith) ∙ n

-- Clearing keeps the work list's length.
pub length_cleared : (units : ℕ) (work : List ℕ) → units ≤ length work → length (cleared units work) ≡ length work
unfolding cleared
length_cleared units work long = let n = length_zeros units in length_overwrite work 0 (zeros units) (omega arith)

-- The units of any block are free in a cleared work list.
cleared_free : (units : ℕ) (x : Block) (lent : List ℕ) → Placed units x → units ≤ length lent → units_free x (cleared units lent) ≡ true
unfolding units_free cleared
cleared_free units x lent p long =
    let n = length_zeros units in
    let i = p.inside in
    let from = x.off / 16 in
    let there : 0 + from ≡ from = omega arith in
    ap (λ (k : ℕ). all_free (part (overwrite lent 0 (zeros units)) k (slab_bytes x.class / 16))) (sym there)
    ∙ ap all_free (part_within lent 0 (zeros units) (omega arith) from (slab_bytes x.class / 16) (omega arith))
    ∙ zeros_free units from (slab_bytes x.class / 16)

-- The units of a block are free exactly where it shares no byte with a marked one.
pub free_exactly : (units : ℕ) (x : Block) (claims : List Block) (lent : List ℕ) → Placed units x → Each (Placed units) claims
    → units ≤ length lent
    → units_free x (mark_all claims (cleared units lent)) ≡ not (shares_one x claims)
unfolding Each mark_all shares_one
free_exactly units x [] lent p e long = cleared_free units x lent p long
free_exactly units x (y ∷ ys) lent p (q, e) long =
    let n = length_cleared units lent long in
    let m = length_mark_all units ys (cleared units lent) e (omega arith) in
    free_step units x y p q (mark_all ys (cleared units lent)) (omega arith)
    ∙ ap (λ (t : Bool). not (shares x y) && t) (free_exactly units x ys lent p e long) ∙ neither_nor (shares x y) (shares_one x ys)
  where
    neither_nor : (a b : Bool) → not a && not b ≡ not (a || b)
    neither_nor true b = refl
    neither_nor false b = refl

-- ---- cleared again

-- Behind its units a work list stays as it was.
mark_rest : (units n : ℕ) (xs : List Block) (work : List ℕ) → Each (Placed units) xs → units ≤ length work
    → part (mark_all xs work) units n ≡ part work units n
unfolding Each mark_all marked
mark_rest units n [] work e long = refl
mark_rest units n (x ∷ xs) work (p, e) long =
    let k = length_ones (slab_bytes x.class / 16) in
    let m = length_mark_all units xs work e long in
    let i = p.inside in
    part_after (mark_all xs work) (x.off / 16) (ones (slab_bytes x.class / 16)) (omega arith) units n (omega arith)
    ∙ mark_rest units n xs work e long

cleared_rest : (units : ℕ) (lent : List ℕ) → units ≤ length lent
    → part (cleared units lent) units (length lent - units) ≡ part lent units (length lent - units)
unfolding cleared
cleared_rest units lent long =
    let k = length_zeros units in part_after lent 0 (zeros units) (omega arith) units (length lent - units) (omega arith)

-- Work lists that are as long and the same behind their units are the same once cleared.
same_cleared : (units : ℕ) (work lent : List ℕ) → length work ≡ length lent
    → part work units (length lent - units) ≡ part lent units (length lent - units) → cleared units work ≡ cleared units lent
unfolding cleared overwrite part
same_cleared units work lent n e =
    let all : 0 + length (zeros units) ≡ units = let k = length_zeros units in omega arith in
    let whole : drop units work ≡ drop units lent
    = sym (part_to_end work units) ∙ ap (λ (k : ℕ). take (k - units) (drop units work)) n ∙ e ∙ part_to_end lent units in
    rw (all, whole)

-- Clearing a work list that shows some claims gives what clearing the lent one gives.
pub cleared_again : (units : ℕ) (xs : List Block) (lent : List ℕ) → Each (Placed units) xs → units ≤ length lent
    → cleared units (mark_all xs (cleared units lent)) ≡ cleared units lent
cleared_again units xs lent e long =
    let n = length_cleared units lent long in
    let m = length_mark_all units xs (cleared units lent) e (omega arith) in
    same_cleared units (mark_all xs (cleared units lent)) lent (m ∙ n)
    (mark_rest units (length lent - units) xs (cleared units lent) e (omega arith) ∙ cleared_rest units lent long)

-- A unit is marked by the bit of its byte, and those behind it are left.
pub mark_turn : (work : List ℕ) (i end w : ℕ) → i < end → i < 8 * length work → bits_of w ≡ set (bits_of (get_or work (i / 8) 0)) (i % 8) 1
    → overwrite (units_of (set work (i / 8) w)) (i + 1) (replicate (end - (i + 1)) 1) ≡ overwrite (units_of work) i (replicate (end - i) 1)
mark_turn work i end w more inside e =
    let long = units_long work in
    ap (λ (us : List ℕ). overwrite us (i + 1) (replicate (end - (i + 1)) 1)) (set_unit work i w inside e)
    ∙ fill_turn (units_of work) i end more (omega arith) 1
