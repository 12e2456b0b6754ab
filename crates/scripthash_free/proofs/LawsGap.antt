-- Laws of the blocks that a gap is carved into: one by one as they are found. By cases on the class found, and by induction on the
-- bound of their number.
use mathlib.Core.Path.{◌≡◌, refl, ap, sym, subst, ◌∙◌}
use mathlib.Core.Bool.{Bool, true, false, cond}
use mathlib.Core.List.{List, [], ◌∷◌}
use mathlib.Core.Logic.{inl}
use mathlib.Core.Option.{Option, none, some}
use Prim.Native.Nat.{ℕ, zero, suc, ◌+◌, ◌-◌, ◌*◌, ◌/◌, ◌%◌, ◌^◌, ◌≤◌, ◌<◌}
use native.Mathlib.Omega.{arith}
use lib.Dec.{eqb}
use lib.ListN.{length}
use borrow.Author.Tests.{eqb-true, eqb-false}
use Rattle.scripthash_layout.specs.Sizes.{slab_bytes}
use Rattle.scripthash_free.specs.FreeList.{Lists, Block, reloc_class, block_then, carve, gap_blocks, pushed, push_all}
use Rattle.scripthash_free.specs.FreeList.{first_freed}
use Rattle.scripthash_free.specs.FreeList.{IsFreeList, Clear, Each, Within, IsSlab, Adjoin, stack_after}
use Rattle.scripthash_free.proofs.LawsBlock.{bytes_from_16, slab_stands, Gap, largest_none, largest_some, largest_nothing}
use Rattle.scripthash_free.proofs.LawsFreeList.{clear_within, length_pushed, length_pushed_heads, free_list_push, free_list_other}

-- A block is found, and the others are carved behind it.
carve_found : (k off n : ℕ) {class : ℕ} → reloc_class n ≡ some class
    → carve (suc k) off n ≡ record { class = class; off = off } ∷ carve k (off + slab_bytes class) (n - slab_bytes class)
unfolding carve block_then
carve_found k off n e = rw e

-- No block is found.
carve_nothing : (k off n : ℕ) → reloc_class n ≡ none → carve k off n ≡ []
unfolding carve block_then
carve_nothing zero off n e = refl
carve_nothing (suc k) off n e = rw e

-- Blocks pushed one after the other: the first, and then the others.
push_first : (class off : ℕ) (bs : List Block) (l : Lists)
    → push_all (record { class = class; off = off } ∷ bs) l ≡ push_all bs (pushed class off l)
unfolding push_all
push_first class off bs l = refl

-- No blocks change nothing.
push_nothing : (l : Lists) → push_all [] l ≡ l
unfolding push_all
push_nothing l = refl

-- Bounds that are large enough give the same blocks, by the class found first.
module _ (j k off n : ℕ) where
  same_found : (o : Option ℕ) → reloc_class n ≡ o → n / 16 ≤ suc j → n / 16 ≤ suc k
      → ((class : ℕ) → (n - slab_bytes class) / 16 ≤ j → (n - slab_bytes class) / 16 ≤ k
      → carve j (off + slab_bytes class) (n - slab_bytes class) ≡ carve k (off + slab_bytes class) (n - slab_bytes class))
      → carve (suc j) off n ≡ carve (suc k) off n
  same_found none e hj hk more = carve_nothing (suc j) off n e ∙ sym (carve_nothing (suc k) off n e)
  same_found (some class) e hj hk more =
      let rest = more class (omega (arith, bytes_from_16 class)) (omega (arith, bytes_from_16 class)) in
      carve_found j off n e ∙ ap (λ (bs : List Block). record { class = class; off = off } ∷ bs) rest ∙ sym (carve_found k off n e)

-- Bounds that are large enough give the same blocks.
carve_same : (j k off n : ℕ) → n / 16 ≤ j → n / 16 ≤ k → carve j off n ≡ carve k off n
carve_same zero k off n hj hk =
    let e = largest_none 7 n (omega arith) in carve_nothing zero off n e ∙ sym (carve_nothing k off n e)
carve_same (suc j) zero off n hj hk =
    let e = largest_none 7 n (omega arith) in carve_nothing (suc j) off n e ∙ sym (carve_nothing zero off n e)
carve_same (suc j) (suc k) off n hj hk =
    same_found j k off n (reloc_class n) refl hj hk (λ class. carve_same j k (off + slab_bytes class) (n - slab_bytes class))

-- The blocks of a gap, pushed: the one at its low end, and then those of what is left.
pub gap_first : (off to class : ℕ) (l : Lists) → reloc_class (to - off) ≡ some class
    → push_all (gap_blocks off to) l ≡ push_all (gap_blocks (off + slab_bytes class) to) (pushed class off l)
gap_first off to class l e =
    let f = largest_some 7 (to - off) class e in
    let n : ℕ = to - off in
    let one_more : n / 16 ≡ suc (n / 16 - 1) = omega (arith, bytes_from_16 class) in
    let less : n - slab_bytes class ≡ to - (off + slab_bytes class) = omega arith in
    let rest : carve (n / 16 - 1) (off + slab_bytes class) (to - (off + slab_bytes class)) ≡ gap_blocks (off + slab_bytes class) to
    = carve_same (n / 16 - 1) _ (off + slab_bytes class) (to - (off + slab_bytes class)) (omega (arith, bytes_from_16 class)) (omega arith) in
    ap (λ (k : ℕ). push_all (carve k off n) l) one_more ∙ ap (λ bs. push_all bs l) (carve_found (n / 16 - 1) off n e)
    ∙ push_first class off _ l
    ∙ ap (λ (m : ℕ). push_all (carve (n / 16 - 1) (off + slab_bytes class) m) (pushed class off l)) less
    ∙ ap (λ bs. push_all bs (pushed class off l)) rest

-- Where less than 16 bytes are left there are no more blocks.
pub gap_left : (off to : ℕ) (l : Lists) → to - off < 16 → push_all (gap_blocks off to) l ≡ l
gap_left off to l h =
    ap (λ bs. push_all bs l) (carve_nothing ((to - off) / 16) off (to - off) (largest_none 7 (to - off) h)) ∙ push_nothing l

-- Blocks found in n bytes from an offset on, by the class found first.
module _ (k off n : ℕ) where
  -- They are side by side, and leave less than 16 bytes.
  adjoin_found : (o : Option ℕ) → reloc_class n ≡ o → n / 16 ≤ suc k
      → ((class : ℕ) → (n - slab_bytes class) / 16 ≤ k
      → Adjoin (off + slab_bytes class) (carve k (off + slab_bytes class) (n - slab_bytes class))
      (off + slab_bytes class + (n - slab_bytes class) / 16 * 16))
      → Adjoin off (carve (suc k) off n) (off + n / 16 * 16)
  unfolding Adjoin
  adjoin_found none e h more =
      let small : n < 16 = largest_nothing 7 n e in
      let end : off ≡ off + n / 16 * 16 = omega arith in
      rw (carve_nothing (suc k) off n e) end
  adjoin_found (some class) e h more =
      let f = largest_some 7 n class e in
      let end : off + slab_bytes class + (n - slab_bytes class) / 16 * 16 ≡ off + n / 16 * 16 = omega arith in
      rw (carve_found k off n e) (
        refl,
        subst (λ (x : ℕ). Adjoin (off + slab_bytes class) (carve k (off + slab_bytes class) (n - slab_bytes class)) x) end
            (more class (omega (arith, bytes_from_16 class))),
      )

-- The blocks that bytes are carved into are side by side, and leave less than 16 bytes.
pub carve_adjoin : (k off n : ℕ) → n / 16 ≤ k → Adjoin off (carve k off n) (off + n / 16 * 16)
unfolding Adjoin carve
carve_adjoin zero off n h = omega arith
carve_adjoin (suc k) off n h =
    adjoin_found k off n (reloc_class n) refl h (λ class room. carve_adjoin k (off + slab_bytes class) (n - slab_bytes class) room)

-- A gap of a multiple of 16 bytes is filled by its blocks.
pub gap_filled : (from to : ℕ) → from ≤ to → (to - from) % 16 ≡ 0 → Adjoin from (gap_blocks from to) to
gap_filled from to h m =
    let end : from + (to - from) / 16 * 16 ≡ to = omega arith in
    subst (λ (x : ℕ). Adjoin from (gap_blocks from to) x) end (carve_adjoin ((to - from) / 16) from (to - from) (omega arith))

-- Blocks side by side end at or after where they begin.
pub adjoin_rises : (off : ℕ) (bs : List Block) (end : ℕ) → Adjoin off bs end → off ≤ end
unfolding Adjoin
adjoin_rises off [] end a = omega arith
adjoin_rises off (b ∷ bs) end a = omega (arith, adjoin_rises (off + slab_bytes b.class) bs end a.1)

-- What holds of each block holds of it by what follows.
pub each_map : (P Q : Block → Type 0) → ((b : Block) → P b → Q b) → (bs : List Block) → Each P bs → Each Q bs
unfolding Each
each_map P Q f [] e = e
each_map P Q f (b ∷ bs) e = (f b e.0, each_map P Q f bs e.1)

-- Blocks side by side lie between where the first begins and the last ends.
pub adjoin_within : (off : ℕ) (bs : List Block) (end : ℕ) → Adjoin off bs end → Each (Within off end) bs
unfolding Adjoin Each
adjoin_within off [] end a = tt
adjoin_within off (b ∷ bs) end a =
    let rises = adjoin_rises (off + slab_bytes b.class) bs end a.1 in (
      (omega (arith, a.0), omega (arith, a.0)),
      each_map (Within (off + slab_bytes b.class) end) (Within off end) (λ x w. (omega (arith, w.0), w.1)) bs
          (adjoin_within (off + slab_bytes b.class) bs end a.1),
    )

-- Blocks side by side don't overlap: each of the others begins at or behind the first one's end.
pub adjoin_apart : (off : ℕ) (b : Block) (bs : List Block) (end : ℕ) → Adjoin off (b ∷ bs) end
    → Each (Within (b.off + slab_bytes b.class) end) bs
unfolding Adjoin
adjoin_apart off b bs end a =
    subst (λ (x : ℕ). Each (Within (x + slab_bytes b.class) end) bs) (sym a.0)
    (adjoin_within (off + slab_bytes b.class) bs end a.1)

-- The blocks carved are slabs that can stand where they do.
module _ (end k off n : ℕ) (aligned : off % 16 ≡ 0) (begins : 4096 ≤ off) (ends : off + n ≤ end) where
  slabs_found : (o : Option ℕ) → reloc_class n ≡ o
      → ((class : ℕ) → slab_bytes class ≤ n → Each (IsSlab end) (carve k (off + slab_bytes class) (n - slab_bytes class)))
      → Each (IsSlab end) (carve (suc k) off n)
  unfolding Each
  slabs_found none e more = rw (carve_nothing (suc k) off n e) tt
  slabs_found (some class) e more =
      let f = largest_some 7 n class e in
      rw (carve_found k off n e) ((f.0, slab_stands class off end f.0 aligned begins (omega arith)), more class f.1)

pub carve_slabs : (end k off n : ℕ) → off % 16 ≡ 0 → 4096 ≤ off → off + n ≤ end → Each (IsSlab end) (carve k off n)
unfolding Each carve
carve_slabs end zero off n aligned begins ends = tt
carve_slabs end (suc k) off n aligned begins ends =
    slabs_found end k off n aligned begins ends (reloc_class n) refl
    (λ class h. carve_slabs end k (off + slab_bytes class) (n - slab_bytes class) (omega arith) (omega arith) (omega arith))

-- The blocks of a gap that can be carved are slabs that can stand where they do.
pub gap_slabs : (from to end : ℕ) → from ≤ to → Gap from to end → Each (IsSlab end) (gap_blocks from to)
gap_slabs from to end h g = carve_slabs end ((to - from) / 16) from (to - from) g.aligned g.begins (let e = g.ends in omega arith)

-- The list of a class after one block, of the class or of another.
module _ (d class off : ℕ) (os : List ℕ) (l : Lists) (above : 0 < off) (fits : off + slab_bytes class ≤ length l.body)
    (has : class < length l.heads) (small : length l.body < 256 ^ 8) where
  write_fits : off + 8 ≤ length l.body
  write_fits = omega (arith, bytes_from_16 class)

  free_list_one : (same : Bool) → eqb class d ≡ same → Clear (slab_bytes d) off 8 os → IsFreeList l.body (first_freed d l) os
      → IsFreeList (pushed class off l).body (first_freed d (pushed class off l)) (cond same (off ∷ os) os)
  free_list_one true e c n =
      let z : class ≡ d = eqb-true class d e in
      subst (λ (x : ℕ). IsFreeList (pushed class off l).body (first_freed x (pushed class off l)) (off ∷ os)) z
      (free_list_push class off l above write_fits has os small
      (subst (λ (x : ℕ). Clear (slab_bytes x) off 8 os) (sym z) c) (subst (λ (x : ℕ). IsFreeList l.body (first_freed x l) os) (sym z) n))
  free_list_one false e c n = free_list_other class off l above write_fits has d os (λ z. eqb-false class d e (sym z)) c n

  clear_one : (same : Bool) (m : ℕ) → eqb class d ≡ same → slab_bytes class ≤ m → Clear (slab_bytes d) off m os
      → Clear (slab_bytes d) (off + slab_bytes class) (m - slab_bytes class) (cond same (off ∷ os) os)
  unfolding Clear
  clear_one true m e h c =
      let z : slab_bytes class ≡ slab_bytes d = ap slab_bytes (eqb-true class d e) in
      (inl (omega arith), clear_within (slab_bytes d) off m (off + slab_bytes class) (m - slab_bytes class) os (omega arith) (omega arith) c)
  clear_one false m e h c = clear_within (slab_bytes d) off m (off + slab_bytes class) (m - slab_bytes class) os (omega arith) (omega arith) c

-- What each free list names after blocks side by side were pushed: those of its class, the last on top, and then what it named before.
pub free_list_carved : (d off end : ℕ) (bs : List Block) (os : List ℕ) (l : Lists) → 0 < off → end ≤ length l.body
    → length l.body < 256 ^ 8
    → Adjoin off bs end → Each (λ b. b.class < length l.heads) bs → Clear (slab_bytes d) off (end - off) os
    → IsFreeList l.body (first_freed d l) os
    → IsFreeList (push_all bs l).body (first_freed d (push_all bs l)) (stack_after d bs os)
unfolding Adjoin Each push_all stack_after
free_list_carved d off end [] os l above fits small a has c n = n
free_list_carved d off end (b ∷ bs) os l above fits small a has c n =
    let size = bytes_from_16 b.class in
    let rises = adjoin_rises (off + slab_bytes b.class) bs end a.1 in
    let room : off + slab_bytes b.class ≤ length l.body = omega arith in
    let at : b.off ≡ off = a.0 in
    let long : length (pushed b.class off l).body ≡ length l.body = length_pushed b.class off l (omega arith) in
    let heads : length (pushed b.class off l).heads ≡ length l.heads = length_pushed_heads b.class off l in
    let less : end - off - slab_bytes b.class ≡ end - (off + slab_bytes b.class) = omega arith in
    let near : Clear (slab_bytes d) off 8 os = clear_within (slab_bytes d) off (end - off) off 8 os (omega arith) (omega arith) c in
    rw at
    (free_list_carved d (off + slab_bytes b.class) end bs (cond (eqb b.class d) (off ∷ os) os) (pushed b.class off l)
    (omega arith) (omega arith) (omega arith) a.1
    (each_map (λ x. x.class < length l.heads) (λ x. x.class < length (pushed b.class off l).heads) (λ x h. rw heads h) bs has.1)
    (rw less at (clear_one d b.class off os l above room has.0 small (eqb b.class d) (end - off) refl (omega arith) c))
    (free_list_one d b.class off os l above room has.0 small (eqb b.class d) refl near n))
