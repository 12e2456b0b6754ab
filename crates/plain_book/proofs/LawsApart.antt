-- Blocks of different owners stay apart: when a block goes from one owner to another, when owners are named anew, and when a block is taken
-- at the mark. Assumes nothing.
use Prim.Native.Nat.{ℕ, suc, ◌+◌, ◌*◌, ◌≤◌, ◌<◌}
use mathlib.Core.Bool.{true}
use mathlib.Core.Logic.{◌⊎◌, inl, inr, ⊎_elim, ◌≢◌}
use mathlib.Core.Option.{Option, some}
use mathlib.Core.Path.{◌≡◌, sym, ap, subst, ◌∙◌}
use native.Mathlib.Nat.{mul-le-mul_right, suc-mul}
use native.Mathlib.Numerals.{lt_of_le_of_ne}
use native.Mathlib.Omega.{arith}
use Rattle.buffer.proofs.LawsOrder.{lt_or_ge}
use Rattle.scripthash_layout.specs.Sizes.{slab_bytes}
use Rattle.scripthash_free.specs.FreeList.{Disjoint, Block, is_block}
use Rattle.scripthash_free.proofs.LawsBlock.{block_stands, stands_block}
use Rattle.plain_book.specs.Owners.{Owner, Apart}

-- A block that stands below a mark stands below a higher one.
raised : (mark higher : ℕ) (x : Block) → mark ≤ higher → is_block x.class x.off mark ≡ true → is_block x.class x.off higher ≡ true
raised mark higher x h e =
    let s = block_stands x.class x.off mark e in
    stands_block x.class x.off higher (record {
      class_to_8 = s.class_to_8;
      aligned = s.aligned;
      begins = s.begins;
      ends =
          omega (arith, s.ends);
    })

-- Disjoint either way round.
turned : (x y : Block) → Disjoint x y → Disjoint y x
turned x y (inl h) = inr h
turned x y (inr h) = inl h

module _ (f g : Owner → Option Block) where
  -- A block goes from owner a to owner b.
  pub apart_moved : (mark : ℕ) (a b : Owner)
      → ((w : Owner) (x : Block) → g w ≡ some x → ((w ≡ b) × (f a ≡ some x)) ⊎ ((w ≢ a) × (f w ≡ some x)))
      → Apart mark f → Apart mark g
  apart_moved mark a b to p =
      record {
        stands = λ w x e. ⊎_elim (λ (q, h). p.stands a x h) (λ (q, h). p.stands w x h) (to w x e);
        apart = λ v w x y n e e'.
            ⊎_elim
            (λ (q, h).
            ⊎_elim (λ (q', h'). absurd (n (q ∙ sym q'))) (λ (q', h'). p.apart a w x y (λ z. q' (sym z)) h h') (to w y e'))
            (λ (q, h).
            ⊎_elim (λ (q', h'). turned y x (p.apart a v y x (λ z. q (sym z)) h' h)) (λ (q', h'). p.apart v w x y n h h') (to w y e'))
            (to v x e);
      }

  -- The mark rises.
  pub apart_raised : (mark higher : ℕ) → mark ≤ higher → ((w : Owner) (x : Block) → g w ≡ some x → f w ≡ some x) → Apart mark f
      → Apart higher g
  apart_raised mark higher h to p =
      record {
        stands = λ w x e. raised mark higher x h (p.stands w x (to w x e));
        apart = λ v w x y n e e'. p.apart v w x y n (to v x e) (to w y e');
      }

  -- Owners are named anew, each by another name.
  pub apart_renamed : (mark : ℕ) (old new : Owner → Owner) → ((w : Owner) → new (old w) ≡ w)
      → ((w : Owner) (x : Block) → g w ≡ some x → f (old w) ≡ some x)
      → Apart mark f → Apart mark g
  apart_renamed mark old new back to p =
      record {
        stands = λ w x e. p.stands (old w) x (to w x e);
        apart = λ v w x y n e e'. p.apart (old v) (old w) x y (λ q. n (sym (back v) ∙ ap new q ∙ back w)) (to v x e) (to w y e');
      }

  -- Some owners have nothing any more.
  pub apart_fewer : (mark : ℕ) → ((w : Owner) (x : Block) → g w ≡ some x → f w ≡ some x) → Apart mark f → Apart mark g
  apart_fewer mark to p = record {
    stands = λ w x e. p.stands w x (to w x e);
    apart =
        λ v w x y n e e'. p.apart v w x y n (to v x e) (to w y e');
  }

  -- Blocks side by side that share no byte with anybody's, each with an owner of its own.
  pub apart_run : (mark off count size class : ℕ) (name : ℕ → Owner) → slab_bytes class ≡ size
      → ((i : ℕ) → i < count → is_block class (off + i * size) mark ≡ true)
      → ((w : Owner) (x : Block) → f w ≡ some x → (x.off + slab_bytes x.class ≤ off) ⊎ (off + count * size ≤ x.off))
      → ((w : Owner) (x : Block) → g w ≡ some x
      → ((i : ℕ) × (w ≡ name i) × (x ≡ record { class = class; off = off + i * size }) × (i < count)) ⊎ (f w ≡ some x))
      → Apart mark f → Apart mark g
  apart_run mark off count size class name sized stands clear to p =
      record {
        stands = λ w x e.
            ⊎_elim (λ (i, q, is, l). subst (λ (z : Block). is_block z.class z.off mark ≡ true) (sym is) (stands i l))
            (λ q. p.stands w x q)
            (to w x e);
        apart = λ v w x y n e e'.
            ⊎_elim
            (λ (i, q, is, l).
            ⊎_elim (λ (j, q', is', l'). side i j x y is is' (λ z. n (q ∙ ap name z ∙ sym q'))) (λ q'. turned y x (beside w y x i q' is l))
            (to w y e'))
            (λ q.
            ⊎_elim (λ (j, q', is', l'). beside v x y j q is' l') (λ q'. p.apart v w x y n q q') (to w y e'))
            (to v x e);
      }
    where
      beside : (w : Owner) (y x : Block) (i : ℕ) → f w ≡ some y → x ≡ record { class = class; off = off + i * size } → i < count
          → Disjoint y x
      beside w y x i e is l =
          let place : x.off ≡ off + i * size = ap (λ (z : Block). z.off) is in
          let bytes : slab_bytes x.class ≡ size = ap (λ (z : Block). slab_bytes z.class) is ∙ sized in
          let m : suc i * size ≤ count * size = mul-le-mul_right size l in
          let d = suc-mul i size in
          ⊎_elim (λ (before : y.off + slab_bytes y.class ≤ off). inl (omega arith))
          (λ (behind : off + count * size ≤ y.off). inr (omega arith))
          (clear w y e)

      side : (i j : ℕ) (x y : Block) → x ≡ record { class = class; off = off + i * size }
          → y ≡ record { class = class; off = off + j * size } → i ≢ j → Disjoint x y
      side i j x y is is' n =
          let px : x.off ≡ off + i * size = ap (λ (z : Block). z.off) is in
          let py : y.off ≡ off + j * size = ap (λ (z : Block). z.off) is' in
          let cx : slab_bytes x.class ≡ size = ap (λ (z : Block). slab_bytes z.class) is ∙ sized in
          let cy : slab_bytes y.class ≡ size = ap (λ (z : Block). slab_bytes z.class) is' ∙ sized in
          ⊎_elim
          (λ (l : i < j). let m : suc i * size ≤ j * size = mul-le-mul_right size l in let d = suc-mul i size in inl (omega arith))
          (λ (l : j ≤ i). let l' : j < i = lt_of_le_of_ne l (λ z. n (sym z)) in let m : suc j * size ≤ i * size =
          mul-le-mul_right size l' in let d = suc-mul j size in inr (omega arith))
          (lt_or_ge i j)

  -- A block begins at or behind the mark, which then passes it: it is the only one that its owner has.
  pub apart_added : (mark higher : ℕ) (b : Owner) (new : Block) → mark ≤ higher → mark ≤ new.off
      → is_block new.class new.off higher ≡ true
      → ((w : Owner) (x : Block) → g w ≡ some x → ((w ≡ b) × (x ≡ new)) ⊎ (f w ≡ some x)) → Apart mark f → Apart higher g
  apart_added mark higher b new h behind stands to p =
      record {
        stands = λ w x e.
            ⊎_elim (λ (q, is). subst (λ (z : Block). is_block z.class z.off higher ≡ true) (sym is) stands)
            (λ q. raised mark higher x h (p.stands w x q))
            (to w x e);
        apart = λ v w x y n e e'.
            ⊎_elim
            (λ (q, is).
            ⊎_elim (λ (q', is'). absurd (n (q ∙ sym q'))) (λ q'. turned y x (before w y x q' is)) (to w y e'))
            (λ q.
            ⊎_elim (λ (q', is'). before v x y q is') (λ q'. p.apart v w x y n q q') (to w y e'))
            (to v x e);
      }
    where
      before : (w : Owner) (y x : Block) → f w ≡ some y → x ≡ new → Disjoint y x
      before w y x e is =
          let s = block_stands y.class y.off mark (p.stands w y e) in
          let place : x.off ≡ new.off = ap (λ (z : Block). z.off) is in
          inl (omega (arith, s.ends))
