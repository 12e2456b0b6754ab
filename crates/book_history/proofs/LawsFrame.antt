-- What blocks read as after their owners change, and after the block of one owner is written. Assumes nothing.
use Prim.Native.Nat.{ℕ, ◌+◌, ◌≤◌}
use mathlib.Core.List.{List}
use mathlib.Core.Logic.{◌⊎◌, ⊎_elim, ◌≢◌}
use mathlib.Core.Option.{Option, some}
use mathlib.Core.Path.{◌≡◌, sym, ap, subst, ◌∙◌}
use native.Mathlib.Omega.{arith}
use lib.ListN.{length}
use Rattle.buffer.specs.Bytes.{part, overwrite}
use Rattle.buffer.proofs.LawsOverwrite.{part_written, part_before, part_after}
use Rattle.scripthash_layout.specs.Sizes.{slab_bytes}
use Rattle.scripthash_free.specs.FreeList.{Disjoint, Block, is_block}
use Rattle.scripthash_free.proofs.LawsBlock.{block_stands}
use Rattle.plain_book.specs.Owners.{Owner, Apart}
use Rattle.book_history.specs.Agrees.{Stored}

-- A block of a size at an offset of a body.
abbrev pub block_of : List ℕ → Block → List ℕ
block_of body x = part body x.off (slab_bytes x.class)

-- A block that stands below a mark ends there.
pub block_ends : (x : Block) (mark : ℕ) → is_block x.class x.off mark ≡ mathlib.Core.Bool.true → x.off + slab_bytes x.class ≤ mark
block_ends x mark e = (block_stands x.class x.off mark e).ends

-- A block that shares no byte with a write holds what it held.
pub block_apart : (body : List ℕ) (x y : Block) (ys : List ℕ) → length ys ≡ slab_bytes y.class
    → y.off + slab_bytes y.class ≤ length body → Disjoint x y
    → block_of (overwrite body y.off ys) x ≡ block_of body x
block_apart body x y ys long fits d =
    let h : y.off + length ys ≤ length body = rw long fits in
    ⊎_elim (λ (l : x.off + slab_bytes x.class ≤ y.off). part_before body y.off ys h x.off (slab_bytes x.class) l)
    (λ (l : y.off + slab_bytes y.class ≤ x.off). part_after body y.off ys h x.off (slab_bytes x.class) (rw long l))
    d

-- A block that was written holds what was written.
pub block_written : (body : List ℕ) (y : Block) (ys : List ℕ) → length ys ≡ slab_bytes y.class
    → y.off + slab_bytes y.class ≤ length body
    → block_of (overwrite body y.off ys) y ≡ ys
block_written body y ys long fits = ap (part (overwrite body y.off ys) y.off) (sym long)
    ∙ part_written body y.off ys (rw long fits)

module _ (f g : Owner → Option Block) (R R' : Owner → List ℕ → Type 0) (body : List ℕ) where
  -- Blocks go to other owners, who read them so too; nothing is written.
  pub stored_same : ((v : Owner) (x : Block) → g v ≡ some x → (u : Owner) × (f u ≡ some x) × ((block : List ℕ) → R u block → R' v block))
      → Stored f R body → Stored g R' body
  stored_same to st v x e = let (u, h, k) = to v x e in k (block_of body x) (st u x h)

  -- The block of one owner is written as a whole; each block is that one, and reads so, or was another owner's, who read it so too.
  pub stored_written : (mark : ℕ) → Apart mark f → mark ≤ length body → (w : Owner) (y : Block) (ys : List ℕ) → f w ≡ some y
      → length ys ≡ slab_bytes y.class
      → ((v : Owner) (x : Block) → g v ≡ some x
      → ((x ≡ y) × R' v ys) ⊎ ((u : Owner) × (u ≢ w) × (f u ≡ some x) × ((block : List ℕ) → R u block → R' v block)))
      → Stored f R body → Stored g R' (overwrite body y.off ys)
  stored_written mark ap' within w y ys mine long to st v x e =
      let ends = block_ends y mark (ap'.stands w y mine) in
      let fits : y.off + slab_bytes y.class ≤ length body = omega arith in
      ⊎_elim
      (λ (is, r). subst (R' v) (sym (ap (block_of (overwrite body y.off ys)) is ∙ block_written body y ys long fits)) r)
      (λ (u, n, h, k).
      subst (R' v) (sym (block_apart body x y ys long fits (ap'.apart u w x y n h mine))) (k (block_of body x) (st u x h)))
      (to v x e)
