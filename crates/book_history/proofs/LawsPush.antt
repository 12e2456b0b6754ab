-- A block goes onto the free list of its class in both spaces. Assumes nothing.
use Prim.Native.Nat.{ℕ, ◌+◌, ◌^◌, ◌≤◌, ◌<◌}
use mathlib.Core.Bool.{Bool, true, false}
use mathlib.Core.List.{List, [], ◌∷◌, ◌++◌}
use mathlib.Core.Logic.{◌⊎◌, inl, inr, ⊎_elim, ◌≢◌}
use mathlib.Core.Option.{Option, some}
use mathlib.Core.Path.{◌≡◌, refl, sym, ap, subst, ◌∙◌}
use native.Mathlib.Nat.{add-zero}
use native.Mathlib.Omega.{arith}
use lib.Dec.{eqb}
use lib.ListN.{length, get_or, set, length-set, take, drop}
use lib.Seq.{get_or-set_same, get_or-set_other, drop-drop}
use borrow.Author.Tests.{eqb-true, eqb-false, eq-eqb, ne_eqb}
use Rattle.buffer.specs.Bytes.{part, overwrite}
use Rattle.buffer.specs.LittleEndian.{little_endian, bytes_of}
use Rattle.buffer.proofs.LawsBytes.{overwrite_part, length_overwrite}
use Rattle.buffer.proofs.LawsOverwrite.{length_part, part_written}
use Rattle.buffer.proofs.LawsLittleEndian.{length_bytes_of, little_endian_bytes_of}
use Rattle.scripthash_layout.specs.Sizes.{slab_bytes}
use Rattle.scripthash_free.specs.FreeList.{Block, is_block, pushed, push_all}
use Rattle.scripthash_free.proofs.LawsBlock.{bytes_from_16, block_stands}
use Rattle.free_runs.specs.PageList.{top_of}
use Rattle.plain_book.specs.Space.{Space as PlainSpace, stack_of, freed}
use Rattle.plain_book.specs.Key.{Place}
use Rattle.plain_book.specs.Owners.{Owner, hand, stack, slab_of, page_of, at_depth, has}
use Rattle.plain_book.specs.Good.{Good}
use Rattle.plain_book.proofs.LawsOwners.{kind_of, top_is, below_top, with_stack, stack_same, stack_other, changed_has}
use Rattle.book_space.specs.Space.{Space, space, release}
use Rattle.book_history.specs.Agrees.{under, Contents, BlockReads, Stored, AgreesSpace}
use Rattle.book_history.proofs.LawsFrame.{block_of, block_ends, stored_written}

-- ---- a stack

-- What the new top of a stack names.
pub under_pushed : (o : ℕ) (os : List ℕ) → under (length os) (o ∷ os) ≡ top_of os
unfolding under
under_pushed o os = rw (eq-eqb (length os) (length os) refl)

-- What the others name stays.
pub under_kept : (depth o : ℕ) (os : List ℕ) → depth ≢ length os → under depth (o ∷ os) ≡ under depth os
unfolding under
under_kept depth o os n = rw (ne_eqb depth (length os) n)

-- The top of a stack of a good space can stand below the mark.
pub top_stands : (plain : PlainSpace) (at : ℕ → Place) (held : Option Block) (class o : ℕ) (os : List ℕ) → Good plain at held
    → stack_of class plain ≡ o ∷ os
    → is_block class o plain.mark ≡ true
unfolding has
top_stands plain at held class o os g e =
    g.apart.stands (stack class (length os)) (record { class = class; off = o }) (ap (at_depth class (length os)) e ∙ top_is class o os)

-- The top of a stack of a good space lies below the mark; 0 for none does too.
pub top_low : (plain : PlainSpace) (at : ℕ → Place) (held : Option Block) (class : ℕ) → Good plain at held
    → top_of (stack_of class plain) ≤ plain.mark
top_low plain at held class g = go (stack_of class plain) refl
  where
    go : (os : List ℕ) → stack_of class plain ≡ os → top_of os ≤ plain.mark
    go [] e = omega arith
    go (o ∷ os) e = omega (arith, (block_stands class o plain.mark (top_stands plain at held class o os g e)).ends)

-- A free head for each top, after the stack and the free head of one class changed.
pub tops_changed : (plain : PlainSpace) (free : List ℕ) (class head : ℕ) (os : List ℕ) → class < length plain.stacks
    → class < length free → head ≡ top_of os
    → ((k : ℕ) → get_or free k 0 ≡ top_of (stack_of k plain)) → (k : ℕ) → get_or (set free class head) k 0
    ≡ top_of (stack_of k (with_stack class os plain))
tops_changed plain free class head os in_stacks in_heads is tops k = go (eqb k class) refl
  where
    go : (t : Bool) → eqb k class ≡ t → get_or (set free class head) k 0 ≡ top_of (stack_of k (with_stack class os plain))
    go true e =
        let here = eqb-true k class e in
        ap (λ (j : ℕ). get_or (set free class head) j 0) here ∙ get_or-set_same free class head 0 in_heads ∙ is
        ∙ sym (ap (λ (j : ℕ). top_of (stack_of j (with_stack class os plain))) here ∙ ap top_of (stack_same plain class os in_stacks))
    go false e =
        let n = eqb-false k class e in
        get_or-set_other free class k head 0 n ∙ tops k ∙ sym (ap top_of (stack_other plain class os in_stacks k n))

-- ---- a block's first bytes are written

-- A write of so many bytes, by what is before and behind them.
whole_write : (b : List ℕ) (o k : ℕ) (zs : List ℕ) → length zs ≡ k → overwrite b o zs ≡ take o b ++ (zs ++ drop k (drop o b))
unfolding overwrite
whole_write b o k zs e = rw (e, drop-drop k o b)

-- A block with its first bytes written has as many bytes as before.
pub block_long : (body : List ℕ) (y : Block) (ys : List ℕ) → y.off + slab_bytes y.class ≤ length body → length ys ≤ slab_bytes y.class
    → length (overwrite (block_of body y) 0 ys) ≡ slab_bytes y.class
block_long body y ys fits short =
    let long : length (block_of body y) ≡ slab_bytes y.class = length_part body y.off (slab_bytes y.class) fits in
    length_overwrite (block_of body y) 0 ys (omega arith) ∙ long

-- A write of a block's first bytes is a write of the whole block.
pub block_whole : (body : List ℕ) (y : Block) (ys : List ℕ) → y.off + slab_bytes y.class ≤ length body → length ys ≤ slab_bytes y.class
    → overwrite body y.off ys ≡ overwrite body y.off (overwrite (block_of body y) 0 ys)
unfolding part
block_whole body y ys fits short =
    let inside : overwrite body (y.off + 0) ys ≡ overwrite body y.off (overwrite (block_of body y) 0 ys) =
    sym (whole_write body y.off (slab_bytes y.class) (overwrite (block_of body y) 0 ys) (block_long body y ys fits short)
    ∙ overwrite_part body y.off (slab_bytes y.class) 0 ys fits (omega arith)) in
    ap (λ (o : ℕ). overwrite body o ys) (sym (add-zero y.off)) ∙ inside

-- ---- a push

-- A block comes from an owner other than w, who read it so too.
abbrev pub FromOther : PlainSpace → (ℕ → Place) → Option Block → Contents → Owner → Block → (List ℕ → Type 0) → Type 0
FromOther plain at held c w x reads =
    (u : Owner) × (u ≢ w) × (has plain at held u ≡ some x) × ((block : List ℕ) → BlockReads plain c u block → reads block)

-- What a space is after one block is released.
pub release_one : (class off : ℕ) (s : Space) → release (record { class = class; off = off } ∷ []) s
    ≡ space (overwrite s.body off (bytes_of 8 (get_or s.free class 0))) s.mark (set s.free class off)
unfolding release push_all pushed
release_one class off s = refl

-- A link is no longer than a block.
link_short : (class n : ℕ) → length (bytes_of 8 n) ≤ slab_bytes class
link_short class n = omega (arith, bytes_from_16 class, length_bytes_of 8 n)

-- A release of a block in the body leaves the body as long as it was.
pub release_long : (class off : ℕ) (s : Space) → off + slab_bytes class ≤ length s.body
    → length (release (record { class = class; off = off } ∷ []) s).body ≡ length s.body
release_long class off s fits =
    ap (λ (r : Space). length r.body) (release_one class off s)
    ∙ length_overwrite s.body off (bytes_of 8 (get_or s.free class 0)) (omega (arith, link_short class (get_or s.free class 0)))

module _ (plain : PlainSpace) (s : Space) (at at' : ℕ → Place) (held held' : Option Block) (c c' : Contents) (w : Owner) (class off : ℕ)
    (to_8 : class ≤ 8)
    (g : Good plain at held) (a : AgreesSpace plain s at held c) (kind : (k d : ℕ) → w ≢ stack k d)
    (mine : has plain at held w ≡ some (record { class = class; off = off })) where
  -- the class has a stack and a free head
  in_stacks : class < length plain.stacks
  in_stacks = omega (arith, g.nine)

  in_heads : class < length s.free
  in_heads = omega (arith, a.nine)

  -- the block lies in the body
  block_fits : off + slab_bytes class ≤ length s.body
  block_fits = omega (
    arith,
    block_ends (record { class = class; off = off }) plain.mark
        (g.apart.stands w (record { class = class; off = off }) mine),
    a.within,
  )

  -- the eight bytes that are written, and the block then
  abbrev link : List ℕ
  link = bytes_of 8 (get_or s.free class 0)

  short : length link ≤ slab_bytes class
  short = link_short class (get_or s.free class 0)

  abbrev block : List ℕ
  block = overwrite (part s.body off (slab_bytes class)) 0 link

  -- it names the top so far
  names : little_endian (part block 0 8) ≡ top_of (stack_of class plain)
  names =
      let long : length (part s.body off (slab_bytes class)) ≡ slab_bytes class = length_part s.body off (slab_bytes class) block_fits in
      let eight : length link ≡ 8 = length_bytes_of 8 (get_or s.free class 0) in
      let low : get_or s.free class 0 < 256 ^ 8 = omega (arith, a.tops class, top_low plain at held class g, a.within, a.small) in
      ap (λ (n : ℕ). little_endian (part block 0 n)) (sym eight)
      ∙ ap little_endian (part_written (part s.body off (slab_bytes class)) 0 link (omega (arith, short)))
      ∙ little_endian_bytes_of 8 (get_or s.free class 0) low ∙ a.tops class

  -- who has a block then: the top of the stack has the one that was written, and the others have theirs from owners who read them so
  abbrev Goes : Block → Owner → Type 0
  Goes x v =
      ((x ≡ record { class = class; off = off }) × BlockReads (freed class off plain) c' v block)
      ⊎ FromOther plain at held c w x (BlockReads (freed class off plain) c' v)

  own : stack_of class (freed class off plain) ≡ off ∷ stack_of class plain
  own = stack_same plain class (off ∷ stack_of class plain) in_stacks

  stacked : ((v : Owner) (x : Block) → ((k d : ℕ) → v ≢ stack k d) → has plain at' held' v ≡ some x
      → FromOther plain at held c w x (BlockReads plain c' v))
      → (v : Owner) (x : Block) → has (freed class off plain) at' held' v ≡ some x → Goes x v
  unfolding has
  stacked rest v x e =
      ⊎_elim
      (λ (depth, is, found).
      subst (Goes x) (sym is) (⊎_elim
      (λ (high, is_Block). inl (
        is_Block,
        names ∙ sym (ap (under depth) own ∙ ap (λ (d : ℕ). under d (off ∷ stack_of class plain)) high
            ∙ under_pushed off (stack_of class plain)),
      ))
      (λ (n, found'). inr (
        stack class depth,
        (λ q. kind class depth (sym q)),
        found',
        λ b r. r
            ∙ sym (ap (under depth) own ∙ under_kept depth off (stack_of class plain) n),
      ))
      (below_top class depth off (stack_of class plain) x found)))
      (λ (n, found). other v n found)
      (changed_has plain class (off ∷ stack_of class plain) in_stacks at' held' v x e)
    where
      other : (v : Owner) → ((depth : ℕ) → v ≢ stack class depth) → has plain at' held' v ≡ some x → Goes x v
      other hand n h = inr (rest hand x (λ k d q. (let z = ap kind_of q in omega arith)) h)
      other (slab_of k) n h = inr (rest (slab_of k) x (λ k d q. (let z = ap kind_of q in omega arith)) h)
      other (page_of k i) n h = inr (rest (page_of k i) x (λ k d q. (let z = ap kind_of q in omega arith)) h)
      other (stack k d) n h =
          let same = stack_other plain class (off ∷ stack_of class plain) in_stacks k (λ z. n d (ap (λ (j : ℕ). stack j d) z)) in
          inr (stack k d, (λ q. kind k d (sym q)), h, λ b r. r ∙ sym (ap (under d) same))

  -- The block of an owner goes onto the stack of its class; the owners but stacks have their blocks from others, who read them so too.
  pub push_agrees : ((v : Owner) (x : Block) → ((k d : ℕ) → v ≢ stack k d) → has plain at' held' v ≡ some x
      → FromOther plain at held c w x (BlockReads plain c' v))
      → AgreesSpace (freed class off plain) (release (record { class = class; off = off } ∷ []) s) at' held' c'
  push_agrees rest =
      rw (release_one class off s)
      (record {
        mark = a.mark;
        nine = length-set s.free class off ∙ a.nine;
        tops = tops_changed plain s.free class off (off ∷ stack_of class plain) in_stacks in_heads refl a.tops;
        within = rw long a.within;
        small = rw long a.small;
        stored = rw (block_whole s.body (record { class = class; off = off }) link block_fits short) stored;
      })
    where
      long : length (overwrite s.body off link) ≡ length s.body
      long = length_overwrite s.body off link (omega (arith, block_fits, short))

      stored : Stored (has (freed class off plain) at' held') (BlockReads (freed class off plain) c') (overwrite s.body off block)
      stored =
          stored_written (has plain at held) (has (freed class off plain) at' held') (BlockReads plain c)
          (BlockReads (freed class off plain) c') s.body plain.mark
          g.apart a.within w (record { class = class; off = off }) block mine
          (block_long s.body (record { class = class; off = off }) link block_fits short) (stacked rest) a.stored
