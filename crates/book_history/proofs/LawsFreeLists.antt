-- Free lists of a space that agrees: each names the stack of its class, and the freed pages are searched by the rule. Assumes nothing.
use Prim.Native.Nat.{ℕ, ◌+◌, ◌^◌, ◌≤◌, ◌<◌}
use mathlib.Core.List.{List, [], ◌∷◌}
use mathlib.Core.Logic.{⊎_elim}
use mathlib.Core.Option.{none, some}
use mathlib.Core.Path.{◌≡◌, refl, sym, ap, subst, ◌∙◌}
use native.Mathlib.Omega.{arith}
use lib.ListN.{length, get_or}
use Rattle.error.specs.Refusal.{accepted}
use Rattle.buffer.specs.Bytes.{part}
use Rattle.buffer.specs.LittleEndian.{little_endian}
use Rattle.scripthash_layout.specs.Sizes.{slab_bytes, page_class}
use Rattle.scripthash_free.specs.FreeList.{Block, next_of, IsFreeList}
use Rattle.scripthash_free.proofs.LawsBlock.{bytes_from_16, block_stands}
use Rattle.free_runs.specs.Runs.{lowest}
use Rattle.free_runs.specs.PageList.{top_of, walked, run_sought}
use Rattle.free_runs.proofs.LawsStack.{AllPages, names_walked}
use Rattle.free_runs.proofs.LawsTaken.{run_by_rule}
use Rattle.plain_book.specs.Space.{Space as PlainSpace, stack_of}
use Rattle.plain_book.specs.Key.{Place}
use Rattle.plain_book.specs.Owners.{stack, at_depth, has}
use Rattle.plain_book.specs.Good.{Good}
use Rattle.plain_book.proofs.LawsOwners.{none_some, deep_none, top_is, under_top, below_top}
use Rattle.plain_book.proofs.LawsRunFreed.{stack_pages}
use Rattle.book_space.specs.Space.{Space}
use Rattle.book_history.specs.Agrees.{under, Contents, AgreesSpace}
use Rattle.book_history.proofs.LawsPush.{under_pushed, under_kept}
use Rattle.book_history.proofs.LawsTake.{part_start}

-- ---- a list that names a stack

-- A free list begins at the top of what it names.
pub free_list_top : (body : List ℕ) (head : ℕ) (os : List ℕ) → IsFreeList body head os → head ≡ top_of os
unfolding IsFreeList
free_list_top body head [] n = n
free_list_top body head (o ∷ os) n = n.0

-- Each block that it names tells the offset under it.
pub free_list_under : (body : List ℕ) (head class d : ℕ) (os : List ℕ) (x : Block) → IsFreeList body head os → at_depth class d os ≡ some x
    → next_of body x.off ≡ under d os
unfolding IsFreeList at_depth
free_list_under body head class d [] x n e = absurd (none_some e)
free_list_under body head class d (o ∷ os) x (is, some', within, rest) e =
    ⊎_elim
    (λ (deep, block).
    ap (λ (y : Block). next_of body y.off) block ∙ free_list_top body (next_of body o) os rest
    ∙ sym (ap (λ (k : ℕ). under k (o ∷ os)) deep ∙ under_pushed o os))
    (λ (other, there). free_list_under body (next_of body o) class d os x rest there ∙ sym (under_kept d o os other))
    (below_top class d o os x e)

-- What is known of a freed block: it begins above 0, its link lies in the body, and names what is under it.
abbrev Linked : ℕ → List ℕ → List ℕ → Type 0
Linked class body os =
    (d : ℕ) (x : Block) → at_depth class d os ≡ some x → (0 < x.off) × (x.off + 8 ≤ length body) × (next_of body x.off ≡ under d os)

-- A free list whose blocks are so names the stack.
free_list_linked : (class : ℕ) (body : List ℕ) (os : List ℕ) → Linked class body os → IsFreeList body (top_of os) os
unfolding IsFreeList
free_list_linked class body [] h = refl
free_list_linked class body (o ∷ os) h =
    let (above, within, next) = h (length os) (record { class = class; off = o }) (top_is class o os) in (
      refl,
      above,
      within,
      subst (λ (z : ℕ). IsFreeList body z os) (sym (next ∙ under_pushed o os))
          (free_list_linked class body os
          (λ d x e.
          let (a, w, n) = h d x (under_top class d o os x e) in
          let l = deep_none class d os x e in
          (a, w, n ∙ under_kept d o os (λ z. omega arith)))),
    )

-- ---- spaces that agree

module _ (plain : PlainSpace) (s : Space) (at : ℕ → Place) (c : Contents) (g : Good plain at none) (a : AgreesSpace plain s at none c) where
  linked : (class : ℕ) → Linked class s.body (stack_of class plain)
  unfolding has
  linked class d x e =
      let st = block_stands x.class x.off plain.mark (g.apart.stands (stack class d) x e) in
      let big = bytes_from_16 x.class in
      let begins = st.begins in
      let ends = st.ends in
      let within = a.within in
      let read : little_endian (part (part s.body x.off (slab_bytes x.class)) 0 8) ≡ under d (stack_of class plain) =
      a.stored (stack class d) x e in
      (omega arith, omega arith, ap little_endian (sym (part_start s.body x.off (slab_bytes x.class) 8 (omega arith))) ∙ read)

  -- Each free list names its stack from the top.
  pub free_list_is : (class : ℕ) → IsFreeList s.body (get_or s.free class 0) (stack_of class plain)
  free_list_is class =
      subst (λ (z : ℕ). IsFreeList s.body z (stack_of class plain)) (sym (a.tops class))
      (free_list_linked class s.body (stack_of class plain) (linked class))

  -- The freed pages, and the first one's offset.
  abbrev pub pages_freed : List ℕ
  pages_freed = stack_of page_class plain

  abbrev pub first_free : ℕ
  first_free = get_or s.free page_class 0

  -- The freed pages stand below the mark.
  pub freed_pages_lem : AllPages s.mark pages_freed
  freed_pages_lem = rw a.mark (stack_pages plain at none g).0

  -- The mark is within the body, whose offsets fit a link.
  pub mark_within : s.mark ≤ length s.body
  mark_within = omega (arith, a.mark, a.within)

  pub body_small : length s.body < 256 ^ 8
  body_small = omega (arith, a.small)

  -- The walk over as many pages as are freed gives their stack.
  pub freed_walked : walked (length pages_freed) s.body first_free ≡ pages_freed
  freed_walked = names_walked s.body first_free pages_freed (free_list_is page_class)

  -- The search over the bytes is the rule over the stack.
  pub freed_sought : (pages : ℕ) → run_sought s.mark (length pages_freed) s.body first_free pages ≡ accepted (lowest pages pages_freed)
  freed_sought = run_by_rule s.mark s.body mark_within body_small first_free pages_freed freed_pages_lem (free_list_is page_class)
