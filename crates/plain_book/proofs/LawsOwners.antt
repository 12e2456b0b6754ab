-- Who has which block, after each step of a call that changes a stack or a key's place: popping, freeing, and placing what is in hand.
-- Assumes nothing.
use Prim.Native.Nat.{ℕ, zero, suc, ◌+◌, ◌%◌, ◌≤◌, ◌<◌}
use mathlib.Core.Bool.{Bool, true, false, cond}
use mathlib.Core.List.{List, [], ◌∷◌, ◌++◌}
use mathlib.Core.Logic.{◌⊎◌, inl, inr, ⊎_elim, ◌≢◌}
use mathlib.Core.Option.{Option, none, some}
use mathlib.Core.Path.{◌≡◌, refl, sym, ap, subst, ◌∙◌}
use native.Mathlib.Omega.{arith}
use lib.Dec.{eqb}
use lib.ListN.{length, set, length-set}
use lib.Seq.{get_or-set_same, get_or-set_other}
use borrow.Author.Tests.{eqb-true, eqb-false, eq-eqb, ne_eqb}
use Rattle.scripthash_layout.specs.Sizes.{slab_bytes, page_class}
use Rattle.scripthash_free.specs.FreeList.{Block, is_block}
use Rattle.scripthash_free.proofs.LawsBlock.{block_stands}
use Rattle.plain_book.specs.Space.{Space, stack_of, freed}
use Rattle.plain_book.specs.Key.{Kept, Page, Place, empty, inline, slab, pages, one_page, freed_pages, freed_place}
use Rattle.plain_book.specs.Owners.{Owner, hand, stack, slab_of, page_of, at_depth, page_no, slab_at, page_in, has}
use Rattle.plain_book.specs.Good.{Good}
use Rattle.plain_book.proofs.LawsApart.{apart_moved, apart_renamed, apart_fewer, apart_added}

-- ---- owners

-- Constructors are one-to-one, and differ.
pub some_inj : {A : Type 0} {x y : A} → ◌≡◌ {A = Option A} (some x) (some y) → x ≡ y
some_inj e = cc

pub none_some : {A : Type 0} {x : A} → ◌≡◌ {A = Option A} none (some x) → ⊥
none_some e = let z : ◌≡◌ {A = ℕ} 0 1 = cc in omega arith

-- The class of a stack; other owners have none.
abbrev pub class_of : Owner → ℕ
class_of hand = 0
class_of (stack c d) = c
class_of (slab_of k) = 0
class_of (page_of k i) = 0

-- The depth of a stack, the key of a slab, and the index of a page.
abbrev pub depth_of : Owner → ℕ
depth_of hand = 0
depth_of (stack c d) = d
depth_of (slab_of k) = k
depth_of (page_of k i) = i

-- Which kind an owner is.
abbrev pub kind_of : Owner → ℕ
kind_of hand = 0
kind_of (stack c d) = 1
kind_of (slab_of k) = 2
kind_of (page_of k i) = 3

stack_class : {c d c' d' : ℕ} → stack c d ≡ stack c' d' → c ≡ c'
stack_class e = ap class_of e

stack_depth : {c d c' d' : ℕ} → stack c d ≡ stack c' d' → d ≡ d'
stack_depth e = ap depth_of e

-- ---- a stack

-- Nothing is as deep as the stack is high, or deeper.
pub deep_none : (class depth : ℕ) (os : List ℕ) (x : Block) → at_depth class depth os ≡ some x → depth < length os
unfolding at_depth
deep_none class depth [] x e = absurd (none_some e)
deep_none class depth (o ∷ os) x e = go (eqb depth (length os)) refl e (deep_none class depth os x)
  where
    go : (b : Bool) → eqb depth (length os) ≡ b → cond b (some (record { class = class; off = o })) (at_depth class depth os) ≡ some x
        → (at_depth class depth os ≡ some x → depth < length os) → depth < suc (length os)
    go true q e rest = let is = eqb-true depth (length os) q in omega arith
    go false q e rest = let l = rest e in omega arith

-- What is in a stack after a push: what was there, and the new block on top.
pub top_is : (class o : ℕ) (os : List ℕ) → at_depth class (length os) (o ∷ os) ≡ some (record { class = class; off = o })
unfolding at_depth
top_is class o os = rw (eq-eqb (length os) (length os) refl)

pub below_top : (class depth o : ℕ) (os : List ℕ) (x : Block) → at_depth class depth (o ∷ os) ≡ some x
    → ((depth ≡ length os) × (x ≡ record { class = class; off = o })) ⊎ ((depth ≢ length os) × (at_depth class depth os ≡ some x))
unfolding at_depth
below_top class depth o os x e = go (eqb depth (length os)) refl e
  where
    go : (b : Bool) → eqb depth (length os) ≡ b → cond b (some (record { class = class; off = o })) (at_depth class depth os) ≡ some x
        → ((depth ≡ length os) × (x ≡ record { class = class; off = o })) ⊎ ((depth ≢ length os) × (at_depth class depth os ≡ some x))
    go true q e = inl (eqb-true depth (length os) q, sym (some_inj e))
    go false q e = inr (eqb-false depth (length os) q, e)

pub under_top : (class depth o : ℕ) (os : List ℕ) (x : Block) → at_depth class depth os ≡ some x → at_depth class depth (o ∷ os) ≡ some x
unfolding at_depth
under_top class depth o os x e =
    let l = deep_none class depth os x e in
    rw (ne_eqb depth (length os) (λ z. omega arith)) e

-- ---- one stack of the nine changes

-- A space whose stack of a class is another.
abbrev pub with_stack : ℕ → List ℕ → Space → Space
with_stack class os s = record { mark = s.mark; stacks = set s.stacks class os }

module _ (s : Space) (class : ℕ) (os : List ℕ) (nine : class < length s.stacks) where
  -- its own, and the others
  pub stack_same : stack_of class (with_stack class os s) ≡ os
  stack_same = get_or-set_same s.stacks class os [] nine

  pub stack_other : (c : ℕ) → c ≢ class → stack_of c (with_stack class os s) ≡ stack_of c s
  stack_other c n = get_or-set_other s.stacks class c os [] n

  -- who has what then: in the changed stack, or as before
  pub changed_has : (at : ℕ → Place) (held : Option Block) (w : Owner) (x : Block) → has (with_stack class os s) at held w ≡ some x
      → ((depth : ℕ) × (w ≡ stack class depth) × (at_depth class depth os ≡ some x))
      ⊎ (((depth : ℕ) → w ≢ stack class depth) × (has s at held w ≡ some x))
  unfolding has
  changed_has at held hand x e = inr (λ d q. (let z = ap kind_of q in omega arith), e)
  changed_has at held (slab_of k) x e = inr (λ d q. (let z = ap kind_of q in omega arith), e)
  changed_has at held (page_of k i) x e = inr (λ d q. (let z = ap kind_of q in omega arith), e)
  changed_has at held (stack c d) x e = go (eqb c class) refl
    where
      go : (b : Bool) → eqb c class ≡ b
          → ((depth : ℕ) × (stack c d ≡ stack class depth) × (at_depth class depth os ≡ some x))
          ⊎ (((depth : ℕ) → stack c d ≢ stack class depth) × (at_depth c d (stack_of c s) ≡ some x))
      go true q =
          let is : c ≡ class = eqb-true c class q in
          inl (
            d,
            ap (λ (k : ℕ). stack k d) is,
            sym (ap (λ (k : ℕ). at_depth k d (stack_of k (with_stack class os s))) is
                ∙ ap (at_depth class d) stack_same) ∙ e,
          )
      go false q =
          let n = eqb-false c class q in
          inr (λ d' z. n (stack_class z), ap (at_depth c d) (sym (stack_other c n)) ∙ e)

-- ---- taking from a stack, and freeing onto one

-- The block of owner a goes to owner b, and nothing else changes.
abbrev pub Goes : Owner → Owner → (Owner → Option Block) → (Owner → Option Block) → Type 0
Goes a b f g = (w : Owner) (x : Block) → g w ≡ some x → ((w ≡ b) × (f a ≡ some x)) ⊎ ((w ≢ a) × (f w ≡ some x))

module _ (s : Space) (class : ℕ) (nine : class < length s.stacks) where
  -- the top of a stack comes to hand
  pub popped : (o : ℕ) (os : List ℕ) (at : ℕ → Place) → stack_of class s ≡ o ∷ os
      → Goes (stack class (length os)) hand (has s at none) (has (with_stack class os s) at (some (record { class = class; off = o })))
  unfolding has
  popped o os at e hand x h = inl (refl, ap (at_depth class (length os)) e ∙ top_is class o os ∙ h)
  popped o os at e (slab_of k) x h = inr (λ q. (let z = ap kind_of q in omega arith), h)
  popped o os at e (page_of k i) x h = inr (λ q. (let z = ap kind_of q in omega arith), h)
  popped o os at e (stack c d) x h =
      ⊎_elim
      (λ (depth, is, found).
      let l = deep_none class depth os x found in
      let same : c ≡ class = stack_class is in
      let deep : d ≡ depth = stack_depth is in
      let there : at_depth class d os ≡ some x = subst (λ (k : ℕ). at_depth class k os ≡ some x) (sym deep) found in
      inr (
        λ q. (let z = stack_depth q in omega arith),
        ap (λ (k : ℕ). at_depth k d (stack_of k s)) same ∙ ap (at_depth class d) e ∙ under_top class d o os x there,
      ))
      (λ (n, found). inr (λ q. n (length os) q, found))
      (changed_has s class os nine at none (stack c d) x h)

  -- a block goes from an owner, which is no stack, onto the stack
  pub pushed_from : (a : Owner) (off : ℕ) (at at' : ℕ → Place) (held held' : Option Block) → ((d : ℕ) → a ≢ stack class d)
      → has s at held a ≡ some (record { class = class; off = off })
      → ((w : Owner) (x : Block) → ((d : ℕ) → w ≢ stack class d) → has s at' held' w ≡ some x → (w ≢ a) × (has s at held w ≡ some x))
      → Goes a (stack class (length (stack_of class s))) (has s at held) (has (freed class off s) at' held')
  unfolding has
  pushed_from a off at at' held held' kind mine rest w x h =
      ⊎_elim
      (λ (depth, is, found).
      ⊎_elim
      (λ (top, block). inl (is ∙ ap (stack class) top, mine ∙ ap some (sym block)))
      (λ (n, under). inr (λ q. kind depth (sym q ∙ is), stack_has at held depth w is x under))
      (below_top class depth off (stack_of class s) x found))
      (λ (n, found). inr (rest w x n found))
      (changed_has s class (off ∷ stack_of class s) nine at' held' w x h)
    where
      stack_has : (at : ℕ → Place) (held : Option Block) (depth : ℕ) (w : Owner) → w ≡ stack class depth → (x : Block)
          → at_depth class depth (stack_of class s) ≡ some x
          → has s at held w ≡ some x
      stack_has at held depth w is x e = subst (λ (v : Owner). has s at held v ≡ some x) (sym is) e

-- Behind a block of a class an offset stays a multiple of 16.
pub bytes_aligned : (off class : ℕ) → off % 16 ≡ 0 → (off + slab_bytes class) % 16 ≡ 0
bytes_aligned off class e = omega arith

-- ---- a good space

-- The top of a stack comes to hand.
pub good_popped : (s : Space) (at : ℕ → Place) (class o : ℕ) (os : List ℕ) → class ≤ 8 → stack_of class s ≡ o ∷ os → Good s at none
    → Good (with_stack class os s) at (some (record { class = class; off = o }))
good_popped s at class o os c e g =
    let n = g.nine in
    record {
      nine = length-set s.stacks class os ∙ g.nine;
      aligned = g.aligned;
      from = g.from;
      apart = apart_moved _ _ s.mark (stack class (length os)) hand (popped s class (omega arith) o os at e) g.apart;
    }

-- A block that lies at the mark comes to hand, and the mark passes it.
pub good_marked : (s : Space) (at : ℕ → Place) (class : ℕ) → is_block class s.mark (s.mark + slab_bytes class) ≡ true → Good s at none
    → Good (record { mark = s.mark + slab_bytes class; stacks = s.stacks }) at (some (record { class = class; off = s.mark }))
unfolding has
good_marked s at class b g =
    record {
      nine = g.nine;
      aligned = bytes_aligned s.mark class g.aligned;
      from = omega (arith, g.from);
      apart = apart_added _ _ s.mark (s.mark + slab_bytes class) hand (record { class = class; off = s.mark }) (omega arith)
          (omega arith) b to g.apart;
    }
  where
    to : (w : Owner) (x : Block)
        → has (record { mark = s.mark + slab_bytes class; stacks = s.stacks }) at (some (record { class = class; off = s.mark })) w
        ≡ some x
        → ((w ≡ hand) × (x ≡ record { class = class; off = s.mark })) ⊎ (has s at none w ≡ some x)
    to hand x e = inl (refl, sym (some_inj e))
    to (stack c d) x e = inr e
    to (slab_of k) x e = inr e
    to (page_of k i) x e = inr e

-- ---- a key's place changes

-- Places with one key's changed.
abbrev pub at_key : ℕ → Place → (ℕ → Place) → ℕ → Place
at_key key place at j = cond (eqb j key) place (at j)

-- What is told of a key's place, after the place of a key changed: it is that key's, or another's and as before.
module _ (key : ℕ) (place : Place) (at : ℕ → Place) where
  key_told : (tell : Place → Option Block) (j : ℕ) (x : Block) → tell (at_key key place at j) ≡ some x
      → ((j ≡ key) × (tell place ≡ some x)) ⊎ ((j ≢ key) × (tell (at j) ≡ some x))
  key_told tell j x e = go (eqb j key) refl e
    where
      go : (b : Bool) → eqb j key ≡ b → tell (cond b place (at j)) ≡ some x
          → ((j ≡ key) × (tell place ≡ some x)) ⊎ ((j ≢ key) × (tell (at j) ≡ some x))
      go true q e = inl (eqb-true j key q, e)
      go false q e = inr (eqb-false j key q, e)

  -- its slab, and its page at an index
  pub key_slab : (j : ℕ) (x : Block) → slab_at (at_key key place at j) ≡ some x
      → ((j ≡ key) × (slab_at place ≡ some x)) ⊎ ((j ≢ key) × (slab_at (at j) ≡ some x))
  key_slab = key_told slab_at

  pub key_page : (j i : ℕ) (x : Block) → page_in i (at_key key place at j) ≡ some x
      → ((j ≡ key) × (page_in i place ≡ some x)) ⊎ ((j ≢ key) × (page_in i (at j) ≡ some x))
  key_page j i = key_told (page_in i) j

-- What is in hand becomes a key's slab.
pub good_slab : (s : Space) (at : ℕ → Place) (key class off : ℕ) (kept : Kept) → Good s at (some (record { class = class; off = off }))
    → Good s (at_key key (slab class off kept) at) none
unfolding has
good_slab s at key class off kept g =
    record { nine = g.nine; aligned = g.aligned; from = g.from; apart = apart_moved _ _ s.mark hand (slab_of key) to g.apart }
  where
    to : Goes hand (slab_of key) (has s at (some (record { class = class; off = off }))) (has s (at_key key (slab class off kept) at) none)
    to hand x e = absurd (none_some e)
    to (stack c d) x e = inr (λ q. (let z = ap kind_of q in omega arith), e)
    to (slab_of j) x e =
        ⊎_elim (λ (is, f). inl (ap slab_of is, f)) (λ (n, f). inr (λ q. (let z = ap kind_of q in omega arith), f))
        (key_slab key (slab class off kept) at j x e)
    to (page_of j i) x e =
        ⊎_elim (λ (is, f). absurd (none_some f)) (λ (n, f). inr (λ q. (let z = ap kind_of q in omega arith), f))
        (key_page key (slab class off kept) at j i x e)

-- Pages with one more behind them.
pub page_behind : (i : ℕ) (ps : List Page) (p : Page) (x : Block) → page_no i (ps ++ (p ∷ [])) ≡ some x
    → ((i ≡ length ps) × (x ≡ record { class = page_class; off = p.off })) ⊎ (page_no i ps ≡ some x)
unfolding page_no
page_behind zero [] p x e = inl (refl, sym (some_inj e))
page_behind (suc i) [] p x e = absurd (none_some e)
page_behind zero (q ∷ ps) p x e = inr e
page_behind (suc i) (q ∷ ps) p x e = ⊎_elim (λ (is, f). inl (ap suc is, f)) (λ f. inr f) (page_behind i ps p x e)

-- What is in hand becomes a key's last page.
pub good_page : (s : Space) (at : ℕ → Place) (key off : ℕ) (ps : List Page) (part : List ℕ)
    → ((i : ℕ) (x : Block) → page_no i ps ≡ some x → page_in i (at key) ≡ some x) → Good s at (some (record { class = page_class; off = off }))
    → Good s (at_key key (pages (ps ++ one_page off part)) at) none
unfolding has
good_page s at key off ps part old g =
    record {
      nine = g.nine;
      aligned = g.aligned;
      from = g.from;
      apart =
          apart_moved _ _ s.mark hand (page_of key (length ps)) to g.apart;
    }
  where
    to : Goes hand (page_of key (length ps)) (has s at (some (record { class = page_class; off = off })))
        (has s (at_key key (pages (ps ++ one_page off part)) at) none)
    to hand x e = absurd (none_some e)
    to (stack c d) x e = inr (λ q. (let z = ap kind_of q in omega arith), e)
    to (slab_of j) x e =
        ⊎_elim (λ (is, f). absurd (none_some f)) (λ (n, f). inr (λ q. (let z = ap kind_of q in omega arith), f))
        (key_slab key (pages (ps ++ one_page off part)) at j x e)
    to (page_of j i) x e =
        ⊎_elim
        (λ (is, f).
        ⊎_elim (λ (last, block). inl (ap (λ (k : ℕ). page_of k i) is ∙ ap (page_of key) last, ap some (sym block)))
        (λ h. inr (λ q. (let z = ap kind_of q in omega arith), ap (λ (k : ℕ). page_in i (at k)) is ∙ old i x h))
        (page_behind i ps _ x f))
        (λ (n, f). inr (λ q. (let z = ap kind_of q in omega arith), f))
        (key_page key (pages (ps ++ one_page off part)) at j i x e)

-- Places that have no other blocks than before.
pub good_fewer : (s : Space) (at at' : ℕ → Place) (held : Option Block)
    → ((j : ℕ) (x : Block) → slab_at (at' j) ≡ some x → slab_at (at j) ≡ some x)
    → ((j i : ℕ) (x : Block) → page_in i (at' j) ≡ some x → page_in i (at j) ≡ some x) → Good s at held → Good s at' held
unfolding has
good_fewer s at at' held slabs pgs g =
    record { nine = g.nine; aligned = g.aligned; from = g.from; apart = apart_fewer _ _ s.mark to g.apart }
  where
    to : (w : Owner) (x : Block) → has s at' held w ≡ some x → has s at held w ≡ some x
    to hand x e = e
    to (stack c d) x e = e
    to (slab_of j) x e = slabs j x e
    to (page_of j i) x e = pgs j i x e

-- A key's slab is freed.
pub good_freed : (s : Space) (at : ℕ → Place) (held : Option Block) (key class off : ℕ) (kept : Kept) → class ≤ 8
    → at key ≡ slab class off kept → Good s at held
    → Good (freed class off s) (at_key key empty at) held
unfolding has
good_freed s at held key class off kept c e g =
    let n = g.nine in
    record {
      nine = length-set s.stacks class (off ∷ stack_of class s) ∙ g.nine;
      aligned = g.aligned;
      from = g.from;
      apart = apart_moved _ _ s.mark (slab_of key) (stack class (length (stack_of class s)))
          (pushed_from s class (omega arith) (slab_of key) off at (at_key key empty at) held held
          (λ d q. (let z = ap kind_of q in omega arith)) (ap slab_at e) rest) g.apart;
    }
  where
    rest : (w : Owner) (x : Block) → ((d : ℕ) → w ≢ stack class d) → has s (at_key key empty at) held w ≡ some x
        → (w ≢ slab_of key) × (has s at held w ≡ some x)
    rest hand x n h = (λ q. (let z = ap kind_of q in omega arith), h)
    rest (stack c' d) x n h = (λ q. (let z = ap kind_of q in omega arith), h)
    rest (slab_of j) x n h =
        ⊎_elim (λ (is, f). absurd (none_some f)) (λ (other, f). (λ q. other (ap depth_of q), f)) (key_slab key empty at j x h)
    rest (page_of j i) x n h =
        ⊎_elim (λ (is, f). absurd (none_some f)) (λ (other, f). (λ q. (let z = ap kind_of q in omega arith), f))
        (key_page key empty at j i x h)

-- ---- a key's first page is freed: the others have an index less

module _ (key high : ℕ) where
  -- the old names of owners
  abbrev old_name : Owner → Owner
  old_name hand = hand
  old_name (stack c d) = cond (eqb c page_class) (cond (eqb d high) (page_of key 0) (stack c d)) (stack c d)
  old_name (slab_of k) = slab_of k
  old_name (page_of k i) = cond (eqb k key) (page_of key (suc i)) (page_of k i)

  -- and back
  abbrev new_name : Owner → Owner
  new_name hand = hand
  new_name (stack c d) = stack c d
  new_name (slab_of k) = slab_of k
  new_name (page_of k zero) = cond (eqb k key) (stack page_class high) (page_of k zero)
  new_name (page_of k (suc i)) = cond (eqb k key) (page_of key i) (page_of k (suc i))

  name_back : (w : Owner) → new_name (old_name w) ≡ w
  name_back hand = refl
  name_back (slab_of k) = refl
  name_back (stack c d) = go (eqb c page_class) refl (eqb d high) refl
    where
      go : (a : Bool) → eqb c page_class ≡ a → (b : Bool) → eqb d high ≡ b
          → new_name (cond a (cond b (page_of key 0) (stack c d)) (stack c d)) ≡ stack c d
      go true q true q' = rw (eq-eqb key key refl) (ap (λ (x : ℕ). stack x high) (sym (eqb-true c page_class q))
          ∙ ap (stack c) (sym (eqb-true d high q')))
      go true q false q' = refl
      go false q b q' = refl
  name_back (page_of k i) = go (eqb k key) refl i
    where
      go : (b : Bool) → eqb k key ≡ b → (i : ℕ) → new_name (cond b (page_of key (suc i)) (page_of k i)) ≡ page_of k i
      go true q i = rw (eq-eqb key key refl) (ap (λ (x : ℕ). page_of x i) (sym (eqb-true k key q)))
      go false q zero = rw q
      go false q (suc i) = rw q

pub good_first_freed : (s : Space) (at : ℕ → Place) (held : Option Block) (key : ℕ) (p : Page) (ps : List Page) → at key ≡ pages (p ∷ ps)
    → Good s at held
    → Good (freed page_class p.off s) (at_key key (pages ps) at) held
unfolding has page_no
good_first_freed s at held key p ps e g =
    record {
      nine = length-set s.stacks page_class (p.off ∷ stack_of page_class s) ∙ g.nine;
      aligned = g.aligned;
      from = g.from;
      apart = apart_renamed _ _ s.mark (old_name key (length (stack_of page_class s))) (new_name key (length (stack_of page_class s)))
          (name_back key (length (stack_of page_class s))) to g.apart;
    }
  where
    in_nine : page_class < length s.stacks
    in_nine = let n = g.nine in omega arith

    to : (w : Owner) (x : Block) → has (freed page_class p.off s) (at_key key (pages ps) at) held w ≡ some x
        → has s at held (old_name key (length (stack_of page_class s)) w) ≡ some x
    to hand x h = h
    to (slab_of j) x h = ⊎_elim (λ (is, f). absurd (none_some f)) (λ (n, f). f) (key_slab key (pages ps) at j x h)
    to (page_of j i) x h = go (eqb j key) refl h
      where
        go : (b : Bool) → eqb j key ≡ b → page_in i (cond b (pages ps) (at j)) ≡ some x
            → has s at held (cond b (page_of key (suc i)) (page_of j i)) ≡ some x
        go true q h = ap (page_in (suc i)) e ∙ h
        go false q h = h
    to (stack c d) x h =
        ⊎_elim
        (λ (depth, is, found).
        let cl : c ≡ page_class = stack_class is in
        let dp : d ≡ depth = stack_depth is in
        ⊎_elim
        (λ (top, block).
        rw (eq-eqb c page_class cl, eq-eqb d (length (stack_of page_class s)) (dp ∙ top)) (ap (page_in 0) e ∙ ap some (sym block)))
        (λ (n, under).
        let there : at_depth c d (stack_of c s) ≡ some x =
        ap (λ (k : ℕ). at_depth k d (stack_of k s)) cl ∙ ap (λ (k : ℕ). at_depth page_class k (stack_of page_class s)) dp ∙ under in
        rw (eq-eqb c page_class cl, ne_eqb d (length (stack_of page_class s)) (λ z. n (sym dp ∙ z))) there)
        (below_top page_class depth p.off (stack_of page_class s) x found))
        (λ (n, found). rw (ne_eqb c page_class (λ z. n d (ap (λ (k : ℕ). stack k d) z))) found)
        (changed_has s page_class (p.off ∷ stack_of page_class s) in_nine (at_key key (pages ps) at) held (stack c d) x h)

-- Changed once is as changed twice.
pub good_twice : (s : Space) (at : ℕ → Place) (held : Option Block) (key : ℕ) (first second : Place)
    → Good s (at_key key second (at_key key first at)) held
    → Good s (at_key key second at) held
good_twice s at held key first second g =
    good_fewer s (at_key key second (at_key key first at)) (at_key key second at) held (λ j x h. once slab_at (eqb j key) j x h)
    (λ j i x h. once (page_in i) (eqb j key) j x h) g
  where
    once : (tell : Place → Option Block) (b : Bool) (j : ℕ) (x : Block) → tell (cond b second (at j)) ≡ some x
        → tell (cond b second (cond b first (at j))) ≡ some x
    once tell true j x h = h
    once tell false j x h = h

-- All pages of a key are freed, the first first.
pub good_pages_freed : (s : Space) (at : ℕ → Place) (held : Option Block) (key : ℕ) (ps : List Page) → at key ≡ pages ps → Good s at held
    → Good (freed_pages ps s) (at_key key empty at) held
unfolding freed_pages
good_pages_freed s at held key [] e g =
    good_fewer s at (at_key key empty at) held
    (λ j x h. ⊎_elim (λ (is, f). absurd (none_some f)) (λ (n, f). f) (key_slab key empty at j x h))
    (λ j i x h. ⊎_elim (λ (is, f). absurd (none_some f)) (λ (n, f). f) (key_page key empty at j i x h))
    g
good_pages_freed s at held key (p ∷ ps) e g =
    good_twice (freed_pages ps (freed page_class p.off s)) at held key (pages ps) empty
    (good_pages_freed (freed page_class p.off s) (at_key key (pages ps) at) held key ps (rw (eq-eqb key key refl))
    (good_first_freed s at held key p ps e g))

-- ---- places given up, and changed

-- A key's new place has no blocks but those of its old one.
pub good_kept : (s : Space) (at : ℕ → Place) (held : Option Block) (key : ℕ) (place : Place)
    → ((x : Block) → slab_at place ≡ some x → slab_at (at key) ≡ some x)
    → ((i : ℕ) (x : Block) → page_in i place ≡ some x → page_in i (at key) ≡ some x) → Good s at held → Good s (at_key key place at) held
good_kept s at held key place slabs pgs g =
    good_fewer s at (at_key key place at) held
    (λ j x h. ⊎_elim (λ (is, f). ap (λ (k : ℕ). slab_at (at k)) is ∙ slabs x f) (λ (n, f). f) (key_slab key place at j x h))
    (λ j i x h. ⊎_elim (λ (is, f). ap (λ (k : ℕ). page_in i (at k)) is ∙ pgs i x f) (λ (n, f). f) (key_page key place at j i x h))
    g

-- A key's place is given up.
pub good_freed_place : (s : Space) (at : ℕ → Place) (held : Option Block) (key : ℕ) (place : Place) → at key ≡ place → Good s at held
    → Good (freed_place place s) (at_key key empty at) held
unfolding freed_place has
good_freed_place s at held key empty e g = good_kept s at held key empty (λ x h. absurd (none_some h)) (λ i x h. absurd (none_some h)) g
good_freed_place s at held key inline e g = good_kept s at held key empty (λ x h. absurd (none_some h)) (λ i x h. absurd (none_some h)) g
good_freed_place s at held key (slab class off kept) e g =
    let st = block_stands class off s.mark (g.apart.stands (slab_of key) (record { class = class; off = off }) (ap slab_at e)) in
    good_freed s at held key class off kept st.class_to_8 e g
good_freed_place s at held key (pages ps) e g = good_pages_freed s at held key ps e g
