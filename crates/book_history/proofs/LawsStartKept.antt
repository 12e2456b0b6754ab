-- A book that stands for a good plain book is a good start, and so is every book that calls lead to from a good start: the check of a start
-- accepts whatever the calls have made. Assumes nothing.
use Prim.Native.Nat.{ℕ, zero, suc, ◌+◌, ◌/◌, ◌≤◌, ◌<◌}
use mathlib.Core.Bool.{Bool, true, false}
use mathlib.Core.List.{List, [], ◌∷◌, ◌++◌}
use mathlib.Core.Logic.{◌⊎◌, inl, inr, ◌≢◌, ⊎_elim}
use mathlib.Core.Option.{Option, none, some}
use mathlib.Core.Path.{◌≡◌, refl, sym, ap, subst, ◌∙◌}
use native.Mathlib.Nat.{zero-add}
use native.Mathlib.Omega.{arith}
use lib.Dec.{eqb}
use lib.ListN.{length, get_or}
use borrow.Author.Tests.{eqb-true, eqb-false}
use Rattle.scripthash_layout.specs.Sizes.{page_class}
use Rattle.scripthash_free.specs.FreeList.{Disjoint, Block, Each, next_of, IsFreeList}
use Rattle.scripthash_free.proofs.LawsBlock.{bytes_from_16, block_stands}
use Rattle.book_statements.specs.Calls.{Call}
use Rattle.book_limits.specs.Limits.{out_of_shape}
use Rattle.plain_book.specs.Space.{stack_of}
use Rattle.plain_book.specs.Key.{Page, Place, empty, inline, slab, pages}
use Rattle.plain_book.specs.Book.{Book as PlainBook, key_of, after as plain_after}
use Rattle.plain_book.specs.Owners.{Owner, hand, stack, slab_of, page_of, at_depth, page_no, slab_at, page_in, has, places}
use Rattle.plain_book.specs.Good.{GoodPlain}
use Rattle.plain_book.proofs.LawsOwners.{none_some, kind_of, depth_of, class_of, top_is, under_top}
use Rattle.plain_book.proofs.LawsChain.{few_below}
use Rattle.plain_book.proofs.LawsGood.{calls_good, shapes_kept}
use Rattle.book_space.specs.Space.{shape_broken}
use Rattle.book_keys.specs.Keys.{page_blocks}
use Rattle.book.specs.Book.{Book}
use Rattle.book_history.specs.Calls.{after}
use Rattle.book_start.specs.Start.{AllApart, Stands, blocks_at, blocks_in, followed, followed_from, freed_of, freed_by, held_of, list_of}
use Rattle.book_start.specs.Start.{GoodBlocks, GoodStart}
use Rattle.book_start.proofs.LawsClaims.{Cross}
use Rattle.book_start.proofs.LawsFreed.{followed_end, followed_more}
use Rattle.book_start.proofs.LawsPairs.{gather, gather_same, held_gathered, freed_gathered}
use Rattle.book_history.specs.Agrees.{contents_of, Agrees}
use Rattle.book_history.specs.PlainOf.{plain_of}
use Rattle.book_history.proofs.LawsStep.{mark_good}
use Rattle.book_history.proofs.LawsContent.{offs_of, blocks_of, content_agrees}
use Rattle.book_history.proofs.LawsFreeLists.{free_list_is}
use Rattle.book_history.proofs.LawsCalls.{books_agree}
use Rattle.book_history.proofs.LawsEach.{each_alike}
use Rattle.book_history.proofs.LawsStartApart.{block_no}
use Rattle.book_history.proofs.LawsStart.{start_shape, start_good, start_agrees}
use Rattle.book_history.proofs.LawsStartDesks.{SameDesks, desks_counts}

-- ---- lists of blocks

-- What holds of each block by its index, and of each of two lists.
each_of : (P : Block → Type 0) (xs : List Block) → ((i : ℕ) (x : Block) → block_no i xs ≡ some x → P x) → Each P xs
unfolding Each block_no
each_of P [] h = tt
each_of P (x ∷ xs) h = (h 0 x refl, each_of P xs (λ i y e. h (suc i) y e))

pub each_both : (P : Block → Type 0) (xs ys : List Block) → Each P xs → Each P ys → Each P (xs ++ ys)
unfolding Each
each_both P [] ys e f = f
each_both P (x ∷ xs) ys (p, e) f = (p, each_both P xs ys e f)

-- Blocks of which two at different indices share no byte.
apart_of : (xs : List Block) → ((i j : ℕ) (x y : Block) → i ≢ j → block_no i xs ≡ some x → block_no j xs ≡ some y → Disjoint x y)
    → AllApart xs
unfolding AllApart block_no
apart_of [] h = tt
apart_of (x ∷ xs) h = (
  each_of (Disjoint x) xs (λ j y e. h 0 (suc j) x y (λ z. omega arith) refl e),
  apart_of xs (λ i j y z n e f. h (suc i) (suc j) y z (λ (q : suc i ≡ suc j). n (omega arith)) e f),
)

-- Two lists of which no block of one shares a byte with one of the other.
cross_of : (xs ys : List Block) → ((i j : ℕ) (x y : Block) → block_no i xs ≡ some x → block_no j ys ≡ some y → Disjoint x y) → Cross xs ys
cross_of xs ys h = each_of (λ x. Each (Disjoint x) ys) xs (λ i x e. each_of (Disjoint x) ys (λ j y f. h i j x y e f))

cross_both : (xs ys zs : List Block) → Cross xs ys → Cross xs zs → Cross xs (ys ++ zs)
unfolding Each
cross_both [] ys zs c d = tt
cross_both (x ∷ xs) ys zs (c, cs) (d, ds) = (each_both (Disjoint x) ys zs c d, cross_both xs ys zs cs ds)

pub apart_both : (xs ys : List Block) → AllApart xs → AllApart ys → Cross xs ys → AllApart (xs ++ ys)
unfolding AllApart Each
apart_both [] ys a b c = b
apart_both (x ∷ xs) ys (d, a) b (c, cs) = (each_both (Disjoint x) xs ys d c, apart_both xs ys a b cs)

-- Lists by a number: none shares a byte with a list, or with another.
cross_gather : (xs : List Block) (n : ℕ) (f : ℕ → List Block) → ((i : ℕ) → i < n → Cross xs (f i)) → Cross xs (gather n f)
unfolding gather Each
cross_gather xs zero f h = each_of (λ x. Each (Disjoint x) []) xs (λ i x e. tt)
cross_gather xs (suc n) f h =
    cross_both xs (f 0) (gather n (λ i. f (suc i))) (h 0 (omega arith))
    (cross_gather xs n (λ i. f (suc i)) (λ i l. h (suc i) (omega arith)))

gather_cross_all : (n : ℕ) (f : ℕ → List Block) (ys : List Block) → ((i : ℕ) → i < n → Cross (f i) ys) → Cross (gather n f) ys
unfolding gather Each
gather_cross_all zero f ys h = tt
gather_cross_all (suc n) f ys h =
    each_both (λ x. Each (Disjoint x) ys) (f 0) (gather n (λ i. f (suc i))) (h 0 (omega arith))
    (gather_cross_all n (λ i. f (suc i)) ys (λ i l. h (suc i) (omega arith)))

gather_apart_all : (n : ℕ) (f : ℕ → List Block) → ((i : ℕ) → i < n → AllApart (f i))
    → ((i j : ℕ) → i ≢ j → i < n → j < n → Cross (f i) (f j)) → AllApart (gather n f)
unfolding gather AllApart
gather_apart_all zero f own two = tt
gather_apart_all (suc n) f own two =
    apart_both (f 0) (gather n (λ i. f (suc i))) (own 0 (omega arith))
    (gather_apart_all n (λ i. f (suc i)) (λ i l. own (suc i) (omega arith))
    (λ i j d l k. two (suc i) (suc j) (λ (q : suc i ≡ suc j). d (omega arith)) (omega arith) (omega arith)))
    (cross_gather (f 0) n (λ i. f (suc i)) (λ j l. two 0 (suc j) (λ z. omega arith) (omega arith) (omega arith)))

-- ---- free lists

-- A free list that names so many offsets is followed over all of them.
free_list_followed : (k : ℕ) (body : List ℕ) (head : ℕ) (os : List ℕ) → IsFreeList body head os → length os ≤ k → followed k body head ≡ os
unfolding IsFreeList
free_list_followed k body head [] n l = followed_end k body head n
free_list_followed zero body head (o ∷ os) n l = absurd (omega arith)
free_list_followed (suc k) body head (o ∷ os) (is, some', within, rest) l =
    ap (followed (suc k) body) is ∙ followed_more k body o (λ (z : o ≡ 0). omega arith)
    ∙ ap (λ (xs : List ℕ). o ∷ xs) (free_list_followed k body (next_of body o) os rest (omega arith))

-- The freed block at an index from the top, by its depth.
no_depth : (class i : ℕ) (os : List ℕ) (x : Block) → block_no i (blocks_at class os) ≡ some x
    → (d : ℕ) × (i + suc d ≡ length os) × (at_depth class d os ≡ some x)
unfolding blocks_at block_no
no_depth class i [] x e = absurd (none_some e)
no_depth class zero (o ∷ os) x e = (length os, omega arith, top_is class o os ∙ e)
no_depth class (suc i) (o ∷ os) x e =
    let (d, sum, at) = no_depth class i os x e in
    (d, omega arith, under_top class d o os x at)

-- The freed block at an index.
freed_no : (class i : ℕ) (os : List ℕ) → i < length os → block_no i (blocks_at class os) ≡ some (record { class = class; off = get_or os i 0 })
unfolding blocks_at block_no
freed_no class i [] l = absurd (omega arith)
freed_no class zero (o ∷ os) l = refl
freed_no class (suc i) (o ∷ os) l = freed_no class i os (omega arith)

-- ---- a book that stands for a good plain book

-- The key that an owner's block belongs to, and the block's index there.
abbrev key_in : Owner → ℕ
key_in hand = 0
key_in (stack c d) = 0
key_in (slab_of k) = k
key_in (page_of k i) = k

abbrev index_in : Owner → ℕ
index_in hand = 0
index_in (stack c d) = 0
index_in (slab_of k) = 0
index_in (page_of k i) = i

-- Pages by their index are blocks by theirs.
pages_no : (i : ℕ) (ps : List Page) → page_no i ps ≡ block_no i (page_blocks (offs_of ps))
unfolding page_no offs_of page_blocks block_no
pages_no i [] = refl
pages_no zero (p ∷ ps) = refl
pages_no (suc i) (p ∷ ps) = pages_no i ps

module _ (plain : PlainBook) (b : Book) (g : GoodPlain plain) (a : Agrees plain b)
    (shape : out_of_shape plain.size (length plain.keys) ≡ false) where
  -- Who has which block.
  abbrev has_now : Owner → Option Block
  has_now = has plain.space (places plain) none

  -- The marks are one, and blocks stand below it.
  marked : b.space.mark ≡ plain.space.mark
  marked = (a.inside shape).space.mark

  stands : (w : Owner) (x : Block) → has_now w ≡ some x → Stands b.space.mark x
  stands w x e = rw marked (g.space.apart.stands w x e)

  -- ---- keys

  -- The blocks that a key holds are those of its place.
  pub held_is : (key : ℕ) → held_of b key ≡ blocks_of (key_of key plain).place
  unfolding blocks_in
  held_is key = rw (content_agrees plain b g shape (a.inside shape) key)

  -- Each has an owner.
  held_owner : (key i : ℕ) (x : Block) → block_no i (held_of b key) ≡ some x
      → (w : Owner) × (has_now w ≡ some x) × (key_in w ≡ key) × (index_in w ≡ i) × (kind_of w ≢ 1)
  unfolding has block_no
  held_owner key i x e = go (key_of key plain).place refl i (rw (held_is key) at e)
    where
      go : (place : Place) → (key_of key plain).place ≡ place → (j : ℕ) → block_no j (blocks_of place) ≡ some x
          → (w : Owner) × (has_now w ≡ some x) × (key_in w ≡ key) × (index_in w ≡ j) × (kind_of w ≢ 1)
      go empty is j f = absurd (none_some f)
      go inline is j f = absurd (none_some f)
      go (slab class off kept) is zero f = (slab_of key, ap slab_at is ∙ f, refl, refl, λ (z : ◌≡◌ {A = ℕ} 2 1). omega arith)
      go (slab class off kept) is (suc j) f = absurd (none_some f)
      go (pages ps) is j f = (page_of key j, ap (page_in j) is ∙ pages_no j ps ∙ f, refl, refl, λ (z : ◌≡◌ {A = ℕ} 3 1). omega arith)

  -- Blocks of keys, at different indices or of different keys, share no byte.
  held_apart : (k l i j : ℕ) (x y : Block) → block_no i (held_of b k) ≡ some x → block_no j (held_of b l) ≡ some y → (k ≢ l) ⊎ (i ≢ j)
      → Disjoint x y
  held_apart k l i j x y e f n =
      let (v, mine, of-k, at_i, no') = held_owner k i x e in
      let (w, yours, of-l, at_j, no'') = held_owner l j y f in
      g.space.apart.apart v w x y
      (λ (z : v ≡ w).
      ⊎_elim (λ (m : k ≢ l). m (sym of-k ∙ ap key_in z ∙ of-l)) (λ (m : i ≢ j). m (sym at_i ∙ ap index_in z ∙ at_j)) n)
      mine yours

  -- ---- free lists

  -- The freed block at an index of a stack has an owner.
  stack_owner : (class i : ℕ) (x : Block) → block_no i (blocks_at class (stack_of class plain.space)) ≡ some x
      → (d : ℕ) × (i + suc d ≡ length (stack_of class plain.space)) × (has_now (stack class d) ≡ some x)
  unfolding has
  stack_owner class i x e = no_depth class i (stack_of class plain.space) x e

  -- Blocks of stacks, at different indices or of different classes, share no byte.
  stacks_apart : (c c' i j : ℕ) (x y : Block) → block_no i (blocks_at c (stack_of c plain.space)) ≡ some x
      → block_no j (blocks_at c' (stack_of c' plain.space)) ≡ some y
      → (c ≢ c') ⊎ (i ≢ j) → Disjoint x y
  stacks_apart c c' i j x y e f n =
      let (d, sum, mine) = stack_owner c i x e in
      let (d', sum', yours) = stack_owner c' j y f in
      g.space.apart.apart (stack c d) (stack c' d') x y
      (λ (z : stack c d ≡ stack c' d').
      let same : c ≡ c' = ap class_of z in
      let deep : d ≡ d' = ap depth_of z in
      let high = ap (λ (k : ℕ). length (stack_of k plain.space)) same in
      ⊎_elim (λ (m : c ≢ c'). m same) (λ (m : i ≢ j). m (omega arith)) n)
      mine yours

  -- A stack has at most a sixteenth of the mark, since each block takes 16 bytes at least.
  stack_few : (class : ℕ) → length (stack_of class plain.space) ≤ b.space.mark / 16
  stack_few class =
      few_below (b.space.mark / 16) (length (stack_of class plain.space)) (λ i. get_or (stack_of class plain.space) i 0 / 16) low one
    where
      low : (i : ℕ) → i < length (stack_of class plain.space) → get_or (stack_of class plain.space) i 0 / 16 < b.space.mark / 16
      low i l =
          let (d, sum, mine) = stack_owner class i _ (freed_no class i (stack_of class plain.space) l) in
          let ends = (block_stands class (get_or (stack_of class plain.space) i 0) b.space.mark (stands (stack class d) _ mine)).ends in
          let big = bytes_from_16 class in
          omega arith

      one : (i j : ℕ) → i < length (stack_of class plain.space) → j < length (stack_of class plain.space)
          → get_or (stack_of class plain.space) i 0 / 16 ≡ get_or (stack_of class plain.space) j 0 / 16 → i ≡ j
      one i j l k e = go (eqb i j) refl
        where
          go : (t : Bool) → eqb i j ≡ t → i ≡ j
          go true q = eqb-true i j q
          go false q =
              let big = bytes_from_16 class in
              let mine = freed_no class i (stack_of class plain.space) l in
              let yours = freed_no class j (stack_of class plain.space) k in
              absurd (⊎_elim (λ d. omega arith) (λ d. omega arith) (stacks_apart class class i j _ _ mine yours (inr (eqb-false i j q))))

  -- Each free list names its stack, and is followed over all of it.
  free_list_stack : (class : ℕ) → IsFreeList b.space.body (get_or b.space.free class 0) (stack_of class plain.space)
  free_list_stack class = free_list_is plain.space b.space (places plain) (contents_of plain) g.space (a.inside shape).space class

  pub freed_is : (class : ℕ) → freed_of b.space class ≡ stack_of class plain.space
  freed_is class =
      free_list_followed (b.space.mark / 16) b.space.body (get_or b.space.free class 0) (stack_of class plain.space)
      (free_list_stack class) (stack_few class)

  -- ---- all blocks

  -- A block of a key and a freed one share no byte.
  held_freed : (k i c j : ℕ) (x y : Block) → block_no i (held_of b k) ≡ some x → block_no j (list_of b c) ≡ some y → Disjoint x y
  held_freed k i c j x y e f =
      let (v, mine, of-k, at_i, kind) = held_owner k i x e in
      let (d, sum, yours) = stack_owner c j y (rw (freed_is c) at f) in
      g.space.apart.apart v (stack c d) x y (λ (z : v ≡ stack c d). kind (ap kind_of z)) mine yours

  lists_apart : (c c' i j : ℕ) (x y : Block) → block_no i (list_of b c) ≡ some x → block_no j (list_of b c') ≡ some y → (c ≢ c') ⊎ (i ≢ j)
      → Disjoint x y
  lists_apart c c' i j x y e f n = stacks_apart c c' i j x y (rw (freed_is c) at e) (rw (freed_is c') at f) n

  -- No two share a byte.
  keys_all : AllApart (gather (length b.heads) (held_of b))
  keys_all =
      gather_apart_all (length b.heads) (held_of b) (λ k l. apart_of (held_of b k) (λ i j x y n e f. held_apart k k i j x y e f (inr n)))
      (λ k l n p q. cross_of (held_of b k) (held_of b l) (λ i j x y e f. held_apart k l i j x y e f (inl n)))

  lists_all : (m : ℕ) → AllApart (gather m (list_of b))
  lists_all m =
      gather_apart_all m (list_of b) (λ c l. apart_of (list_of b c) (λ i j x y n e f. lists_apart c c i j x y e f (inr n)))
      (λ c c' n p q. cross_of (list_of b c) (list_of b c') (λ i j x y e f. lists_apart c c' i j x y e f (inl n)))

  across : (n m : ℕ) → Cross (gather n (held_of b)) (gather m (list_of b))
  across n m =
      gather_cross_all n (held_of b) (gather m (list_of b))
      (λ k l. cross_gather (held_of b k) m (list_of b)
      (λ c h. cross_of (held_of b k) (list_of b c) (λ i j x y e f. held_freed k i c j x y e f)))

  pub freed_gather : freed_by b.space 0 b.space.free ≡ gather (length b.space.free) (list_of b)
  freed_gather =
      freed_gathered b.space 0 b.space.free
      ∙ gather_same (length b.space.free) (λ i. blocks_at (0 + i) (followed_from b.space (get_or b.space.free i 0))) (list_of b)
      (λ i. rw (zero-add i))

  -- Its blocks are good.
  agrees_blocks : GoodBlocks b
  unfolding shape_broken
  agrees_blocks =
      let out : out_of_shape (length b.space.body) (length b.heads) ≡ false = rw (a.size, a.count) shape in
      let bad = mark_good plain b g shape a.size (a.inside shape) in
      let n = length b.heads in
      let m = length b.space.free in
      record {
        shape = rw (out, bad);
        nine = (a.inside shape).space.nine;
        sound = λ key l. (_, content_agrees plain b g shape (a.inside shape) key);
        ends = λ class l. rw (freed_is class) (free_list_stack class);
        stand = λ class l. each_of (Stands b.space.mark) (list_of b class)
            (λ i x e. let (d, sum, mine) = stack_owner class i x (rw (freed_is class) at e) in stands (stack class d) x mine);
        apart = rw (held_gathered b.space b.heads, freed_gather)
            (apart_both (gather n (held_of b)) (gather m (list_of b)) keys_all (lists_all m) (across n m));
      }

  -- It tells the same of its desks.
  agrees_desks : SameDesks plain b
  agrees_desks =
      record {
        size = a.size;
        count = a.count;
        mark = marked;
        freed = ap length (freed_is page_class);
        pages = λ key l. rw (content_agrees plain b g shape (a.inside shape) key);
        counts = (a.inside shape).counts;
      }

  -- Such a book is a good start.
  pub agrees_start : GoodStart plain.desks b
  agrees_start = record { blocks = agrees_blocks; counts = desks_counts plain b agrees_desks g.desks }

-- ---- after any calls

-- Calls on a good start leave its plain book's shape and desks.
pub shape_after : (ds : List ℕ) (b : Book) (cs : List Call) → GoodBlocks b
    → (out_of_shape (plain_after (plain_of ds b) cs).size (length (plain_after (plain_of ds b) cs).keys) ≡ false)
    × ((plain_after (plain_of ds b) cs).desks ≡ ds)
unfolding plain_of
shape_after ds b cs g =
    let (size, keys, same, limits) = shapes_kept (plain_of ds b) cs in
    (rw (size, keys) (start_shape ds b g), same)

-- It stands for the plain book after them.
pub after_agrees : (ds : List ℕ) (b : Book) (cs : List Call) → GoodStart ds b
    → Agrees (plain_after (plain_of ds b) cs) (after ds b cs)
unfolding plain_of
after_agrees ds b cs g = books_agree each_alike (plain_of ds b) b cs (start_good ds b g) (start_agrees ds b g)

-- Whatever is called on a good start, it stays one.
pub start_kept : (ds : List ℕ) (b : Book) (cs : List Call) → GoodStart ds b → GoodStart ds (after ds b cs)
start_kept ds b cs g =
    let (shape, same) = shape_after ds b cs g.blocks in
    subst (λ (list : List ℕ). GoodStart list (after ds b cs)) same
    (agrees_start (plain_after (plain_of ds b) cs) (after ds b cs) (calls_good cs (start_good ds b g))
    (after_agrees ds b cs g) shape)
