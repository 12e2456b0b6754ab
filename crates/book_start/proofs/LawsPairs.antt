-- What a good start says of each pair of its blocks, held or free, and of each of them. Assumes nothing.
use Prim.Native.Nat.{ℕ, zero, suc, ◌+◌, ◌≤◌, ◌<◌}
use mathlib.Core.Bool.{true}
use mathlib.Core.List.{List, [], ◌∷◌, ◌++◌}
use mathlib.Core.Logic.{◌⊎◌, ◌≢◌, ⊎_elim}
use mathlib.Core.Path.{◌≡◌, refl, sym, ap, ◌∙◌}
use native.Mathlib.Nat.{zero-add}
use native.Mathlib.Omega.{arith}
use lib.ListN.{length, get_or}
use Rattle.error.specs.Refusal.{accepted}
use Rattle.buffer.proofs.LawsOrder.{lt_or_ge}
use Rattle.scripthash_layout.specs.Sizes.{page_class}
use Rattle.scripthash_layout.specs.declared.head.ShHeadValue.{ShHeadValue}
use Rattle.scripthash_layout.specs.declared.head.ShHeadValue.TheVariants.{Empty, Inline, Slab, Extent}
use Rattle.scripthash_free.specs.FreeList.{Disjoint, Block, Each, is_block}
use Rattle.scripthash_free.proofs.LawsGap.{each_map}
use Rattle.book_space.specs.Space.{Space}
use Rattle.book_keys.specs.Keys.{Content, page_blocks, content_at, content}
use Rattle.book_keys.proofs.LawsSlab.{slab_sound}
use Rattle.book_keys.proofs.LawsContent.{content_empty, content_inline, was_slab, was_pages, was_content}
use Rattle.book_keys.proofs.LawsKeys.{Every, chain_known}
use Rattle.book.specs.Book.{Book, word_of, seen}
use Rattle.error.proofs.LawsAnswer.{accepted_inj}
use Rattle.book_start.specs.Start.{AllApart, Stands, blocks_at, blocks_in, held_by, followed_from, freed_by, held_of, list_of}
use Rattle.book_start.specs.Start.{GoodBlocks}
use Rattle.book_start.proofs.LawsClaims.{Cross, disjoint_sym}

-- ---- blocks of several lists

module _ (P : Block → Type 0) where
  -- What holds of each of two lists together holds of each of the first, and of the second.
  pub each_left : (xs ys : List Block) → Each P (xs ++ ys) → Each P xs
  unfolding Each
  each_left [] ys e = tt
  each_left (x ∷ xs) ys (p, e) = (p, each_left xs ys e)

  pub each_right : (xs ys : List Block) → Each P (xs ++ ys) → Each P ys
  unfolding Each
  each_right [] ys e = e
  each_right (x ∷ xs) ys (p, e) = each_right xs ys e

-- Blocks of the first of two lists share no byte with each other, nor those of the second, nor one of the first with one of the second.
pub apart_left : (xs ys : List Block) → AllApart (xs ++ ys) → AllApart xs
unfolding AllApart
apart_left [] ys a = tt
apart_left (x ∷ xs) ys (d, a) = (each_left (Disjoint x) xs ys d, apart_left xs ys a)

pub apart_right : (xs ys : List Block) → AllApart (xs ++ ys) → AllApart ys
unfolding AllApart
apart_right [] ys a = a
apart_right (x ∷ xs) ys (d, a) = apart_right xs ys a

pub apart_cross : (xs ys : List Block) → AllApart (xs ++ ys) → Cross xs ys
unfolding AllApart Each
apart_cross [] ys a = tt
apart_cross (x ∷ xs) ys (d, a) = (each_right (Disjoint x) xs ys d, apart_cross xs ys a)

-- Which of two lists is named first doesn't matter.
pub cross_sym : (xs ys : List Block) → Cross xs ys → Cross ys xs
unfolding Each
cross_sym xs [] c = tt
cross_sym xs (y ∷ ys) c = (
  each_map (λ x. Each (Disjoint x) (y ∷ ys)) (Disjoint y) (λ x d. disjoint_sym x y d.0) xs c,
  cross_sym xs ys (each_map (λ x. Each (Disjoint x) (y ∷ ys)) (λ x. Each (Disjoint x) ys) (λ x d. d.1) xs c),
)

-- A block is one of some.
unfoldable pub In : Block → List Block → Type 0
In x [] = ⊥
In x (y ∷ ys) = (x ≡ y) ⊎ In x ys

-- What holds of each holds of one of them.
pub each_in : (P : Block → Type 0) (x : Block) (xs : List Block) → Each P xs → In x xs → P x
unfolding In Each
each_in P x [] e i = absurd i
each_in P x (y ∷ ys) (p, e) i = ⊎_elim (λ (same : x ≡ y). rw same p) (λ (there : In x ys). each_in P x ys e there) i

-- One block of each of two lists that share no byte.
pub cross_in : (x y : Block) (xs ys : List Block) → Cross xs ys → In x xs → In y ys → Disjoint x y
cross_in x y xs ys c i j = each_in (Disjoint x) y ys (each_in (λ z. Each (Disjoint z) ys) x xs c i) j

-- ---- lists of blocks by a number

-- The blocks of the lists that belong to the numbers below one, one list after the other.
unfoldable pub gather : ℕ → (ℕ → List Block) → List Block
gather zero f = []
gather (suc n) f = f 0 ++ gather n (λ i. f (suc i))

pub gather_same : (n : ℕ) (f g : ℕ → List Block) → ((i : ℕ) → f i ≡ g i) → gather n f ≡ gather n g
unfolding gather
gather_same zero f g e = refl
gather_same (suc n) f g e = rw (e 0) (ap (λ (l : List Block). g 0 ++ l) (gather_same n (λ i. f (suc i)) (λ i. g (suc i)) (λ i. e (suc i))))

gather_each : (P : Block → Type 0) (n : ℕ) (f : ℕ → List Block) → Each P (gather n f) → (i : ℕ) → i < n → Each P (f i)
unfolding gather
gather_each P zero f e i l = absurd (omega arith)
gather_each P (suc n) f e zero l = each_left P (f 0) (gather n (λ i. f (suc i))) e
gather_each P (suc n) f e (suc i) l = gather_each P n (λ i. f (suc i)) (each_right P (f 0) (gather n (λ i. f (suc i))) e) i (omega arith)

gather_apart : (n : ℕ) (f : ℕ → List Block) → AllApart (gather n f) → (i : ℕ) → i < n → AllApart (f i)
unfolding gather
gather_apart zero f a i l = absurd (omega arith)
gather_apart (suc n) f a zero l = apart_left (f 0) (gather n (λ i. f (suc i))) a
gather_apart (suc n) f a (suc i) l = gather_apart n (λ i. f (suc i)) (apart_right (f 0) (gather n (λ i. f (suc i))) a) i (omega arith)

gather_rising : (n : ℕ) (f : ℕ → List Block) → AllApart (gather n f) → (i j : ℕ) → i < j → j < n → Cross (f i) (f j)
unfolding gather
gather_rising zero f a i j h l = absurd (omega arith)
gather_rising (suc n) f a i zero h l = absurd (omega arith)
gather_rising (suc n) f a zero (suc j) h l =
    let rest = gather n (λ i. f (suc i)) in
    each_map (λ x. Each (Disjoint x) rest) (λ x. Each (Disjoint x) (f (suc j)))
    (λ x d. gather_each (Disjoint x) n (λ i. f (suc i)) d j (omega arith)) (f 0) (apart_cross (f 0) rest a)
gather_rising (suc n) f a (suc i) (suc j) h l =
    gather_rising n (λ i. f (suc i)) (apart_right (f 0) (gather n (λ i. f (suc i))) a) i j (omega arith) (omega arith)

-- The blocks of two numbers that differ.
gather_cross : (n : ℕ) (f : ℕ → List Block) → AllApart (gather n f) → (i j : ℕ) → i ≢ j → i < n → j < n → Cross (f i) (f j)
gather_cross n f a i j differ l k =
    ⊎_elim (λ (h : i < j). gather_rising n f a i j h k)
    (λ (h : j ≤ i). cross_sym (f j) (f i) (gather_rising n f a j i (omega (arith, below h)) l)) (lt_or_ge i j)
  where
    below : j ≤ i → j < i
    below h = ⊎_elim (λ (m : j < i). m) (λ (m : i ≤ j). absurd (differ (omega arith))) (lt_or_ge j i)

-- ---- a good start

pub held_gathered : (s : Space) (ws : List ℕ) → held_by s ws ≡ gather (length ws) (λ i. blocks_in (content (seen s) (get_or ws i 0)))
unfolding held_by gather
held_gathered s [] = refl
held_gathered s (w ∷ ws) = rw (held_gathered s ws)

pub freed_gathered : (s : Space) (class : ℕ) (hs : List ℕ)
    → freed_by s class hs ≡ gather (length hs) (λ i. blocks_at (class + i) (followed_from s (get_or hs i 0)))
unfolding freed_by gather
freed_gathered s class [] = refl
freed_gathered s class (h ∷ hs) =
    let first : class + 0 ≡ class = omega arith in
    rw first (ap (λ (l : List Block). blocks_at class (followed_from s h) ++ l)
    (freed_gathered s (class + 1) hs ∙ gather_same (length hs) (λ i. blocks_at (class + 1 + i) (followed_from s (get_or hs i 0)))
    (λ i. blocks_at (class + suc i) (followed_from s (get_or hs i 0))) (λ i. let same : class + 1 + i
    ≡ class + suc i = omega arith in rw same)))

module _ (b : Book) (g : GoodBlocks b) where
  held_all : AllApart (gather (length b.heads) (held_of b))
  held_all = rw (held_gathered b.space b.heads) at (apart_left (held_by b.space b.heads) (freed_by b.space 0
      b.space.free) g.apart)

  lists_all : gather 9 (λ class. list_of b class) ≡ freed_by b.space 0 b.space.free
  lists_all =
      sym (freed_gathered b.space 0 b.space.free
      ∙ gather_same (length b.space.free) (λ i. blocks_at (0 + i) (followed_from b.space (get_or b.space.free i 0))) (list_of b)
      (λ i. rw (zero-add i))
      ∙ ap (λ (n : ℕ). gather n (list_of b)) g.nine)

  freed_all_lem : AllApart (gather 9 (list_of b))
  freed_all_lem = rw lists_all (apart_right (held_by b.space b.heads) (freed_by b.space 0 b.space.free) g.apart)

  -- Two blocks of a key.
  pub key_apart : (key : ℕ) → key < length b.heads → AllApart (held_of b key)
  key_apart key l = gather_apart (length b.heads) (held_of b) held_all key l

  -- Blocks of two keys.
  pub keys_apart : (i j : ℕ) → i ≢ j → i < length b.heads → j < length b.heads → Cross (held_of b i) (held_of b j)
  keys_apart i j differ l k = gather_cross (length b.heads) (held_of b) held_all i j differ l k

  -- Two blocks of a free list.
  pub list_apart : (class : ℕ) → class ≤ page_class → AllApart (list_of b class)
  list_apart class l = gather_apart 9 (list_of b) freed_all_lem class (omega arith)

  -- Blocks of two free lists.
  pub lists_apart : (c d : ℕ) → c ≢ d → c ≤ page_class → d ≤ page_class → Cross (list_of b c) (list_of b d)
  lists_apart c d differ l k = gather_cross 9 (list_of b) freed_all_lem c d differ (omega arith) (omega arith)

  -- A block of a key and one of a free list.
  pub key_list_apart : (key class : ℕ) → key < length b.heads → class ≤ page_class → Cross (held_of b key) (list_of b class)
  key_list_apart key class l k =
      let all = apart_cross (held_by b.space b.heads) (freed_by b.space 0 b.space.free) g.apart in
      let mine = gather_each (λ x. Each (Disjoint x) (freed_by b.space 0 b.space.free)) (length b.heads) (held_of b) (rw
      (held_gathered b.space b.heads) at all) key l in
      each_map (λ x. Each (Disjoint x) (freed_by b.space 0 b.space.free)) (λ x. Each (Disjoint x) (list_of b class))
      (λ x d. gather_each (Disjoint x) 9 (list_of b) (rw lists_all d) class (omega arith)) (held_of b key) mine

-- ---- what a sound key holds stands

-- Pages that stand, as blocks.
pages_stand : (mark : ℕ) (os : List ℕ) → Every (λ o. is_block page_class o mark ≡ true) os → Each (Stands mark) (page_blocks os)
unfolding Every Each page_blocks
pages_stand mark [] e = tt
pages_stand mark (o ∷ os) (p, e) = (p, pages_stand mark os e)

-- The blocks of a sound key's place stand below the mark.
pub place_stands : (s : Space) (place : ShHeadValue) (c : Content) → content_at (seen s) place ≡ accepted c
    → Each (Stands s.mark) c.blocks
unfolding Each
place_stands s Empty c e = let same = accepted_inj (sym (content_empty (seen s)) ∙ e) in rw (← same) tt
place_stands s (Inline entry used) c e = let same = accepted_inj (sym (content_inline (seen s) entry used) ∙ e) in rw (← same) tt
place_stands s (Slab class used off) c e = let w = was_slab (seen s) class used off c e in rw (← w.2) (
  (slab_sound (seen s) class used off w.0
      w.1).stands,
  tt,
)
place_stands s (Extent last) c e =
    let w = was_pages (seen s) last c e in rw (← w.2)
    (pages_stand s.mark w.0.offs (chain_known (seen s) last w.0 w.1).stands)

-- The blocks of a sound key stand below the mark.
pub content_stands : (s : Space) (word : ℕ) (c : Content) → content (seen s) word ≡ accepted c → Each (Stands s.mark) c.blocks
content_stands s word c e = let w = was_content (seen s) word c e in place_stands s w.0 c w.2

-- So do those of a key of a good start.
pub held_stand : (b : Book) → GoodBlocks b → (key : ℕ) → key < length b.heads → Each (Stands b.space.mark) (held_of b key)
unfolding blocks_in
held_stand b g key l = let c = g.sound key l in rw c.1 (content_stands b.space (word_of key b) c.0 c.1)
