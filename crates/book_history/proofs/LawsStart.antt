-- The plain book of a good start is good, and stands for it. Assumes nothing.
use Prim.Native.Nat.{ℕ, zero, suc, ◌+◌, ◌/◌, ◌≤◌, ◌<◌}
use mathlib.Core.Bool.{Bool, true, false}
use mathlib.Core.List.{List, [], ◌∷◌}
use mathlib.Core.Logic.{◌≢◌, ⊎_elim}
use mathlib.Core.Option.{none, some}
use mathlib.Core.Path.{◌≡◌, refl, sym, ap, ap₂, ◌∙◌}
use native.Mathlib.Omega.{arith}
use lib.Dec.{eqb}
use lib.ListN.{length, get_or, get_or-eq_default}
use borrow.Author.Tests.{eqb-true, eqb-false}
use Rattle.error.specs.Refusal.{accepted, and_then}
use Rattle.error.proofs.LawsAnswer.{neither}
use Rattle.buffer.specs.Bytes.{part}
use Rattle.buffer.specs.LittleEndian.{little_endian}
use Rattle.buffer.proofs.LawsOrder.{lt_or_ge}
use Rattle.scripthash_layout.specs.Sizes.{slab_bytes, page_class}
use Rattle.scripthash_layout.specs.Head.{unpack_head}
use Rattle.scripthash_layout.specs.declared.head.ShHeadValue.{ShHeadValue}
use Rattle.scripthash_free.specs.FreeList.{Disjoint, Block, IsFreeList}
use Rattle.scripthash_free.proofs.LawsBlock.{bytes_from_16}
use Rattle.book_limits.specs.Limits.{out_of_shape}
use Rattle.plain_book.specs.Space.{stack_of}
use Rattle.plain_book.specs.Key.{Place, empty, inline, slab, pages, Key, empty_key, head_of, pages_of}
use Rattle.plain_book.specs.Book.{key_of}
use Rattle.plain_book.specs.Owners.{Owner, hand, stack, slab_of, page_of, at_depth, slab_at, page_in, has, places}
use Rattle.plain_book.specs.Good.{GoodPlain}
use Rattle.plain_book.proofs.LawsOwners.{none_some, below_top}
use Rattle.plain_book.proofs.LawsHeads.{head_told}
use Rattle.plain_book.proofs.LawsChain.{mark_most}
use Rattle.book_space.specs.Space.{Space, shape_broken}
use Rattle.book_space.proofs.LawsShape.{shape_holds}
use Rattle.book_keys.specs.Keys.{soundly, Content, content_at, content}
use Rattle.book.specs.Book.{Book, word_of, head_word, seen}
use Rattle.book_start.specs.Start.{Stands, blocks_at, blocks_in, followed_from, freed_of, GoodBlocks, GoodStart, held_of, list_of, pages_held}
use Rattle.book_start.proofs.LawsClaims.{disjoint_sym}
use Rattle.book_start.proofs.LawsFreed.{followed_end}
use Rattle.book_start.proofs.LawsPairs.{each_in, cross_in, key_apart, keys_apart, list_apart, lists_apart, key_list_apart}
use Rattle.book_history.specs.Agrees.{under, BlockReads, contents_of, AgreesSpace, AgreesCounts, Agrees}
use Rattle.book_history.specs.PlainOf.{place_from, counted_from, list_from, key_from, keys_from, stacks_from, plain_of, start_list}
use Rattle.book_history.proofs.LawsTake.{part_start}
use Rattle.book_history.proofs.LawsFreeLists.{free_list_top, free_list_under}
use Rattle.book_history.proofs.LawsWords.{stored_told}
use Rattle.book_history.proofs.LawsStartApart.{block_no, no_in, two_apart}
use Rattle.book_history.proofs.LawsStartPages.{BlockAs}
use Rattle.book_history.proofs.LawsStartKeys.{KeyRead, key_read, key_pages}
use Rattle.book_history.proofs.LawsStartDesks.{SameDesks, counts_desks}

-- ---- keys and stacks by their numbers

module _ (s : Space) where
  -- The word 0 holds nothing, and its key is empty.
  pub word_none : content (seen s) 0 ≡ accepted (record { numbers = []; blocks = []; pages = 0; padded = 0 })
  unfolding content soundly and_then unpack_head content_at
  word_none = refl

  pub key_none : key_from s 0 ≡ empty_key
  unfolding key_from list_from place_from counted_from content soundly and_then unpack_head content_at
  key_none = refl

  -- The key of a number.
  keys_at : (ws : List ℕ) (key : ℕ) → get_or (keys_from s ws) key empty_key ≡ key_from s (get_or ws key 0)
  unfolding keys_from
  keys_at [] key = sym key_none
  keys_at (w ∷ ws) zero = refl
  keys_at (w ∷ ws) (suc key) = keys_at ws key

  keys_many : (ws : List ℕ) → length (keys_from s ws) ≡ length ws
  unfolding keys_from
  keys_many [] = refl
  keys_many (w ∷ ws) = ap suc (keys_many ws)

  -- The stack of a class.
  stacks_at : (hs : List ℕ) (class : ℕ) → get_or (stacks_from s hs) class [] ≡ followed_from s (get_or hs class 0)
  unfolding stacks_from
  stacks_at [] class = sym (followed_end _ s.body 0 refl)
  stacks_at (h ∷ hs) zero = refl
  stacks_at (h ∷ hs) (suc class) = stacks_at hs class

  stacks_many : (hs : List ℕ) → length (stacks_from s hs) ≡ length hs
  unfolding stacks_from
  stacks_many [] = refl
  stacks_many (h ∷ hs) = ap suc (stacks_many hs)

-- ---- free lists

-- The block at a depth, by its index from the top.
depth_block : (class d : ℕ) (os : List ℕ) (x : Block) → at_depth class d os ≡ some x
    → (i : ℕ) × (i + suc d ≡ length os) × (block_no i (blocks_at class os) ≡ some x)
unfolding at_depth blocks_at block_no
depth_block class d [] x e = absurd (none_some e)
depth_block class d (o ∷ os) x e =
    ⊎_elim
    (λ (deep, block). (0, omega arith, ap some (sym block)))
    (λ (other, there). let (i, sum, at) = depth_block class d os x there in (suc i, omega arith, at))
    (below_top class d o os x e)

-- A place has a slab or pages.
one_kind : (p : Place) (i : ℕ) (x y : Block) → slab_at p ≡ some x → page_in i p ≡ some y → ⊥
one_kind empty i x y e f = none_some e
one_kind inline i x y e f = none_some e
one_kind (slab class off kept) i x y e f = none_some f
one_kind (pages ps) i x y e f = none_some e

-- ---- a good start

-- A key of the plain book of any book, and its list.
pub key_is : (ds : List ℕ) (b : Book) (key : ℕ) → key_of key (plain_of ds b) ≡ key_from b.space (word_of key b)
unfolding plain_of
key_is ds b key = keys_at b.space b.heads key

pub start_list_lem : (ds : List ℕ) (b : Book) (key : ℕ) → (key_of key (plain_of ds b)).list ≡ start_list b key
unfolding key_from
start_list_lem ds b key = ap (λ (k : Key). k.list) (key_is ds b key)

module _ (ds : List ℕ) (b : Book) (g : GoodBlocks b) where
  -- It is in shape.
  pub start_shape : out_of_shape (plain_of ds b).size (length (plain_of ds b).keys) ≡ false
  unfolding plain_of shape_broken
  start_shape = rw (keys_many b.space b.heads) (neither _ _ g.shape).0

  -- Every key is sound: one beyond the heads holds nothing.
  sound_all : (key : ℕ) → (c : Content) × (content (seen b.space) (word_of key b) ≡ accepted c)
  sound_all key =
      ⊎_elim (λ (l : key < length b.heads). g.sound key l)
      (λ (l : length b.heads ≤ key). (_, ap (content (seen b.space)) (get_or-eq_default b.heads 0 l) ∙ word_none b.space))
      (lt_or_ge key (length b.heads))

  -- What is known of it.
  known : (key : ℕ) → (v : ShHeadValue) × (unpack_head (word_of key b) ≡ accepted v)
      × KeyRead b.space (key_of key (plain_of ds b)) v (held_of b key)
  unfolding blocks_in
  known key =
      let (c, e) = sound_all key in
      let (v, told, k) = key_read b.space (word_of key b) c e in
      (v, told, rw (key_is ds b key, e) k)

  -- It holds as many pages as its place has.
  key_held : (key : ℕ) → pages_held b key ≡ pages_of (key_of key (plain_of ds b)).place
  key_held key =
      let (c, e) = sound_all key in rw (key_is ds b key, e) (sym (key_pages b.space (word_of key b) c e))

  -- A key that has a block is one of the heads'.
  key_lies : (key i : ℕ) (x : Block) → block_no i (held_of b key) ≡ some x → key < length b.heads
  unfolding blocks_in block_no
  key_lies key i x e =
      ⊎_elim (λ (l : key < length b.heads). l)
      (λ (l : length b.heads ≤ key). absurd (none_some (rw (get_or-eq_default b.heads 0 l, word_none b.space) at e)))
      (lt_or_ge key (length b.heads))

  -- A stack of the plain book is what its free list names.
  stack_is : (class : ℕ) → stack_of class (plain_of ds b).space ≡ freed_of b.space class
  unfolding plain_of
  stack_is class = stacks_at b.space b.space.free class

  -- Behind the nine classes no free list names anything.
  freed_none : (class : ℕ) → 9 ≤ class → (get_or b.space.free class 0 ≡ 0) × (freed_of b.space class ≡ [])
  freed_none class l =
      let n = g.nine in
      let z : get_or b.space.free class 0 ≡ 0 = get_or-eq_default b.space.free 0 (omega arith) in
      (z, ap (followed_from b.space) z ∙ followed_end (b.space.mark / 16) b.space.body 0 refl)

  -- Each free list names its stack.
  followed_all : (class : ℕ) → IsFreeList b.space.body (get_or b.space.free class 0) (freed_of b.space class)
  unfolding IsFreeList
  followed_all class =
      ⊎_elim (λ (l : class < 9). g.ends class (omega arith)) (λ (l : 9 ≤ class). let (z, none') = freed_none class l in rw (none', z) refl)
      (lt_or_ge class 9)

  -- The block at a depth of a stack is one of its free list's.
  stack_has : (class d : ℕ) (x : Block) → at_depth class d (stack_of class (plain_of ds b).space) ≡ some x
      → (i : ℕ) × (class ≤ page_class) × (i + suc d ≡ length (freed_of b.space class)) × (block_no i (list_of b class) ≡ some x)
  stack_has class d x e =
      let (i, sum, at) = depth_block class d (freed_of b.space class) x (rw (stack_is class) at e) in
      let low : class < 9 =
      ⊎_elim (λ (l : class < 9). l) (λ (l : 9 ≤ class). absurd (omega (arith, ap length (freed_none class l).1))) (lt_or_ge class 9) in
      (i, omega arith, sum, at)

  -- ---- no two share a byte

  -- Blocks of keys.
  two_held : (k l i j : ℕ) (x y : Block) → block_no i (held_of b k) ≡ some x → block_no j (held_of b l) ≡ some y → (k ≡ l → i ≢ j)
      → Disjoint x y
  two_held k l i j x y e f n = go (eqb k l) refl
    where
      go : (t : Bool) → eqb k l ≡ t → Disjoint x y
      go true q =
          let same = eqb-true k l q in
          two_apart (held_of b l) (key_apart b g l (key_lies l j y f)) i j x y (n same) (rw same at e) f
      go false q =
          let apart = keys_apart b g k l (eqb-false k l q) (key_lies k i x e) (key_lies l j y f) in
          cross_in x y (held_of b k) (held_of b l) apart (no_in i x (held_of b k) e) (no_in j y (held_of b l) f)

  -- Blocks of free lists.
  two_freed : (c c' d d' : ℕ) (x y : Block) → at_depth c d (stack_of c (plain_of ds b).space) ≡ some x
      → at_depth c' d' (stack_of c' (plain_of ds b).space) ≡ some y
      → (c ≡ c' → d ≢ d') → Disjoint x y
  two_freed c c' d d' x y e f n = go (eqb c c') refl
    where
      go : (t : Bool) → eqb c c' ≡ t → Disjoint x y
      go true q =
          let same : c ≡ c' = eqb-true c c' q in
          let (i, low, sum, at) = stack_has c' d x (rw same at e) in
          let (j, low', sum', at') = stack_has c' d' y f in
          two_apart (list_of b c') (list_apart b g c' low) i j x y (λ (z : i ≡ j). n same (omega arith)) at at'
      go false q =
          let (i, low, sum, at) = stack_has c d x e in
          let (j, low', sum', at') = stack_has c' d' y f in
          let apart = lists_apart b g c c' (eqb-false c c' q) low low' in
          cross_in x y (list_of b c) (list_of b c') apart (no_in i x (list_of b c) at) (no_in j y (list_of b c') at')

  -- One of a key and one of a free list.
  held_freed : (k i c d : ℕ) (x y : Block) → block_no i (held_of b k) ≡ some x → at_depth c d (stack_of c (plain_of ds b).space) ≡ some y
      → Disjoint x y
  held_freed k i c d x y e f =
      let (j, low, sum, at) = stack_has c d y f in
      let apart = key_list_apart b g k c (key_lies k i x e) low in
      cross_in x y (held_of b k) (list_of b c) apart (no_in i x (held_of b k) e) (no_in j y (list_of b c) at)

  -- A key's slab, and its page at an index, among the blocks that it holds.
  slab_no : (k : ℕ) (x : Block) → slab_at (places (plain_of ds b) k) ≡ some x → block_no 0 (held_of b k) ≡ some x
  slab_no k x e = ((known k).2.slabs x e).0

  page_no_lem : (k i : ℕ) (x : Block) → page_in i (places (plain_of ds b) k) ≡ some x → block_no i (held_of b k) ≡ some x
  page_no_lem k i x e = ((known k).2.pages i x e).0

  -- A key's slab and a key's page.
  slab_page : (k l j : ℕ) (x y : Block) → slab_at (places (plain_of ds b) k) ≡ some x → page_in j (places (plain_of ds b) l) ≡ some y
      → Disjoint x y
  slab_page k l j x y e f =
      two_held k l 0 j x y (slab_no k x e) (page_no_lem l j y f) (λ z w. one_kind (places (plain_of ds b) l) j x y (rw z at e) f)

  -- Those of any two owners.
  owners_apart : (v w : Owner) (x y : Block) → v ≢ w → has (plain_of ds b).space (places (plain_of ds b)) none v ≡ some x
      → has (plain_of ds b).space (places (plain_of ds b)) none w ≡ some y → Disjoint x y
  unfolding has
  owners_apart hand w x y n e f = absurd (none_some e)
  owners_apart (stack c d) hand x y n e f = absurd (none_some f)
  owners_apart (stack c d) (stack c' d') x y n e f = two_freed c c' d d' x y e f (λ z w. n (ap₂ stack z w))
  owners_apart (stack c d) (slab_of l) x y n e f = disjoint_sym y x (held_freed l 0 c d y x (slab_no l y f) e)
  owners_apart (stack c d) (page_of l j) x y n e f = disjoint_sym y x (held_freed l j c d y x (page_no_lem l j y f) e)
  owners_apart (slab_of k) hand x y n e f = absurd (none_some f)
  owners_apart (slab_of k) (stack c d) x y n e f = held_freed k 0 c d x y (slab_no k x e) f
  owners_apart (slab_of k) (slab_of l) x y n e f = two_held k l 0 0 x y (slab_no k x e) (slab_no l y f) (λ z w. n (ap slab_of z))
  owners_apart (slab_of k) (page_of l j) x y n e f = slab_page k l j x y e f
  owners_apart (page_of k i) hand x y n e f = absurd (none_some f)
  owners_apart (page_of k i) (stack c d) x y n e f = held_freed k i c d x y (page_no_lem k i x e) f
  owners_apart (page_of k i) (slab_of l) x y n e f = disjoint_sym y x (slab_page l k i y x f e)
  owners_apart (page_of k i) (page_of l j) x y n e f = two_held k l i j x y (page_no_lem k i x e) (page_no_lem l j y f) (λ z w. n (ap₂ page_of z w))

  -- ---- each stands, and reads as it should

  -- The block at a depth of a stack stands below the mark, and names the offset under it.
  stack_reads : (class d : ℕ) (x : Block) → at_depth class d (stack_of class (plain_of ds b).space) ≡ some x
      → BlockAs b.space (λ bytes. little_endian (part bytes 0 8) ≡ under d (stack_of class (plain_of ds b).space)) x
  stack_reads class d x e =
      let (i, low, sum, at) = stack_has class d x e in
      let there : at_depth class d (freed_of b.space class) ≡ some x = rw (stack_is class) at e in
      let big = bytes_from_16 x.class in (
        each_in (Stands b.space.mark) x (list_of b class) (g.stand class low) (no_in i x (list_of b class) at),
        ap little_endian (part_start b.space.body x.off (slab_bytes x.class) 8 (omega arith))
            ∙ rw (stack_is class) (free_list_under b.space.body _ class d (freed_of b.space class) x (followed_all class) there),
      )

  -- Each owner's block.
  owner_reads : (w : Owner) (x : Block) → has (plain_of ds b).space (places (plain_of ds b)) none w ≡ some x
      → BlockAs b.space (BlockReads (plain_of ds b).space (contents_of (plain_of ds b)) w) x
  unfolding has
  owner_reads hand x e = absurd (none_some e)
  owner_reads (stack class d) x e = stack_reads class d x e
  owner_reads (slab_of k) x e = ((known k).2.slabs x e).1
  owner_reads (page_of k i) x e = ((known k).2.pages i x e).1

-- ---- so it is good, and stands for the start

module _ (ds : List ℕ) (b : Book) (g : GoodStart ds b) where
  -- The counts are the plain book's.
  start_counts : AgreesCounts (plain_of ds b) b.counts
  unfolding plain_of
  start_counts =
      record {
        words = g.counts.words;
        freed = g.counts.freed ∙ ap length (sym (stack_is ds b g.blocks page_class));
        held = refl;
        limits = refl;
      }

  -- It tells the same of its desks.
  start_desks : SameDesks (plain_of ds b) b
  unfolding plain_of
  start_desks =
      record {
        size = refl;
        count = sym (keys_many b.space b.heads);
        mark = refl;
        freed = ap length (sym (stack_is ds b g.blocks page_class));
        pages = λ key l. key_held ds b g.blocks key;
        counts = start_counts;
      }

  -- The plain book of a good start is good.
  pub start_good : GoodPlain (plain_of ds b)
  unfolding plain_of
  start_good =
      let (s, many, few) = shape_holds b.space (length b.heads) g.blocks.shape in
      record {
        space = record {
          nine = stacks_many b.space b.space.free ∙ g.blocks.nine;
          aligned = s.aligned;
          from = s.begins;
          apart = record { stands = λ w x e. (owner_reads ds b g.blocks w x e).0; apart = owners_apart ds b g.blocks };
        };
        keys = λ key. (known ds b g.blocks key).2.sound;
        within = λ shape. s.within;
        desks = counts_desks (plain_of ds b) b start_desks s.paged g.counts;
      }

  -- It stands for the start.
  pub start_agrees : Agrees (plain_of ds b) b
  unfolding plain_of
  start_agrees =
      record {
        size = refl;
        count = sym (keys_many b.space b.heads);
        inside = λ shape. record { heads = heads shape; space = space; counts = start_counts };
      }
    where
      heads : out_of_shape (plain_of ds b).size (length (plain_of ds b).keys) ≡ false → (key : ℕ)
          → unpack_head (word_of key b) ≡ unpack_head (head_word (head_of (key_of key (plain_of ds b)).list (key_of key (plain_of ds b)).place))
      heads shape key =
          let t = head_told key start_good (omega (arith, mark_most start_good shape)) in
          let k = known ds b g.blocks key in
          k.1 ∙ ap accepted (sym k.2.head) ∙ sym (stored_told t)

      space : AgreesSpace (plain_of ds b).space b.space (places (plain_of ds b)) none (contents_of (plain_of ds b))
      space =
          let (s, many, few) = shape_holds b.space (length b.heads) g.blocks.shape in
          record {
            mark = refl;
            nine = g.blocks.nine;
            tops = λ class. rw (stack_is ds b g.blocks class) (free_list_top b.space.body _ _ (followed_all ds b g.blocks class));
            within = s.within;
            small = s.most;
            stored = λ w x e. (owner_reads ds b g.blocks w x e).1;
          }
