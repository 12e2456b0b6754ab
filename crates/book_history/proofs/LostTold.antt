-- What the check tells of units that belong to nobody: 0 after any list of calls on a book made fresh, the same after any calls on a good
-- start, and more by the slab of a head word or by the slabs of a free head that was lost. Lost pages are missed by a count, which it
-- tells. Assumes nothing.
use Prim.Native.Nat.{ℕ, zero, suc, ◌+◌, ◌/◌, ◌≤◌, ◌<◌}
use mathlib.Core.Bool.{Bool, true, false, cond}
use mathlib.Core.List.{List, [], ◌++◌}
use mathlib.Core.Logic.{◌≢◌}
use mathlib.Core.Path.{◌≡◌, refl, sym, ap, subst, ◌∙◌}
use native.Mathlib.Nat.{zero-add}
use native.Mathlib.Omega.{arith}
use borrow.Author.Tests.{eqb-true, eqb-false, eq-eqb, ne_eqb}
use lib.Dec.{eqb}
use lib.ListN.{length, get_or, set, length-set}
use lib.Seq.{get_or-set_same, get_or-set_other}
use Rattle.plain_book.specs.Filled.{MarkWhole}
use Rattle.error.specs.Refusal.{Answer, accepted, value_or}
use Rattle.scripthash_layout.specs.Sizes.{page_class}
use Rattle.scripthash_layout.specs.Head.{unpack_head}
use Rattle.scripthash_layout.specs.declared.head.ShHeadValue.TheVariants.{Inline}
use Rattle.scripthash_free.specs.FreeList.{Block, Disjoint, Each, IsFreeList}
use Rattle.scripthash_free.proofs.LawsGap.{each_map}
use Rattle.book_statements.specs.Calls.{Call}
use Rattle.book_desks.specs.Desks.{Limits, desk_of, sum_to, list_bad}
use Rattle.book_desks.specs.Counts.{freed_count, held_count}
use Rattle.book_desks.proofs.LawsSums.{sum_set}
use Rattle.book_desks.proofs.LawsDesks.{desk_in_lem}
use Rattle.plain_book.specs.Book.{fresh as plain_fresh, makes}
use Rattle.plain_book.proofs.LawsGood.{shapes_kept}
use Rattle.book_space.specs.Space.{shape_broken}
use Rattle.book_keys.specs.Keys.{soundly, Content, content}
use Rattle.book_keys.proofs.LawsContent.{content_at_lem, content_inline}
use Rattle.book.specs.Book.{Book, fresh, word_of, seen}
use Rattle.book_history.specs.Calls.{after}
use Rattle.book_start.specs.Start.{AllApart, Stands, blocks_at, bytes_taken, blocks_in, held_by, followed, followed_from, freed_of, freed_by}
use Rattle.book_start.specs.Start.{held_of, list_of, GoodBlocks, GoodStart, pages_held, pages_for, pages_of_desk}
use Rattle.book_start.specs.Start.{good, freed_differs, held_differs, judges}
use Rattle.book_start.specs.Covered.{lost_in, forgot, forgot_list}
use Rattle.book_start.proofs.LawsClaims.{Cross}
use Rattle.book_start.proofs.LawsCovered.{start_room, whole_units}
use Rattle.book_start.proofs.LawsFreed.{followed_end}
use Rattle.book_start.proofs.LawsJudged.{start_judges}
use Rattle.book_start.proofs.LawsFaults.{freed_told, held_told}
use Rattle.book_start.proofs.LawsPairs.{gather, gather_same, each_left, each_right, apart_left, apart_right, apart_cross, held_gathered}
use Rattle.book_start.proofs.LawsPairs.{freed_gathered}
use Rattle.book_history.specs.PlainOf.{plain_of, Sixteen}
use Rattle.book_history.proofs.LawsStart.{word_none, start_agrees}
use Rattle.book_history.proofs.LawsStartDesks.{none_for}
use Rattle.book_history.proofs.LawsStartFresh.{fresh_start}
use Rattle.book_history.proofs.LawsStartKept.{each_both, apart_both, after_agrees, start_kept}
use Rattle.book_history.proofs.Leaked.{both_bytes, from_4096, lost_kept, nothing_lost, forgot_shows}

-- ---- any list of calls

-- Calls on a good start keep the body's length.
body_kept : (ds : List ℕ) (b : Book) (cs : List Call) → GoodStart ds b
    → length (after ds b cs).space.body ≡ length b.space.body
body_kept ds b cs g =
    let (size, keys, same, limits) = shapes_kept (plain_of ds b) cs in
    (after_agrees ds b cs g).size ∙ size ∙ sym (start_agrees ds b g).size

-- After any calls on a good start the check tells what it told before them.
pub check_kept : (ds : List ℕ) (b : Book) (cs : List Call) (room : ℕ) → GoodStart ds b → MarkWhole b.space.mark
    → length b.space.body / 128 ≤ room → judges ds (after ds b cs) room ≡ judges ds b room
check_kept ds b cs room g whole long =
    let later = start_kept ds b cs g in
    let enough : length (after ds b cs).space.body / 128 ≤ room = rw (body_kept ds b cs g) long in
    start_judges ds (after ds b cs) room enough later ∙ ap (λ (n : ℕ). accepted (good (n / 16))) (lost_kept ds b cs g whole)
    ∙ sym (start_judges ds b room long g)

-- After any calls on a book made fresh it tells a good start, and that nothing belongs to nobody.
pub check_fresh : (ds body : List ℕ) (heads : ℕ) (l : Limits) (cs : List Call) (room : ℕ)
    → makes ds (length body) heads l ≡ accepted (plain_fresh ds (length body) heads l) → Sixteen l → length body / 128 ≤ room
    → judges ds (after ds (fresh body heads l) cs) room ≡ accepted (good 0)
check_fresh ds body heads l cs room made sixteen long =
    let first = fresh_start ds body heads l made sixteen in
    let later = start_kept ds (fresh body heads l) cs first in
    let enough : length (after ds (fresh body heads l) cs).space.body / 128 ≤ room
    = rw (body_kept ds (fresh body heads l) cs first) long in
    start_judges ds (after ds (fresh body heads l) cs) room enough later
    ∙ ap (λ (n : ℕ). accepted (good (n / 16))) (nothing_lost ds body heads l cs made sixteen)

-- ---- lists by a number, of which one is left out

record LeftOut (k : ℕ) (f f' : ℕ → List Block) : Type 0 where
  gone : f' k ≡ []
  same : (i : ℕ) → i ≢ k → f' i ≡ f i

-- Behind the first list, another is left out,
out_next : (k : ℕ) (f f' : ℕ → List Block) → LeftOut (suc k) f f' → LeftOut k (λ i. f (suc i)) (λ i. f' (suc i))
out_next k f f' o = record { gone = o.gone; same = λ i d. o.same (suc i) (λ (q : suc i ≡ suc k). d (omega arith)) }

-- or none is.
out_first : (n : ℕ) (f f' : ℕ → List Block) → LeftOut 0 f f' → gather (suc n) f' ≡ gather n (λ i. f (suc i))
unfolding gather
out_first n f f' o =
    let rest : gather n (λ i. f' (suc i)) ≡ gather n (λ i. f (suc i))
    = gather_same n (λ i. f' (suc i)) (λ i. f (suc i)) (λ i. o.same (suc i) (λ (q : suc i ≡ 0). omega arith)) in
    ap (λ (l : List Block). l ++ gather n (λ i. f' (suc i))) o.gone ∙ rest

out_more : (n k : ℕ) (f f' : ℕ → List Block) → LeftOut (suc k) f f' → gather (suc n) f' ≡ f 0 ++ gather n (λ i. f' (suc i))
unfolding gather
out_more n k f f' o = ap (λ (l : List Block). l ++ gather n (λ i. f' (suc i))) (o.same 0 (λ (q : 0 ≡ suc k). omega arith))

-- What holds of each block holds of each of the others.
out_each : (P : Block → Type 0) (n k : ℕ) (f f' : ℕ → List Block) → LeftOut k f f' → k < n → Each P (gather n f) → Each P (gather n f')
unfolding gather
out_each P zero k f f' o l e = absurd (omega arith)
out_each P (suc n) zero f f' o l e = subst (Each P) (sym (out_first n f f' o)) (each_right P (f 0) (gather n (λ i. f (suc i))) e)
out_each P (suc n) (suc k) f f' o l e =
    subst (Each P) (sym (out_more n k f f' o))
    (each_both P (f 0) (gather n (λ i. f' (suc i))) (each_left P (f 0) (gather n (λ i. f (suc i))) e)
    (out_each P n k (λ i. f (suc i)) (λ i. f' (suc i)) (out_next k f f' o) (omega arith)
    (each_right P (f 0) (gather n (λ i. f (suc i))) e)))

out_cross : (xs : List Block) (n k : ℕ) (f f' : ℕ → List Block) → LeftOut k f f' → k < n → Cross xs (gather n f) → Cross xs (gather n f')
out_cross xs n k f f' o l c =
    each_map (λ x. Each (Disjoint x) (gather n f)) (λ x. Each (Disjoint x) (gather n f')) (λ x e. out_each (Disjoint x) n k f f' o l e) xs c

-- Where no two blocks share a byte, no two of the others do.
out_apart : (n k : ℕ) (f f' : ℕ → List Block) → LeftOut k f f' → k < n → AllApart (gather n f) → AllApart (gather n f')
unfolding gather
out_apart zero k f f' o l a = absurd (omega arith)
out_apart (suc n) zero f f' o l a = subst AllApart (sym (out_first n f f' o)) (apart_right (f 0) (gather n (λ i. f (suc i))) a)
out_apart (suc n) (suc k) f f' o l a =
    let next = out_next k f f' o in
    subst AllApart (sym (out_more n k f f' o))
    (apart_both (f 0) (gather n (λ i. f' (suc i))) (apart_left (f 0) (gather n (λ i. f (suc i))) a)
    (out_apart n k (λ i. f (suc i)) (λ i. f' (suc i)) next (omega arith) (apart_right (f 0) (gather n (λ i. f (suc i))) a))
    (out_cross (f 0) n k (λ i. f (suc i)) (λ i. f' (suc i)) next (omega arith) (apart_cross (f 0) (gather n (λ i. f (suc i))) a)))

-- All blocks take what the others take and what those that are left out do.
out_bytes : (n k : ℕ) (f f' : ℕ → List Block) → LeftOut k f f' → k < n
    → bytes_taken (gather n f') + bytes_taken (f k) ≡ bytes_taken (gather n f)
unfolding gather
out_bytes zero k f f' o l = absurd (omega arith)
out_bytes (suc n) zero f f' o l =
    let all = both_bytes (f 0) (gather n (λ i. f (suc i))) in
    let rest = ap bytes_taken (out_first n f f' o) in
    omega arith
out_bytes (suc n) (suc k) f f' o l =
    let all = both_bytes (f 0) (gather n (λ i. f (suc i))) in
    let others = both_bytes (f 0) (gather n (λ i. f' (suc i))) in
    let more = ap bytes_taken (out_more n k f f' o) in
    let rest = out_bytes n k (λ i. f (suc i)) (λ i. f' (suc i)) (out_next k f f' o) (omega arith) in
    omega arith

-- ---- a head word that is lost

module _ (b : Book) (key : ℕ) (g : GoodBlocks b) (l : key < length b.heads) where
  -- The words of the book that forgot it.
  word_gone : word_of key (forgot key b) ≡ 0
  word_gone = get_or-set_same b.heads key 0 0 l

  word_other : (i : ℕ) → i ≢ key → word_of i (forgot key b) ≡ word_of i b
  word_other i d = get_or-set_other b.heads key i 0 0 d

  -- Its keys hold the same blocks, but for the key's.
  held_out : LeftOut key (held_of b) (held_of (forgot key b))
  unfolding blocks_in
  held_out =
      record {
        gone = ap (λ (w : ℕ). blocks_in (content (seen b.space) w)) word_gone ∙ ap blocks_in (word_none b.space);
        same = λ i d. ap (λ (w : ℕ). blocks_in (content (seen b.space) w)) (word_other i d);
      }

  still_sound : (i : ℕ) → i < length b.heads → (c : Content) × (content (seen b.space) (word_of i (forgot key b)) ≡ accepted c)
  still_sound i h = go (eqb i key) refl
    where
      go : (t : Bool) → eqb i key ≡ t → (c : Content) × (content (seen b.space) (word_of i (forgot key b)) ≡ accepted c)
      go true e =
          let here = eqb-true i key e in
          (_, ap (content (seen b.space)) (ap (λ (k : ℕ). word_of k (forgot key b)) here ∙ word_gone) ∙ word_none b.space)
      go false e =
          let s = g.sound i h in (s.0, ap (content (seen b.space)) (word_other i (eqb-false i key e)) ∙ s.1)

  abbrev freed : List Block
  freed = freed_by b.space 0 b.space.free

  abbrev held : List Block
  held = gather (length b.heads) (held_of b)

  abbrev others : List Block
  others = gather (length b.heads) (held_of (forgot key b))

  -- The blocks of a book that forgot a head word are good all the same.
  forgot_blocks : GoodBlocks (forgot key b)
  forgot_blocks =
      let count : length (set b.heads key 0) ≡ length b.heads = length-set b.heads key 0 in
      let was : AllApart (held ++ freed)
      = subst (λ (xs : List Block). AllApart (xs ++ freed)) (held_gathered b.space b.heads) g.apart in
      let is : held_by b.space (set b.heads key 0) ≡ others
      = held_gathered b.space (set b.heads key 0) ∙ ap (λ (m : ℕ). gather m (held_of (forgot key b))) count in
      record {
        shape = ap (shape_broken b.space) count ∙ g.shape;
        nine = g.nine;
        sound = λ i h. still_sound i (omega arith);
        ends = g.ends;
        stand = g.stand;
        apart = subst (λ (xs : List Block). AllApart (xs ++ freed)) (sym is)
            (apart_both others freed
            (out_apart (length b.heads) key (held_of b) (held_of (forgot key b)) held_out l (apart_left held freed was))
            (apart_right held freed was)
            (out_each (λ x. Each (Disjoint x) freed) (length b.heads) key (held_of b) (held_of (forgot key b)) held_out l
            (apart_cross held freed was)));
      }

  -- The key's pages are missing, and no others.
  pages_gone : pages_held (forgot key b) key ≡ 0
  pages_gone =
      ap (λ (w : ℕ). value_or (λ c. c.pages) (content (seen b.space) w) 0) word_gone
      ∙ ap (λ (x : Answer Content). value_or (λ c. c.pages) x 0) (word_none b.space)

  pages_other : (i : ℕ) → i ≢ key → pages_held (forgot key b) i ≡ pages_held b i
  pages_other i d = ap (λ (w : ℕ). value_or (λ c. c.pages) (content (seen b.space) w) 0) (word_other i d)

module _ (ds : List ℕ) (b : Book) (key : ℕ) (g : GoodStart ds b) (l : key < length b.heads) where
  -- The keys of a desk have less by the key's pages, where it is the key's desk.
  desk_gone : (d : ℕ) → pages_of_desk ds (forgot key b) d + pages_for ds b d key ≡ pages_of_desk ds b d
  desk_gone d =
      let count = ap (λ (n : ℕ). sum_to n (pages_for ds (forgot key b) d)) (length-set b.heads key 0) in
      let moved = sum_set (length b.heads) key (pages_for ds (forgot key b) d) (pages_for ds b d) l
      (λ i h n. ap (λ (m : ℕ). cond (eqb (desk_of ds i) d) m 0) (pages_other b key g.blocks l i n)) in
      let none' : pages_for ds (forgot key b) d key ≡ 0 = none_for (eqb (desk_of ds key) d) _ (pages_gone b key g.blocks l) in
      omega arith

  -- Its desk has less, another desk has as many.
  desk_own : pages_of_desk ds (forgot key b) (desk_of ds key) + pages_held b key ≡ pages_of_desk ds b (desk_of ds key)
  desk_own =
      let own : pages_for ds b (desk_of ds key) key ≡ pages_held b key
      = ap (λ (t : Bool). cond t (pages_held b key) 0) (eq-eqb (desk_of ds key) (desk_of ds key) refl) in
      let e = desk_gone (desk_of ds key) in
      omega arith

  desk_other : (d : ℕ) → desk_of ds key ≢ d → pages_of_desk ds (forgot key b) d ≡ pages_of_desk ds b d
  desk_other d n =
      let none' : pages_for ds b d key ≡ 0 = ap (λ (t : Bool). cond t (pages_held b key) 0) (ne_eqb (desk_of ds key) d n) in
      let e = desk_gone d in
      omega arith

  still_named : list_bad ds (length (set b.heads key 0)) ≡ false
  still_named = ap (list_bad ds) (length-set b.heads key 0) ∙ g.counts.named

  -- A book that forgot the head word of a key without pages is a good start all the same,
  pub forgot_start : pages_held b key ≡ 0 → GoodStart ds (forgot key b)
  forgot_start none' =
      record {
        blocks = forgot_blocks b key g.blocks l;
        counts = record {
          words = g.counts.words;
          low = g.counts.low;
          named = still_named;
          balanced = g.counts.balanced;
          freed = g.counts.freed;
          exact = λ d h.
              let held : pages_for ds b d key ≡ 0 = none_for (eqb (desk_of ds key) d) (pages_held b key) none' in
              let gone = desk_gone d in
              let was = g.counts.exact d h in
              omega arith;
          ceilings = g.counts.ceilings;
          reserves = g.counts.reserves;
          covered = g.counts.covered;
        };
      }

  -- and the check tells as many units more as its slab takes.
  pub forgot_told : pages_held b key ≡ 0 → (room : ℕ) → length b.space.body / 128 ≤ room
      → judges ds (forgot key b) room ≡ accepted (good (lost_in b / 16 + bytes_taken (held_of b key) / 16))
  forgot_told none' room long =
      let shows = forgot_shows b key g.blocks l in
      let whole = whole_units (held_of b key) in
      let sum : lost_in (forgot key b) / 16 ≡ lost_in b / 16 + bytes_taken (held_of b key) / 16 = omega arith in
      start_judges ds (forgot key b) room long (forgot_start none') ∙ ap (λ (n : ℕ). accepted (good n)) sum

  -- The word of a key with one number takes no block: the check tells the same without it.
  pub forgot_hidden : (room entry used : ℕ) → length b.space.body / 128 ≤ room
      → unpack_head (word_of key b) ≡ accepted (Inline entry used) → judges ds (forgot key b) room ≡ judges ds b room
  unfolding blocks_in bytes_taken soundly
  forgot_hidden room entry used long e =
      let is =
      content_at_lem (seen b.space) (word_of key b) (Inline entry used) e ∙ ap soundly (content_inline (seen b.space) entry used) in
      let none' : held_of b key ≡ [] = ap blocks_in is in
      let same : lost_in b / 16 + bytes_taken (held_of b key) / 16 ≡ lost_in b / 16 = let z = ap bytes_taken none' in omega arith in
      forgot_told (ap (λ (x : Answer Content). value_or (λ c. c.pages) x 0) is) room long ∙ ap (λ (n : ℕ). accepted (good n)) same
      ∙ sym (start_judges ds b room long g)

  -- A key with pages is missed by its desk: the check tells that its count differs.
  pub forgot_desk : 0 < pages_held b key → (room : ℕ) → length b.space.body / 128 ≤ room
      → judges ds (forgot key b) room ≡ accepted (held_differs (desk_of ds key))
  forgot_desk some' room long =
      let within = desk_in_lem ds (length b.heads) key g.counts.named l in
      held_told ds (forgot key b) room
      (record {
        long = long;
        blocks = forgot_blocks b key g.blocks l;
        low = g.counts.low;
        named = still_named;
        balanced = g.counts.balanced;
      })
      (desk_of ds key) within g.counts.freed
      (λ i h. record {
        exact = g.counts.exact i (omega arith) ∙ sym (desk_other i (λ (z : desk_of ds key ≡ i). omega arith));
        ceiling = g.counts.ceilings i (omega arith);
        reserve = g.counts.reserves i (omega arith);
      })
      (λ (z : held_count (desk_of ds key) b.counts ≡ pages_of_desk ds (forgot key b) (desk_of ds key)).
      let own = desk_own in let was = g.counts.exact (desk_of ds key) within in omega arith)

-- ---- the head of a free list that is lost

-- The freed blocks of a book, list by list.
lists_gathered : (b : Book) → freed_by b.space 0 b.space.free ≡ gather (length b.space.free) (list_of b)
lists_gathered b =
    freed_gathered b.space 0 b.space.free
    ∙ gather_same (length b.space.free) (λ i. blocks_at (0 + i) (followed_from b.space (get_or b.space.free i 0))) (list_of b)
    (λ i. rw (zero-add i))

module _ (b : Book) (class : ℕ) (g : GoodBlocks b) (l : class ≤ page_class) where
  abbrev now : Book
  now = forgot_list class b

  abbrev free : List ℕ
  free = b.space.free

  in_free : class < length free
  in_free = let n = g.nine in omega arith

  as_many : length (set free class 0) ≡ length free
  as_many = length-set free class 0

  -- The heads of the book that forgot it.
  head_gone : get_or (set free class 0) class 0 ≡ 0
  head_gone = get_or-set_same free class 0 0 in_free

  head_other : (i : ℕ) → i ≢ class → get_or (set free class 0) i 0 ≡ get_or free i 0
  head_other i d = get_or-set_other free class i 0 0 d

  list_gone : freed_of now.space class ≡ []
  list_gone = followed_end (b.space.mark / 16) b.space.body (get_or (set free class 0) class 0) head_gone

  list_other : (i : ℕ) → i ≢ class → freed_of now.space i ≡ freed_of b.space i
  list_other i d = ap (followed (b.space.mark / 16) b.space.body) (head_other i d)

  -- Its free lists name the same blocks, but for the class's.
  lists_out : LeftOut class (list_of b) (list_of now)
  unfolding blocks_at
  lists_out =
      record { gone = ap (blocks_at class) list_gone; same = λ i d. ap (blocks_at i) (list_other i d) }

  -- Its keys hold the same blocks.
  held_same : held_by now.space b.heads ≡ held_by b.space b.heads
  held_same =
      held_gathered now.space b.heads
      ∙ gather_same (length b.heads) (held_of now) (held_of b) (λ i. refl)
      ∙ sym (held_gathered b.space b.heads)

  freed_now : freed_by now.space 0 (set free class 0) ≡ gather (length free) (list_of now)
  freed_now = lists_gathered now ∙ ap (λ (n : ℕ). gather n (list_of now)) as_many

  still_ends : (i : ℕ) → IsFreeList b.space.body (get_or free i 0) (freed_of b.space i)
      → IsFreeList b.space.body (get_or (set free class 0) i 0) (freed_of now.space i)
  unfolding IsFreeList
  still_ends i e = go (eqb i class) refl
    where
      go : (t : Bool) → eqb i class ≡ t → IsFreeList b.space.body (get_or (set free class 0) i 0) (freed_of now.space i)
      go true q =
          let here : i ≡ class = eqb-true i class q in
          subst (λ (k : ℕ). IsFreeList b.space.body (get_or (set free class 0) k 0) (freed_of now.space k)) (sym here)
          (subst (λ (os : List ℕ). IsFreeList b.space.body (get_or (set free class 0) class 0) os) (sym list_gone) head_gone)
      go false q =
          let other = eqb-false i class q in
          subst (λ (h : ℕ). IsFreeList b.space.body h (freed_of now.space i)) (sym (head_other i other))
          (subst (λ (os : List ℕ). IsFreeList b.space.body (get_or free i 0) os) (sym (list_other i other)) e)

  still_stand : (i : ℕ) → Each (Stands b.space.mark) (list_of b i) → Each (Stands b.space.mark) (list_of now i)
  unfolding Each
  still_stand i e = go (eqb i class) refl
    where
      go : (t : Bool) → eqb i class ≡ t → Each (Stands b.space.mark) (list_of now i)
      go true q =
          let here : i ≡ class = eqb-true i class q in
          subst (λ (k : ℕ). Each (Stands b.space.mark) (list_of now k)) (sym here)
          (subst (Each (Stands b.space.mark)) (sym lists_out.gone) tt)
      go false q = subst (Each (Stands b.space.mark)) (sym (lists_out.same i (eqb-false i class q))) e

  abbrev kept : List Block
  kept = held_by b.space b.heads

  abbrev listed : List Block
  listed = gather (length free) (list_of b)

  -- The blocks of a book that forgot a free list are good all the same,
  list_blocks : GoodBlocks now
  unfolding shape_broken
  list_blocks =
      let was : AllApart (kept ++ listed) = subst (λ (xs : List Block). AllApart (kept ++ xs)) (lists_gathered b) g.apart in
      let is : AllApart (kept ++ gather (length free) (list_of now))
      = apart_both kept (gather (length free) (list_of now)) (apart_left kept listed was)
      (out_apart (length free) class (list_of b) (list_of now) lists_out in_free (apart_right kept listed was))
      (out_cross kept (length free) class (list_of b) (list_of now) lists_out in_free (apart_cross kept listed was)) in
      record {
        shape = g.shape;
        nine = as_many ∙ g.nine;
        sound = λ i h. g.sound i h;
        ends = λ i h. still_ends i (g.ends i h);
        stand = λ i h. still_stand i (g.stand i h);
        apart = subst (λ (xs : List Block). AllApart (xs ++ freed_by now.space 0 (set free class 0))) (sym held_same)
            (subst (λ (xs : List Block). AllApart (kept ++ xs)) (sym freed_now) is);
      }

  -- and as many bytes more belong to nobody as its blocks take.
  pub list_shows : lost_in now ≡ lost_in b + bytes_taken (list_of b class)
  unfolding lost_in
  list_shows =
      let room = start_room b g (from_4096 b g) in
      let out = out_bytes (length free) class (list_of b) (list_of now) lists_out in_free in
      let was = ap bytes_taken (lists_gathered b) in
      let is = ap bytes_taken freed_now in
      let held = ap bytes_taken held_same in
      let new = both_bytes (held_by now.space b.heads) (freed_by now.space 0 (set free class 0)) in
      let old = both_bytes (held_by b.space b.heads) (freed_by b.space 0 free) in
      omega arith

module _ (ds : List ℕ) (b : Book) (g : GoodStart ds b) where
  -- A book that forgot a free list of slabs is a good start all the same,
  pub list_start : (class : ℕ) → class < page_class → GoodStart ds (forgot_list class b)
  list_start class l =
      record {
        blocks = list_blocks b class g.blocks (omega arith);
        counts = record {
          words = g.counts.words;
          low = g.counts.low;
          named = g.counts.named;
          balanced = g.counts.balanced;
          freed = g.counts.freed
              ∙ ap length (sym (list_other b class g.blocks (omega arith) page_class (λ (z : page_class ≡ class). omega arith)));
          exact = g.counts.exact;
          ceilings = g.counts.ceilings;
          reserves = g.counts.reserves;
          covered = g.counts.covered;
        };
      }

  -- and the check tells their units.
  pub list_told : (class : ℕ) → class < page_class → (room : ℕ) → length b.space.body / 128 ≤ room
      → judges ds (forgot_list class b) room ≡ accepted (good (lost_in b / 16 + bytes_taken (list_of b class) / 16))
  list_told class l room long =
      let shows = list_shows b class g.blocks (omega arith) in
      let whole = whole_units (list_of b class) in
      let sum : lost_in (forgot_list class b) / 16 ≡ lost_in b / 16 + bytes_taken (list_of b class) / 16 = omega arith in
      start_judges ds (forgot_list class b) room long (list_start class l) ∙ ap (λ (n : ℕ). accepted (good n)) sum

  -- The free list of pages is missed by their count: the check tells that it differs.
  pub pages_told : 0 < freed_count b.counts → (room : ℕ) → length b.space.body / 128 ≤ room
      → judges ds (forgot_list page_class b) room ≡ accepted freed_differs
  pages_told some' room long =
      freed_told ds (forgot_list page_class b) room
      (record {
        long = long;
        blocks = list_blocks b page_class g.blocks (omega arith);
        low = g.counts.low;
        named = g.counts.named;
        balanced = g.counts.balanced;
      })
      (λ (z : freed_count b.counts ≡ length (freed_of (forgot_list page_class b).space page_class)).
      let none' = ap length (list_gone b page_class g.blocks (omega arith)) in omega arith)
