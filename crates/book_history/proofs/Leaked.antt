-- Nothing is leaked: after any list of calls on a book made fresh every byte from 4,096 up to the mark belongs to a block that a key holds
-- or that a free list names. From any good start, calls change nothing in how many bytes belong to nobody. Assumes nothing.
use Prim.Native.Nat.{ℕ, zero, suc, ◌+◌, ◌-◌, ◌*◌, ◌≤◌, ◌<◌}
use mathlib.Core.Bool.{false}
use mathlib.Core.List.{List, [], ◌∷◌, ◌++◌}
use mathlib.Core.Path.{◌≡◌, refl, sym, ap, ◌∙◌}
use native.Mathlib.Nat.{zero-add}
use native.Mathlib.Omega.{arith}
use lib.ListN.{length, get_or, set}
use mathlib.Core.Logic.{inl}
use Rattle.error.specs.Refusal.{accepted}
use Rattle.scripthash_layout.specs.Sizes.{page_size}
use Rattle.scripthash_free.specs.FreeList.{Block}
use Rattle.book_statements.specs.Calls.{Call}
use Rattle.book_limits.specs.Limits.{out_of_shape}
use Rattle.book_desks.specs.Desks.{Limits}
use Rattle.plain_book.specs.Space.{stack_of}
use Rattle.plain_book.specs.Key.{Key, empty_key, Page, Place, empty, inline, slab, pages}
use Rattle.plain_book.specs.Book.{Book as PlainBook, key_of, fresh as plain_fresh, makes, after as plain_after}
use Rattle.plain_book.specs.Good.{GoodPlain}
use Rattle.plain_book.specs.Filled.{bytes_in, bytes_held, bytes_on_stack, bytes_freed, MarkWhole}
use Rattle.plain_book.proofs.LawsFilled.{filled_from}
use Rattle.plain_book.proofs.LawsGood.{calls_good}
use Rattle.book_space.specs.Space.{Space}
use Rattle.book_space.proofs.LawsShape.{shape_holds}
use Rattle.book_keys.specs.Keys.{page_blocks, content}
use Rattle.book.specs.Book.{Book, fresh, seen}
use Rattle.book_history.specs.Calls.{after}
use Rattle.book_start.specs.Start.{blocks_at, bytes_taken, blocks_in, held_by, freed_by, blocks_of as all_blocks, held_of, list_of}
use Rattle.book_start.specs.Start.{GoodBlocks, GoodStart}
use Rattle.book_start.specs.Covered.{lost_in, Covered, forgot}
use Rattle.book_start.proofs.LawsPairs.{gather, gather_same, held_gathered}
use Rattle.book_start.proofs.LawsCovered.{start_room, start_covered}
use Rattle.book_history.specs.Agrees.{Agrees}
use Rattle.book_history.specs.PlainOf.{plain_of, Sixteen}
use Rattle.book_history.proofs.LawsContent.{offs_of, blocks_of}
use Rattle.book_history.proofs.LawsStart.{word_none, start_shape, start_good, start_agrees}
use Rattle.book_history.proofs.LawsStartKept.{held_is, freed_is, freed_gather, shape_after, after_agrees, start_kept}
use Rattle.book_history.proofs.LawsStartFresh.{fresh_start, none_held, none_freed_lem}

-- ---- what blocks take

pub both_bytes : (xs ys : List Block) → bytes_taken (xs ++ ys) ≡ bytes_taken xs + bytes_taken ys
unfolding bytes_taken
both_bytes [] ys = sym (zero-add (bytes_taken ys))
both_bytes (x ∷ xs) ys = let e = both_bytes xs ys in omega arith

-- Pages, and a place.
pages_bytes : (ps : List Page) → bytes_taken (page_blocks (offs_of ps)) ≡ length ps * page_size
unfolding bytes_taken page_blocks offs_of
pages_bytes [] = refl
pages_bytes (p ∷ ps) = let e = pages_bytes ps in omega arith

place_bytes : (place : Place) → bytes_taken (blocks_of place) ≡ bytes_in place
unfolding bytes_taken bytes_in
place_bytes empty = refl
place_bytes inline = refl
place_bytes (slab class off kept) = omega arith
place_bytes (pages ps) = pages_bytes ps

-- The places of keys.
keys_bytes : (ks : List Key) → bytes_taken (gather (length ks) (λ i. blocks_of (get_or ks i empty_key).place)) ≡ bytes_held ks
unfolding gather bytes_taken bytes_held
keys_bytes [] = refl
keys_bytes (k ∷ ks) =
    let one = place_bytes k.place in
    let rest = keys_bytes ks in
    let all = both_bytes (blocks_of k.place) (gather (length ks) (λ i. blocks_of (get_or ks i empty_key).place)) in
    omega arith

-- Freed blocks of a class, and of all.
freed_bytes : (class : ℕ) (os : List ℕ) → bytes_taken (blocks_at class os) ≡ bytes_on_stack class os
unfolding bytes_taken blocks_at bytes_on_stack
freed_bytes class [] = refl
freed_bytes class (o ∷ os) = let e = freed_bytes class os in omega arith

stacks_bytes : (k : ℕ) (st : List (List ℕ)) → bytes_taken (gather (length st) (λ i. blocks_at (k + i) (get_or st i []))) ≡ bytes_freed k st
unfolding gather bytes_taken bytes_freed
stacks_bytes k [] = refl
stacks_bytes k (os ∷ st) =
    let first : k + 0 ≡ k = omega arith in
    let one : bytes_taken (blocks_at (k + 0) os) ≡ bytes_on_stack k os = rw first (freed_bytes k os) in
    let next : gather (length st) (λ i. blocks_at (k + 1 + i) (get_or st i [])) ≡ gather (length st) (λ i. blocks_at (k + suc i) (get_or st i []))
    = gather_same (length st) (λ i. blocks_at (k + 1 + i) (get_or st i [])) (λ i. blocks_at (k + suc i) (get_or st i []))
    (λ i. let same : k + 1 + i ≡ k + suc i = omega arith in rw same) in
    let rest : bytes_taken (gather (length st) (λ i. blocks_at (k + suc i) (get_or st i []))) ≡ bytes_freed (k + 1) st
    = ap bytes_taken (sym next) ∙ stacks_bytes (k + 1) st in
    let all = both_bytes (blocks_at (k + 0) os) (gather (length st) (λ i. blocks_at (k + suc i) (get_or st i []))) in
    omega arith

-- ---- a book that stands for a good plain book

module _ (plain : PlainBook) (b : Book) (g : GoodPlain plain) (a : Agrees plain b)
    (shape : out_of_shape plain.size (length plain.keys) ≡ false) where
  held_bytes : bytes_taken (held_by b.space b.heads) ≡ bytes_held plain.keys
  held_bytes =
      ap bytes_taken (held_gathered b.space b.heads
      ∙ gather_same (length b.heads) (held_of b) (λ i. blocks_of (key_of i plain).place) (held_is plain b g a shape)
      ∙ ap (λ (n : ℕ). gather n (λ i. blocks_of (key_of i plain).place)) a.count)
      ∙ keys_bytes plain.keys

  free_bytes : bytes_taken (freed_by b.space 0 b.space.free) ≡ bytes_freed 0 plain.space.stacks
  free_bytes =
      ap bytes_taken (freed_gather plain b g a shape
      ∙ gather_same (length b.space.free) (list_of b) (λ i. blocks_at (0 + i) (stack_of i plain.space))
      (λ i. ap (blocks_at i) (freed_is plain b g a shape i) ∙ ap (λ (c : ℕ). blocks_at c (stack_of i plain.space)) (sym (zero-add i)))
      ∙ ap (λ (n : ℕ). gather n (λ i. blocks_at (0 + i) (stack_of i plain.space)))
      ((a.inside shape).space.nine ∙ sym g.space.nine))
      ∙ stacks_bytes 0 plain.space.stacks

  -- Its blocks take what the plain book's do.
  pub agrees_bytes : bytes_taken (all_blocks b) ≡ bytes_held plain.keys + bytes_freed 0 plain.space.stacks
  agrees_bytes =
      let h = held_bytes in
      let f = free_bytes in
      both_bytes (held_by b.space b.heads) (freed_by b.space 0 b.space.free) ∙ (omega arith)

-- ---- any list of calls

-- The mark of a good start isn't before where lists may begin.
pub from_4096 : (b : Book) → GoodBlocks b → 4096 ≤ b.space.mark
from_4096 b g = (shape_holds b.space (length b.heads) g.shape).0.begins

-- Calls on a good start whose mark leaves none to be skipped change nothing in how many bytes belong to nobody.
pub lost_kept : (ds : List ℕ) (b : Book) (cs : List Call) → GoodStart ds b → MarkWhole b.space.mark
    → lost_in (after ds b cs) ≡ lost_in b
unfolding lost_in plain_of
lost_kept ds b cs g whole =
    let then = after_agrees ds b cs g in
    let shape = (shape_after ds b cs g.blocks).0 in
    let now = agrees_bytes (plain_of ds b) b (start_good ds b g) (start_agrees ds b g) (start_shape ds b g.blocks) in
    let later = agrees_bytes (plain_after (plain_of ds b) cs) (after ds b cs) (calls_good cs (start_good ds b g)) then shape in
    let room = start_room b g.blocks (from_4096 b g.blocks) in
    let mark : b.space.mark ≡ (plain_of ds b).space.mark = refl in
    let mark' : (after ds b cs).space.mark ≡ (plain_after (plain_of ds b) cs).space.mark = (then.inside shape).space.mark in
    let sum : 4096 + (bytes_freed 0 (plain_after (plain_of ds b) cs).space.stacks
    + (bytes_held (plain_after (plain_of ds b) cs).keys + (b.space.mark - (4096 + bytes_taken (all_blocks b)))))
    ≡ (plain_after (plain_of ds b) cs).space.mark
    = filled_from (b.space.mark - (4096 + bytes_taken (all_blocks b))) (plain_of ds b) cs (start_good ds b g) whole
    (omega arith) in
    omega arith

-- A fresh book has no block, and its mark is where lists may begin.
fresh_lost : (body : List ℕ) (heads : ℕ) (l : Limits) → lost_in (fresh body heads l) ≡ 0
unfolding lost_in bytes_taken
fresh_lost body heads l = rw (none_held (fresh body heads l).space heads, none_freed_lem (fresh body heads l).space 0 9) refl

module _ (ds body : List ℕ) (heads : ℕ) (l : Limits) (cs : List Call)
    (made : makes ds (length body) heads l ≡ accepted (plain_fresh ds (length body) heads l)) (sixteen : Sixteen l) where
  -- Nothing is leaked: after any list of calls on a book made fresh no byte between 4,096 and the mark belongs to nobody,
  pub nothing_lost : lost_in (after ds (fresh body heads l) cs) ≡ 0
  nothing_lost =
      lost_kept ds (fresh body heads l) cs (fresh_start ds body heads l made sixteen) (inl (omega arith))
      ∙ fresh_lost body heads l

  -- and each is one of a block that a key holds or that a free list names.
  pub nothing_leaked : Covered (after ds (fresh body heads l) cs)
  nothing_leaked =
      let start = (start_kept ds (fresh body heads l) cs (fresh_start ds body heads l made sixteen)).blocks in
      start_covered (after ds (fresh body heads l) cs) start (from_4096 (after ds (fresh body heads l) cs) start) nothing_lost

-- ---- a head word that is lost

empty_bytes : (s : Space) → bytes_taken (blocks_in (content (seen s) 0)) ≡ 0
unfolding blocks_in bytes_taken
empty_bytes s = rw (word_none s) refl

-- The blocks of the other keys.
forgot_bytes : (s : Space) (ws : List ℕ) (key : ℕ) → key < length ws
    → bytes_taken (held_by s (set ws key 0)) + bytes_taken (blocks_in (content (seen s) (get_or ws key 0))) ≡ bytes_taken (held_by s ws)
unfolding held_by
forgot_bytes s [] key l = absurd (omega arith)
forgot_bytes s (w ∷ ws) zero l =
    let none' : bytes_taken (blocks_in (content (seen s) 0)) ≡ 0 = empty_bytes s in
    let new = both_bytes (blocks_in (content (seen s) 0)) (held_by s ws) in
    let old = both_bytes (blocks_in (content (seen s) w)) (held_by s ws) in
    omega arith
forgot_bytes s (w ∷ ws) (suc key) l =
    let rest = forgot_bytes s ws key (omega arith) in
    let new = both_bytes (blocks_in (content (seen s) w)) (held_by s (set ws key 0)) in
    let old = both_bytes (blocks_in (content (seen s) w)) (held_by s ws) in
    omega arith

-- A lost head word shows: as many bytes more belong to nobody as the key's slab or pages take. One of a number in the head word doesn't.
pub forgot_shows : (b : Book) (key : ℕ) → GoodBlocks b → key < length b.heads
    → lost_in (forgot key b) ≡ lost_in b + bytes_taken (held_of b key)
unfolding lost_in
forgot_shows b key g l =
    let room = start_room b g (from_4096 b g) in
    let held = forgot_bytes b.space b.heads key l in
    let new = both_bytes (held_by b.space (set b.heads key 0)) (freed_by b.space 0 b.space.free) in
    let old = both_bytes (held_by b.space b.heads) (freed_by b.space 0 b.space.free) in
    omega arith
