-- A fresh book that may be made is a good start, and its plain book is the fresh one. Assumes nothing.
use Prim.Native.Nat.{ℕ, zero, suc, ◌+◌, ◌/◌, ◌≤◌}
use mathlib.Core.Bool.{false}
use mathlib.Core.List.{List, [], ◌∷◌}
use mathlib.Core.Path.{◌≡◌, refl, sym, ap, ap₂, subst, ◌∙◌}
use native.Mathlib.Omega.{arith}
use lib.ListN.{length, replicate, length-replicate}
use borrow.Author.Tests.{le-ltb}
use Rattle.error.specs.Refusal.{accepted}
use Rattle.scripthash_free.specs.FreeList.{Each, IsFreeList}
use Rattle.book_limits.specs.Limits.{out_of_shape}
use Rattle.book_limits.proofs.LawsLimits.{in_shape}
use Rattle.book_desks.specs.Desks.{Limits}
use Rattle.book_desks.specs.Counts.{limits_in, fresh_counts}
use Rattle.book_desks.proofs.LawsCounts.{sixteen_same, length_fresh, freed_fresh, held_fresh, limits_fresh}
use Rattle.plain_book.specs.Key.{Key, empty_key}
use Rattle.plain_book.specs.Book.{Book as PlainBook, fresh as plain_fresh, makes}
use Rattle.plain_book.proofs.LawsHistory.{all_same}
use Rattle.plain_book.proofs.LawsGood.{is_made, fresh_good}
use Rattle.book_space.specs.Space.{Space, mark_bad, shape_broken}
use Rattle.book_keys.specs.Keys.{content}
use Rattle.book.specs.Book.{fresh, seen}
use Rattle.book_start.specs.Start.{AllApart, blocks_at, blocks_in, held_by, followed_from, freed_by, GoodBlocks, GoodStart}
use Rattle.book_start.proofs.LawsFreed.{followed_end}
use Rattle.book_history.specs.Agrees.{Agrees}
use Rattle.book_history.specs.PlainOf.{keys_from, stacks_from, plain_of, Sixteen}
use Rattle.book_history.proofs.LawsStart.{word_none, key_none, start_agrees}
use Rattle.book_history.proofs.LawsStartDesks.{SameDesks, desks_counts}

-- ---- head words and free heads that are all 0

module _ (s : Space) where
  -- A free list whose head is 0 names nothing.
  none_followed : followed_from s 0 ≡ []
  none_followed = followed_end (s.mark / 16) s.body 0 refl

  -- No key holds a block, and all are empty.
  pub none_held : (n : ℕ) → held_by s (replicate n 0) ≡ []
  unfolding held_by blocks_in
  none_held zero = refl
  none_held (suc n) = rw (word_none s) (none_held n)

  keys_empty : (n : ℕ) → keys_from s (replicate n 0) ≡ replicate n empty_key
  unfolding keys_from
  keys_empty zero = refl
  keys_empty (suc n) = ap₂ (λ (k : Key) (ks : List Key). k ∷ ks) (key_none s) (keys_empty n)

  -- No free list names a block, and all stacks are empty.
  pub none_freed_lem : (class n : ℕ) → freed_by s class (replicate n 0) ≡ []
  unfolding freed_by blocks_at
  none_freed_lem class zero = refl
  none_freed_lem class (suc n) = rw none_followed (none_freed_lem (class + 1) n)

  stacks_empty : (n : ℕ) → stacks_from s (replicate n 0) ≡ replicate n []
  unfolding stacks_from
  stacks_empty zero = refl
  stacks_empty (suc n) = ap₂ (λ (os : List ℕ) (rest : List (List ℕ)). os ∷ rest) none_followed (stacks_empty n)

-- ---- a fresh book

module _ (ds body : List ℕ) (heads : ℕ) (l : Limits) where
  -- In shape, its blocks are good, whatever its body holds.
  fresh_blocks : out_of_shape (length body) heads ≡ false → GoodBlocks (fresh body heads l)
  unfolding shape_broken mark_bad IsFreeList Each blocks_at AllApart
  fresh_blocks shape =
      let low : 4096 ≤ length body = omega (arith, (in_shape (length body) heads shape).least) in
      record {
        shape = rw (length-replicate {A = ℕ} heads 0, shape, le-ltb (length body) 4096 low);
        nine = refl;
        sound = λ key h.
            (_, ap (content (seen (fresh body heads l).space)) (all_same 0 heads key) ∙ word_none (fresh body heads l).space);
        ends = λ class h. rw (all_same {A = ℕ} 0 9 class, none_followed (fresh body heads l).space) refl;
        stand = λ class h. rw (all_same {A = ℕ} 0 9 class, none_followed (fresh body heads l).space) tt;
        apart = rw (none_held (fresh body heads l).space heads, none_freed_lem (fresh body heads l).space 0 9) tt;
      }

  module _ (sixteen : Sixteen l) where
    -- Its limits are those that it was given.
    limits_given : limits_in (fresh_counts l) ≡ l
    limits_given = limits_fresh l ∙ sixteen_same l sixteen.reserve sixteen.ceiling

    -- Its plain book is the fresh one, in shape or not.
    pub fresh_plain : plain_of ds (fresh body heads l) ≡ plain_fresh ds (length body) heads l
    unfolding plain_of
    fresh_plain =
        rw (keys_empty (fresh body heads l).space heads, stacks_empty (fresh body heads l).space 9, held_fresh l, limits_given)

    -- It tells the same of its desks as the fresh plain book.
    fresh_desks : SameDesks (plain_fresh ds (length body) heads l) (fresh body heads l)
    fresh_desks =
        record {
          size = refl;
          count = length-replicate {A = ℕ} heads 0 ∙ sym (length-replicate heads empty_key);
          mark = refl;
          freed = ap length (none_followed (fresh body heads l).space);
          pages = λ key h. rw (all_same {A = ℕ} 0 heads key, word_none (fresh body heads l).space, all_same empty_key heads key);
          counts = record { words = length_fresh l; freed = freed_fresh l; held = held_fresh l; limits = limits_given };
        }

  module _ (made : makes ds (length body) heads l ≡ accepted (plain_fresh ds (length body) heads l))
      (sixteen : Sixteen l) where
    -- Where it may be made, it is a good start, whatever its body holds.
    pub fresh_start : GoodStart ds (fresh body heads l)
    fresh_start =
        record {
          blocks = fresh_blocks (is_made ds (length body) heads l made).shape;
          counts = desks_counts (plain_fresh ds (length body) heads l) (fresh body heads l) (fresh_desks sixteen)
              (fresh_good ds (length body) heads l made).desks;
        }

    -- It stands for the fresh plain book.
    pub fresh_agrees : Agrees (plain_fresh ds (length body) heads l) (fresh body heads l)
    fresh_agrees =
        subst (λ (p : PlainBook). Agrees p (fresh body heads l)) (fresh_plain sixteen) (start_agrees ds (fresh body heads l) fresh_start)
