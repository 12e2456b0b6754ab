-- What blocks that are pushed leave as it was, and what a pop tells of its block. By induction on the blocks, and by cases on the tests.
use Prim.Native.Nat.{ℕ, ◌+◌, ◌≤◌, min}
use mathlib.Core.Bool.{Bool, true, false, cond, not, ◌||◌}
use mathlib.Core.List.{List, [], ◌∷◌}
use mathlib.Core.Logic.{◌⊎◌, inl, inr, ⊎_elim}
use mathlib.Core.Option.{none, some}
use mathlib.Core.Path.{◌≡◌, refl, ap, sym, ◌∙◌}
use native.Mathlib.Omega.{arith}
use borrow.Author.Tests.{not-false}
use lib.Dec.{ltb, eqb}
use lib.ListN.{length, set, length-set}
use Rattle.error.specs.Refusal.{Answer, accepted, refused, refuse_if, answered, free_head_bad}
use Rattle.error.proofs.LawsAnswer.{accepted_inj, passed, was_refused}
use Rattle.buffer.specs.Bytes.{part}
use Rattle.buffer.specs.LittleEndian.{bytes_of}
use Rattle.buffer.proofs.LawsOverwrite.{part_before, part_after}
use Rattle.scripthash_layout.specs.Sizes.{page_class}
use Rattle.scripthash_free.specs.FreeList.{Lists, Block, Pop, first_freed, next_of, is_block, pushed, push_all, pop_free, heads_after, Each}
use Rattle.scripthash_free.specs.FreeList.{Within}
use Rattle.scripthash_free.proofs.LawsBlock.{bytes_from_16, block_stands, stands_block}
use Rattle.scripthash_free.proofs.LawsFreeList.{length_pushed, length_pushed_heads}

-- Blocks that are pushed keep the number of free heads.
pub heads_stay : (bs : List Block) (l : Lists) → length (push_all bs l).heads ≡ length l.heads
unfolding push_all
heads_stay [] l = refl
heads_stay (b ∷ bs) l = heads_stay bs (pushed b.class b.off l) ∙ length_pushed_heads b.class b.off l

-- A block that is pushed leaves the bytes before it and those behind it.
pushed_apart : (class off : ℕ) (l : Lists) → off + 8 ≤ length l.body → (o n : ℕ) → (o + n ≤ off) ⊎ (off + 8 ≤ o)
    → part (pushed class off l).body o n ≡ part l.body o n
unfolding pushed
pushed_apart class off l fits o n apart =
    ⊎_elim (λ (h : o + n ≤ off). part_before l.body off (bytes_of 8 (first_freed class l)) fits o n h)
    (λ (h : off + 8 ≤ o). part_after l.body off (bytes_of 8 (first_freed class l)) fits o n h)
    apart

-- Blocks between two offsets of the body, pushed.
module _ (lo hi : ℕ) where
  -- They keep the body's length.
  pub size_stays : (bs : List Block) (l : Lists) → Each (Within lo hi) bs → hi ≤ length l.body
      → length (push_all bs l).body ≡ length l.body
  unfolding push_all Each
  size_stays [] l e h = refl
  size_stays (b ∷ bs) l e h =
      let one : length (pushed b.class b.off l).body ≡ length l.body
      = length_pushed b.class b.off l (omega (arith, bytes_from_16 b.class, e.0.1)) in
      size_stays bs (pushed b.class b.off l) e.1 (omega arith) ∙ one

  -- They leave the bytes outside of the two.
  pub outside_stays : (bs : List Block) (l : Lists) → Each (Within lo hi) bs → hi ≤ length l.body → (o n : ℕ) → (o + n ≤ lo) ⊎ (hi ≤ o)
      → part (push_all bs l).body o n ≡ part l.body o n
  unfolding push_all Each
  outside_stays [] l e h o n apart = refl
  outside_stays (b ∷ bs) l e h o n apart =
      let fits : b.off + 8 ≤ length l.body = omega (arith, bytes_from_16 b.class, e.0.1) in
      let long : length (pushed b.class b.off l).body ≡ length l.body = length_pushed b.class b.off l fits in
      let near : (o + n ≤ b.off) ⊎ (b.off + 8 ≤ o)
      = ⊎_elim (λ (w : o + n ≤ lo). inl (omega (arith, e.0.0))) (λ (w : hi ≤ o). inr (omega (arith, bytes_from_16 b.class, e.0.1)))
      apart in
      outside_stays bs (pushed b.class b.off l) e.1 (omega arith) o n apart ∙ pushed_apart b.class b.off l fits o n near

-- A block that can stand below an end can stand below a later one.
pub stands_further : (class off end later : ℕ) → end ≤ later → is_block class off end ≡ true → is_block class off later ≡ true
stands_further class off end later h e =
    let b = block_stands class off end e in
    stands_block class off later
    (record { class_to_8 = b.class_to_8; aligned = b.aligned; begins = b.begins; ends = omega (arith, b.ends) })

-- What holds of a block holds of each of a list of that one.
pub each_one : (P : Block → Type 0) (b : Block) → P b → Each P (b ∷ [])
unfolding Each
each_one P b p = (p, tt)

-- What an accepted pop tells: the number of free heads stays, and the block, where there is one, can stand below the mark and the end.
pub record Popped (class mark : ℕ) (l : Lists) (p : Pop) : Type 0 where
  pub heads : length p.heads ≡ length l.heads
  pub block : (off : ℕ) → p.block ≡ some off → is_block class off (min mark (length l.body)) ≡ true

module _ (class mark : ℕ) (l : Lists) where
  -- What a pop gives where the class has no block.
  abbrev nothing : Pop
  nothing = record { block = none; heads = l.heads }

  -- What a pop gives where the class has a block.
  abbrev first : Pop
  first = record { block = some (first_freed class l); heads = set l.heads class (next_of l.body (first_freed class l)) }

  -- The test of the class's first block.
  abbrev good : Bool
  good = is_block class (first_freed class l) (min mark (length l.body))

  -- It tells so where there is no block.
  popped_nothing : {p : Pop} → nothing ≡ p → Popped class mark l p
  popped_nothing e = record {
    heads = ap (λ (x : Pop). length x.heads) (sym e);
    block = λ off b. let z : ◌≡◌ {A = ℕ} 0 1 = cc in absurd (omega arith);
  }

  -- It tells so of a block that passed the test.
  popped_first : {p : Pop} → good ≡ true → first ≡ p → Popped class mark l p
  popped_first g e = record {
    heads = ap (λ (x : Pop). length x.heads) (sym e) ∙ length-set l.heads class _;
    block = λ off b. let z : first_freed class l ≡ off = cc in rw (← z) g;
  }

  -- It tells so, by whether there is a block.
  popped_by : (none_there : Bool) {p : Pop}
      → cond none_there (accepted nothing) (refuse_if (not good) free_head_bad (accepted first)) ≡ accepted p → Popped class mark l p
  popped_by true e = popped_nothing (accepted_inj e)
  popped_by false e = let t = passed (not good) free_head_bad (accepted first) e in popped_first (not-false _ t.0) (accepted_inj t.1)

  -- An accepted pop tells so.
  pub popped : {p : Pop} → pop_free class mark l ≡ accepted p → Popped class mark l p
  unfolding pop_free
  popped e = popped_by (ltb page_class class || eqb (first_freed class l) 0) e

  -- What a pop answers, by whether there is a block, and whether it is bad.
  abbrev popping : Bool → Bool → Answer Pop
  popping none_there bad = cond none_there (accepted nothing) (refuse_if bad free_head_bad (accepted first))

  -- One that gives no block leaves the free heads.
  left_by : (none_there bad : Bool) → answered (λ (p : Pop). p.block) (popping none_there bad) ≡ accepted none
      → heads_after (popping none_there bad) l.heads ≡ l.heads
  unfolding answered heads_after refuse_if
  left_by true bad e = refl
  left_by false true e = refl
  left_by false false e = let z : ◌≡◌ {A = ℕ} 0 1 = cc in absurd (omega arith)

  -- A pop that gives no block leaves the free heads.
  pub left_none : {heads : List ℕ} → answered (λ (p : Pop). p.block) (pop_free class mark l) ≡ accepted none
      → heads ≡ heads_after (pop_free class mark l) l.heads → heads ≡ l.heads
  unfolding pop_free
  left_none e h = h ∙ left_by (ltb page_class class || eqb (first_freed class l) 0) (not good) e

  -- A refused pop leaves them too.
  pub left_refused : {heads : List ℕ} {number : ℕ} → answered (λ (p : Pop). p.block) (pop_free class mark l) ≡ refused number
      → heads ≡ heads_after (pop_free class mark l) l.heads → heads ≡ l.heads
  unfolding heads_after
  left_refused e h = h ∙ rw (was_refused (λ (p : Pop). p.block) (pop_free class mark l) e)
