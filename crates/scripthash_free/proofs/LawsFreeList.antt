-- What a free list names after a write, a push and a pop, each over the class. A write that keeps clear of the list's blocks leaves
-- their words, a push puts a block on top, and a pop takes the top off. By induction on the offsets named.
use mathlib.Core.Path.{◌≡◌, ap, sym, ◌∙◌, subst}
use mathlib.Core.Bool.{true}
use mathlib.Core.List.{List, [], ◌∷◌}
use mathlib.Core.Logic.{◌⊎◌, inl, inr, ⊎_elim}
use mathlib.Core.Option.{none, some}
use Prim.Native.Nat.{ℕ, ◌+◌, ◌^◌, ◌≤◌, ◌<◌, min}
use native.Mathlib.Omega.{arith}
use lib.ListN.{length, set, length-set}
use lib.Seq.{get_or-set_same, get_or-set_other}
use Rattle.error.specs.Refusal.{accepted}
use Rattle.buffer.specs.Bytes.{overwrite}
use Rattle.buffer.specs.LittleEndian.{little_endian, bytes_of}
use Rattle.buffer.proofs.LawsBytes.{length_overwrite}
use Rattle.buffer.proofs.LawsLittleEndian.{little_endian_bytes_of}
use Rattle.buffer.proofs.LawsOverwrite.{part_written, part_before, part_after}
use Rattle.scripthash_layout.specs.Sizes.{slab_bytes}
use Rattle.scripthash_free.specs.FreeList.{Lists, first_freed, next_of, is_block, pushed, pop_free, IsFreeList, Clear}
use Rattle.scripthash_free.proofs.LawsBlock.{bytes_from_16, block_stands}
use Rattle.scripthash_free.proofs.LawsFree.{pop_none, pop_yes}

-- A write into the body that fits, and blocks of at least 8 bytes.
module _ (body : List ℕ) (off : ℕ) (ys : List ℕ) (fits : off + length ys ≤ length body) (size : ℕ) (room : 8 ≤ size) where
  -- A block that keeps clear of the write names what it named.
  next_kept : (o : ℕ) → (o + size ≤ off) ⊎ (off + length ys ≤ o) → next_of (overwrite body off ys) o ≡ next_of body o
  next_kept o clear =
      ap little_endian
      (⊎_elim (λ (h : o + size ≤ off). part_before body off ys fits o 8 (omega arith))
      (λ (h : off + length ys ≤ o). part_after body off ys fits o 8 h)
      clear)

  -- A list whose blocks keep clear of the write names the same offsets after it.
  pub free_list_write : (head : ℕ) (os : List ℕ) → Clear size off (length ys) os → IsFreeList body head os
      → IsFreeList (overwrite body off ys) head os
  unfolding IsFreeList Clear
  free_list_write head [] c n = n
  free_list_write head (o ∷ os) c n =
      let same : next_of (overwrite body off ys) o ≡ next_of body o = next_kept o c.0 in
      let long : length (overwrite body off ys) ≡ length body = length_overwrite body off ys fits in (
        n.0,
        n.1,
        omega (arith, n.2),
        subst (λ (next : ℕ). IsFreeList (overwrite body off ys) next os) (sym same) (free_list_write (next_of body o) os c.1 n.3),
      )

-- A head of a list fits 8 bytes where the body's length does.
pub free_list_head : (body : List ℕ) (head : ℕ) (os : List ℕ) → length body < 256 ^ 8 → IsFreeList body head os → head < 256 ^ 8
unfolding IsFreeList
free_list_head body head [] h n = omega arith
free_list_head body head (o ∷ os) h n = omega (arith, n.0, n.2)

-- Blocks that keep clear of a range keep clear of a part of it.
pub clear_within : (size off n off' n' : ℕ) (os : List ℕ) → off ≤ off' → off' + n' ≤ off + n → Clear size off n os → Clear size off' n' os
unfolding Clear
clear_within size off n off' n' [] lo hi c = c
clear_within size off n off' n' (o ∷ os) lo hi c = (
  ⊎_elim (λ (h : o + size ≤ off). inl (omega arith)) (λ (h : off + n ≤ o). inr (omega arith)) c.0,
  clear_within size off n off' n' os lo hi c.1,
)

-- A push keeps the lengths of body and heads.
pub length_pushed : (class off : ℕ) (l : Lists) → off + 8 ≤ length l.body → length (pushed class off l).body ≡ length l.body
unfolding pushed
length_pushed class off l h = length_overwrite l.body off (bytes_of 8 (first_freed class l)) h

pub length_pushed_heads : (class off : ℕ) (l : Lists) → length (pushed class off l).heads ≡ length l.heads
unfolding pushed
length_pushed_heads class off l = length-set l.heads class off

-- A block pushed, of a class that has a head, at an offset that isn't 0 and whose 8 bytes lie in the body.
module _ (class off : ℕ) (l : Lists) (above : 0 < off) (fits : off + 8 ≤ length l.body) (has : class < length l.heads) where
  -- It is the head of its class.
  pub head_pushed : first_freed class (pushed class off l) ≡ off
  unfolding pushed
  head_pushed = get_or-set_same l.heads class off 0 has

  -- It names the head so far.
  pub next_pushed : first_freed class l < 256 ^ 8 → next_of (pushed class off l).body off ≡ first_freed class l
  unfolding pushed
  next_pushed h =
      ap little_endian (part_written l.body off (bytes_of 8 (first_freed class l)) fits) ∙ little_endian_bytes_of 8 (first_freed class l) h

  -- The other classes keep their heads.
  pub head_kept : (d : ℕ) → (d ≡ class → ⊥) → first_freed d (pushed class off l) ≡ first_freed d l
  unfolding pushed
  head_kept d other = get_or-set_other l.heads class d off 0 other

  -- A list whose blocks keep clear of its 8 bytes names what it named.
  free_list_kept : (d : ℕ) (os : List ℕ) (head : ℕ) → Clear (slab_bytes d) off 8 os → IsFreeList l.body head os
      → IsFreeList (pushed class off l).body head os
  unfolding pushed
  free_list_kept d os head c n =
      free_list_write l.body off (bytes_of 8 (first_freed class l)) fits (slab_bytes d) (omega (arith, bytes_from_16 d)) head os c n

  -- Its list names it, and then what the list named before.
  pub free_list_push : (os : List ℕ) → length l.body < 256 ^ 8 → Clear (slab_bytes class) off 8 os
      → IsFreeList l.body (first_freed class l) os
      → IsFreeList (pushed class off l).body (first_freed class (pushed class off l)) (off ∷ os)
  unfolding IsFreeList
  free_list_push os small c n =
      let next = next_pushed (free_list_head l.body (first_freed class l) os small n) in (
        head_pushed,
        above,
        omega (arith, length_pushed class off l fits),
        subst (λ (h : ℕ). IsFreeList (pushed class off l).body h os) (sym next) (free_list_kept class os (first_freed class l) c n),
      )

  -- The list of another class names what it named.
  pub free_list_other : (d : ℕ) (os : List ℕ) → (d ≡ class → ⊥) → Clear (slab_bytes d) off 8 os → IsFreeList l.body (first_freed d l) os
      → IsFreeList (pushed class off l).body (first_freed d (pushed class off l)) os
  free_list_other d os other c n =
      subst (λ (h : ℕ). IsFreeList (pushed class off l).body h os) (sym (head_kept d other)) (free_list_kept d os (first_freed d l) c n)

-- The list of a class that names no block has none to pop.
pub free_list_none : (class mark : ℕ) (l : Lists) → class ≤ 8 → IsFreeList l.body (first_freed class l) []
    → pop_free class mark l ≡ accepted (record { block = none; heads = l.heads })
unfolding IsFreeList
free_list_none class mark l h n = pop_none class mark l h n

-- The list of a class that names a block gives it, and then names the others.
module _ (class mark o : ℕ) (os : List ℕ) (l : Lists) (n : IsFreeList l.body (first_freed class l) (o ∷ os)) where
  abbrev popped : Lists
  popped = record { body = l.body; heads = set l.heads class (next_of l.body o) }

  pub pop_free_list : is_block class o (min mark (length l.body)) ≡ true
      → pop_free class mark l ≡ accepted (record { block = some o; heads = popped.heads })
  unfolding IsFreeList
  pop_free_list good =
      let top : first_freed class l ≡ o = n.0 in
      let not-zero : first_freed class l ≡ 0 → ⊥ = λ z. let p = n.1 in omega arith in
      let s = block_stands class o (min mark (length l.body)) good in
      pop_yes class mark l s.class_to_8 not-zero (rw top good)
      ∙ ap (λ (h : ℕ). accepted (record { block = some h; heads = set l.heads class (next_of l.body h) })) top

  pub free_list_pop : class < length l.heads → IsFreeList popped.body (first_freed class popped) os
  unfolding IsFreeList
  free_list_pop has = subst (λ (h : ℕ). IsFreeList l.body h os) (sym (get_or-set_same l.heads class (next_of l.body o) 0 has)) n.3
