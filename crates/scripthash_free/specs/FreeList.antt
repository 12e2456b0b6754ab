-- Free lists (FORMAT, Free lists): the freed blocks of a class, each of which names the next in its first 8 bytes.
use Rattle.std.specs.Prelude.{ℕ, zero, suc, ◌+◌, ◌-◌, ◌/◌, ◌%◌, ◌≤◌, ◌<◌, min, Bool, true, cond, not, ◌&&◌, ◌||◌, List, [], ◌∷◌, ◌⊎◌, ◌≡◌, leb, ltb, eqb, length, get_or, set}
use Rattle.std.proofs.Math.Option.{Option, none, some}
use Rattle.error.specs.Refusal.{Answer, accepted, refused, refuse_if, free_head_bad}
use Rattle.buffer.specs.Bytes.{part, overwrite}
use Rattle.buffer.specs.LittleEndian.{little_endian, bytes_of}
use Rattle.scripthash_layout.specs.Sizes.{slab_bytes, max_slab_class, page_class, page_size}
use Rattle.scripthash_layout.specs.Head.{payload_start}

-- A body with the free heads of its classes: the offset of each class's first freed block, 0 where it has none.
pub record Lists : Type 0 where
  pub body : List ℕ
  pub heads : List ℕ

-- A body and its free heads.
abbrev pub lists : List ℕ → List ℕ → Lists
lists body heads = record { body = body; heads = heads }

-- The free head of a class.
abbrev pub first_freed : ℕ → Lists → ℕ
first_freed class l = get_or l.heads class 0

-- The offset that a freed block names: the number in its first 8 bytes.
abbrev pub next_of : List ℕ → ℕ → ℕ
next_of body off = little_endian (part body off 8)

-- A block begins at a multiple of 16, a page at a multiple of 4,096.
abbrev pub unit_of : ℕ → ℕ
unit_of class = cond (eqb class page_class) page_size 16

-- A block of a class 0 to 8 can stand at an offset: it is aligned there, and doesn't leave 4,096 to an end.
unfoldable pub is_block : ℕ → ℕ → ℕ → Bool
is_block class off end =
    leb class page_class && (eqb (off % unit_of class) 0 && (leb payload_start off && leb (off + slab_bytes class) end))

-- A block pushed: its first 8 bytes name the head so far, and it is the head.
unfoldable pub pushed : ℕ → ℕ → Lists → Lists
pushed class off l =
    record { body = overwrite l.body off (bytes_of 8 (first_freed class l)); heads = set l.heads class off }

-- Pushing a block, which must be one within the body.
unfoldable pub push_free : ℕ → ℕ → Lists → Answer Lists
push_free class off l = refuse_if (not (is_block class off (length l.body))) free_head_bad (accepted (pushed class off l))

-- What popping gives: the block's offset, or none, and the free heads afterwards. The body stays.
pub record Pop : Type 0 where
  pub block : Option ℕ
  pub heads : List ℕ

-- Popping a block of a class: the head, whose word becomes the head; none where the head is 0 or the class is above 8. The head must
-- be a block below the mark, and within the body.
unfoldable pub pop_free : ℕ → ℕ → Lists → Answer Pop
pop_free class mark l =
    cond (ltb page_class class || eqb (first_freed class l) 0) (accepted (record { block = none; heads = l.heads }))
    (refuse_if (not (is_block class (first_freed class l) (min mark (length l.body)))) free_head_bad
    (accepted (record { block = some (first_freed class l); heads = set l.heads class (next_of l.body (first_freed class l)) })))

-- The largest class up to c whose blocks have at most n bytes, if there is one.
unfoldable pub largest_up_to : ℕ → ℕ → Option ℕ
largest_up_to zero n = cond (leb (slab_bytes 0) n) (some 0) none
largest_up_to (suc c) n = cond (leb (slab_bytes (suc c)) n) (some (suc c)) (largest_up_to c n)

-- The largest class of a slab, 0 to 7, whose blocks have at most n bytes, if there is one.
abbrev pub reloc_class : ℕ → Option ℕ
reloc_class n = largest_up_to max_slab_class n

-- A block: its class and where it begins.
pub record Block : Type 0 where
  pub class : ℕ
  pub off : ℕ

-- Two blocks share no byte: one ends at or below the other's beginning.
abbrev pub Disjoint : Block → Block → Type 0
Disjoint x y = (x.off + slab_bytes x.class ≤ y.off) ⊎ (y.off + slab_bytes y.class ≤ x.off)

-- A block of the class that was found, if one was, at an offset, and then what comes after a block of that class.
unfoldable pub block_then : Option ℕ → ℕ → (ℕ → List Block) → List Block
block_then none off rest = []
block_then (some class) off rest = record { class = class; off = off } ∷ rest class

-- At most k blocks that n bytes from an offset on are carved into, from the low end, the largest class up to 7 first.
unfoldable pub carve : ℕ → ℕ → ℕ → List Block
carve zero off n = []
carve (suc k) off n = block_then (reloc_class n) off (λ class. carve k (off + slab_bytes class) (n - slab_bytes class))

-- The blocks that the gap between two offsets is carved into: each has at least 16 bytes, so there are no more than a sixteenth of its
-- bytes.
abbrev pub gap_blocks : ℕ → ℕ → List Block
gap_blocks from to = carve ((to - from) / 16) from (to - from)

-- Blocks pushed one after the other.
unfoldable pub push_all : List Block → Lists → Lists
push_all [] l = l
push_all (b ∷ bs) l = push_all bs (pushed b.class b.off l)

-- A gap that can be carved: it is empty, or it begins at a multiple of 16 and doesn't leave 4,096 to an end.
unfoldable pub is_gap : ℕ → ℕ → ℕ → Bool
is_gap from to end = cond (leb to from) true (eqb (from % 16) 0 && (leb payload_start from && leb to end))

-- Carving the gap between two offsets: its blocks are pushed in order.
unfoldable pub carve_gap : ℕ → ℕ → Lists → Answer Lists
carve_gap from to l = refuse_if (not (is_gap from to (length l.body))) free_head_bad (accepted (push_all (gap_blocks from to) l))

-- The body and the heads after a call that gives them anew, or as they were where it is refused.
unfoldable pub lists_after : Answer Lists → Lists → Lists
lists_after (accepted l) before = l
lists_after (refused number) before = before

-- The heads after a pop, or as they were where it is refused.
unfoldable pub heads_after : Answer Pop → List ℕ → List ℕ
heads_after (accepted p) before = p.heads
heads_after (refused number) before = before

-- The free list that begins at a head names these offsets, from the top: each is a block's whose first 8 bytes lie in the body and
-- name the next, and 0 ends the list.
unfoldable pub IsFreeList : List ℕ → ℕ → List ℕ → Type 0
IsFreeList body head [] = head ≡ 0
IsFreeList body head (o ∷ os) = (head ≡ o) × (0 < o) × (o + 8 ≤ length body) × IsFreeList body (next_of body o) os

-- Blocks of a size at these offsets keep clear of n bytes from an offset on.
unfoldable pub Clear : ℕ → ℕ → ℕ → List ℕ → Type 0
Clear size off n [] = Unit
Clear size off n (o ∷ os) = ((o + size ≤ off) ⊎ (off + n ≤ o)) × Clear size off n os

-- Something holds of each block.
unfoldable pub Each : (Block → Type 0) → List Block → Type 0
Each P [] = Unit
Each P (b ∷ bs) = P b × Each P bs

-- A block lies between two offsets.
abbrev pub Within : ℕ → ℕ → Block → Type 0
Within lo hi b = (lo ≤ b.off) × (b.off + slab_bytes b.class ≤ hi)

-- A slab, of class 0 to 7, that can stand where it does.
abbrev pub IsSlab : ℕ → Block → Type 0
IsSlab end b = (b.class ≤ max_slab_class) × (is_block b.class b.off end ≡ true)

-- Blocks side by side: the first begins at an offset, each of the others where the one before it ends, and the last ends at an end.
unfoldable pub Adjoin : ℕ → List Block → ℕ → Type 0
Adjoin off [] end = off ≡ end
Adjoin off (b ∷ bs) end = (b.off ≡ off) × Adjoin (off + slab_bytes b.class) bs end

-- A stack of a class after blocks were pushed, each onto the stack of its class.
unfoldable pub stack_after : ℕ → List Block → List ℕ → List ℕ
stack_after class [] os = os
stack_after class (b ∷ bs) os = stack_after class bs (cond (eqb b.class class) (b.off ∷ os) os)
