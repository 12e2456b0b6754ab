-- A book that starts from bytes written elsewhere: what a good start is, said of its bytes, head words, mark and free heads alone, and a
-- judgement that finds the first fault of one that isn't good.
use Rattle.std.specs.Prelude.{ℕ, zero, suc, ◌+◌, ◌-◌, ◌/◌, ◌<◌, ◌≤◌, Bool, true, false, cond, not, ◌&&◌, ◌||◌, List, [], ◌∷◌, ◌++◌, ◌≡◌, ltb, eqb, length, get_or}
use Rattle.std.proofs.Math.Option.{Option, none, some}
use Rattle.error.specs.Refusal.{Answer, accepted, refused, refuse_if, value_or, shape_bad, desks_bad, list_too_short}
use Rattle.scripthash_layout.specs.Sizes.{slab_bytes, page_class, page_size}
use Rattle.scripthash_free.specs.FreeList.{Block, Disjoint, is_block, next_of, IsFreeList, Each}
use Rattle.book_desks.specs.Desks.{desks, desk_count, sum_to, total, lacks, to_be_had, list_bad, desk_of}
use Rattle.book_desks.specs.Counts.{count_words, freed_count, held_count, held_in, limits_in, counts_high}
use Rattle.book_space.specs.Space.{Space, shape_broken}
use Rattle.book_keys.specs.Keys.{Content, content}
use Rattle.book.specs.Book.{Book, word_of, seen}

-- ---- blocks

-- No two of some blocks share a byte; a block that stands there twice shares its bytes.
unfoldable pub AllApart : List Block → Type 0
AllApart [] = Unit {0}
AllApart (x ∷ xs) = Each (Disjoint x) xs × AllApart xs

-- A block that can stand: it is aligned, and lies between 4,096 and the mark. A slab past the end of slabs can, but can't be taken.
abbrev pub Stands : ℕ → Block → Type 0
Stands mark x = is_block x.class x.off mark ≡ true

-- The block of a class at an offset.
abbrev pub block : ℕ → ℕ → Block
block class off = record { class = class; off = off }

-- The blocks of a class at offsets.
unfoldable pub blocks_at : ℕ → List ℕ → List Block
blocks_at class [] = []
blocks_at class (o ∷ os) = block class o ∷ blocks_at class os

-- The bytes that blocks take.
unfoldable pub bytes_taken : List Block → ℕ
bytes_taken [] = 0
bytes_taken (x ∷ xs) = slab_bytes x.class + bytes_taken xs

-- ---- what is held and what is free

-- The blocks of what a key holds; none where it isn't sound.
unfoldable pub blocks_in : Answer Content → List Block
blocks_in (accepted c) = c.blocks
blocks_in (refused number) = []

-- The blocks that a key of a book holds.
abbrev pub held_of : Book → ℕ → List Block
held_of b key = blocks_in (content (seen b.space) (word_of key b))

-- The blocks of all keys with these head words, in order.
unfoldable pub held_by : Space → List ℕ → List Block
held_by s [] = []
held_by s (w ∷ ws) = blocks_in (content (seen s) w) ++ held_by s ws

-- The offsets that a free list leads to from a head on, followed over at most so many blocks.
unfoldable pub followed : ℕ → List ℕ → ℕ → List ℕ
followed zero body off = []
followed (suc k) body off = cond (eqb off 0) [] (off ∷ followed k body (next_of body off))

-- The offsets of the free list of a head: each block takes 16 bytes at least, so a list that ends has no more than mark / 16.
abbrev pub followed_from : Space → ℕ → List ℕ
followed_from s head = followed (s.mark / 16) s.body head

-- The offsets that the free list of a class names, from the top.
abbrev pub freed_of : Space → ℕ → List ℕ
freed_of s class = followed_from s (get_or s.free class 0)

-- The blocks of the free list of a class, from the top.
abbrev pub list_of : Book → ℕ → List Block
list_of b class = blocks_at class (freed_of b.space class)

-- The freed blocks of some free lists, by their free heads: the first is of the given class, each further one of the next class.
unfoldable pub freed_by : Space → ℕ → List ℕ → List Block
freed_by s class [] = []
freed_by s class (h ∷ hs) = blocks_at class (followed_from s h) ++ freed_by s (class + 1) hs

-- All blocks of a book: those that keys hold, keys rising, then those that free lists name, classes rising.
abbrev pub blocks_of : Book → List Block
blocks_of b = held_by b.space b.heads ++ freed_by b.space 0 b.space.free

-- ---- desks

-- How many pages there are in what a key holds; none where it isn't sound.
abbrev pub pages_in : Answer Content → ℕ
pages_in a = value_or (λ c. c.pages) a 0

-- How many pages a key holds.
abbrev pub pages_held : Book → ℕ → ℕ
pages_held b key = pages_in (content (seen b.space) (word_of key b))

-- The pages that a desk has of a key: those that the key holds, where it is the key's desk.
abbrev pub pages_for : List ℕ → Book → ℕ → ℕ → ℕ
pages_for ds b desk key = cond (eqb (desk_of ds key) desk) (pages_held b key) 0

-- The pages of all keys of a desk.
abbrev pub pages_of_desk : List ℕ → Book → ℕ → ℕ
pages_of_desk ds b desk = sum_to (length b.heads) (pages_for ds b desk)

-- Pages to be had, as the counts tell.
abbrev pub to_be_had_in : Book → ℕ
to_be_had_in b = to_be_had (length b.space.body) (freed_count b.counts) b.space.mark

-- The desks of a start are good: their counts are true, and nothing is promised that can't be kept.
pub record GoodCounts (ds : List ℕ) (b : Book) : Type 0 where
  -- There are as many counts as there should be, and none of freed and held pages and of reserves is above the body's pages.
  pub words : length b.counts ≡ count_words
  pub low : counts_high (length b.space.body) b.counts ≡ false
  -- The list names a desk for each key.
  pub named : list_bad ds (length b.heads) ≡ false
  -- With the first page, what is held and what is to be had is no more than the body's pages.
  pub balanced : 1 + (total (held_in b.counts) + to_be_had_in b) ≤ length b.space.body / page_size
  -- The count of freed pages is the length of their free list.
  pub freed : freed_count b.counts ≡ length (freed_of b.space page_class)
  -- Each desk's count is the pages of its keys.
  pub exact : (d : ℕ) → d < desks → held_count d b.counts ≡ pages_of_desk ds b d
  -- No desk holds more than its ceiling, and no reserve is above its ceiling.
  pub ceilings : (d : ℕ) → d < desks → held_count d b.counts ≤ desk_count d (limits_in b.counts).ceiling
  pub reserves : (d : ℕ) → d < desks → desk_count d (limits_in b.counts).reserve ≤ desk_count d (limits_in b.counts).ceiling
  -- The pages to be had cover what the desks lack.
  pub covered : lacks (limits_in b.counts) (held_in b.counts) ≤ to_be_had_in b

-- The blocks of a start are good: keys and free lists lead to blocks that can stand, and no two share a byte.
pub record GoodBlocks (b : Book) : Type 0 where
  -- Lengths and mark keep the limits.
  pub shape : shape_broken b.space (length b.heads) ≡ false
  -- There is a free head for each of the classes 0 to 8.
  pub nine : length b.space.free ≡ 9
  -- Every key is sound.
  pub sound : (key : ℕ) → key < length b.heads → (c : Content) × (content (seen b.space) (word_of key b) ≡ accepted c)
  -- Every free list ends.
  pub ends : (class : ℕ) → class ≤ page_class → IsFreeList b.space.body (get_or b.space.free class 0) (freed_of b.space class)
  -- Every free list holds only blocks that can stand below the mark.
  pub stand : (class : ℕ) → class ≤ page_class → Each (Stands b.space.mark) (blocks_at class (freed_of b.space class))
  -- No two blocks, held or free, share a byte.
  pub apart : AllApart (blocks_of b)

-- A good start: a book that is covered from the lists that it then reads, with a list of desks.
pub record GoodStart (ds : List ℕ) (b : Book) : Type 0 where
  -- Its blocks are good.
  pub blocks : GoodBlocks b
  -- Its desks are good.
  pub counts : GoodCounts ds b

-- ---- the judgement

-- A verdict on a start: it is good, or the first fault that is met, with its key or the class of its free list.
pub data Verdict : Type 0 where
  -- The book is a good start; with how many units of 16 bytes between 4,096 and the mark belong to nobody: to no block that a key holds,
  -- and to none that a free list names.
  good : ℕ → Verdict
  -- The key isn't sound: the ground of 31.
  key_unsound : ℕ → Verdict
  -- A block of the key shares a byte with one claimed before.
  key_shares : ℕ → Verdict
  -- A block of the class's free list can't stand where it is named.
  free_strays : ℕ → Verdict
  -- A block of the class's free list shares a byte with one claimed before; a list that doesn't end comes to such a block.
  free_shares : ℕ → Verdict
  -- The counts tell of more pages than the body has behind its first.
  counts_exceed : Verdict
  -- The count of freed pages isn't the length of their free list.
  freed_differs : Verdict
  -- A desk's count isn't the pages of its keys.
  held_differs : ℕ → Verdict
  -- A desk holds more than its ceiling.
  held_high : ℕ → Verdict
  -- A desk's reserve is above its ceiling.
  reserve_high : ℕ → Verdict
  -- Fewer pages are to be had than the desks lack of their reserves.
  lacks_open : Verdict

-- Two blocks share a byte: neither ends at or below the other's beginning.
unfoldable pub shares : Block → Block → Bool
shares x y = ltb x.off (y.off + slab_bytes y.class) && ltb y.off (x.off + slab_bytes x.class)

-- A block shares a byte with one of some blocks.
unfoldable pub shares_one : Block → List Block → Bool
shares_one x [] = false
shares_one x (y ∷ ys) = shares x y || shares_one x ys

-- What claiming the blocks of a key or of a free list gives: all blocks claimed so far, or why one can't be claimed.
pub data Claim : Type 0 where
  -- These blocks are claimed, the last one first.
  claimed : List Block → Claim
  -- The key isn't sound, or the block can't stand where it is named.
  unfit : Claim
  -- A block shares a byte with one claimed before.
  shared : Claim

-- Blocks claimed one after the other, where some were claimed before.
unfoldable pub claim_all : List Block → List Block → Claim
claim_all before [] = claimed before
claim_all before (x ∷ xs) = cond (shares_one x before) shared (claim_all (x ∷ before) xs)

-- The blocks of what a key holds, claimed.
unfoldable pub claim_content : List Block → Answer Content → Claim
claim_content before (accepted c) = claim_all before c.blocks
claim_content before (refused number) = unfit

-- The blocks of a free list, claimed from an offset on: each must be one that can stand. Of more blocks than there is room for, one
-- shares a byte.
unfoldable pub claim_freed : ℕ → Space → ℕ → List Block → ℕ → Claim
claim_freed zero s class before off = cond (eqb off 0) (claimed before) shared
claim_freed (suc k) s class before off =
    cond (eqb off 0) (claimed before)
    (cond (is_block class off s.mark)
    (cond (shares_one (block class off) before) shared (claim_freed k s class (block class off ∷ before) (next_of s.body off)))
    unfit)

-- Goes on with the blocks that are claimed; else one verdict where something is unfit, another where a byte is shared.
unfoldable pub onward : Claim → Verdict → Verdict → (List Block → Verdict) → Verdict
onward (claimed bs) if_unfit if_shared after = after bs
onward unfit if_unfit if_shared after = if_unfit
onward shared if_unfit if_shared after = if_shared

-- The verdict on some free lists, by their free heads, the first of the given class, after blocks that are claimed already. If nothing is
-- left to claim, what lies between 4,096 and the mark, less what the claimed blocks take, belongs to nobody.
unfoldable pub judge_lists : Space → ℕ → List ℕ → List Block → Verdict
judge_lists s class [] before = good ((s.mark - (4096 + bytes_taken before)) / 16)
judge_lists s class (h ∷ hs) before =
    onward (claim_freed (s.mark / 16) s class before h) (free_strays class) (free_shares class) (λ bs. judge_lists s (class + 1) hs bs)

-- The verdict on some keys, by their head words, after blocks that are claimed already, and then on all free lists.
unfoldable pub judge_keys : Space → ℕ → List ℕ → List Block → Verdict
judge_keys s key [] before = judge_lists s 0 s.free before
judge_keys s key (w ∷ ws) before =
    onward (claim_content before (content (seen s) w)) (key_unsound key) (key_shares key) (λ bs. judge_keys s (key + 1) ws bs)

-- The verdict on the blocks of a book in shape: they are claimed one after the other, keys rising and then classes rising, and the first
-- fault decides.
unfoldable pub blocks_verdict : Book → Verdict
blocks_verdict b = judge_keys b.space 0 b.heads []

-- The verdict on a desk's count, reserve and ceiling, where there is a fault.
unfoldable pub desk_fault : List ℕ → Book → ℕ → Option Verdict
desk_fault ds b d =
    cond (not (eqb (held_count d b.counts) (pages_of_desk ds b d))) (some (held_differs d))
    (cond (ltb (desk_count d (limits_in b.counts).ceiling) (held_count d b.counts)) (some (held_high d))
    (cond (ltb (desk_count d (limits_in b.counts).ceiling) (desk_count d (limits_in b.counts).reserve)) (some (reserve_high d)) none))

-- A fault where there is one, or else another verdict.
unfoldable pub fault_or : Option Verdict → Verdict → Verdict
fault_or (some v) after = v
fault_or none after = after

-- The verdict on the first desk with a fault, of so many from one on, or else another.
unfoldable pub judge_desks : List ℕ → Book → ℕ → ℕ → Verdict → Verdict
judge_desks ds b d zero after = after
judge_desks ds b d (suc k) after = fault_or (desk_fault ds b d) (judge_desks ds b (d + 1) k after)

-- The verdict on the counts of a book whose blocks are good, with so many units that belong to nobody.
unfoldable pub counts_verdict : List ℕ → Book → ℕ → Verdict
counts_verdict ds b lost =
    cond (ltb (length b.space.body / page_size) (1 + (total (held_in b.counts) + to_be_had_in b))) counts_exceed
    (cond (not (eqb (freed_count b.counts) (length (freed_of b.space page_class)))) freed_differs
    (judge_desks ds b 0 desks
    (cond (ltb (to_be_had_in b) (lacks (limits_in b.counts) (held_in b.counts))) lacks_open (good lost))))

-- The verdict on the counts behind one on the blocks, where that is good.
unfoldable pub counts_behind : List ℕ → Book → Verdict → Verdict
counts_behind ds b (good lost) = counts_verdict ds b lost
counts_behind ds b (key_unsound key) = key_unsound key
counts_behind ds b (key_shares key) = key_shares key
counts_behind ds b (free_strays class) = free_strays class
counts_behind ds b (free_shares class) = free_shares class
counts_behind ds b counts_exceed = counts_exceed
counts_behind ds b freed_differs = freed_differs
counts_behind ds b (held_differs d) = held_differs d
counts_behind ds b (held_high d) = held_high d
counts_behind ds b (reserve_high d) = reserve_high d
counts_behind ds b lacks_open = lacks_open

-- The verdict on a book in shape: on its blocks, and then on its counts.
unfoldable pub verdict_of : List ℕ → Book → Verdict
verdict_of ds b = counts_behind ds b (blocks_verdict b)

-- The call that judges a start, with a work list of so many bytes, one for each 128 bytes of the body: a bit for each 16.
unfoldable pub judges : List ℕ → Book → ℕ → Answer Verdict
judges ds b room =
    refuse_if (shape_broken b.space (length b.heads) || counts_high (length b.space.body) b.counts) shape_bad
    (refuse_if (list_bad ds (length b.heads)) desks_bad
    (refuse_if (ltb room (length b.space.body / 128)) list_too_short (accepted (verdict_of ds b))))
