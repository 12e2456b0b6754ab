-- What the taking of blocks and runs asks for and promises: no answer of a public function is defined here.
use Rattle.std.specs.Prelude.{ℕ, ◌+◌, ◌*◌, ◌≤◌, ◌<◌, cond, List, ◌≡◌, ltb}
use Rattle.std.proofs.Math.Option.{some}
use Rattle.error.specs.Refusal.{Answer, accepted, refused, refuse_if, answered, refusal_of, value_or, shape_bad, no_room}
use Rattle.scripthash_layout.specs.Sizes.{page_size}
use Rattle.book_limits.specs.Limits.{most_body, slabs_end, page_after}
use Rattle.book_desks.specs.Desks.{desks, permission_number}
use Rattle.book_desks.specs.Counts.{freed_count, held_in, limits_in, counts_high}
use Rattle.book_space.specs.Space.{Space, InShape, Taken, searched, space_after}
use Rattle.book_space.specs.Desks.{TakenFor, given_back}

-- What a take asks for: a space in shape, and a class, or a count of pages, that is at most so much.
pub record ToTake (s : Space) (size most : ℕ) : Type 0 where
  pub shape : InShape s
  pub low : size ≤ most

-- A take does what an answer of its definition says: it tells the offset or the refusal, and leaves the space after it.
pub record Takes (a : Answer Taken) (before after : Space) (tells : Answer ℕ) : Type 0 where
  pub told : tells ≡ answered (λ (t : Taken). t.off) a
  pub left : after ≡ space_after before a

-- ---- looking ahead

-- Where the mark stands after a take.
abbrev pub mark_after : Taken → ℕ
mark_after t = t.space.mark

-- Where it stands after a run of pages at it, in a body of so many bytes.
unfoldable pub mark_after_run : ℕ → ℕ → ℕ → Answer ℕ
mark_after_run end mark pages =
    refuse_if (ltb end (page_after mark + pages * page_size)) no_room (accepted (page_after mark + pages * page_size))

-- Where it stands after a slab of so many bytes at it.
unfoldable pub mark_after_slab : ℕ → ℕ → ℕ → Answer ℕ
mark_after_slab end mark bytes =
    refuse_if (ltb slabs_end (mark + bytes)) no_room (refuse_if (ltb end (mark + bytes)) no_room (accepted (mark + bytes)))

-- ---- judging

-- What the judging of a take asks for: the desk is one, no more pages are left freed than there are, and sums stay small.
pub record Judgeable (counts : List ℕ) (end desk pages freed mark : ℕ) : Type 0 where
  pub known : desk < desks
  pub body : end ≤ most_body
  pub asked : pages ≤ most_body
  pub left : freed ≤ freed_count counts
  pub within : mark ≤ end

-- The number that a take is turned back with that leaves so many freed pages and this mark, and 0 where it isn't.
unfoldable pub judged_number : ℕ → ℕ → ℕ → ℕ → List ℕ → ℕ → ℕ
judged_number end desk pages freed counts mark =
    cond (counts_high end counts) shape_bad (permission_number (limits_in counts) end desk pages (held_in counts) freed mark)

-- ---- a desk's takes

-- What a desk's take asks for: besides, the desk is one.
pub record ToTakeFor (s : Space) (desk size most : ℕ) : Type 0 where
  pub shape : InShape s
  pub known : desk < desks
  pub low : size ≤ most

-- What a desk's run asks for: the desk is one, and the run has some pages, at most 65,535.
pub record ToTakeRun (s : Space) (desk pages : ℕ) : Type 0 where
  pub shape : InShape s
  pub known : desk < desks
  pub low : pages ≤ 65535
  pub some_pages : 0 < pages

-- What a desk's run out of the freed pages asks for: a search of them found it.
pub record ToTakeFreed (s : Space) (counts : List ℕ) (desk pages off : ℕ) : Type 0 where
  pub shape : InShape s
  pub known : desk < desks
  pub some_pages : 0 < pages
  pub found : searched pages (freed_count counts) s ≡ accepted (some off)

-- The space after a desk's take, or as it was where the take is refused.
unfoldable pub space_for : Space → Answer TakenFor → Space
space_for s (accepted t) = t.space
space_for s (refused number) = s

-- The counts after it.
unfoldable pub counts_for : List ℕ → Answer TakenFor → List ℕ
counts_for counts (accepted t) = t.counts
counts_for counts (refused number) = counts

-- A desk's take does what an answer of its definition says: it tells the offset or the refusal, and leaves the space and the counts.
pub record TakesFor (a : Answer TakenFor) (before : Space) (counts_before : List ℕ) (after : Space) (counts_after : List ℕ) (tells : Answer ℕ)
    : Type 0 where
  pub told : tells ≡ answered (λ (t : TakenFor). t.off) a
  pub left : after ≡ space_for before a
  pub counts : counts_after ≡ counts_for counts_before a

-- ---- giving back

-- What giving back asks for: the desk is one, and there are pages.
pub record ToGiveBack (desk pages : ℕ) : Type 0 where
  pub known : desk < desks
  pub some : 0 < pages

-- Pages that a desk gives back, by their definition: the number that it is turned back with, or 0, and the counts afterwards.
pub record GivesBack (end desk pages : ℕ) (before after : List ℕ) (number : ℕ) : Type 0 where
  pub told : number ≡ refusal_of (given_back {A = List ℕ} end desk pages before accepted)
  pub left : after ≡ value_or (λ (counts : List ℕ). counts) (given_back {A = List ℕ} end desk pages before accepted) before
