-- The space of a book over bytes (FORMAT, Taking a block): one body, the mark up to which blocks were ever taken, and the free heads of
-- classes 0 to 8, each the offset of the class's first freed block, 0 for none.
use Rattle.std.specs.Prelude.{ℕ, ◌+◌, ◌*◌, ◌%◌, ◌≤◌, Bool, cond, not, ◌||◌, List, ◌≡◌, ltb, eqb, length, get_or, set}
use Rattle.std.proofs.Math.Option.{Option, none, some}
use Rattle.error.specs.Refusal.{Answer, accepted, refused, refuse_if, and_then, no_room}
use Rattle.scripthash_layout.specs.Sizes.{slab_bytes, page_class, page_size}
use Rattle.scripthash_layout.specs.Head.{payload_start}
use Rattle.scripthash_free.specs.FreeList.{Lists, lists, Block, push_all, gap_blocks, pop_free}
use Rattle.free_runs.specs.Runs.{without_run}
use Rattle.free_runs.specs.PageList.{walked, run_sought, top_of, relinked}
use Rattle.book_limits.specs.Limits.{least_body, most_body, slabs_end, out_of_shape, page_after, gap_end, pop_end}

-- The body's bytes, the mark, and the nine free heads.
pub record Space : Type 0 where
  pub body : List ℕ
  pub mark : ℕ
  pub free : List ℕ

-- A body with its mark and free heads.
abbrev pub space : List ℕ → ℕ → List ℕ → Space
space body mark free = record { body = body; mark = mark; free = free }

-- The free lists of a space.
abbrev pub lists_of : Space → Lists
lists_of s = lists s.body s.free

-- A space with other free lists.
abbrev pub with_lists : Lists → Space → Space
with_lists l s = space l.body s.mark l.heads

-- A mark that can't be: it isn't a multiple of 16, or leaves 4,096 to the body's end.
unfoldable pub mark_bad : ℕ → ℕ → Bool
mark_bad size mark = not (eqb (mark % 16) 0) || (ltb mark payload_start || ltb size mark)

-- The shape of a space with so many heads breaks the limits: its lengths, or its mark.
unfoldable pub shape_broken : Space → ℕ → Bool
shape_broken s heads = out_of_shape (length s.body) heads || mark_bad (length s.body) s.mark

-- A space in shape: its body is whole pages, from two to 2^41 bytes, and its mark is a multiple of 16 between 4,096 and the body's end.
pub record InShape (s : Space) : Type 0 where
  pub paged : length s.body % page_size ≡ 0
  pub least : least_body ≤ length s.body
  pub most : length s.body ≤ most_body
  pub aligned : s.mark % 16 ≡ 0
  pub begins : payload_start ≤ s.mark
  pub within : s.mark ≤ length s.body

-- ---- taking

-- What a take gives: where the block or run begins, and the space afterwards.
pub record Taken : Type 0 where
  pub off : ℕ
  pub space : Space

-- Some bytes taken at the mark, which then passes them; refused where they would pass the body's end.
unfoldable pub take_mark : ℕ → Space → Answer Taken
take_mark bytes s =
    refuse_if (ltb (length s.body) (s.mark + bytes)) no_room
    (accepted (record { off = s.mark; space = space s.body (s.mark + bytes) s.free }))

-- The mark rounded up to a page, and the blocks of the gap, save past the end of slabs, pushed onto their free lists.
unfoldable pub rounded : Space → Space
rounded s =
    let l = push_all (gap_blocks s.mark (gap_end s.mark)) (lists_of s) in space l.body (page_after s.mark) l.heads

-- A run of pages taken at the mark, rounded up.
unfoldable pub run_at_mark : ℕ → Space → Answer Taken
run_at_mark pages s = take_mark (pages * page_size) (rounded s)

-- The search of the freed pages, so many by their count, for a run.
abbrev pub searched : ℕ → ℕ → Space → Answer (Option ℕ)
searched pages freed s = run_sought s.mark freed s.body (get_or s.free page_class 0) pages

-- The freed pages, so many by their count, that are left without a run.
abbrev pub left_without : ℕ → ℕ → ℕ → Space → List ℕ
left_without off pages freed s = without_run off pages (walked freed s.body (get_or s.free page_class 0))

-- A run of pages taken out of the freed ones: those left keep their order.
abbrev pub run_freed : ℕ → ℕ → ℕ → Space → Taken
run_freed off pages freed s =
    let left = left_without off pages freed s in
    record { off = off; space = space (relinked left s.body) s.mark (set s.free page_class (top_of left)) }

-- A run of pages taken where a search of the freed ones led, or else at the mark.
unfoldable pub take_found : ℕ → ℕ → Space → Option ℕ → Answer Taken
take_found pages freed s none = run_at_mark pages s
take_found pages freed s (some off) = accepted (run_freed off pages freed s)

-- A slab of so many bytes taken at the mark: refused where it would pass the end of slabs, or the body's.
unfoldable pub take_slab : ℕ → Space → Answer Taken
take_slab bytes s = refuse_if (ltb slabs_end (s.mark + bytes)) no_room (take_mark bytes s)

-- A block of a class taken where none of it is freed: a page is a run of one.
unfoldable pub take_fresh : ℕ → Space → Answer Taken
take_fresh class s = cond (eqb class page_class) (run_at_mark 1 s) (take_slab (slab_bytes class) s)

-- A block of a class taken after a pop: the block that was popped, or else a fresh one.
unfoldable pub take_popped : ℕ → Space → Option ℕ → List ℕ → Answer Taken
take_popped class s none free = take_fresh class s
take_popped class s (some off) free = accepted (record { off = off; space = space s.body s.mark free })

-- A block of a class taken: popped where the free head isn't 0, a slab up to the end of slabs alone, or else from the mark.
unfoldable pub take_block : ℕ → Space → Answer Taken
take_block class s = and_then (pop_free class (pop_end class s.mark) (lists_of s)) (λ p. take_popped class s p.block p.heads)

-- The space after a take, or as it was where the take is refused.
unfoldable pub space_after : Space → Answer Taken → Space
space_after s (accepted t) = t.space
space_after s (refused number) = s

-- ---- giving back

-- Blocks pushed onto their free lists one after the other.
unfoldable pub release : List Block → Space → Space
release bs s = with_lists (push_all bs (lists_of s)) s
