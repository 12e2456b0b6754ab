-- A plain book's space (FORMAT, The plain book): a mark, up to which blocks were ever taken, and a stack of freed blocks for each class. No
-- byte is read.
use Rattle.std.specs.Prelude.{ℕ, ◌+◌, ◌*◌, cond, List, [], ◌∷◌, ltb, eqb, get_or, set}
use Rattle.std.proofs.Math.Option.{Option, none, some}
use Rattle.error.specs.Refusal.{Answer, accepted, refuse_if, free_head_bad, no_room}
use Rattle.scripthash_layout.specs.Sizes.{slab_bytes, page_class, page_size}
use Rattle.scripthash_free.specs.FreeList.{Block, gap_blocks}
use Rattle.free_runs.specs.Runs.{lowest, without_run}
use Rattle.book_limits.specs.Limits.{slabs_end, page_after, past_slabs, gap_end}

-- The mark, and the freed blocks' offsets of classes 0 to 8, the last freed first.
pub record Space : Type 0 where
  pub mark : ℕ
  pub stacks : List (List ℕ)

-- The freed blocks of a class.
abbrev pub stack_of : ℕ → Space → List ℕ
stack_of class s = get_or s.stacks class []

-- A block is freed: it goes onto its class's stack.
abbrev pub freed : ℕ → ℕ → Space → Space
freed class off s = record { mark = s.mark; stacks = set s.stacks class (off ∷ stack_of class s) }

-- Blocks freed one after the other.
unfoldable pub freed_all : List Block → Space → Space
freed_all [] s = s
freed_all (b ∷ bs) s = freed_all bs (freed b.class b.off s)

-- What a take gives: where the block or run begins, and the space afterwards.
pub record Taken : Type 0 where
  pub off : ℕ
  pub space : Space

-- Some bytes taken at the mark, which then passes them; refused where they would pass the body's end.
unfoldable pub take_mark : ℕ → ℕ → Space → Answer Taken
take_mark end bytes s =
    refuse_if (ltb end (s.mark + bytes)) no_room
    (accepted (record { off = s.mark; space = record { mark = s.mark + bytes; stacks = s.stacks } }))

-- The mark rounded up to a page, and the blocks of the gap freed, save past the end of slabs.
unfoldable pub rounded : Space → Space
rounded s = record { mark = page_after s.mark; stacks = (freed_all (gap_blocks s.mark (gap_end s.mark)) s).stacks }

-- A run of pages taken at the mark, rounded up.
unfoldable pub run_at_mark : ℕ → ℕ → Space → Answer Taken
run_at_mark end pages s = take_mark end (pages * page_size) (rounded s)

-- A run of pages taken out of the freed ones: those left keep their order.
abbrev pub run_freed : ℕ → ℕ → Space → Taken
run_freed off pages s =
    record { off = off; space = record { mark = s.mark; stacks = set s.stacks page_class (without_run off pages (stack_of page_class s)) } }

-- A run of pages taken where a search of the freed ones led, or else at the mark.
unfoldable pub take_found : ℕ → ℕ → Space → Option ℕ → Answer Taken
take_found end pages s none = run_at_mark end pages s
take_found end pages s (some off) = accepted (run_freed off pages s)

-- The run of a load: the lowest stretch of so many freed pages, or else at the mark.
abbrev pub take_run : ℕ → ℕ → Space → Answer Taken
take_run end pages s = take_found end pages s (lowest pages (stack_of page_class s))

-- A slab of so many bytes taken at the mark: refused where it would pass the end of slabs, or the body's.
unfoldable pub take_slab : ℕ → ℕ → Space → Answer Taken
take_slab end bytes s = refuse_if (ltb slabs_end (s.mark + bytes)) no_room (take_mark end bytes s)

-- A block of a class taken where none of it is freed: a page is a run of one.
unfoldable pub take_fresh : ℕ → ℕ → Space → Answer Taken
take_fresh end class s = cond (eqb class page_class) (run_at_mark end 1 s) (take_slab end (slab_bytes class) s)

-- A block taken from a stack, which holds some offsets, or else from the mark; a slab that ends past the end of slabs can't be taken.
unfoldable pub take_from : ℕ → ℕ → List ℕ → Space → Answer Taken
take_from end class [] s = take_fresh end class s
take_from end class (o ∷ os) s =
    refuse_if (past_slabs class o) free_head_bad
    (accepted (record { off = o; space = record { mark = s.mark; stacks = set s.stacks class os } }))

-- A block of a class taken: the top of its stack, or else from the mark.
abbrev pub take_block : ℕ → ℕ → Space → Answer Taken
take_block end class s = take_from end class (stack_of class s) s
