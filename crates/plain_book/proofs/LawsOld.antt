-- Bodies of at most 2^30 bytes, which was the limit before change request N8: blocks are taken as they were then, runs out of freed pages
-- or else as they were then, and every total is told. Assumes nothing.
use Prim.Native.Nat.{ℕ, ◌+◌, ◌*◌, ◌^◌, ◌≤◌, ◌<◌}
use mathlib.Core.Bool.{Bool, true, false, cond}
use mathlib.Core.List.{List, [], ◌∷◌}
use mathlib.Core.Option.{Option, none, some}
use mathlib.Core.Path.{◌≡◌, refl, sym, ap, ◌∙◌}
use native.Mathlib.Omega.{arith}
use lib.Dec.{ltb, eqb}
use lib.ListN.{length, set}
use borrow.Author.Tests.{le-leb, lt-ltb, ltb-true}
use Rattle.error.specs.Refusal.{Answer, accepted, refuse_if, no_room}
use Rattle.error.proofs.LawsAnswer.{refuse_yes, refuse_no}
use Rattle.scripthash_layout.specs.Sizes.{slab_bytes, page_class, page_size}
use Rattle.scripthash_free.specs.FreeList.{gap_blocks}
use Rattle.scripthash_free.proofs.LawsBlock.{block_stands}
use Rattle.free_runs.specs.Runs.{lowest}
use Rattle.book_limits.specs.Limits.{slabs_end, page_after, most_counted, total_told}
use Rattle.plain_book.specs.Space.{Space, stack_of, freed_all, Taken, take_mark, take_slab, rounded, run_at_mark, take_run, take_fresh}
use Rattle.plain_book.specs.Space.{take_from}
use Rattle.plain_book.specs.Space.{take_block, run_freed, take_found}
use Rattle.plain_book.specs.Key.{Place, empty, inline, slab, pages}
use Rattle.plain_book.specs.Book.{Book, key_of}
use Rattle.plain_book.specs.Sound.{Fits}
use Rattle.plain_book.specs.Owners.{stack, at_depth, has}
use Rattle.plain_book.specs.Good.{GoodPlain}
use Rattle.plain_book.proofs.LawsOwners.{top_is}
use Rattle.plain_book.proofs.LawsLow.{low_block}
use Rattle.plain_book.proofs.LawsChain.{pages_few, pages_count}

-- The greatest length of a body before.
abbrev pub old_most : ℕ
old_most = 2 ^ 30

-- ---- takes as they were

-- The mark rounded up, and all blocks of the gap freed.
abbrev pub old_rounded : Space → Space
old_rounded s = record { mark = page_after s.mark; stacks = (freed_all (gap_blocks s.mark (page_after s.mark)) s).stacks }

-- A run at the mark.
abbrev pub old_at_mark : ℕ → ℕ → Space → Answer Taken
old_at_mark end n s = take_mark end (n * page_size) (old_rounded s)

-- A run taken where a search of the freed pages led (change request N11), or else at the mark.
abbrev pub old_found : ℕ → ℕ → Space → Option ℕ → Answer Taken
old_found end n s none = old_at_mark end n s
old_found end n s (some off) = accepted (run_freed off n s)

-- The run of a load.
abbrev pub old_run : ℕ → ℕ → Space → Answer Taken
old_run end n s = old_found end n s (lowest n (stack_of page_class s))

-- A block: the top of its stack, or else bytes from the mark on.
abbrev pub old_from : ℕ → ℕ → List ℕ → Space → Answer Taken
old_from end class [] s = cond (eqb class page_class) (old_at_mark end 1 s) (take_mark end (slab_bytes class) s)
old_from end class (o ∷ os) s = accepted (record { off = o; space = record { mark = s.mark; stacks = set s.stacks class os } })

-- ---- nothing else is taken

-- The gap is carved whole.
old_rounded_lem : (s : Space) → s.mark ≤ old_most → rounded s ≡ old_rounded s
unfolding rounded
old_rounded_lem s low =
    ap (λ (t : Bool). record {
      mark = page_after s.mark;
      stacks = (freed_all (gap_blocks s.mark (cond t (page_after s.mark) s.mark))
          s).stacks;
    })
    (le-leb (page_after s.mark) slabs_end (omega arith))

-- A slab at the mark is refused by the body's end alone.
old_slab : (end bytes : ℕ) (s : Space) → end ≤ old_most → take_slab end bytes s ≡ take_mark end bytes s
unfolding take_slab take_mark
old_slab end bytes s low = go (ltb slabs_end (s.mark + bytes)) refl
  where
    go : (t : Bool) → ltb slabs_end (s.mark + bytes) ≡ t → refuse_if t no_room (take_mark end bytes s) ≡ take_mark end bytes s
    go true e =
        let far = ltb-true slabs_end (s.mark + bytes) e in
        refuse_yes true no_room _ refl ∙ sym (refuse_yes _ no_room _ (lt-ltb end (s.mark + bytes) (omega arith)))
    go false e = refuse_no false no_room _ refl

-- A run at the mark.
pub old_at_mark_lem : (end n : ℕ) (s : Space) → s.mark ≤ old_most → run_at_mark end n s ≡ old_at_mark end n s
unfolding run_at_mark
old_at_mark_lem end n s low = ap (take_mark end (n * page_size)) (old_rounded_lem s low)

-- The run of a load.
pub old_run_lem : (end n : ℕ) (s : Space) → s.mark ≤ old_most → take_run end n s ≡ old_run end n s
unfolding take_found
old_run_lem end n s low = go (lowest n (stack_of page_class s))
  where
    go : (found : Option ℕ) → take_found end n s found ≡ old_found end n s found
    go none = old_at_mark_lem end n s low
    go (some off) = refl

-- A block of a good book.
pub old_block : (b : Book) (class : ℕ) → GoodPlain b → b.size ≤ old_most → b.space.mark ≤ old_most
    → take_block b.size class b.space ≡ old_from b.size class (stack_of class b.space) b.space
unfolding take_from take_fresh has
old_block b class g size mark = go (stack_of class b.space) refl
  where
    go : (os : List ℕ) → stack_of class b.space ≡ os → take_from b.size class os b.space ≡ old_from b.size class os b.space
    go [] e = fresh_block (eqb class page_class)
      where
        fresh_block : (t : Bool) → cond t (run_at_mark b.size 1 b.space) (take_slab b.size (slab_bytes class) b.space)
            ≡ cond t (old_at_mark b.size 1 b.space) (take_mark b.size (slab_bytes class) b.space)
        fresh_block true = old_at_mark_lem b.size 1 b.space mark
        fresh_block false = old_slab b.size (slab_bytes class) b.space size
    go (o ∷ os) e =
        let mine = ap (at_depth class (length os)) e ∙ top_is class o os in
        let s = block_stands class o b.space.mark (g.space.apart.stands (stack class (length os)) _ mine) in
        refuse_no _ _ _ (low_block class o (omega (arith, s.ends)))

-- ---- totals

-- A list has fewer than 2^32 - 1 numbers,
list_few : {b : Book} (key : ℕ) → GoodPlain b → b.space.mark ≤ old_most → length (key_of key b).list < most_counted
unfolding Fits
list_few {b} key g low = go (key_of key b).place refl
  where
    go : (place : Place) → (key_of key b).place ≡ place → length (key_of key b).list < most_counted
    go empty is = let f : length (key_of key b).list ≡ 0 = rw is at (g.keys key).fits in omega arith
    go inline is = let f : length (key_of key b).list ≡ 1 = rw is at (g.keys key).fits in omega arith
    go (slab class off kept) is = let f : Fits (key_of key b).list (slab class off kept) = rw is at (g.keys key).fits in
        omega (arith, f.4)
    go (pages ps) is = omega (arith, pages_few key ps g is, pages_count key ps g is)

-- so that its total is told.
pub old_total : {b : Book} (key : ℕ) → GoodPlain b → b.space.mark ≤ old_most
    → total_told (length (key_of key b).list) ≡ length (key_of key b).list
old_total {b} key g low =
    let few = list_few key g low in
    ap (λ (t : Bool). cond t (length (key_of key b).list) 0) (le-leb (length (key_of key b).list) most_counted (omega arith))
