-- A run is taken out of the freed pages in both spaces: the stack of pages is another, and all other blocks keep their owners and bytes.
-- Assumes nothing.
use Prim.Native.Nat.{ℕ, ◌+◌, ◌*◌, ◌%◌, ◌≤◌, ◌<◌}
use mathlib.Core.Bool.{true}
use mathlib.Core.List.{List}
use mathlib.Core.Logic.{inl, inr, ⊎_elim, ◌≢◌}
use mathlib.Core.Option.{Option, none, some}
use mathlib.Core.Path.{◌≡◌, refl, sym, ap, subst, ◌∙◌}
use native.Mathlib.Omega.{arith}
use lib.ListN.{length, get_or, set, length-set}
use Rattle.buffer.specs.Bytes.{part}
use Rattle.buffer.specs.LittleEndian.{little_endian}
use Rattle.scripthash_layout.specs.Sizes.{slab_bytes, page_class, page_size}
use Rattle.scripthash_free.specs.FreeList.{Block, IsFreeList}
use Rattle.scripthash_free.proofs.LawsBlock.{bytes_from_16, block_stands}
use Rattle.free_runs.specs.Runs.{is_in, without_run}
use Rattle.free_runs.specs.PageList.{top_of, relinked}
use Rattle.free_runs.proofs.LawsLinks.{left_among, length_relinked}
use Rattle.free_runs.proofs.LawsStack.{linked_part}
use Rattle.free_runs.proofs.LawsTaken.{left_named}
use Rattle.plain_book.specs.Space.{Space as PlainSpace, stack_of, take_found as plain_take_found}
use Rattle.plain_book.specs.Key.{Place}
use Rattle.plain_book.specs.Book.{freed_in}
use Rattle.plain_book.specs.Owners.{Owner, hand, stack, slab_of, page_of, at_depth, has}
use Rattle.plain_book.specs.Good.{Good}
use Rattle.plain_book.proofs.LawsOwners.{none_some, with_stack, stack_same, stack_other, changed_has}
use Rattle.plain_book.proofs.LawsRunFreed.{in_depth}
use Rattle.book_space.specs.Space.{Space, space, take_found}
use Rattle.book_history.specs.Agrees.{under, Contents, BlockReads, Stored, AgreesSpace}
use Rattle.book_history.proofs.LawsFrame.{block_of}
use Rattle.book_history.proofs.LawsPush.{tops_changed}
use Rattle.book_history.proofs.LawsTake.{TakenAlike, taken_alike, part_start, mark_run_agrees}
use Rattle.book_history.proofs.LawsFreeLists.{free_list_under, free_list_is, freed_pages_lem, mark_within, body_small, freed_walked}

module _ (plain : PlainSpace) (s : Space) (at : ℕ → Place) (c : Contents) (g : Good plain at none) (a : AgreesSpace plain s at none c)
    (off pages : ℕ)
  where
    -- the pages that are left, and both spaces with them
    abbrev pub left : List ℕ
    left = without_run off pages (stack_of page_class plain)

    abbrev pub plain_left : PlainSpace
    plain_left = with_stack page_class left plain

    abbrev pub space_left : Space
    space_left = space (relinked left s.body) s.mark (set s.free page_class (top_of left))

    in_stacks : page_class < length plain.stacks
    in_stacks = omega (arith, g.nine)

    -- a page that is left is a freed one
    was_freed : (o : ℕ) → is_in o left ≡ true
        → (d : ℕ) × (has plain at none (stack page_class d) ≡ some (record { class = page_class; off = o }))
    unfolding has
    was_freed o e = in_depth page_class o (stack_of page_class plain) (left_among off (off + pages * page_size) o (stack_of page_class plain) e)

    -- its link lies in the body
    link_fits : (o : ℕ) → is_in o left ≡ true → o + 8 ≤ length s.body
    link_fits o e =
        let (d, mine) = was_freed o e in
        let ends = (block_stands page_class o plain.mark (g.apart.stands (stack page_class d) _ mine)).ends in
        let within = a.within in
        omega arith

    -- The body stays as long as it was.
    pub unlinked_long : length space_left.body ≡ length s.body
    unlinked_long = length_relinked left s.body link_fits

    -- The blocks of others than freed pages stay.
    block_stays : (w : Owner) (x : Block) → ((d : ℕ) → w ≢ stack page_class d) → has plain at none w ≡ some x
        → block_of (relinked left s.body) x ≡ block_of s.body x
    block_stays w x n e =
        linked_part s.body left x.off (slab_bytes x.class)
        (λ o i.
        let (d, mine) = was_freed o i in (
          link_fits o i,
          ⊎_elim (λ (l : x.off + slab_bytes x.class ≤ o). inl l) (λ (l : o + slab_bytes page_class ≤ x.off). inr (omega arith))
              (g.apart.apart w (stack page_class d) x (record { class = page_class; off = o }) (n d) e mine),
        ))

    -- A page that is left names the one under it then.
    left_reads : (d : ℕ) (x : Block) → at_depth page_class d left ≡ some x
        → little_endian (part (block_of (relinked left s.body) x) 0 8) ≡ under d left
    left_reads d x e =
        let names : IsFreeList (relinked left s.body) (top_of left) left =
        left_named s.mark s.body (mark_within plain s at c g a) (body_small plain s at c g a) (get_or s.free page_class 0)
        (stack_of page_class plain) (freed_pages_lem plain s at c g a) (free_list_is plain s at c g a page_class) off (off + pages * page_size) in
        ap little_endian (part_start (relinked left s.body) x.off (slab_bytes x.class) 8 (omega (arith, bytes_from_16 x.class)))
        ∙ free_list_under (relinked left s.body) (top_of left) page_class d left x names e

    stored : Stored (has plain_left at none) (BlockReads plain_left c) (relinked left s.body)
    unfolding has
    stored v x e =
        ⊎_elim
        (λ (depth, here, found).
        subst (λ (w : Owner). BlockReads plain_left c w (block_of (relinked left s.body) x)) (sym here)
        (left_reads depth x found ∙ sym (ap (under depth) (stack_same plain page_class left in_stacks))))
        (λ (n, found). other v n found)
        (changed_has plain page_class left in_stacks at none v x e)
      where
        kept : (w : Owner) → ((d : ℕ) → w ≢ stack page_class d) → has plain at none w ≡ some x
            → BlockReads plain c w (block_of (relinked left s.body) x)
        kept w n h = subst (BlockReads plain c w) (sym (block_stays w x n h)) (a.stored w x h)

        other : (w : Owner) → ((d : ℕ) → w ≢ stack page_class d) → has plain at none w ≡ some x
            → BlockReads plain_left c w (block_of (relinked left s.body) x)
        other hand n h = absurd (none_some h)
        other (slab_of k) n h = kept (slab_of k) n h
        other (page_of k i) n h = kept (page_of k i) n h
        other (stack k d) n h =
            kept (stack k d) n h
            ∙ sym (ap (under d) (stack_other plain page_class left in_stacks k (λ z. n d (ap (λ (j : ℕ). stack j d) z))))

    -- The stack of pages is another in both spaces.
    pub unlinked_agrees : AgreesSpace plain_left space_left at none c
    unlinked_agrees =
        record {
          mark = a.mark;
          nine = length-set s.free page_class (top_of left) ∙ a.nine;
          tops = tops_changed plain s.free page_class (top_of left) left in_stacks (omega (arith, a.nine)) refl a.tops;
          within = rw unlinked_long a.within;
          small = rw unlinked_long a.small;
          stored = stored;
        }

-- ---- the run of a load

-- A run is taken where both searches led: out of the freed pages, or else at the mark. Nothing is in hand.
pub found_agrees : (plain : PlainSpace) (s : Space) (at : ℕ → Place) (c : Contents) (pages : ℕ) → Good plain at none
    → length s.body % 4096 ≡ 0 → AgreesSpace plain s at none c → (found : Option ℕ)
    → TakenAlike at (λ off. none) c (length s.body) (plain_take_found (length s.body) pages plain found)
    (take_found pages (freed_in plain) s found)
unfolding plain_take_found take_found
found_agrees plain s at c pages g whole a none = mark_run_agrees plain s at c pages g whole a
found_agrees plain s at c pages g whole a (some off) =
    rw (freed_walked plain s at c g a)
    (taken_alike refl (unlinked_long plain s at c g a off pages) (unlinked_agrees plain s at c g a off pages))
