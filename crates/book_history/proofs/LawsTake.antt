-- Taking in both spaces: a freed block, a block at the mark, the gap before a page carved, and a run of pages. Assumes nothing.
use Prim.Native.Nat.{ℕ, ◌+◌, ◌-◌, ◌*◌, ◌%◌, ◌≤◌, ◌<◌, min}
use mathlib.Core.Bool.{Bool, true, false, cond, not, ◌&&◌, false≢true}
use mathlib.Core.List.{List, [], ◌∷◌}
use mathlib.Core.Logic.{⊎_elim, ◌≢◌}
use mathlib.Core.Option.{Option, none, some}
use mathlib.Core.Path.{◌≡◌, refl, sym, ap, subst, ◌∙◌}
use native.Mathlib.Omega.{arith}
use lib.Dec.{ltb, eqb}
use lib.ListN.{length, get_or, set, length-set, drop}
use lib.Seq.{take-take}
use borrow.Author.Tests.{ltb-false, ltb-true}
use Rattle.error.specs.Refusal.{Answer, accepted, refused, refuse_if, and_then, free_head_bad, no_room}
use Rattle.error.proofs.LawsAnswer.{then_yes, then_no}
use Rattle.buffer.specs.Bytes.{part}
use Rattle.buffer.specs.LittleEndian.{little_endian}
use Rattle.scripthash_layout.specs.Sizes.{slab_bytes, page_class, page_size}
use Rattle.scripthash_free.specs.FreeList.{Block, is_block, Adjoin, Each, IsSlab, gap_blocks, next_of, pushed, push_all}
use Rattle.scripthash_free.proofs.LawsBlock.{bytes_from_16, block_stands, stands_block, no_block, slab_stands}
use Rattle.scripthash_free.proofs.LawsGap.{gap_filled, gap_slabs, adjoin_rises}
use Rattle.scripthash_free.proofs.LawsFree.{pop_none, pop_yes, pop_no}
use Rattle.free_runs.specs.PageList.{top_of}
use Rattle.book_limits.specs.Limits.{slabs_end, page_after, gap_end, pop_end, past_slabs}
use Rattle.book_limits.proofs.LawsLimits.{gap_end_lem}
use Rattle.plain_book.specs.Space.{Space as PlainSpace, Taken as PlainTaken, stack_of, freed, freed_all, run_at_mark as plain_run_at_mark}
use Rattle.plain_book.specs.Space.{take_mark as plain_take_mark, take_slab as plain_take_slab, rounded as plain_rounded}
use Rattle.plain_book.specs.Space.{take_fresh as plain_take_fresh, take_from, take_block as plain_take}
use Rattle.plain_book.specs.Key.{Place}
use Rattle.plain_book.specs.Owners.{Owner, hand, stack, slab_of, page_of, at_depth, has}
use Rattle.plain_book.specs.Good.{Good}
use Rattle.plain_book.proofs.LawsOwners.{none_some, kind_of, deep_none, top_is, under_top, with_stack, stack_same, stack_other, changed_has}
use Rattle.plain_book.proofs.LawsOwners.{good_marked}
use Rattle.plain_book.proofs.LawsTaking.{good_carved_one, freed_stacks}
use Rattle.book_space.specs.Space.{Space, space, lists_of, Taken, take_mark, take_slab, rounded, take_fresh, take_popped, take_block as takes}
use Rattle.book_space.specs.Space.{run_at_mark, release}
use Rattle.book_history.specs.Agrees.{under, Contents, BlockReads, Stored, AgreesSpace}
use Rattle.book_history.proofs.LawsFrame.{stored_same}
use Rattle.book_history.proofs.LawsPush.{FromOther, under_pushed, under_kept, top_stands, tops_changed, release_long, push_agrees}

-- ---- takes alike

-- What blocks read as when what is in hand may read as anything.
abbrev pub any_hand : Contents → Contents
any_hand c = record { in_hand = λ block. Unit {0}; slabs = c.slabs; pages = c.pages }

-- What two takes answer is alike: both give one offset, the body stays so long, and the spaces agree with what is then in hand; or both are
-- refused by one number.
pub data TakenAlike (at : ℕ → Place) (held : ℕ → Option Block) (c : Contents) (long : ℕ) : Answer PlainTaken → Answer Taken → Type 0 where
  taken_alike : {t : PlainTaken} {u : Taken} → u.off ≡ t.off → length u.space.body ≡ long
      → AgreesSpace t.space u.space at (held t.off) c
      → TakenAlike at held c long (accepted t) (accepted u)
  refused_taken : {number : ℕ} → TakenAlike at held c long (refused number) (refused number)

-- A block of a class in hand.
abbrev pub in_hand_of : ℕ → ℕ → Option Block
in_hand_of class off = some (record { class = class; off = off })

-- Two calls go on after takes alike: refused alike, or from what was taken.
pub taken_then : {A B : Type 0} (P : Answer A → Answer B → Type 0) (at : ℕ → Place) (held : ℕ → Option Block) (c : Contents) (long : ℕ)
    (x : Answer PlainTaken) (y : Answer Taken) (f : PlainTaken → Answer A) (g : Taken → Answer B)
    → ((number : ℕ) → P (refused number) (refused number))
    → ((t : PlainTaken) (u : Taken) → x ≡ accepted t → y ≡ accepted u → u.off ≡ t.off → length u.space.body ≡ long
    → AgreesSpace t.space u.space at (held t.off) c → P (f t) (g u))
    → TakenAlike at held c long x y → P (and_then x f) (and_then y g)
unfolding and_then
taken_then P at held c long x y f g no' go (taken_alike {t} {u} off is a) = go t u refl refl off is a
taken_then P at held c long x y f g no' go (refused_taken {number}) = no' number

-- ---- a freed block

-- The first bytes of a part.
pub part_start : (b : List ℕ) (o k n : ℕ) → n ≤ k → part (part b o k) 0 n ≡ part b o n
unfolding part
part_start b o k n l = take-take n k (drop o b) l

module _ (plain : PlainSpace) (s : Space) (at : ℕ → Place) (c : Contents) (class o : ℕ) (os : List ℕ) (to_8 : class ≤ 8)
    (g : Good plain at none)
    (a : AgreesSpace plain s at none c) (is : stack_of class plain ≡ o ∷ os) where
  in_stacks : class < length plain.stacks
  in_stacks = omega (arith, g.nine)

  -- the freed block names the next
  next_is : next_of s.body o ≡ top_of os
  unfolding has
  next_is =
      let reads = a.stored (stack class (length os)) (record { class = class; off = o })
      (ap (at_depth class (length os)) is ∙ top_is class o os) in
      ap little_endian (sym (part_start s.body o (slab_bytes class) 8 (omega (arith, bytes_from_16 class)))) ∙ reads
      ∙ ap (under (length os)) is ∙ under_pushed o os

  -- who had a block before
  abbrev From : Block → Owner → Type 0
  From x v =
      (u : Owner) × (has plain at none u ≡ some x) × ((block : List ℕ) → BlockReads plain c u block
      → BlockReads (with_stack class os plain) (any_hand c) v block)

  popped_from : (v : Owner) (x : Block) → has (with_stack class os plain) at (in_hand_of class o) v ≡ some x → From x v
  unfolding has
  popped_from v x e =
      ⊎_elim
      (λ (depth, here, found).
      let l = deep_none class depth os x found in
      let same : under depth (stack_of class plain) ≡ under depth (stack_of class (with_stack class os plain)) =
      ap (under depth) is ∙ under_kept depth o os (λ z. omega arith) ∙ sym (ap (under depth) (stack_same plain class os in_stacks)) in
      subst (From x) (sym here) (stack class depth, ap (at_depth class depth) is ∙ under_top class depth o os x found, λ b r. r ∙ same))
      (λ (n, found). other v n found)
      (changed_has plain class os in_stacks at (in_hand_of class o) v x e)
    where
      other : (v : Owner) → ((depth : ℕ) → v ≢ stack class depth) → has plain at (in_hand_of class o) v ≡ some x → From x v
      other hand n h = (stack class (length os), ap (at_depth class (length os)) is ∙ top_is class o os ∙ h, λ b r. tt)
      other (slab_of k) n h = (slab_of k, h, λ b r. r)
      other (page_of k i) n h = (page_of k i, h, λ b r. r)
      other (stack k d) n h =
          let same = stack_other plain class os in_stacks k (λ z. n d (ap (λ (j : ℕ). stack j d) z)) in
          (stack k d, h, λ b r. r ∙ sym (ap (under d) same))

  -- The top of a stack comes to hand.
  pub popped_agrees : AgreesSpace (with_stack class os plain) (space s.body s.mark (set s.free class (next_of s.body o)))
      at (in_hand_of class o) (any_hand c)
  popped_agrees =
      record {
        mark = a.mark;
        nine = length-set s.free class (next_of s.body o) ∙ a.nine;
        tops = tops_changed plain s.free class (next_of s.body o) os in_stacks (omega (arith, a.nine)) next_is a.tops;
        within = a.within;
        small = a.small;
        stored =
            stored_same (has plain at none) (has (with_stack class os plain) at (in_hand_of class o)) (BlockReads plain c)
            (BlockReads (with_stack class os plain) (any_hand c)) s.body
            popped_from a.stored;
      }

  -- the free head is the top, which a take pops
  head_is : get_or s.free class 0 ≡ o
  head_is = a.tops class ∙ ap top_of is

  -- it stands below the mark, and where it doesn't end past the end of slabs, below the end of what is popped
  top_good : is_block class o plain.mark ≡ true
  top_good = top_stands plain at none class o os g is

  pop_end_lem : (page : Bool) → eqb class page_class ≡ page → not page && ltb slabs_end (o + slab_bytes class) ≡ false
      → is_block class o (min (cond page s.mark (min s.mark slabs_end)) (length s.body)) ≡ true
  pop_end_lem true e low =
      let b = block_stands class o plain.mark top_good in
      stands_block class o _
      (record {
        class_to_8 = b.class_to_8;
        aligned = b.aligned;
        begins = b.begins;
        ends = omega
            (arith, b.ends, a.mark, a.within);
      })
  pop_end_lem false e low =
      let b = block_stands class o plain.mark top_good in
      let ends = ltb-false slabs_end (o + slab_bytes class) low in
      stands_block class o _
      (record {
        class_to_8 = b.class_to_8;
        aligned = b.aligned;
        begins = b.begins;
        ends = omega
            (arith, b.ends, a.mark, a.within);
      })

  pop_past : (page : Bool) → eqb class page_class ≡ page → not page && ltb slabs_end (o + slab_bytes class) ≡ true
      → is_block class o (min (cond page s.mark (min s.mark slabs_end)) (length s.body)) ≡ false
  pop_past true e past = absurd (false≢true past)
  pop_past false e past =
      let far = ltb-true slabs_end (o + slab_bytes class) past in
      no_block class o _ (λ t. omega (arith, t.ends, far))

  head_good : past_slabs class o ≡ false → is_block class (get_or s.free class 0) (min (pop_end class s.mark) (length s.body)) ≡ true
  unfolding past_slabs pop_end
  head_good low = rw head_is (pop_end_lem (eqb class page_class) refl low)

  head_past : past_slabs class o ≡ true → is_block class (get_or s.free class 0) (min (pop_end class s.mark) (length s.body)) ≡ false
  unfolding past_slabs pop_end
  head_past past = rw head_is (pop_past (eqb class page_class) refl past)

  head_some : get_or s.free class 0 ≢ 0
  head_some z = omega (arith, (block_stands class o plain.mark top_good).begins, head_is)

  abbrev popped_at : ℕ → Taken
  popped_at off = record { off = off; space = space s.body s.mark (set s.free class (next_of s.body off)) }

  take_past : past_slabs class o ≡ true → takes class s ≡ refused free_head_bad
  unfolding takes
  take_past past =
      then_no _ (λ p. take_popped class s p.block p.heads)
      (pop_no class (pop_end class s.mark) (lists_of s) to_8 head_some (head_past past))

  take_pops : past_slabs class o ≡ false → takes class s ≡ accepted (popped_at o)
  unfolding takes take_popped
  take_pops low =
      let at_head : takes class s ≡ accepted (popped_at (get_or s.free class 0)) =
      then_yes _ (λ p. take_popped class s p.block p.heads)
      (pop_yes class (pop_end class s.mark) (lists_of s) to_8 head_some (head_good low)) in
      at_head ∙ ap (λ (off : ℕ). accepted (popped_at off)) head_is

-- ---- at the mark

-- The mark passes some bytes.
pub passed_agrees : (plain : PlainSpace) (s : Space) (at : ℕ → Place) (held : Option Block) (c : Contents) (bytes : ℕ)
    → plain.mark + bytes ≤ length s.body
    → AgreesSpace plain s at held c → AgreesSpace (record { mark = plain.mark + bytes; stacks = plain.stacks })
    (space s.body (s.mark + bytes) s.free) at held c
unfolding has
passed_agrees plain s at held c bytes fits a =
    record { mark = ap (λ (m : ℕ). m + bytes) a.mark; nine = a.nine; tops = a.tops; within = fits; small = a.small; stored = stored }
  where
    stored : Stored (has (record { mark = plain.mark + bytes; stacks = plain.stacks }) at held)
        (BlockReads (record { mark = plain.mark + bytes; stacks = plain.stacks }) c) s.body
    stored hand x e = a.stored hand x e
    stored (stack k d) x e = a.stored (stack k d) x e
    stored (slab_of k) x e = a.stored (slab_of k) x e
    stored (page_of k i) x e = a.stored (page_of k i) x e

-- A block comes to hand, of which nothing is asked.
pub hand_any : (plain : PlainSpace) (s : Space) (at : ℕ → Place) (c : Contents) (x : Block) → AgreesSpace plain s at none c
    → AgreesSpace plain s at (some x) (any_hand c)
unfolding has
hand_any plain s at c x a = record { mark = a.mark; nine = a.nine; tops = a.tops; within = a.within; small = a.small; stored = stored }
  where
    stored : Stored (has plain at (some x)) (BlockReads plain (any_hand c)) s.body
    stored hand y e = tt
    stored (stack k d) y e = a.stored (stack k d) y e
    stored (slab_of k) y e = a.stored (slab_of k) y e
    stored (page_of k i) y e = a.stored (page_of k i) y e

-- Some bytes are taken at the mark.
pub mark_agrees : (plain : PlainSpace) (s : Space) (at : ℕ → Place) (c : Contents) (long bytes : ℕ) → length s.body ≡ long
    → AgreesSpace plain s at none c
    → TakenAlike at (λ off. none) c long (plain_take_mark long bytes plain) (take_mark bytes s)
unfolding plain_take_mark take_mark refuse_if
mark_agrees plain s at c long bytes is a = rw (is, a.mark) (go (ltb long (plain.mark + bytes)) refl)
  where
    go : (t : Bool) → ltb long (plain.mark + bytes) ≡ t
        → TakenAlike at (λ off. none) c long
        (cond t (refused no_room) (accepted (record {
          off = plain.mark;
          space =
              record { mark = plain.mark + bytes; stacks = plain.stacks };
        })))
        (cond t (refused no_room) (accepted (record { off = plain.mark; space = space s.body (plain.mark + bytes) s.free })))
    go true e = refused_taken
    go false e =
        taken_alike refl is
        (subst (λ (m : ℕ). AgreesSpace (record { mark = plain.mark + bytes; stacks = plain.stacks })
        (space s.body (m + bytes) s.free) at none c) a.mark
        (passed_agrees plain s at none c bytes (omega (arith, ltb-false long (plain.mark + bytes) e)) a))

-- What was taken at the mark is in hand.
hand_alike : (at : ℕ → Place) (c : Contents) (class long : ℕ) (x : Answer PlainTaken) (y : Answer Taken)
    → TakenAlike at (λ off. none) c long x y
    → TakenAlike at (in_hand_of class) (any_hand c) long x y
hand_alike at c class long x y (taken_alike {t} {u} off is a) =
    taken_alike off is (hand_any t.space u.space at c (record { class = class; off = t.off }) a)
hand_alike at c class long x y refused_taken = refused_taken

-- ---- carving the gap before a page

-- Space over bytes with blocks pushed, and another mark.
abbrev pushed_to : ℕ → List Block → Space → Space
pushed_to mark bs s = space (push_all bs (lists_of s)).body mark (push_all bs (lists_of s)).heads

-- A plain space with blocks freed, and another mark.
abbrev freed_to : ℕ → List Block → PlainSpace → PlainSpace
freed_to mark bs plain = record { mark = mark; stacks = (freed_all bs plain).stacks }

-- Spaces agree, and the body is so long.
abbrev AgreesLong : PlainSpace → Space → (ℕ → Place) → Contents → ℕ → Type 0
AgreesLong plain s at c long = AgreesSpace plain s at none c × (length s.body ≡ long)

-- A block at the mark goes onto its stack, and the mark passes it.
carved_one : (plain : PlainSpace) (s : Space) (at : ℕ → Place) (c : Contents) (b : Block) → b.off ≡ plain.mark → b.class ≤ 7
    → plain.mark + slab_bytes b.class ≤ length s.body → Good plain at none → AgreesSpace plain s at none c
    → AgreesLong (freed_to (plain.mark + slab_bytes b.class) (b ∷ []) plain) (pushed_to (s.mark + slab_bytes b.class) (b ∷ []) s) at c
    (length s.body)
unfolding has release push_all pushed freed_all
carved_one plain s at c b is to-7 fits g a = (agrees, release_long b.class b.off past (rw is fits))
  where
    far : ℕ
    far = plain.mark + slab_bytes b.class

    farther : PlainSpace
    farther = record { mark = far; stacks = plain.stacks }

    past : Space
    past = space s.body (s.mark + slab_bytes b.class) s.free

    good : Good farther at (some b)
    good =
        subst (λ (o : ℕ). Good farther at (some (record { class = b.class; off = o }))) (sym is)
        (good_marked plain at b.class (slab_stands b.class plain.mark far to-7 g.aligned g.from (omega arith)) g)

    agrees : AgreesSpace (freed b.class b.off farther) (release (b ∷ []) past) at none c
    agrees =
        push_agrees farther past at at (some b) none (any_hand c) c hand b.class b.off (omega arith) good
        (hand_any farther past at c b (passed_agrees plain s at none c (slab_bytes b.class) fits a))
        (λ k d q. (let z = ap kind_of q in omega arith)) refl rest
      where
        rest : (v : Owner) (x : Block) → ((k d : ℕ) → v ≢ stack k d) → has farther at none v ≡ some x
            → FromOther farther at (some b) (any_hand c) hand x (BlockReads farther c v)
        rest hand x n h = absurd (none_some h)
        rest (stack k d) x n h = absurd (n k d refl)
        rest (slab_of k) x n h = (slab_of k, (λ q. (let z = ap kind_of q in omega arith)), h, λ b r. r)
        rest (page_of k i) x n h = (page_of k i, (λ q. (let z = ap kind_of q in omega arith)), h, λ b r. r)

-- A slab's bytes are taken at the mark.
slab_agrees : (plain : PlainSpace) (s : Space) (at : ℕ → Place) (c : Contents) (long bytes : ℕ) → length s.body ≡ long
    → AgreesSpace plain s at none c
    → TakenAlike at (λ off. none) c long (plain_take_slab long bytes plain) (take_slab bytes s)
unfolding plain_take_slab take_slab refuse_if
slab_agrees plain s at c long bytes is a =
    subst (λ (m : ℕ). TakenAlike at (λ off. none) c long
    (cond (ltb slabs_end (plain.mark + bytes)) (refused no_room) (plain_take_mark long bytes plain))
    (cond (ltb slabs_end (m + bytes)) (refused no_room) (take_mark bytes s))) (sym a.mark) (go (ltb slabs_end (plain.mark + bytes)))
  where
    go : (t : Bool) → TakenAlike at (λ off. none) c long
        (cond t (refused no_room) (plain_take_mark long bytes plain)) (cond t (refused no_room) (take_mark bytes s))
    go true = refused_taken
    go false = mark_agrees plain s at c long bytes is a

-- Blocks side by side from the mark on go onto their stacks, and the mark passes them.
carved : (bs : List Block) (plain : PlainSpace) (s : Space) (at : ℕ → Place) (c : Contents) (end : ℕ) → Adjoin plain.mark bs end
    → Each (IsSlab end) bs
    → end ≤ length s.body → Good plain at none → AgreesSpace plain s at none c
    → AgreesLong (freed_to end bs plain) (pushed_to end bs s) at c (length s.body)
unfolding Adjoin Each freed_all push_all
carved [] plain s at c end here each fits g a =
    let there : AgreesSpace plain (space s.body plain.mark s.free) at none c =
    subst (λ (m : ℕ). AgreesSpace plain (space s.body m s.free) at none c) a.mark a in
    (subst (λ (m : ℕ). AgreesSpace (record { mark = m; stacks = plain.stacks }) (space s.body m s.free) at none c) here there, refl)
carved (b ∷ bs) plain s at c end (is, next) (b7, each) fits g a =
    let far = plain.mark + slab_bytes b.class in
    let (one, long) = carved_one plain s at c b is b7.0 (omega (arith, adjoin_rises far bs end next)) g a in
    let (all, longs) =
    carved bs (freed_to far (b ∷ []) plain) (pushed_to (s.mark + slab_bytes b.class) (b ∷ []) s) at c end next each (rw long fits)
    (good_carved_one plain at none b.class b.off is b7.0 g) one in (
      subst (λ (st : List (List ℕ)). AgreesSpace (record { mark = end; stacks = st }) (pushed_to end (b ∷ bs) s) at none c)
          (freed_stacks bs far plain.mark (freed b.class b.off plain).stacks)
          all,
      longs ∙ long,
    )

-- The mark is rounded up to a page.
pub rounded_agrees : (plain : PlainSpace) (s : Space) (at : ℕ → Place) (c : Contents) → Good plain at none → length s.body % 4096 ≡ 0
    → AgreesSpace plain s at none c
    → AgreesSpace (plain_rounded plain) (rounded s) at none c × (length (rounded s).body ≡ length s.body)
unfolding plain_rounded rounded
rounded_agrees plain s at c g whole a =
    let end = gap_end plain.mark in
    let to = gap_end_lem plain.mark g.aligned in
    let (all, long) = carved (gap_blocks plain.mark end) plain s at c end
    (gap_filled plain.mark end to.from to.whole)
    (gap_slabs plain.mark end end to.from (record { aligned = g.aligned; begins = g.from; ends = omega arith }))
    (omega (arith, a.within, to.within)) g a in
    let rest : end + (page_after plain.mark - end) ≡ page_after plain.mark = omega (arith, to.within) in
    rw a.mark (
      rw rest at (passed_agrees (freed_to end (gap_blocks plain.mark end) plain) (pushed_to end (gap_blocks plain.mark end) s) at none c
          (page_after plain.mark - end) (rw long (omega (arith, a.within, to.within))) all),
      long,
    )

-- ---- takes

-- A run of pages is taken at the mark: nothing is in hand, and the mark has passed it.
pub mark_run_agrees : (plain : PlainSpace) (s : Space) (at : ℕ → Place) (c : Contents) (pages : ℕ) → Good plain at none
    → length s.body % 4096 ≡ 0
    → AgreesSpace plain s at none c → TakenAlike at (λ off. none) c (length s.body) (plain_run_at_mark (length s.body) pages plain)
    (run_at_mark pages s)
unfolding plain_run_at_mark run_at_mark
mark_run_agrees plain s at c pages g whole a =
    let (all, long) = rounded_agrees plain s at c g whole a in
    mark_agrees (plain_rounded plain) (rounded s) at c (length s.body) (pages * page_size) long all

-- A block of a class is taken, and is in hand.
pub take_agrees : (plain : PlainSpace) (s : Space) (at : ℕ → Place) (c : Contents) (class : ℕ) → class ≤ 8 → Good plain at none
    → length s.body % 4096 ≡ 0
    → AgreesSpace plain s at none c
    → TakenAlike at (in_hand_of class) (any_hand c) (length s.body) (plain_take (length s.body) class plain) (takes class s)
unfolding takes take_from take_popped plain_take_fresh take_fresh refuse_if
take_agrees plain s at c class to_8 g whole a = from_stack (stack_of class plain) refl
  where
    fresh : (t : Bool) → TakenAlike at (in_hand_of class) (any_hand c) (length s.body)
        (cond t (plain_run_at_mark (length s.body) 1 plain) (plain_take_slab (length s.body) (slab_bytes class) plain))
        (cond t (run_at_mark 1 s) (take_slab (slab_bytes class) s))
    fresh true = hand_alike at c class (length s.body) _ _ (mark_run_agrees plain s at c 1 g whole a)
    fresh false = hand_alike at c class (length s.body) _ _ (slab_agrees plain s at c (length s.body) (slab_bytes class) refl a)

    from_stack : (os : List ℕ) → stack_of class plain ≡ os
        → TakenAlike at (in_hand_of class) (any_hand c) (length s.body) (take_from (length s.body) class os plain) (takes class s)
    from_stack [] e = rw (then_yes _ (λ p. take_popped class s p.block p.heads)
        (pop_none class (pop_end class s.mark) (lists_of s) to_8 (a.tops class ∙ ap top_of e))) (fresh (eqb class page_class))
    from_stack (o ∷ os) e = go (past_slabs class o) refl
      where
        go : (t : Bool) → past_slabs class o ≡ t → TakenAlike at (in_hand_of class) (any_hand c) (length s.body)
            (take_from (length s.body) class (o ∷ os) plain) (takes class s)
        go true p = rw (take_past plain s at c class o os to_8 g a e p, p) refused_taken
        go false p =
            rw (take_pops plain s at c class o os to_8 g a e p, p)
            (taken_alike refl refl (popped_agrees plain s at c class o os to_8 g a e))
