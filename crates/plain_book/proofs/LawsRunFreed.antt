-- A run of pages taken out of the freed ones, or else at the mark: what is left of the stack of pages, and that the run is nobody's then.
-- Assumes nothing.
use Prim.Native.Nat.{ℕ, ◌+◌, ◌-◌, ◌*◌, ◌/◌, ◌%◌, ◌≤◌, ◌<◌}
use mathlib.Core.Bool.{Bool, true, false, true≢false}
use mathlib.Core.List.{List, [], ◌∷◌}
use mathlib.Core.Logic.{◌⊎◌, inl, inr, ⊎_elim, ◌≢◌}
use mathlib.Core.Option.{Option, none, some}
use mathlib.Core.Path.{◌≡◌, refl, sym, ap, subst, ◌∙◌}
use native.Mathlib.Omega.{arith}
use lib.Dec.{eqb, ltb}
use lib.ListN.{length, take, length-set}
use borrow.Author.Tests.{eqb-true, le-leb, lt-ltb, ltb-true}
use Rattle.buffer.proofs.LawsOrder.{lt_or_ge}
use Rattle.error.specs.Refusal.{accepted, refused, refuse_if, refusal_of, no_room}
use Rattle.error.proofs.LawsAnswer.{refused≢accepted, refuse_yes}
use Rattle.compact.specs.Uleb128.{uleb_len}
use Rattle.scripthash_layout.specs.Sizes.{slab_bytes, page_class, page_size}
use Rattle.scripthash_cutting.specs.Cutting.{page_room, last_page_room, fitting, first_part, greedy_parts, greedy, replace_last, cutting}
use Rattle.scripthash_cutting.proofs.LawsCutting.{greedy_some}
use Rattle.scripthash_free.specs.FreeList.{Block, Disjoint, is_block}
use Rattle.scripthash_free.proofs.LawsBlock.{block_stands, not_holds, bytes_from_16}
use Rattle.free_runs.specs.Runs.{is_in, in_run, left_of, without_run, lowest, Freed}
use Rattle.free_runs.proofs.LawsRuns.{either, lowest_found, lowest_none}
use Rattle.free_runs.proofs.LawsLinks.{left_kept, left_taken, left_among, in_first, in_rest}
use Rattle.free_runs.proofs.LawsStack.{AllPages, Distinct, left_distinct, left_count}
use Rattle.book_limits.specs.Limits.{page_after}
use Rattle.plain_book.specs.Space.{Space, stack_of, Taken, take_mark, rounded, run_at_mark, run_freed, take_found, take_run}
use Rattle.plain_book.specs.Key.{Place}
use Rattle.plain_book.specs.Owners.{Owner, hand, stack, slab_of, page_of, at_depth, has, Apart, RunClear}
use Rattle.plain_book.specs.Good.{Good}
use Rattle.plain_book.proofs.LawsOwners.{some_inj, none_some, depth_of, deep_none, top_is, below_top, under_top}
use Rattle.plain_book.proofs.LawsOwners.{with_stack, changed_has}
use Rattle.plain_book.proofs.LawsTaking.{good_raised, good_rounded, rounded_mark, took_mark, took_run}

-- ---- a stack by its offsets and by its depths

-- An offset that stands in a stack stands at a depth,
pub in_depth : (class o : ℕ) (os : List ℕ) → is_in o os ≡ true
    → (depth : ℕ) × (at_depth class depth os ≡ some (record { class = class; off = o }))
unfolding is_in
in_depth class o [] e = absurd (true≢false (sym e))
in_depth class o (x ∷ os) e =
    ⊎_elim
    (λ (q : eqb x o ≡ true). (
      length os,
      top_is class x os ∙ ap (λ (y : ℕ). some (record { class = class; off = y })) (eqb-true x o q),
    ))
    (λ (q : is_in o os ≡ true). let (depth, found) = in_depth class o os q in (depth, under_top class depth x os _ found))
    (either (eqb x o) (is_in o os) e)

-- and what stands at a depth is one of them, of the stack's class.
pub depth_in : (class depth : ℕ) (os : List ℕ) (x : Block) → at_depth class depth os ≡ some x
    → (is_in x.off os ≡ true) × (x ≡ record { class = class; off = x.off })
unfolding at_depth
depth_in class depth [] x e = absurd (none_some e)
depth_in class depth (o ∷ os) x e =
    ⊎_elim
    (λ (top, block).
    let is : x.off ≡ o = ap (λ (z : Block). z.off) block in
    (rw is (in_first o os), block ∙ ap (λ (y : ℕ). record { class = class; off = y }) (sym is)))
    (λ (n, under). let (there, block) = depth_in class depth os x under in (in_rest x.off o os there, block))
    (below_top class depth o os x e)

-- In a stack that holds no offset twice, an offset stands at one depth.
pub one_depth : (class d e : ℕ) (os : List ℕ) (x y : Block) → Distinct os → at_depth class d os ≡ some x → at_depth class e os ≡ some y
    → x.off ≡ y.off → d ≡ e
unfolding at_depth Distinct
one_depth class d e [] x y u f g is = absurd (none_some f)
one_depth class d e (o ∷ os) x y (other, u) f g is =
    ⊎_elim
    (λ (top, block).
    ⊎_elim (λ (top', block'). top ∙ sym top')
    (λ (n', under'). absurd (twice (sym (ap (λ (z : Block). z.off) block) ∙ is) (depth_in class e os y under').0))
    (below_top class e o os y g))
    (λ (n, under).
    ⊎_elim (λ (top', block'). absurd (twice (sym (ap (λ (z : Block). z.off) block') ∙ sym is) (depth_in class d os x under).0))
    (λ (n', under'). one_depth class d e os x y u under under' is)
    (below_top class e o os y g))
    (below_top class d o os x f)
  where
    twice : {p : ℕ} → o ≡ p → is_in p os ≡ true → ⊥
    twice {p} z there = true≢false (sym there ∙ subst (λ (q : ℕ). is_in q os ≡ false) z other)

-- ---- the stack of pages

-- A stack of pages whose blocks stand apart.
pages_apart : (mark : ℕ) (f : Owner → Option Block) (os : List ℕ)
    → ((depth : ℕ) (x : Block) → at_depth page_class depth os ≡ some x → f (stack page_class depth) ≡ some x)
    → Apart mark f → AllPages mark os × Distinct os
unfolding AllPages Distinct
pages_apart mark f [] to p = (tt, tt)
pages_apart mark f (o ∷ os) to p =
    let (all, apart) = pages_apart mark f os (λ depth x e. to depth x (under_top page_class depth o os x e)) p in
    let top = to (length os) (record { class = page_class; off = o }) (top_is page_class o os) in (
      (p.stands (stack page_class (length os)) (record { class = page_class; off = o }) top, all),
      (
        not_holds _ (λ there.
            let (depth, found) = in_depth page_class o os there in
            let low = deep_none page_class depth os _ found in
            let both : Disjoint (record { class = page_class; off = o }) (record { class = page_class; off = o }) =
            p.apart (stack page_class (length os)) (stack page_class depth) _ _ (λ q. (let z = ap depth_of q in omega arith)) top
            (to depth _ (under_top page_class depth o os _ found)) in
            ⊎_elim (λ (h : o + slab_bytes page_class ≤ o). omega arith) (λ (h : o + slab_bytes page_class ≤ o). omega arith) both),
        apart,
      ),
    )

-- The freed pages of a good space are pages below the mark, and no two are equal.
pub stack_pages : (s : Space) (at : ℕ → Place) (held : Option Block) → Good s at held
    → AllPages s.mark (stack_of page_class s) × Distinct (stack_of page_class s)
unfolding has
stack_pages s at held g = pages_apart s.mark (has s at held) (stack_of page_class s) (λ depth x e. e) g.apart

-- A freed page stands where a page can.
pub page_in_lem : (mark : ℕ) (os : List ℕ) → AllPages mark os → (o : ℕ) → is_in o os ≡ true → is_block page_class o mark ≡ true
unfolding AllPages is_in
page_in_lem mark [] a o e = absurd (true≢false (sym e))
page_in_lem mark (x ∷ os) (first, a) o e =
    ⊎_elim (λ (q : eqb x o ≡ true). subst (λ (y : ℕ). is_block page_class y mark ≡ true) (eqb-true x o q) first)
    (λ (q : is_in o os ≡ true). page_in_lem mark os a o q)
    (either (eqb x o) (is_in o os) e)

-- The first page of a stretch.
first_freed_lem : (pages off : ℕ) (os : List ℕ) → 0 < pages → Freed pages off os → is_in off os ≡ true
first_freed_lem pages off os some_pages f = let z : off + 0 * 4096 ≡ off = omega arith in rw z at (f 0 some_pages)

-- The run that is found takes as many pages off the stack as it has.
pub run_count : (pages off : ℕ) (s : Space) (at : ℕ → Place) → 0 < pages → Good s at none → lowest pages (stack_of page_class s) ≡ some off
    → length (without_run off pages (stack_of page_class s)) + pages ≡ length (stack_of page_class s)
run_count pages off s at some_pages g e =
    let (all, apart) = stack_pages s at none g in
    let w = lowest_found pages (stack_of page_class s) some_pages off e in
    let aligned : (o : ℕ) → is_in o (stack_of page_class s) ≡ true → o % 4096 ≡ 0 =
    λ o there. (block_stands page_class o s.mark (page_in_lem s.mark (stack_of page_class s) all o there)).aligned in
    left_count off pages (stack_of page_class s) (aligned off (first_freed_lem pages off (stack_of page_class s) some_pages w.all)) aligned apart
    w.all

-- ---- the stack of pages is another

-- Some of the freed pages, none of them twice, are the stack now.
pub good_fewer_freed : (s : Space) (at : ℕ → Place) (held : Option Block) (os : List ℕ)
    → ((o : ℕ) → is_in o os ≡ true → is_in o (stack_of page_class s) ≡ true) → Distinct os → Good s at held
    → Good (with_stack page_class os s) at held
unfolding has
good_fewer_freed s at held os among distinct g =
    record {
      nine = length-set s.stacks page_class os ∙ g.nine;
      aligned = g.aligned;
      from = g.from;
      apart = record {
        stands = λ w x e. let (u, had) = before w x e in g.apart.stands u x had;
        apart = apart_still;
      };
    }
  where
    in_nine : page_class < length s.stacks
    in_nine = let n = g.nine in omega arith

    -- where a page of the new stack stood
    was : (depth : ℕ) (x : Block) → at_depth page_class depth os ≡ some x → (d : ℕ) × (has s at held (stack page_class d) ≡ some x)
    was depth x e =
        let (there, block) = depth_in page_class depth os x e in
        let (d, found) = in_depth page_class x.off (stack_of page_class s) (among x.off there) in
        (d, found ∙ ap some (sym block))

    before : (w : Owner) (x : Block) → has (with_stack page_class os s) at held w ≡ some x → (u : Owner) × (has s at held u ≡ some x)
    before w x e =
        ⊎_elim (λ (depth, is, found). let (d, had) = was depth x found in (stack page_class d, had)) (λ (n, found). (w, found))
        (changed_has s page_class os in_nine at held w x e)

    apart_still : (v w : Owner) (x y : Block) → v ≢ w → has (with_stack page_class os s) at held v ≡ some x
        → has (with_stack page_class os s) at held w ≡ some y → Disjoint x y
    apart_still v w x y n e e' =
        ⊎_elim
        (λ (depth, is, found).
        let (d, had) = was depth x found in
        ⊎_elim
        (λ (depth', is', found').
        let (d', had') = was depth' y found' in
        g.apart.apart (stack page_class d) (stack page_class d') x y
        (λ q.
        let same : x ≡ y = some_inj (sym had ∙ ap (has s at held) q ∙ had') in
        let one = one_depth page_class depth depth' os x y distinct found found' (ap (λ (z : Block). z.off) same) in
        n (is ∙ ap (stack page_class) one ∙ sym is'))
        had had')
        (λ (n', found'). g.apart.apart (stack page_class d) w x y (λ q. n' d (sym q)) had found')
        (changed_has s page_class os in_nine at held w y e'))
        (λ (n', found).
        ⊎_elim
        (λ (depth', is', found').
        let (d', had') = was depth' y found' in
        g.apart.apart v (stack page_class d') x y (λ q. n' d' q) found had')
        (λ (n'', found'). g.apart.apart v w x y n found found')
        (changed_has s page_class os in_nine at held w y e'))
        (changed_has s page_class os in_nine at held v x e)

-- ---- the run is nobody's

-- What is left of a list lies outside the run.
pub left_outside : (from end o : ℕ) (os : List ℕ) → is_in o (left_of from end os) ≡ true → in_run from end o ≡ false
unfolding left_of is_in
left_outside from end o [] e = absurd (true≢false (sym e))
left_outside from end o (x ∷ os) e = go (in_run from end x) refl (left_outside from end o os)
  where
    go : (t : Bool) → in_run from end x ≡ t → (is_in o (left_of from end os) ≡ true → in_run from end o ≡ false) → in_run from end o ≡ false
    go true q rest = rest (subst (λ (l : List ℕ). is_in o l ≡ true) (left_taken from end x os q) e)
    go false q rest =
        ⊎_elim (λ (z : eqb x o ≡ true). subst (λ (y : ℕ). in_run from end y ≡ false) (eqb-true x o z) q) rest
        (either (eqb x o) (is_in o (left_of from end os)) (subst (λ (l : List ℕ). is_in o l ≡ true) (left_kept from end x os q) e))

-- An offset outside a run lies before it or behind it.
outside : (from end o : ℕ) → in_run from end o ≡ false → (o < from) ⊎ (end ≤ o)
outside from end o e =
    ⊎_elim (λ (l : o < from). inl l)
    (λ (m : from ≤ o).
    ⊎_elim
    (λ (l : o < end). let in-run : in_run from end o ≡ true = simp (le-leb from o m, lt-ltb o end l) in absurd (true≢false (sym in-run ∙ e)))
    (λ (h : end ≤ o). inr h)
    (lt_or_ge o end))
    (lt_or_ge o from)

-- A block that shares no byte with any page of a run shares none with the run.
all_apart : (pages off : ℕ) (x : Block) → 0 < pages
    → ((i : ℕ) → i < pages → Disjoint x (record { class = page_class; off = off + i * page_size }))
    → (x.off + slab_bytes x.class ≤ off) ⊎ (off + pages * page_size ≤ x.off)
all_apart pages off x some_pages each =
    let big = bytes_from_16 x.class in
    ⊎_elim
    (λ (low : x.off < off).
    ⊎_elim (λ (h : x.off + slab_bytes x.class ≤ off + 0 * page_size). inl (omega arith))
    (λ (h : off + 0 * page_size + 4096 ≤ x.off). absurd (omega arith))
    (each 0 some_pages))
    (λ (from : off ≤ x.off).
    ⊎_elim
    (λ (inside : x.off < off + pages * page_size).
    absurd
    (⊎_elim (λ (h : x.off + slab_bytes x.class ≤ off + (x.off - off) / 4096 * page_size). omega arith)
    (λ (h : off + (x.off - off) / 4096 * page_size + 4096 ≤ x.off). omega arith)
    (each ((x.off - off) / 4096) (omega arith))))
    (λ (behind : off + pages * page_size ≤ x.off). inr behind)
    (lt_or_ge x.off (off + pages * page_size)))
    (lt_or_ge x.off off)

-- A run taken out of the freed pages.
module _ (pages off : ℕ) (s : Space) (at : ℕ → Place) (some_pages : 0 < pages) (g : Good s at none)
    (found : lowest pages (stack_of page_class s) ≡ some off)
  where
    abbrev os : List ℕ
    os = stack_of page_class s

    page : (o : ℕ) → is_in o os ≡ true → is_block page_class o s.mark ≡ true
    page = page_in_lem s.mark os (stack_pages s at none g).0

    all : Freed pages off os
    all = (lowest_found pages os some_pages off found).all

    first : is_in off os ≡ true
    first = first_freed_lem pages off os some_pages all

    pub freed_good : Good (run_freed off pages s).space at none
    freed_good =
        good_fewer_freed s at none (without_run off pages os) (λ o there. left_among off (off + pages * page_size) o os there)
        (left_distinct off (off + pages * page_size) os (stack_pages s at none g).1) g

    in_nine : page_class < length s.stacks
    in_nine = let n = g.nine in omega arith

    -- Blocks of other owners than the stack of pages were apart from the run's pages, and those left on the stack aren't its pages.
    others_clear : (w : Owner) (x : Block) → has (run_freed off pages s).space at none w ≡ some x
        → (x.off + slab_bytes x.class ≤ off) ⊎ (off + pages * page_size ≤ x.off)
    unfolding has
    others_clear w x e =
        ⊎_elim
        (λ (depth, is, there).
        let (left, block) = depth_in page_class depth (without_run off pages os) x there in
        let here = (block_stands page_class off s.mark (page off first)).aligned in
        let was = left_among off (off + pages * page_size) x.off os left in
        let stood = (block_stands page_class x.off s.mark (page x.off was)).aligned in
        let bytes : slab_bytes x.class ≡ 4096 = ap (λ (z : Block). slab_bytes z.class) block in
        ⊎_elim (λ (low : x.off < off). inl (omega arith)) (λ (high : off + pages * page_size ≤ x.off). inr high)
        (outside off (off + pages * page_size) x.off (left_outside off (off + pages * page_size) x.off os left)))
        (λ (n, had).
        all_apart pages off x some_pages
        (λ i l.
        let (d, page-there) = in_depth page_class (off + i * page_size) os (all i l) in
        g.apart.apart w (stack page_class d) x (record { class = page_class; off = off + i * page_size }) (n d) had page-there))
        (changed_has s page_class (without_run off pages os) in_nine at none w x e)

    pub freed_clear : RunClear s.mark off pages (has (run_freed off pages s).space at none)
    freed_clear =
        let here = block_stands page_class off s.mark (page off first) in
        let last = (block_stands page_class (off + (pages - 1) * page_size) s.mark (page _ (all (pages - 1) (omega arith)))).ends in
        record { aligned = here.aligned; from = here.begins; below = omega arith; clear = others_clear }

-- A run taken at the mark.
module _ (end pages : ℕ) (s : Space) (at : ℕ → Place) (g : Good s at none) where
  pub run_marked : {t : Taken} → run_at_mark end pages s ≡ accepted t
      → Good t.space at none × RunClear t.space.mark t.off pages (has t.space at none)
  unfolding run_at_mark has
  run_marked e =
      let r = good_rounded s at none g in
      let m = rounded_mark s in
      subst (λ (v : Taken). Good v.space at none × RunClear v.space.mark v.off pages (has v.space at none))
      (sym (took_mark end (pages * page_size) (rounded s) e)) (
        good_raised (rounded s) at none ((rounded s).mark + pages * page_size) (omega arith) (omega arith) r,
        record {
          aligned = m;
          from = r.from;
          below = omega arith;
          clear = λ w x had. inl (block_stands x.class x.off (rounded s).mark (r.apart.stands w x (below w x had))).ends;
        },
      )
    where
      below : (w : Owner) (x : Block)
          → has (record { mark = (rounded s).mark + pages * page_size; stacks = (rounded s).stacks }) at none w ≡ some x
          → has (rounded s) at none w ≡ some x
      below hand x e = e
      below (stack c d) x e = e
      below (slab_of k) x e = e
      below (page_of k i) x e = e

-- A run of a load: the space that is left is good, and the run stands below its mark and is nobody's.
pub run_clear : (end pages : ℕ) (s : Space) (at : ℕ → Place) {t : Taken} → 0 < pages → take_run end pages s ≡ accepted t → Good s at none
    → Good t.space at none × RunClear t.space.mark t.off pages (has t.space at none)
run_clear end pages s at some_pages e g =
    ⊎_elim (λ (q, at_mark). run_marked end pages s at g at_mark)
    (λ (off, q, is).
    subst (λ (v : Taken). Good v.space at none × RunClear v.space.mark v.off pages (has v.space at none)) (sym is)
    (freed_good pages off s at some_pages g q, freed_clear pages off s at some_pages g q))
    (took_run end pages s e)

-- ---- how many pages a load asks for

-- A list with its last element replaced by some has some.
first_some : {A : Type 0} (f : A → List A) (x : A) (xs : List A) → 0 < length (f x) → 0 < length (replace_last f (x ∷ xs))
unfolding replace_last
first_some f x [] some-there = some-there
first_some f x (y ∷ ys) some-there = omega arith

-- Some numbers are cut into one part or more.
pub cutting_some : (ns : List ℕ) → 0 < length ns → 0 < length (cutting ns)
unfolding greedy_parts first_part
cutting_some [] there = absurd (omega arith)
cutting_some (n ∷ ns) there = first_some (greedy last_page_room) _ _
    (greedy_some last_page_room (n ∷ take (fitting (page_room - uleb_len n) n ns) ns) (omega arith))

-- ---- where a run is refused

-- It is refused with 36 alone, where no stretch of so many pages is freed and the body ends before as many behind the mark, rounded up,
pub run_refused : (end pages : ℕ) (s : Space) {number : ℕ} → take_run end pages s ≡ refused number
    → (lowest pages (stack_of page_class s) ≡ none) × (number ≡ no_room) × (end < page_after s.mark + pages * page_size)
unfolding take_found run_at_mark take_mark rounded refuse_if
run_refused end pages s {number} e = go (lowest pages (stack_of page_class s)) refl e
  where
    short : (far : Bool) (x : Taken) → ltb end (page_after s.mark + pages * page_size) ≡ far
        → refuse_if far no_room (accepted x) ≡ refused number → (number ≡ no_room) × (end < page_after s.mark + pages * page_size)
    short true x q e = (ap refusal_of (sym e), ltb-true _ _ q)
    short false x q e = absurd (refused≢accepted (sym e))

    go : (found : Option ℕ) → lowest pages (stack_of page_class s) ≡ found → take_found end pages s found ≡ refused number
        → (lowest pages (stack_of page_class s) ≡ none) × (number ≡ no_room) × (end < page_after s.mark + pages * page_size)
    go none q e = let (is, far) = short (ltb end (page_after s.mark + pages * page_size)) _ refl e in (q, is, far)
    go (some off) q e = absurd (refused≢accepted (sym e))

-- and there it is.
pub run_no_room : (end pages : ℕ) (s : Space) → lowest pages (stack_of page_class s) ≡ none
    → end < page_after s.mark + pages * page_size → take_run end pages s ≡ refused no_room
unfolding take_found run_at_mark take_mark rounded
run_no_room end pages s nowhere far =
    ap (take_found end pages s) nowhere ∙ refuse_yes _ no_room _ (lt-ltb end (page_after s.mark + pages * page_size) far)

-- Then no stretch of so many pages is freed anywhere.
pub run_none_freed : (end pages : ℕ) (s : Space) {number : ℕ} → 0 < pages → take_run end pages s ≡ refused number
    → (off : ℕ) → Freed pages off (stack_of page_class s) → ⊥
run_none_freed end pages s some_pages e = lowest_none pages (stack_of page_class s) some_pages (run_refused end pages s e).0
