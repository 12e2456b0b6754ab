-- Desks in both books: the counts in words stay those of the plain book, and takes for a desk are alike. Assumes nothing.
use Prim.Native.Nat.{ℕ, zero, suc, ◌+◌, ◌-◌, ◌/◌, ◌%◌, ◌≤◌, ◌<◌}
use mathlib.Core.Bool.{Bool, true, false, cond, not, ◌&&◌}
use mathlib.Core.List.{List, [], ◌∷◌}
use mathlib.Core.Option.{Option, none, some}
use mathlib.Core.Path.{◌≡◌, refl, sym, ap, subst, ◌∙◌}
use native.Mathlib.Nat.{add-zero}
use native.Mathlib.Omega.{arith}
use lib.Dec.{ltb, leb, eqb}
use lib.ListN.{length, get_or, set}
use lib.Seq.{get_or-set_same, get_or-set_other, set-get_or}
use borrow.Author.Tests.{eq-eqb, ne_eqb, leb-false}
use Rattle.error.specs.Refusal.{Answer, accepted, refused, refuse_if, and_then, shape_bad, free_head_bad, past_ceiling, into_reserves}
use Rattle.error.proofs.LawsAnswer.{refuse_no, neither, accepted_inj, passed}
use Rattle.scripthash_layout.specs.Sizes.{slab_bytes, max_slab_class, page_class, page_size}
use Rattle.scripthash_free.specs.FreeList.{Block}
use Rattle.scripthash_free.proofs.LawsBlock.{block_stands}
use Rattle.free_runs.specs.Runs.{lowest, without_run}
use Rattle.free_runs.specs.PageList.{top_of}
use Rattle.book_desks.specs.Desks.{desks, Limits, desk_count, to_be_had, lacks_with, permitted, beyond_desks, desk_of}
use Rattle.book_desks.specs.Counts.{freed_count, held_count, held_at, counts_high, counted}
use Rattle.book_desks.proofs.LawsSums.{term_least}
use Rattle.book_desks.proofs.LawsDesks.{list_good}
use Rattle.book_desks.proofs.LawsCounts.{held_at_lem, none_high, limits_counted, freed_counted, held_counted, length_counted}
use Rattle.plain_book.specs.Space.{Space as PlainSpace, Taken as PlainTaken, stack_of, take_mark as plain_take_mark, take_slab as plain_take_slab}
use Rattle.plain_book.specs.Space.{take_fresh as plain_take_fresh, run_at_mark as plain_run_at_mark, take_found as plain_take_found}
use Rattle.plain_book.specs.Space.{take_run as plain_take_run, take_from, take_block as plain_take}
use Rattle.plain_book.specs.Key.{Place, pages_of, Key}
use Rattle.plain_book.specs.Book.{Book as PlainBook, key_of, with_key, desk_in, freed_in, allowed, leave_of}
use Rattle.plain_book.specs.Good.{Good, GoodDesks}
use Rattle.plain_book.proofs.LawsTaking.{took_stack}
use Rattle.plain_book.proofs.LawsDesks.{rounded_freed}
use Rattle.plain_book.proofs.LawsRunFreed.{run_count}
use Rattle.book_space.specs.Space.{Space, Taken, searched, take_found}
use Rattle.book_space.specs.Desks.{TakenFor, judged_take, slab_for, freed_untrue, freed_left, page_for, freed_but, run_found, run_for}
use Rattle.book_space.proofs.LawsDesks.{run_searched}
use Rattle.book_history.specs.Agrees.{Contents, AgreesSpace, AgreesCounts}
use Rattle.book_history.proofs.LawsPush.{top_stands}
use Rattle.book_history.proofs.LawsTake.{any_hand, TakenAlike, taken_alike, refused_taken, in_hand_of, take_agrees}
use Rattle.book_history.proofs.LawsFreeLists.{freed_sought}
use Rattle.book_history.proofs.LawsUnlinked.{found_agrees}

-- ---- counts

-- A good list names a desk for any key, desk 0 past its end.
pub desk_low : (ds : List ℕ) (key : ℕ) → beyond_desks ds ≡ false → desk_of ds key < desks
unfolding beyond_desks
desk_low [] key e = omega arith
desk_low (d ∷ ds) zero e = leb-false desks d (neither (leb desks d) (beyond_desks ds) e).0
desk_low (d ∷ ds) (suc key) e = desk_low ds key (neither (leb desks d) (beyond_desks ds) e).1

-- So does the list of a book with good desks.
pub key_desk : (plain : PlainBook) (key : ℕ) → GoodDesks plain → desk_in plain key < desks
key_desk plain key g = desk_low plain.desks key (list_good plain.desks (length plain.keys) g.named).1

-- No count of a book with good desks is above the body's pages.
pub counts_fine : (plain : PlainBook) (counts : List ℕ) → GoodDesks plain → AgreesCounts plain counts → counts_high plain.size counts
    ≡ false
counts_fine plain counts g a =
    none_high plain.size counts (let f = a.freed in let b = g.balanced in omega arith)
    (λ d h. subst (λ (xs : List ℕ). desk_count d xs ≤ plain.size / page_size) (sym a.held)
    (let b = g.balanced in let t = term_least desks d (λ i. desk_count i plain.held) h in omega arith))
    (λ d h. subst (λ (l : Limits). desk_count d l.reserve ≤ plain.size / page_size) (sym a.limits) (g.low d h))

module _ (plain : PlainBook) (counts : List ℕ) (key : ℕ) (known : desk_in plain key < desks) (a : AgreesCounts plain counts) where
  -- the key's desk
  abbrev desk : ℕ
  desk = desk_in plain key

  -- The count of the key's desk is the plain book's.
  pub held_same : held_count desk counts ≡ desk_count desk plain.held
  held_same = sym (held_at_lem counts desk known) ∙ ap (desk_count desk) a.held

  -- A key gets another place in a plain book: the counts that tell its freed pages and those of the key's desk are that book's.
  pub counts_placed : (new : Key) (inside : PlainSpace) (f h : ℕ) → f ≡ freed_in inside
      → h ≡ desk_count desk plain.held + pages_of new.place - pages_of (key_of key plain).place
      → AgreesCounts (with_key key new inside plain) (counted f desk h counts)
  counts_placed new inside f h freed held =
      record {
        words = length_counted f desk h counts known a.words;
        freed = freed_counted f desk h counts known a.words ∙ freed;
        held = held_counted f desk h counts known a.words ∙ rw (a.held, held) refl;
        limits = limits_counted f desk h counts known ∙ a.limits;
      }

  -- Counts written with what they are.
  counted_same : counted (freed_count counts) desk (held_count desk counts) counts ≡ counts
  counted_same = ap (λ (xs : List ℕ). set xs (held_at desk) (held_count desk counts)) (set-get_or counts 0 0) ∙ set-get_or counts (held_at desk) 0

  -- Where neither changes, the counts stay.
  pub counts_stay : (new : Key) (inside : PlainSpace) → freed_in inside ≡ freed_in plain.space
      → pages_of new.place ≡ pages_of (key_of key plain).place → AgreesCounts (with_key key new inside plain) counts
  counts_stay new inside freed pages =
      subst (λ (xs : List ℕ). AgreesCounts (with_key key new inside plain) xs) counted_same
      (counts_placed new inside (freed_count counts) (held_count desk counts) (a.freed ∙ sym freed) (let h = held_same in omega arith))

-- ---- takes for a desk alike

-- What two takes for a desk answer is alike, as of takes alone; and the counts then tell the freed pages, and so many more of the desk's.
pub data ForAlike (at : ℕ → Place) (held : ℕ → Option Block) (c : Contents) (long desk n : ℕ) (counts : List ℕ)
    : Answer PlainTaken → Answer TakenFor → Type 0 where
  for_alike : {t : PlainTaken} {u : TakenFor} → u.off ≡ t.off → length u.space.body ≡ long
      → AgreesSpace t.space u.space at (held t.off) c
      → u.counts ≡ counted (freed_in t.space) desk (held_count desk counts + n) counts
      → ForAlike at held c long desk n counts (accepted t) (accepted u)
  refused_for : {number : ℕ} → ForAlike at held c long desk n counts (refused number) (refused number)

-- Two calls go on after takes for a desk alike: refused alike, or from what was taken.
pub for_then : {A B : Type 0} (P : Answer A → Answer B → Type 0) (at : ℕ → Place) (held : ℕ → Option Block) (c : Contents)
    (long desk n : ℕ) (counts : List ℕ) (x : Answer PlainTaken) (y : Answer TakenFor) (f : PlainTaken → Answer A) (g : TakenFor → Answer B)
    → ((number : ℕ) → P (refused number) (refused number))
    → ((t : PlainTaken) (u : TakenFor) → x ≡ accepted t → u.off ≡ t.off → length u.space.body ≡ long
    → AgreesSpace t.space u.space at (held t.off) c
    → u.counts ≡ counted (freed_in t.space) desk (held_count desk counts + n) counts → P (f t) (g u))
    → ForAlike at held c long desk n counts x y → P (and_then x f) (and_then y g)
unfolding and_then
for_then P at held c long desk n counts x y f g no' go (for_alike {t} {u} off is a left) = go t u refl off is a left
for_then P at held c long desk n counts x y f g no' go (refused_for {number}) = no' number

-- Two answers behind one permission are alike where they are without it.
permitted_alike : {A B : Type 0} (P : Answer A → Answer B → Type 0) (l : Limits) (end desk n : ℕ) (held : List ℕ) (freed mark : ℕ)
    (x : Answer A) (y : Answer B) → ((number : ℕ) → P (refused number) (refused number)) → P x y
    → P (permitted l end desk n held freed mark x) (permitted l end desk n held freed mark y)
unfolding permitted refuse_if
permitted_alike P l end desk n held freed mark x y no' both =
    go (not (eqb n 0) && ltb (desk_count desk l.ceiling) (desk_count desk held + n))
    (ltb (to_be_had end freed mark) (lacks_with l held desk n))
  where
    go : (s t : Bool) → P (cond s (refused past_ceiling) (cond t (refused into_reserves) x))
        (cond s (refused past_ceiling) (cond t (refused into_reserves) y))
    go true t = no' past_ceiling
    go false true = no' into_reserves
    go false false = both

module _ (plain : PlainBook) (counts : List ℕ) (key : ℕ) (g : GoodDesks plain) (a : AgreesCounts plain counts) where
  -- the key's desk
  abbrev own : ℕ
  own = desk_in plain key

  -- What was taken in both books is judged alike, where the bytes know how many pages are freed then.
  one_judged : (at : ℕ → Place) (held : ℕ → Option Block) (c : Contents) (long n freed : ℕ) (after : List ℕ) (t : PlainTaken) (u : Taken)
      → freed ≡ freed_in t.space → after ≡ counted freed own (held_count own counts + n) counts → u.off ≡ t.off
      → length u.space.body ≡ long → AgreesSpace t.space u.space at (held t.off) c
      → ForAlike at held c long own n counts
      (permitted plain.limits plain.size own n plain.held (freed_in t.space) t.space.mark (accepted t))
      (judged_take plain.size own n freed counts after u)
  unfolding judged_take
  one_judged at held c long n freed after t u same is off size agrees =
      rw (refuse_no (counts_high plain.size counts) shape_bad _ (counts_fine plain counts g a), a.held, a.limits, same)
      (subst
      (λ (m : ℕ). ForAlike at held c long own n counts
      (permitted plain.limits plain.size own n plain.held (freed_in t.space) t.space.mark (accepted t))
      (permitted plain.limits plain.size own n plain.held (freed_in t.space) m
      (accepted (record { off = u.off; space = u.space; counts = after }))))
      (sym agrees.mark)
      (permitted_alike (ForAlike at held c long own n counts) plain.limits plain.size own n plain.held (freed_in t.space)
      t.space.mark _ _ (λ number. refused_for) (for_alike off size agrees (is ∙ rw same refl))))

  -- Takes that are alike are judged alike.
  judged_alike : (at : ℕ → Place) (held : ℕ → Option Block) (c : Contents) (long n freed : ℕ) (after : List ℕ) (x : Answer PlainTaken)
      (y : Answer Taken) → ((t : PlainTaken) → x ≡ accepted t → freed ≡ freed_in t.space)
      → after ≡ counted freed own (held_count own counts + n) counts → TakenAlike at held c long x y
      → ForAlike at held c long own n counts (leave_of plain key n x) (and_then y (judged_take plain.size own n freed counts after))
  unfolding allowed and_then
  judged_alike at held c long n freed after x y knows is refused_taken = refused_for
  judged_alike at held c long n freed after x y knows is (taken_alike {t} {u} off size agrees) =
      one_judged at held c long n freed after t u (knows t refl) is off size agrees

-- ---- how many pages are freed then

-- A run at the mark leaves them.
pub mark_run_freed : (end k : ℕ) (s : PlainSpace) (t : PlainTaken) → plain_run_at_mark end k s ≡ accepted t → freed_in t.space ≡ freed_in s
unfolding plain_run_at_mark plain_take_mark
mark_run_freed end k s t e =
    let (room, is) = passed _ _ _ e in
    subst (λ (x : PlainTaken). freed_in x.space ≡ freed_in s) (accepted_inj is) (rounded_freed s)

-- A page takes the top one, where there is one.
pub page_freed : (end : ℕ) (s : PlainSpace) (t : PlainTaken) → length s.stacks ≡ 9 → plain_take end page_class s ≡ accepted t
    → freed_in t.space ≡ freed_in s - 1
unfolding take_from plain_take_fresh
page_freed end s t nine e = go (stack_of page_class s) refl e
  where
    go : (os : List ℕ) → stack_of page_class s ≡ os → take_from end page_class os s ≡ accepted t → freed_in t.space ≡ freed_in s - 1
    go [] q e = let same = mark_run_freed end 1 s t e in let none' : freed_in s ≡ 0 = ap length q in omega arith
    go (o ∷ os) q e =
        let is = took_stack end page_class o os s e in
        let left : freed_in t.space ≡ length os
        = ap (λ (x : PlainTaken). freed_in x.space) is ∙ ap length (get_or-set_same s.stacks page_class os [] (omega arith)) in
        let before : freed_in s ≡ length os + 1 = ap length q ∙ omega arith in
        omega arith

-- A slab leaves them.
pub slab_freed : (end class : ℕ) (s : PlainSpace) (t : PlainTaken) → class ≤ max_slab_class → plain_take end class s ≡ accepted t
    → freed_in t.space ≡ freed_in s
unfolding take_from plain_take_fresh plain_take_slab plain_take_mark
slab_freed end class s t low e = go (stack_of class s) refl e
  where
    go : (os : List ℕ) → stack_of class s ≡ os → take_from end class os s ≡ accepted t → freed_in t.space ≡ freed_in s
    go [] q e =
        let no_page_lem : eqb class page_class ≡ false = ne_eqb class page_class (λ (z : class ≡ page_class). omega arith) in
        let e1 : plain_take_slab end (slab_bytes class) s ≡ accepted t
        = ap (λ (x : Bool). cond x (plain_run_at_mark end 1 s) (plain_take_slab end (slab_bytes class) s)) (sym no_page_lem) ∙ e in
        let (past, e2) = passed _ _ _ e1 in
        let (room, is) = passed _ _ _ e2 in
        subst (λ (x : PlainTaken). freed_in x.space ≡ freed_in s) (accepted_inj is) refl
    go (o ∷ os) q e =
        let is = took_stack end class o os s e in
        ap (λ (x : PlainTaken). freed_in x.space) is
        ∙ ap length (get_or-set_other s.stacks class page_class os [] (λ (z : page_class ≡ class). omega arith))

-- ---- slabs, pages and runs for a desk

module _ (plain : PlainBook) (s : Space) (counts : List ℕ) (key : ℕ) (at : ℕ → Place) (c : Contents) (g : Good plain.space at none)
    (d : GoodDesks plain) (a : AgreesCounts plain counts) (size : length s.body ≡ plain.size)
    (h : AgreesSpace plain.space s at none c)
  where
    -- the body is whole pages
    whole : length s.body % 4096 ≡ 0
    whole = ap (λ (n : ℕ). n % 4096) size ∙ d.paged

    -- the count of the key's desk, as it is
    nothing_more : counts ≡ counted (freed_count counts) (own plain counts key d a) (held_count (own plain counts key d a) counts + 0) counts
    nothing_more =
        sym (ap (λ (n : ℕ). counted (freed_count counts) (own plain counts key d a) n counts) (add-zero _)
        ∙ counted_same plain counts key (key_desk plain key d) a)

    -- A slab for the key's desk.
    pub slab_for_alike : (class : ℕ) → class ≤ max_slab_class
        → ForAlike at (in_hand_of class) (any_hand c) plain.size (desk_in plain key) 0 counts
        (leave_of plain key 0 (plain_take plain.size class plain.space)) (slab_for (desk_in plain key) class s counts)
    unfolding slab_for
    slab_for_alike class low =
        rw size
        (judged_alike plain counts key d a at (in_hand_of class) (any_hand c) plain.size 0 (freed_count counts) counts _ _
        (λ t e. a.freed ∙ sym (slab_freed plain.size class plain.space t low e)) nothing_more
        (rw size at (take_agrees plain.space s at c class (omega arith) g whole h)))

    -- The freed pages once a run is taken: as many fewer as it has where the search led to it.
    found_freed : (n : ℕ) → 0 < n → (found : Option ℕ) → lowest n (stack_of page_class plain.space) ≡ found → (t : PlainTaken)
        → plain_take_found plain.size n plain.space found ≡ accepted t → freed_but n found counts ≡ freed_in t.space
    unfolding plain_take_found
    found_freed n some' none q t e = a.freed ∙ sym (mark_run_freed plain.size n plain.space t e)
    found_freed n some' (some off) q t e =
        let left : freed_in t.space ≡ length (without_run off n (stack_of page_class plain.space))
        = ap (λ (x : PlainTaken). freed_in x.space) (sym (accepted_inj e))
        ∙ ap length (get_or-set_same plain.space.stacks page_class _ [] (omega (arith, g.nine))) in
        let many = run_count n off plain.space at some' g q in
        let freed = a.freed in
        omega arith

    -- A run for the key's desk, where the search led.
    found_alike : (n : ℕ) → 0 < n → (found : Option ℕ) → lowest n (stack_of page_class plain.space) ≡ found
        → ForAlike at (λ off. none) c plain.size (desk_in plain key) n counts
        (leave_of plain key n (plain_take_found plain.size n plain.space found)) (run_found (desk_in plain key) n s counts found)
    unfolding run_found
    found_alike n some' found q =
        rw size
        (judged_alike plain counts key d a at (λ off. none) c plain.size n (freed_but n found counts) _ _ _
        (found_freed n some' found q) refl
        (subst
        (λ (k : ℕ).
        TakenAlike at (λ off. none) c plain.size (plain_take_found plain.size n plain.space found) (take_found n k s found))
        (sym a.freed) (rw size at (found_agrees plain.space s at c n g whole h found))))

    -- A run for the key's desk: the search over the bytes leads where the rule does.
    pub run_for_alike : (n : ℕ) → 0 < n → ForAlike at (λ off. none) c plain.size (desk_in plain key) n counts
        (leave_of plain key n (plain_take_run plain.size n plain.space)) (run_for (desk_in plain key) n s counts)
    run_for_alike n some' =
        let sought : searched n (freed_count counts) s ≡ accepted (lowest n (stack_of page_class plain.space))
        = ap (λ (k : ℕ). searched n k s) a.freed ∙ freed_sought plain.space s at c g h n in
        rw (run_searched (desk_in plain key) s counts n sought) (found_alike n some' (lowest n (stack_of page_class plain.space)) refl)

    -- The free head of pages is 0 exactly where none is freed.
    head_told : (os : List ℕ) → stack_of page_class plain.space ≡ os
        → (freed_untrue s counts ≡ false) × (freed_left s counts ≡ freed_in plain.space - 1)
    unfolding freed_untrue
    head_told [] q =
        let head : get_or s.free page_class 0 ≡ 0 = h.tops page_class ∙ ap top_of q in
        let none' : freed_count counts ≡ 0 = a.freed ∙ ap length q in
        let z : freed_in plain.space ≡ 0 = ap length q in (
          rw (eq-eqb (get_or s.free page_class 0) 0 head, eq-eqb (freed_count counts) 0 none') refl,
          rw (eq-eqb (get_or s.free page_class 0) 0 head) (omega arith),
        )
    head_told (o ∷ os) q =
        let head : get_or s.free page_class 0 ≡ o = h.tops page_class ∙ ap top_of q in
        let stands = (block_stands page_class o plain.space.mark (top_stands plain.space at none page_class o os g q)).begins in
        let some' : freed_count counts ≡ length os + 1 = a.freed ∙ ap length q ∙ omega arith in
        let is : eqb (get_or s.free page_class 0) 0 ≡ false = ne_eqb _ 0 (λ (e : get_or s.free page_class 0 ≡ 0). omega arith) in
        let f : eqb (freed_count counts) 0 ≡ false = ne_eqb _ 0 (λ (e : freed_count counts ≡ 0). omega arith) in
        (rw (is, f) refl, rw is (let e = a.freed in omega arith))

    -- A page for the key's desk.
    pub page_for_alike : ForAlike at (in_hand_of page_class) (any_hand c) plain.size (desk_in plain key) 1 counts
        (leave_of plain key 1 (plain_take plain.size page_class plain.space)) (page_for (desk_in plain key) s counts)
    unfolding page_for
    page_for_alike =
        let (true', left) = head_told (stack_of page_class plain.space) refl in
        rw (refuse_no (freed_untrue s counts) free_head_bad _ true', size)
        (judged_alike plain counts key d a at (in_hand_of page_class) (any_hand c) plain.size 1 (freed_left s counts) _ _ _
        (λ t e. left ∙ sym (page_freed plain.size plain.space t g.nine e)) refl
        (rw size at (take_agrees plain.space s at c page_class (omega arith) g whole h)))
