-- Room: a change that is refused with 36 is accepted on the same plain book with a body that goes on far enough behind the mark, where
-- slabs may be taken there. Assumes nothing.
use Prim.Native.Nat.{ℕ, zero, suc, ◌+◌, ◌*◌, ◌≤◌, ◌<◌}
use mathlib.Core.Bool.{Bool, true, false, cond, not, ◌&&◌}
use mathlib.Core.List.{List, [], ◌∷◌, ◌++◌}
use mathlib.Core.Logic.{inl, inr}
use mathlib.Core.Option.{Option, none, some}
use mathlib.Core.Path.{◌≡◌, refl, sym, ap, ap₂, ◌∙◌}
use native.Mathlib.Omega.{arith}
use lib.Dec.{eqb, leb, ltb}
use lib.ListN.{length, get_or, replicate, length-append, length-replicate, get_or-append, get_or-eq_default}
use borrow.Author.Tests.{le-ltb, lt-leb, leb-false}
use Rattle.error.specs.Refusal.{Answer, accepted, refused, refuse_if, and_then, no_room, desks_bad}
use Rattle.error.proofs.LawsAnswer.{refuse_no, then_yes}
use Rattle.scripthash_layout.specs.Sizes.{slab_bytes, page_class, page_size}
use Rattle.scripthash_layout.proofs.LawsSizes.{size_mono}
use Rattle.scripthash_stream.specs.Stream.{stream_len}
use Rattle.scripthash_cutting.specs.Cutting.{cutting}
use Rattle.scripthash_free.proofs.LawsBlock.{block_stands}
use Rattle.free_runs.specs.Runs.{lowest}
use Rattle.book_rules.specs.declared.places.SlabFit.{SlabFit}
use Rattle.book_statements.specs.Calls.{Change, load, append, drop}
use Rattle.book_limits.specs.Limits.{slabs_end, out_of_shape, page_after, past_slabs}
use Rattle.book_limits.proofs.LawsLimits.{in_shape}
use Rattle.book_rules.specs.Places.{stays, moves_to, loads_to}
use Rattle.book_rules.specs.Offered.{offered_number, offered_list}
use Rattle.book_rules.proofs.LawsRules.{moves_to_lem, loads_to_lem}
use Rattle.book_desks.specs.Desks.{desks, Limits, desk_count, sum_to, lacks, lacks_with, permitted, list_bad}
use Rattle.book_desks.proofs.LawsSums.{sum_least, sum_same}
use Rattle.book_desks.proofs.LawsDesks.{list_good}
use Rattle.plain_book.specs.Space.{Space, Taken, stack_of, take_mark, take_slab, rounded, take_run, take_fresh, take_from, take_block}
use Rattle.plain_book.specs.Space.{run_at_mark, run_freed, take_found}
use Rattle.plain_book.specs.Key.{Place, empty, inline, slab, pages, moved, joins, begin_page, append_pages, append_place}
use Rattle.plain_book.specs.Key.{Key, empty_key, pages_of, load_into, load_place, longer, Leave}
use Rattle.plain_book.specs.Book.{Book, on_key, key_of, allowed, desk_in, leave_of, loads, appends, drops, does}
use Rattle.plain_book.specs.Grown.{grown, Affords, ForRoom}
use Rattle.plain_book.specs.Owners.{stack, at_depth, has}
use Rattle.plain_book.specs.Good.{GoodDesks, GoodPlain, pages_for, pages_of_desk}
use Rattle.plain_book.proofs.LawsHistory.{all_same}
use Rattle.plain_book.proofs.LawsOwners.{top_is}

-- ---- what room enough gives

-- An answer is accepted.
abbrev pub Accepts : {A : Type 0} → Answer A → Type 0
Accepts {A} a = (x : A) × (a ≡ accepted x)

then_accepts : {A B : Type 0} (a : Answer A) (f : A → B) → Accepts a → Accepts (and_then a (λ x. accepted (f x)))
then_accepts a f (x, e) = (f x, then_yes a _ e)

by_choice : {A : Type 0} (test : Bool) (one other : Answer A) → Accepts one → Accepts other → Accepts (cond test one other)
by_choice true one other p q = p
by_choice false one other p q = q

-- A take is accepted, and leaves the mark at most so many pages behind where it was, rounded up.
abbrev Takes : Space → ℕ → Answer Taken → Type 0
Takes s n a = (t : Taken) × (a ≡ accepted t) × (t.space.mark ≤ page_after s.mark + n * page_size)

-- Blocks and runs.
mark_run_takes : (end k : ℕ) (s : Space) → page_after s.mark + k * page_size ≤ end → Takes s k (run_at_mark end k s)
unfolding run_at_mark rounded take_mark
mark_run_takes end k s h = (_, refuse_no _ _ _ (le-ltb end (page_after s.mark + k * page_size) h), omega arith)

-- A run out of the freed pages needs no room at the mark, and leaves it.
found_takes : (end k : ℕ) (s : Space) (found : Option ℕ) → (found ≡ none → page_after s.mark + k * page_size ≤ end)
    → Takes s k (take_found end k s found)
unfolding take_found
found_takes end k s none h = mark_run_takes end k s (h refl)
found_takes end k s (some off) h = (run_freed off k s, refl, omega arith)

run_takes : (end k : ℕ) (s : Space) → (lowest k (stack_of page_class s) ≡ none → page_after s.mark + k * page_size ≤ end)
    → Takes s k (take_run end k s)
run_takes end k s h = found_takes end k s (lowest k (stack_of page_class s)) h

slab_takes : (end bytes : ℕ) (s : Space) → bytes ≤ page_size → s.mark + bytes ≤ slabs_end → s.mark + bytes ≤ end
    → Takes s 1 (take_slab end bytes s)
unfolding take_slab take_mark
slab_takes end bytes s few low h =
    (_, refuse_no _ _ _ (le-ltb slabs_end (s.mark + bytes) low) ∙ refuse_no _ _ _ (le-ltb end (s.mark + bytes) h), omega arith)

-- A page behind the mark, rounded up, ends within the body, and at or below the end of slabs; and so do the blocks on stacks.
pub record Roomy (end : ℕ) (s : Space) : Type 0 where
  pub ends : page_after s.mark + page_size ≤ end
  pub low : page_after s.mark + page_size ≤ slabs_end
  pub tops : (class o : ℕ) (os : List ℕ) → stack_of class s ≡ o ∷ os → past_slabs class o ≡ false

block_takes : (end class : ℕ) (s : Space) → class ≤ page_class → Roomy end s → Takes s 1 (take_block end class s)
unfolding take_from take_fresh
block_takes end class s c r = go (stack_of class s) refl
  where
    big : slab_bytes class ≤ 4096
    big = size_mono 4 {c = class} {d = 8} c

    choose : (page : Bool) → Takes s 1 (cond page (run_at_mark end 1 s) (take_slab end (slab_bytes class) s))
    choose true = mark_run_takes end 1 s (omega (arith, r.ends))
    choose false = slab_takes end (slab_bytes class) s big (omega (arith, big, r.low)) (omega (arith, big, r.ends))

    go : (os : List ℕ) → stack_of class s ≡ os → Takes s 1 (take_from end class os s)
    go [] e = choose (eqb class page_class)
    go (o ∷ os) e = (_, refuse_no _ _ _ (r.tops class o os e), omega arith)

-- ---- what a desk may take

-- Nothing holds of a test and one that doesn't hold.
and_false : (t : Bool) → t && false ≡ false
and_false true = refl
and_false false = refl

-- The desks lack no more when one holds more.
with_less : (l : Limits) (held : List ℕ) (desk k : ℕ) → lacks_with l held desk k ≤ lacks l held
unfolding lacks_with lacks
with_less l held desk k = sum_least desks _ _ (λ d low. omega arith)

-- A leave lets a take of some pages through that leaves the mark at most so many behind where it was, rounded up.
abbrev Lets : Leave → Space → ℕ → ℕ → Type 0
Lets leave s most n = (k : ℕ) (a : Answer Taken) → k ≤ most → Takes s n a → Accepts (leave k a)

-- So does a desk's, where what the desks lack is left, and the desk stays within its ceiling.
allowed_lets : (l : Limits) (end desk : ℕ) (held : List ℕ) (s : Space) (most n : ℕ)
    → page_after s.mark + (n + lacks l held) * page_size ≤ end → desk_count desk held + most ≤ desk_count desk l.ceiling
    → Lets (allowed l end desk held) s most n
unfolding allowed permitted
allowed_lets l end desk held s most n room within k a few (t, is, near) =
    let less = with_less l held desk k in (
      t,
      then_yes a _ is
          ∙ refuse_no _ _ _ (rw (le-ltb (desk_count desk l.ceiling) (desk_count desk held + k) (omega arith)) (and_false (not (eqb k 0))))
          ∙ refuse_no _ _ _ (le-ltb _ (lacks_with l held desk k) (omega arith)),
    )

-- ---- where a list goes

-- It moves, or is appended to.
module _ (end : ℕ) (leave : Leave) (s : Space) (lets : Lets leave s 1 1) (r : Roomy end s) where
  moved_accepts : (o : Option ℕ) (held : ℕ) (list : List ℕ) (old : Place) → ((c : ℕ) → o ≡ some c → c ≤ page_class)
      → Accepts (moved end leave o held list old s)
  unfolding moved
  moved_accepts (some class) held list old few =
      then_accepts _ _ (lets 0 _ (omega arith) (block_takes end class s (few class refl) r))
  moved_accepts none held list old few =
      then_accepts _ _ (lets 1 _ (omega arith) (block_takes end page_class s (omega arith) r))

  -- The class of a move is a slab's.
  some_class : (list : List ℕ) (c : ℕ) → moves_to (length list) (stream_len list) ≡ some c → c ≤ page_class
  some_class list c q = let m = moves_to_lem (length list) (stream_len list) q in omega (arith, m.slab)

  append_accepts : (held : ℕ) (list : List ℕ) (n : ℕ) (place : Place) → Accepts (append_place end leave held list n place s)
  unfolding append_place append_pages begin_page
  append_accepts held list n empty = (_, refl)
  append_accepts held list n inline = moved_accepts _ held list inline (some_class list)
  append_accepts held list n (slab class off kept) =
      by_choice (stays class (length list) (longer n kept).bytes) _ _ (_, refl) (moved_accepts _ held list _ (some_class list))
  append_accepts held list n (pages ps) =
      by_choice (joins n ps) _ _ (_, refl) (then_accepts _ _ (lets 1 _ (omega arith) (block_takes end page_class s (omega arith) r)))

-- It is loaded.
load_accepts : (fit : SlabFit) (end : ℕ) (leave : Leave) (list : List ℕ) (s : Space)
    → Lets leave s (length (cutting list)) (1 + length (cutting list)) → Roomy end s
    → page_after s.mark + (1 + length (cutting list)) * page_size ≤ end → Accepts (load_place fit end leave list s)
unfolding load_place load_into
load_accepts fit end leave [] s lets r h = (_, refl)
load_accepts fit end leave (n ∷ []) s lets r h = (_, refl)
load_accepts fit end leave (n ∷ m ∷ ns) s lets r h = go (loads_to fit (length (n ∷ m ∷ ns)) (stream_len (n ∷ m ∷ ns))) refl
  where
    go : (o : Option ℕ) → loads_to fit (length (n ∷ m ∷ ns)) (stream_len (n ∷ m ∷ ns)) ≡ o → Accepts (load_into end leave o (n ∷ m ∷ ns) s)
    go (some c) q =
        let (few, class, fits) = loads_to_lem fit (length (n ∷ m ∷ ns)) (stream_len (n ∷ m ∷ ns)) q in
        let (t, is, near) = block_takes end c s (omega arith) r in
        then_accepts _ _ (lets 0 _ (omega arith) (t, is, omega arith))
    go none q =
        let (t, is, near) = run_takes end (length (cutting (n ∷ m ∷ ns))) s (λ none_freed_lem. omega arith) in
        then_accepts _ _ (lets (length (cutting (n ∷ m ∷ ns))) _ (omega arith) (t, is, omega arith))

-- ---- what is refused for want of room

-- Where one answer is refused with a number, another is accepted.
abbrev Grows : ℕ → {A B : Type 0} → Answer A → Answer B → Type 0
Grows number a a' = a ≡ refused number → Accepts a'

-- Numbers that come behind the tests of a call's shape, key and list.
abbrev Late : ℕ → Type 0
Late m = (no_room ≤ m) × (desks_bad ≡ m → ⊥)

late : (m : ℕ) → ForRoom m → Late m
late m (inl e) = (omega arith, λ z. omega arith)
late m (inr e) = (omega arith, λ z. omega arith)

module _ (m : ℕ) (from : no_room ≤ m) where
  -- A test that both have.
  if_grows : {A B : Type 0} (test : Bool) (number : ℕ) (a : Answer A) (a' : Answer B) → (number ≡ m → ⊥) → Grows m a a'
      → Grows m (refuse_if test number a) (refuse_if test number a')
  unfolding refuse_if
  if_grows true number a a' other g e = absurd (other cc)
  if_grows false number a a' other g e = g e

  -- What is offered.
  number_grows : {A B : Type 0} (first : Bool) (prev n : ℕ) (a : Answer A) (a' : Answer B) → Grows m a a'
      → Grows m (offered_number first prev n a) (offered_number first prev n a')
  unfolding offered_number
  number_grows first prev n a a' g =
      if_grows _ _ _ _ (λ z. omega arith) (if_grows _ _ _ _ (λ z. omega arith) (if_grows _ _ _ _ (λ z. omega arith)
      (if_grows _ _ _ _ (λ z. omega arith) g)))

  list_grows : {A B : Type 0} (first : Bool) (prev : ℕ) (ns : List ℕ) (a : Answer A) (a' : Answer B) → Grows m a a'
      → Grows m (offered_list first prev ns a) (offered_list first prev ns a')
  unfolding offered_list
  list_grows first prev [] a a' g = g
  list_grows first prev (n ∷ ns) a a' g = number_grows first prev n _ _ (list_grows false n ns a a' g)

-- ---- a book with more room

-- Empty ones behind some are as those that are missing.
pub empty_behind : {A : Type 0} (d : A) (xs : List A) (n i : ℕ) → get_or (xs ++ replicate n d) i d ≡ get_or xs i d
empty_behind d [] n i = all_same d n i
empty_behind d (x ∷ xs) n zero = refl
empty_behind d (x ∷ xs) n (suc i) = empty_behind d xs n i

-- A sum that goes on over so many terms of 0 is as before.
sum_on : (k m n : ℕ) (f g : ℕ → ℕ) → m ≡ k + n → ((i : ℕ) → i < n → f i ≡ g i) → ((i : ℕ) → n ≤ i → f i ≡ 0) → sum_to m f ≡ sum_to n g
unfolding sum_to
sum_on zero m n f g many same zeros = let is : m ≡ n = omega arith in ap (λ (x : ℕ). sum_to x f) is ∙ sum_same n f g same
sum_on (suc k) zero n f g many same zeros = absurd (omega arith)
sum_on (suc k) (suc m) n f g many same zeros =
    let e = sum_on k m n f g (omega arith) same zeros in let z = zeros m (omega arith) in omega arith

module _ (b : Book) (bytes : ℕ) (ds : List ℕ) (shape : out_of_shape (b.size + bytes) (length (grown bytes ds b).keys) ≡ false)
    (named : list_bad (b.desks ++ ds) (length (grown bytes ds b).keys) ≡ false) where
  -- The keys are the same, and so are their desks.
  pub key_grown : (key : ℕ) → key_of key (grown bytes ds b) ≡ key_of key b
  key_grown key = empty_behind empty_key b.keys (length ds) key

  pub desk_grown : (key : ℕ) → key < length b.desks → desk_in (grown bytes ds b) key ≡ desk_in b key
  desk_grown key low = get_or-append b.desks ds 0 key low

  -- A key that the book has is one of the grown book, which is in shape, and has a desk there.
  key_grows : {A B : Type 0} (m : ℕ) → Late m → (key : ℕ) (a : Answer A) (a' : Answer B) → (key < length b.desks → Grows m a a')
      → Grows m (on_key b key a) (on_key (grown bytes ds b) key a')
  unfolding on_key refuse_if
  key_grows m (from, other) key a a' g =
      after_shape (out_of_shape b.size (length b.keys)) (list_bad b.desks (length b.keys)) (leb (length b.keys) key) refl refl
    where
      there : Accepts a' → suc key ≤ length b.keys → Accepts (on_key (grown bytes ds b) key a')
      there (x, is) low =
          let many = length-append b.keys (replicate (length ds) empty_key) in (
            x,
            refuse_no _ _ _ shape ∙ refuse_no _ _ _ named
                ∙ refuse_no _ _ _ (lt-leb (length (grown bytes ds b).keys) key (omega arith)) ∙ is,
          )

      after_shape : (out bad beyond : Bool) → list_bad b.desks (length b.keys) ≡ bad → leb (length b.keys) key ≡ beyond
          → Grows m (refuse_if out 1 (refuse_if bad 39 (refuse_if beyond 2 a))) (on_key (grown bytes ds b) key a')
      after_shape true bad beyond p q e = let z : 1 ≡ m = cc in absurd (omega arith)
      after_shape false true beyond p q e = absurd (other cc)
      after_shape false false true p q e = let z : 2 ≡ m = cc in absurd (omega arith)
      after_shape false false false p q e =
          let low = leb-false (length b.keys) key q in
          let many = (list_good b.desks (length b.keys) p).0 in
          there (g (omega arith) e) low

  -- What the grown book's desk has to pass.
  grown_lets : (key most n : ℕ) → page_after b.space.mark + (n + lacks b.limits b.held) * page_size ≤ b.size + bytes
      → desk_count (desk_in b key) b.held + most ≤ desk_count (desk_in b key) b.limits.ceiling → key < length b.desks
      → Lets (leave_of (grown bytes ds b) key) b.space most n
  grown_lets key most n room within low =
      rw (desk_grown key low) (allowed_lets b.limits (b.size + bytes) (desk_in b key) b.held b.space most n room within)

  -- A change that is refused for want of room is accepted on the grown book, if it has room enough, for slabs and reserves too, and the
  -- change's desk may take it.
  pub room_accepts : (c : Change) {number : ℕ} → Roomy (b.size + bytes) b.space → Affords b (b.size + bytes) c → ForRoom number
      → does b c ≡ refused number → Accepts (does (grown bytes ds b) c)
  unfolding does loads appends drops
  room_accepts (load fit key ns) {number} r h for =
      let (from, other) = late number for in
      rw (key_grown key)
      (key_grows number (from, other) key _ _ (λ low. if_grows number from _ _ _ _ (λ z. omega arith)
      (if_grows number from _ _ _ _ (λ z. omega arith)
      (list_grows number from true 0 ns _ _ (λ e. then_accepts _ _
      (load_accepts fit (b.size + bytes) _ ns b.space (grown_lets key _ _ h.room h.within low) r (omega (arith, h.room))))))))
  room_accepts (append key n) {number} r h for =
      let (from, other) = late number for in
      rw (key_grown key)
      (key_grows number (from, other) key _ _ (λ low. number_grows number from true _ n _ _ (λ e. then_accepts _ _
      (append_accepts (b.size + bytes) _ b.space (grown_lets key _ _ h.room h.within low) r _ _ n _))))
  room_accepts (drop key) {number} r h for = rw (key_grown key) (key_grows number (late number for) key _ _ (λ low e. (_, refl)))

  -- Good desks stay so: the new keys have no pages, and the new bytes are pages to be had.
  pub grown_desks : GoodDesks b → GoodDesks (grown bytes ds b)
  grown_desks g =
      let s = in_shape _ _ shape in
      record {
        paged = s.paged;
        named = named;
        sixteen = g.sixteen;
        exact = λ d low. g.exact d low ∙ sym (pages_same d);
        ceilings = g.ceilings;
        reserves = g.reserves;
        low = λ d low. omega (arith, g.low d low);
        covered = omega (arith, g.covered);
        balanced = omega (arith, g.balanced, g.paged, s.paged);
      }
    where
      no_pages : (t : Bool) (k : Key) → k ≡ empty_key → cond t (pages_of k.place) 0 ≡ 0
      no_pages true k e = ap (λ (x : Key). pages_of x.place) e
      no_pages false k e = refl

      pages_same : (d : ℕ) → pages_of_desk (grown bytes ds b) d ≡ pages_of_desk b d
      pages_same d =
          let many = length-append b.keys (replicate (length ds) empty_key) in
          let new = length-replicate (length ds) empty_key in
          sum_on (length ds) _ (length b.keys) (pages_for (grown bytes ds b) d) (pages_for b d) (omega arith)
          (λ i low. ap₂ (λ (x : ℕ) (k : Key). cond (eqb x d) (pages_of k.place) 0)
          (desk_grown i (let as_many = (list_good b.desks (length b.keys) g.named).0 in omega arith)) (key_grown i))
          (λ i high. no_pages (eqb (desk_in (grown bytes ds b) i) d) (key_of i (grown bytes ds b))
          (key_grown i ∙ get_or-eq_default b.keys empty_key high))

-- In a good book whose mark leaves a page at or below the end of slabs, blocks on stacks end there too.
pub good_roomy : (end : ℕ) (b : Book) → GoodPlain b → page_after b.space.mark + page_size ≤ end
    → page_after b.space.mark + page_size ≤ slabs_end → Roomy end b.space
unfolding past_slabs has
good_roomy end b g ends low = record { ends = ends; low = low; tops = tops }
  where
    tops : (class o : ℕ) (os : List ℕ) → stack_of class b.space ≡ o ∷ os
        → not (eqb class page_class) && ltb slabs_end (o + slab_bytes class) ≡ false
    tops class o os e =
        let mine = ap (at_depth class (length os)) e ∙ top_is class o os in
        let s = block_stands class o b.space.mark (g.space.apart.stands (stack class (length os)) _ mine) in
        rw (le-ltb slabs_end (o + slab_bytes class) (omega (arith, s.ends))) (and_false (not (eqb class page_class)))
