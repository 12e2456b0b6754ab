-- Which refusals the plain book gives: those that FORMAT names for it, those of desks, 1 and 39 only where its shape or its list are
-- bad, and 35 only where a freed slab ends past the end of slabs; never 31. Assumes nothing.
use Prim.Native.Nat.{ℕ}
use mathlib.Core.Bool.{Bool, true, false, cond, ◌||◌, true≢false}
use mathlib.Core.List.{List, [], ◌∷◌}
use mathlib.Core.Option.{Option, none, some}
use mathlib.Core.Path.{◌≡◌, refl, sym, ◌∙◌}
use lib.Dec.{eqb}
use lib.ListN.{length, set}
use Rattle.error.specs.Refusal.{Answer, accepted, refused, refuse_if, and_then, answered, shape_bad, key_beyond, key_in_use, too_many_offered}
use Rattle.error.specs.Refusal.{offered_first_zero, offered_bit63, offered_too_large, offered_not_rising, list_too_short, free_head_bad, no_room}
use Rattle.error.specs.Refusal.{desks_bad, past_ceiling, into_reserves}
use Rattle.scripthash_layout.specs.Sizes.{slab_bytes, page_class}
use Rattle.book_rules.specs.declared.places.SlabFit.{SlabFit}
use Rattle.book_rules.specs.Outcomes.{answer_of, book_after}
use Rattle.book_statements.specs.Calls.{Enquiry, read, Change, load, append, drop, Call, ask, change, answers_to}
use Rattle.book_limits.specs.Limits.{out_of_shape, past_slabs}
use Rattle.book_rules.specs.Places.{stays}
use Rattle.book_desks.specs.Desks.{Limits, permitted, list_bad}
use Rattle.book_rules.specs.Offered.{offered_number, offered_list}
use Rattle.plain_book.specs.Space.{Space, Taken, stack_of, take_mark, take_slab, rounded, take_run, take_fresh, take_from, take_block}
use Rattle.plain_book.specs.Space.{run_at_mark, take_found}
use Rattle.plain_book.specs.Key.{Place, empty, inline, slab, pages, moved, joins, begin_page, append_pages, append_place, load_into}
use Rattle.plain_book.specs.Key.{load_place, longer, Leave}
use Rattle.plain_book.specs.Book.{Book, Outcome, on_key, allowed, desk_in, leave_of, loads, appends, reads, drops, does, answers, asks}
use Rattle.plain_book.specs.Refusals.{key_refusals, low_refusals, plain_refusals, is_one_of, RefusedBy, EachRefusedBy}

-- Answers that are accepted, or refused with one of some numbers, of which those of a book in shape without slabs past their end are some.
module _ (numbers : List ℕ) (named : (m : ℕ) → is_one_of m key_refusals ≡ true → is_one_of m numbers ≡ true) where
  abbrev Plain : {A : Type 0} → Answer A → Type 0
  Plain a = RefusedBy numbers a

  -- ---- a test, a part that can be turned back, a choice

  by_test : {A : Type 0} (test : Bool) (number : ℕ) (after : Answer A) → is_one_of number key_refusals ≡ true → Plain after
      → Plain (refuse_if test number after)
  unfolding refuse_if RefusedBy
  by_test true number after p q = named number p
  by_test false number after p q = q

  -- A test that is a number's only cause.
  by_cause : {A : Type 0} (test : Bool) (number : ℕ) (after : Answer A) → (test ≡ true → is_one_of number numbers ≡ true) → Plain after
      → Plain (refuse_if test number after)
  unfolding refuse_if RefusedBy
  by_cause true number after p q = p refl
  by_cause false number after p q = q

  by_part : {A B : Type 0} (a : Answer A) (after : A → Answer B) → Plain a → ((x : A) → Plain (after x)) → Plain (and_then a after)
  unfolding and_then RefusedBy
  by_part (accepted x) after p q = q x
  by_part (refused number) after p q = p

  by_choice : {A : Type 0} (test : Bool) (one other : Answer A) → Plain one → Plain other → Plain (cond test one other)
  by_choice true one other p q = p
  by_choice false one other p q = q

  value : {A : Type 0} (x : A) → Plain (accepted x)
  unfolding RefusedBy
  value x = tt

  -- ---- takes

  mark_plain : (end bytes : ℕ) (s : Space) → Plain (take_mark end bytes s)
  unfolding take_mark is_one_of key_refusals
  mark_plain end bytes s = by_test _ no_room _ refl (value _)

  slab_plain : (end bytes : ℕ) (s : Space) → Plain (take_slab end bytes s)
  unfolding take_slab is_one_of key_refusals
  slab_plain end bytes s = by_test _ no_room _ refl (mark_plain end bytes s)

  mark_run_plain : (end k : ℕ) (s : Space) → Plain (run_at_mark end k s)
  unfolding run_at_mark
  mark_run_plain end k s = mark_plain end _ (rounded s)

  found_plain : (end k : ℕ) (s : Space) (found : Option ℕ) → Plain (take_found end k s found)
  unfolding take_found
  found_plain end k s none = mark_run_plain end k s
  found_plain end k s (some off) = value _

  run_plain : (end k : ℕ) (s : Space) → Plain (take_run end k s)
  run_plain end k s = found_plain end k s _

  -- A block, by what the top of a stack is refused with.
  pub from_plain : (end class : ℕ) (os : List ℕ) (s : Space)
      → ((o : ℕ) (rest : List ℕ) → os ≡ o ∷ rest → past_slabs class o ≡ true → is_one_of free_head_bad numbers ≡ true)
      → Plain (take_from end class os s)
  unfolding take_from take_fresh refuse_if RefusedBy
  from_plain end class [] s top =
      by_choice (eqb class page_class) (run_at_mark end 1 s) (take_slab end (slab_bytes class) s) (mark_run_plain end 1 s)
      (slab_plain end (slab_bytes class) s)
  from_plain end class (o ∷ os) s top = go (past_slabs class o) refl
    where
      go : (t : Bool) → past_slabs class o ≡ t
          → Plain {A = Taken}
          (refuse_if t free_head_bad (accepted (record { off = o; space = record { mark = s.mark; stacks = set s.stacks class os } })))
      go true e = top o os refl e
      go false e = tt

  -- What a desk's take has to pass.
  allowed_plain : (l : Limits) (end desk : ℕ) (held : List ℕ) (k : ℕ) (a : Answer Taken) → Plain a → Plain (allowed l end desk held k a)
  unfolding allowed permitted is_one_of key_refusals
  allowed_plain l end desk held k a p =
      by_part _ _ p (λ t. by_test _ past_ceiling _ refl (by_test _ into_reserves _ refl (value t)))

  -- ---- places

  module _ (end : ℕ) (leave : Leave) (s : Space) (lets : (k : ℕ) (a : Answer Taken) → Plain a → Plain (leave k a))
      (takes : (class : ℕ) → Plain (take_block end class s)) where
    moved_plain : (o : Option ℕ) (held : ℕ) (list : List ℕ) (old : Place) → Plain (moved end leave o held list old s)
    unfolding moved
    moved_plain (some class) held list old = by_part _ _ (lets 0 _ (takes class)) (λ t. value _)
    moved_plain none held list old = by_part _ _ (lets 1 _ (takes page_class)) (λ t. value _)

    append_plain : (held : ℕ) (list : List ℕ) (n : ℕ) (place : Place) → Plain (append_place end leave held list n place s)
    unfolding append_place append_pages begin_page
    append_plain held list n empty = value _
    append_plain held list n inline = moved_plain _ held list inline
    append_plain held list n (slab class off kept) =
        by_choice (stays class (length list) (longer n kept).bytes) _ _ (value _) (moved_plain _ held list _)
    append_plain held list n (pages ps) = by_choice (joins n ps) _ _ (value _) (by_part _ _ (lets 1 _ (takes page_class)) (λ t. value _))

    into_plain : (o : Option ℕ) (list : List ℕ) → Plain (load_into end leave o list s)
    unfolding load_into
    into_plain (some class) list = by_part _ _ (lets 0 _ (takes class)) (λ t. value _)
    into_plain none list = by_part _ _ (lets _ _ (run_plain end _ s)) (λ t. value _)

    load_plain : (fit : SlabFit) (list : List ℕ) → Plain (load_place fit end leave list s)
    unfolding load_place
    load_plain fit [] = value _
    load_plain fit (n ∷ []) = value _
    load_plain fit (n ∷ m ∷ ns) = into_plain _ (n ∷ m ∷ ns)

  -- ---- what is offered

  number_plain : {A : Type 0} (first : Bool) (prev n : ℕ) (after : Answer A) → Plain after → Plain (offered_number first prev n after)
  unfolding offered_number is_one_of key_refusals
  number_plain first prev n after p =
      by_test _ offered_first_zero _ refl
      (by_test _ offered_bit63 _ refl (by_test _ offered_too_large _ refl (by_test _ offered_not_rising _ refl p)))

  list_plain : {A : Type 0} (first : Bool) (prev : ℕ) (ns : List ℕ) (after : Answer A) → Plain after
      → Plain (offered_list first prev ns after)
  unfolding offered_list
  list_plain first prev [] after p = p
  list_plain first prev (n ∷ ns) after p = number_plain first prev n _ (list_plain false n ns after p)

  -- ---- calls

  -- 1 and 39 are among the numbers where a book gives cause for them.
  abbrev pub ForCause : Book → Type 0
  ForCause b =
      (out_of_shape b.size (length b.keys) ≡ true → is_one_of shape_bad numbers ≡ true)
      × (list_bad b.desks (length b.keys) ≡ true → is_one_of desks_bad numbers ≡ true)

  key_plain : {A : Type 0} (b : Book) (key : ℕ) (after : Answer A) → ForCause b → Plain after → Plain (on_key b key after)
  unfolding on_key is_one_of key_refusals
  key_plain b key after (shape, list) p = by_cause _ shape_bad _ shape (by_cause _ desks_bad _ list (by_test _ key_beyond _ refl p))

  -- A change, by what its takes are refused with.
  pub change_by : (b : Book) (c : Change) → ForCause b → ((class : ℕ) → Plain (take_block b.size class b.space)) → Plain (does b c)
  unfolding does loads appends drops is_one_of key_refusals
  change_by b (load fit key ns) cause takes =
      key_plain b key _ cause (by_test _ key_in_use _ refl (by_test _ too_many_offered _ refl (list_plain true 0 ns _
      (by_part _ _
      (load_plain b.size (leave_of b key) b.space (allowed_plain b.limits b.size (desk_in b key) b.held) takes fit ns)
      (λ p. value _)))))
  change_by b (append key n) cause takes =
      key_plain b key _ cause (number_plain true _ n _ (by_part _ _
      (append_plain b.size (leave_of b key) b.space (allowed_plain b.limits b.size (desk_in b key) b.held) takes _ _ n _)
      (λ p. value _)))
  change_by b (drop key) cause takes = key_plain b key _ cause (value _)

  -- An enquiry.
  pub enquiry_by : (b : Book) (q : Enquiry) → ForCause b → Plain (asks b q)
  unfolding asks reads is_one_of key_refusals
  enquiry_by b (read key room) cause = key_plain b key _ cause (by_test _ list_too_short _ refl (value _))

  -- What a change tells is refused alike.
  pub told_by_lem : {T : Type 0} (a : Answer (Outcome T)) → Plain a → Plain (answer_of a)
  unfolding answered RefusedBy
  told_by_lem (accepted o) p = tt
  told_by_lem (refused number) p = p

  -- Where what holds of a book is kept, and its calls are refused with some of the numbers, so are lists of calls.
  pub each_by : (R : Book → Type 0) → ((b : Book) (c : Change) → R b → R (book_after b (does b c)))
      → ((b : Book) (c : Change) → R b → Plain (does b c)) → ((b : Book) (q : Enquiry) → R b → Plain (asks b q))
      → (b : Book) (cs : List Call) → R b → EachRefusedBy numbers (answers b cs)
  unfolding answers_to EachRefusedBy
  each_by R keeps changes enquiries b [] h = tt
  each_by R keeps changes enquiries b (ask q ∷ cs) h = (enquiries b q h, each_by R keeps changes enquiries b cs h)
  each_by R keeps changes enquiries b (change c ∷ cs) h =
      (told_by_lem (does b c) (changes b c h), each_by R keeps changes enquiries (book_after b (does b c)) cs (keeps b c h))

-- ---- any plain book

pub or_right : (x : Bool) → x || true ≡ true
or_right true = refl
or_right false = refl

-- The numbers of a book in shape are numbers of one where no slab ends past the end of slabs, and these of any plain book.
pub low_named : (m : ℕ) → is_one_of m key_refusals ≡ true → is_one_of m low_refusals ≡ true
unfolding is_one_of low_refusals
low_named m e = rw (e, or_right (eqb m desks_bad)) (or_right (eqb m shape_bad))

plain_named : (m : ℕ) → is_one_of m key_refusals ≡ true → is_one_of m plain_refusals ≡ true
unfolding is_one_of
plain_named m e = rw (low_named m e) (or_right (eqb m free_head_bad))

-- A change of any plain book is accepted, or refused with one of its numbers.
pub change_refused : (b : Book) (c : Change) → RefusedBy plain_refusals (does b c)
unfolding is_one_of low_refusals
change_refused b c =
    change_by plain_refusals plain_named b c (λ e. refl, λ e. refl)
    (λ class. from_plain plain_refusals plain_named b.size class (stack_of class b.space) b.space (λ o os e past. refl))

-- So is an enquiry.
pub enquiry_refused : (b : Book) (q : Enquiry) → RefusedBy plain_refusals (asks b q)
unfolding is_one_of low_refusals
enquiry_refused b q = enquiry_by plain_refusals plain_named b q (λ e. refl, λ e. refl)

-- So is each answer to any list of calls, on any plain book.
pub answers_refused : (b : Book) (cs : List Call) → EachRefusedBy plain_refusals (answers b cs)
answers_refused b cs =
    each_by plain_refusals plain_named (λ b. Unit {0}) (λ b c h. tt) (λ b c h. change_refused b c) (λ b q h. enquiry_refused b q) b cs tt

-- ---- a plain book in shape

-- A book in shape whose list names a desk for each key gives no cause for 1 or 39.
pub no_cause : (numbers : List ℕ) (named : (m : ℕ) → is_one_of m key_refusals ≡ true → is_one_of m numbers ≡ true) (b : Book)
    → out_of_shape b.size (length b.keys) ≡ false → list_bad b.desks (length b.keys) ≡ false → ForCause numbers named b
no_cause numbers named b shape list = (λ e. absurd (true≢false (sym e ∙ shape)), λ e. absurd (true≢false (sym e ∙ list)))
