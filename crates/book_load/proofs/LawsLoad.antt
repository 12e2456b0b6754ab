-- A load over bytes, test by test and step by step: what each part of it answers. By cases on the tests.
use Prim.Native.Nat.{ℕ, ◌^◌, ◌≤◌, ◌<◌}
use mathlib.Core.Bool.{Bool, true, false, not}
use mathlib.Core.List.{List, [], ◌∷◌}
use mathlib.Core.Option.{Option, none, some}
use mathlib.Core.Path.{◌≡◌, refl, sym, ap, ◌∙◌}
use native.Mathlib.Omega.{arith}
use borrow.Author.Tests.{le-ltb, lt-ltb, eq-eqb, ne_eqb}
use lib.Dec.{leb, ltb, eqb}
use lib.ListN.{length, get_or}
use Rattle.error.specs.Refusal.{Answer, accepted, refused, refuse_if, and_then, answered, shape_bad, key_beyond, key_in_use, too_many_offered}
use Rattle.error.specs.Refusal.{desks_bad}
use Rattle.error.proofs.LawsAnswer.{refused≢accepted, refuse_yes, refuse_no, refused_alike, then_yes, then_no}
use Rattle.scripthash_layout.specs.Sizes.{max_slab_count}
use Rattle.scripthash_layout.specs.declared.head.ShHeadValue.TheVariants.{Inline, Slab, Extent}
use Rattle.scripthash_stream.specs.Stream.{Rising, stream_len, max_offered}
use Rattle.scripthash_stream.proofs.LawsStream.{rising_below}
use Rattle.scripthash_slabs.specs.Slab.{slab_payload}
use Rattle.scripthash_cutting.specs.Cutting.{page_room, cutting, chunk_ranges}
use Rattle.scripthash_cutting.proofs.LawsPages.{pages_at_most}
use Rattle.scripthash_cutting.proofs.LawsRising.{rising_words}
use Rattle.book_rules.specs.declared.places.SlabFit.{SlabFit}
use Rattle.book_rules.specs.Outcomes.{book_after, loaded_in, Loaded}
use Rattle.book_rules.specs.Offered.{offered_number, offered_list}
use Rattle.book_rules.specs.Places.{loads_to}
use Rattle.book_rules.proofs.LawsOffered.{rising_all}
use Rattle.book_rules.proofs.LawsRules.{loads_to_lem}
use Rattle.book_blocks.specs.Blocks.{write_run}
use Rattle.book_blocks.specs.Steps.{Run}
use Rattle.book_blocks.proofs.LawsWrites.{parts_some}
use Rattle.book_desks.specs.Desks.{desks}
use Rattle.book_space.specs.Space.{Space, space, InShape, shape_broken}
use Rattle.book_space.specs.Desks.{TakenFor, slab_for, run_for}
use Rattle.book_space.proofs.LawsDesks.{run_for_lies}
use Rattle.book.specs.Book.{Book, Outcome, word_of, filled}
use Rattle.book_load.specs.Loads.{loading, last_of_run, load_into, load_at, loads}
use Rattle.book.specs.Steps.{Placed, places_into, Does}
use Rattle.book_load.specs.Steps.{Judged, Parts}
use Rattle.book.proofs.LawsKey.{desk_broken, desk_none, desk_beyond, desk_there, does_no}

-- ---- how a call ends

-- A load that tells no pages and leaves the book.
pub ends_same : (b : Book) (outcome : Answer (Outcome Loaded)) → outcome ≡ accepted (record { told = loaded_in 0; book = b })
    → Does outcome b b (accepted (loaded_in 0))
unfolding book_after answered
ends_same b outcome e = rw e record { told = refl; left = refl }

-- A load that is refused and leaves the book.
pub ends_refused : (b : Book) (outcome : Answer (Outcome Loaded)) {number : ℕ} → outcome ≡ refused number
    → Does outcome b b (refused number)
ends_refused b outcome e = does_no b b _ outcome e refl refl

-- A load that is refused, and leaves a space and counts that are as they were.
pub ends_still : (b : Book) (outcome : Answer (Outcome Loaded)) {number : ℕ} {s : Space} {counts : List ℕ}
    → (outcome ≡ refused number) × (s ≡ b.space) × (counts ≡ b.counts)
    → Does outcome b (record { heads = b.heads; space = s; counts = counts }) (refused number)
ends_still b outcome e = does_no b _ _ outcome e.0 refl (rw (e.1, e.2))

-- ---- a slab

-- A part that goes on, and then goes on again.
then_then : {A B C : Type 0} (a : Answer A) (f : A → B) (g : B → C)
    → and_then a (λ x. accepted (g (f x))) ≡ and_then (and_then a (λ x. accepted (f x))) (λ y. accepted (g y))
unfolding and_then
then_then (accepted x) f g = refl
then_then (refused number) f g = refl

-- A list loaded into a slab that a desk takes, by what placing it tells.
module _ (desk : ℕ) (b : Book) (key : ℕ) (ns : List ℕ) (class : ℕ) where
  abbrev placing_it : Answer Placed
  placing_it = places_into desk b.space b.counts ns (some class)

  -- The load is a placing, and then the key's place.
  slab_load : load_into desk b key ns (some class) ≡ and_then placing_it (λ p. accepted (loading key p.place 0 p.space p.counts b))
  unfolding load_into places_into
  slab_load =
      then_then (slab_for desk class b.space b.counts)
      (λ t. record { place = Slab class (length ns) t.off; space = filled t (slab_payload ns); counts = t.counts })
      (λ (p : Placed). loading key p.place 0 p.space p.counts b)

  -- A list that is placed is loaded.
  pub slab_loaded : {p : Placed} → placing_it ≡ accepted p
      → load_into desk b key ns (some class) ≡ accepted (loading key p.place 0 p.space p.counts b)
  slab_loaded e = slab_load ∙ then_yes placing_it (λ p. accepted (loading key p.place 0 p.space p.counts b)) e

  -- One that isn't placed is refused.
  pub slab_not_loaded : {number : ℕ} → placing_it ≡ refused number → load_into desk b key ns (some class) ≡ refused number
  slab_not_loaded e = slab_load ∙ then_no placing_it (λ p. accepted (loading key p.place 0 p.space p.counts b)) e

-- ---- a run

-- A list of at most 65,535 numbers is cut into at most 163 parts.
pub parts_few : (ns : List ℕ) → Judged ns → length (cutting ns) ≤ 163
parts_few ns j =
    omega (
      arith,
      j.few,
      pages_at_most page_room (omega arith) (omega arith) ns
          (rising_words 0 ns (rising_below (2 ^ 62) (2 ^ 63) 0 ns (omega arith) j.rises)),
    )

-- So a lent list of that length is long enough for its ranges.
pub all_cut : (ns : List ℕ) → Judged ns → chunk_ranges 163 ns ≡ accepted (length (cutting ns))
unfolding chunk_ranges
all_cut ns j = refuse_no _ _ _ (le-ltb 163 (length (cutting ns)) (parts_few ns j))

-- A list loaded into a run that a desk takes, by what taking it tells.
module _ (desk : ℕ) (b : Book) (key : ℕ) (ns : List ℕ) (count : ℕ) (parts : count ≡ length (cutting ns)) where
  -- A run that can't be taken refuses the load.
  pub run_not_loaded : {number : ℕ} → run_for desk count b.space b.counts ≡ refused number
      → load_into desk b key ns none ≡ refused number
  unfolding load_into
  run_not_loaded e = then_no (run_for desk (length (cutting ns)) b.space b.counts) _ (rw parts at e)

  -- A run that is taken is written, and its last page is the key's place.
  pub run_loaded : (t : TakenFor) → run_for desk count b.space b.counts ≡ accepted t
      → (body : List ℕ) → body ≡ write_run t.off count (length ns) t.space.body t.off (cutting ns)
      → load_into desk b key ns none
      ≡ accepted (loading key (Extent (last_of_run t.off count)) count (space body t.space.mark t.space.free) t.counts b)
  unfolding load_into
  run_loaded t e body is = rw (is, parts) (then_yes (run_for desk (length (cutting ns)) b.space b.counts) _ (rw parts at e))

-- A list that was cut has parts.
pub count_some : (fks : List ℕ) (ranges : List (List ℕ)) (count : ℕ) → Parts fks ranges count → 0 < count
count_some fks ranges count p = omega (arith, p.parts, parts_some fks p.judged.rises p.some_fks)

-- A run that a desk took for the parts of a list can be written.
pub run_lies : (desk : ℕ) (s : Space) (counts : List ℕ) (t : TakenFor) (fks : List ℕ) (ranges : List (List ℕ)) (count : ℕ) → InShape s
    → Parts fks ranges count → run_for desk count s counts ≡ accepted t → Run (length t.space.body) t.off fks ranges count
run_lies desk s counts t fks ranges count i p e =
    let r = run_for_lies desk s counts count i (count_some fks ranges count p) e in
    record {
      rises = p.judged.rises;
      some_fks = p.some_fks;
      few = p.judged.few;
      parts = p.parts;
      ranges_are = p.ranges_are;
      aligned = r.aligned;
      some = omega (arith, r.begins);
      inside = omega (arith, r.ends, r.shape.within);
      small = r.shape.most;
    }

-- ---- a list by its length

-- A list loaded onto an empty key.
module _ (fit : SlabFit) (desk : ℕ) (b : Book) (key : ℕ) where
  -- None changes nothing.
  pub load_none : (ns : List ℕ) → length ns ≡ 0 → load_at fit desk b key ns ≡ accepted (record { told = loaded_in 0; book = b })
  unfolding load_at
  load_none [] h = refl
  load_none (n ∷ ns) h = absurd (omega arith)

  -- One goes into the head word.
  pub load_one : (ns : List ℕ) → length ns ≡ 1
      → load_at fit desk b key ns ≡ accepted (loading key (Inline (get_or ns 0 0) 1) 0 b.space b.counts b)
  unfolding load_at
  load_one [] h = absurd (omega arith)
  load_one (n ∷ []) h = refl
  load_one (n ∷ m ∷ ns) h = absurd (omega arith)

  -- More go where a load gives them a place.
  pub load_more : (ns : List ℕ) → 2 ≤ length ns
      → load_at fit desk b key ns ≡ load_into desk b key ns (loads_to fit (length ns) (stream_len ns))
  unfolding load_at
  load_more [] h = absurd (omega arith)
  load_more (n ∷ []) h = absurd (omega arith)
  load_more (n ∷ m ∷ ns) h = refl

-- More than a slab is given go into pages.
pub many_in_pages : (fit : SlabFit) (ns : List ℕ) → max_slab_count < length ns → loads_to fit (length ns) (stream_len ns) ≡ none
many_in_pages fit ns h = go (loads_to fit (length ns) (stream_len ns)) refl
  where
    go : (o : Option ℕ) → loads_to fit (length ns) (stream_len ns) ≡ o → loads_to fit (length ns) (stream_len ns) ≡ none
    go none e = e
    go (some class) e = absurd (omega (arith, (loads_to_lem fit (length ns) (stream_len ns) e).0))

-- ---- the tests

module _ {A B : Type 0} where
  -- A list that is refused number by number is refused whatever comes after it.
  pub refused_all : (first : Bool) (prev : ℕ) (ns : List ℕ) (x : A) (after : Answer B) {m : ℕ}
      → offered_list first prev ns (accepted x) ≡ refused m
      → offered_list first prev ns after ≡ refused m
  unfolding offered_list offered_number
  refused_all first prev [] x after e = absurd (refused≢accepted (sym e))
  refused_all first prev (n ∷ ns) x after e =
      refused_alike _ _ _ _
      (refused_alike (leb (2 ^ 63) n) _ _ _
      (refused_alike (leb (2 ^ 62) n) _ _ _ (refused_alike (leb n prev) _ _ _ (λ e. refused_all false n ns x after e)))) e

-- A load of a list onto a key by a desk, by the tests in their order.
module _ (fit : SlabFit) (desk : ℕ) (b : Book) (key : ℕ) (ns : List ℕ) where
  -- What comes after the tests.
  abbrev loaded : Answer (Outcome Loaded)
  loaded = load_at fit desk b key ns

  -- A book out of shape.
  pub loads_shape : shape_broken b.space (length b.heads) ≡ true → loads fit desk b key ns ≡ refused shape_bad
  unfolding loads
  loads_shape e = desk_broken desk b key _ e

  module _ (good : shape_broken b.space (length b.heads) ≡ false) where
    -- No such desk.
    pub loads_desk : desks ≤ desk → loads fit desk b key ns ≡ refused desks_bad
    unfolding loads
    loads_desk h = desk_none desk b key _ good h

    module _ (one : desk < desks) where
      -- A key beyond the heads.
      pub loads_beyond : length b.heads ≤ key → loads fit desk b key ns ≡ refused key_beyond
      unfolding loads
      loads_beyond h = desk_beyond desk b key _ good one h

      module _ (known : key < length b.heads) where
        -- What comes after the key.
        keyed : loads fit desk b key ns
            ≡ refuse_if (not (eqb (word_of key b) 0)) key_in_use
            (refuse_if (ltb max_offered (length ns)) too_many_offered (offered_list true 0 ns loaded))
        unfolding loads
        keyed = desk_there desk b key _ good one known

        -- A key in use.
        pub loads_in_use : (word_of key b ≡ 0 → ⊥) → loads fit desk b key ns ≡ refused key_in_use
        loads_in_use h = keyed ∙ refuse_yes _ _ _ (ap not (ne_eqb (word_of key b) 0 h))

        module _ (empty : word_of key b ≡ 0) where
          -- What comes after the key's word.
          emptied : loads fit desk b key ns ≡ refuse_if (ltb max_offered (length ns)) too_many_offered (offered_list true 0 ns loaded)
          emptied = keyed ∙ refuse_no _ _ _ (ap not (eq-eqb (word_of key b) 0 empty))

          -- Too many numbers.
          pub loads_too_many : max_offered < length ns → loads fit desk b key ns ≡ refused too_many_offered
          loads_too_many h = emptied ∙ refuse_yes _ _ _ (lt-ltb max_offered (length ns) h)

          module _ (few : length ns ≤ max_offered) where
            -- A number that is turned back.
            pub loads_offered : {number : ℕ} → offered_list true 0 ns (accepted (stream_len ns)) ≡ refused number
                → loads fit desk b key ns ≡ refused number
            loads_offered e =
                emptied ∙ refuse_no _ _ _ (le-ltb max_offered (length ns) few) ∙ refused_all true 0 ns (stream_len ns) loaded e

            -- A list that rises is loaded.
            pub loads_on : Rising (2 ^ 62) 0 ns → loads fit desk b key ns ≡ loaded
            loads_on r = emptied ∙ refuse_no _ _ _ (le-ltb max_offered (length ns) few) ∙ rising_all true 0 ns loaded r
