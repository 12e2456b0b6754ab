-- A load of a body of bytes changes what it names only. Assumes nothing.
use Prim.Native.Nat.{ℕ, ◌+◌, ◌*◌, ◌^◌, ◌<◌}
use mathlib.Core.Bool.{true}
use mathlib.Core.List.{List, [], ◌∷◌}
use mathlib.Core.Option.{Option, none, some}
use mathlib.Core.Path.{◌≡◌, refl, sym, subst}
use native.Mathlib.Omega.{arith}
use borrow.Author.Tests.{leb-false}
use lib.ListN.{length, set}
use Rattle.error.specs.Refusal.{Answer, accepted}
use Rattle.error.proofs.LawsAnswer.{accepted_inj, passed, went_on}
use Rattle.buffer.specs.LittleEndian.{AreBytes}
use Rattle.scripthash_layout.specs.Sizes.{page_size}
use Rattle.scripthash_layout.specs.declared.head.ShHeadValue.TheVariants.{Inline, Slab}
use Rattle.scripthash_stream.specs.Stream.{Rising, stream_len}
use Rattle.scripthash_stream.proofs.LawsStream.{rising_below}
use Rattle.scripthash_slabs.specs.Slab.{slab_payload}
use Rattle.scripthash_cutting.specs.Cutting.{cutting}
use Rattle.scripthash_cutting.proofs.LawsPages.{pages_allowed}
use Rattle.scripthash_cutting.proofs.LawsRising.{rising_words}
use Rattle.book_rules.specs.declared.places.SlabFit.{SlabFit}
use Rattle.book_statements.specs.Calls.{load}
use Rattle.book_rules.specs.Places.{payload_len, loads_to}
use Rattle.book_rules.proofs.LawsOffered.{offered_all}
use Rattle.book_rules.proofs.LawsRules.{loads_to_lem}
use Rattle.book_rules.specs.Outcomes.{Loaded}
use Rattle.book_desks.specs.Desks.{desk_of}
use Rattle.book_desks.specs.Counts.{freed_count, held_count}
use Rattle.book_space.specs.Space.{Space, space, InShape, Taken, searched, run_freed, take_found}
use Rattle.book_space.specs.Desks.{slab_for, run_for}
use Rattle.book_space.proofs.LawsDesks.{taken, took_is, slab_for_lem, run_for_lem}
use Rattle.book_space.proofs.LawsShape.{shape_holds}
use Rattle.book_space.proofs.LawsTake.{run_ran}
use Rattle.book_space.proofs.LawsFreed.{RunLies, found_lies}
use Rattle.book_blocks.specs.Blocks.{write_run}
use Rattle.book_blocks.proofs.LawsWrites.{length_payload, parts_some}
use Rattle.book.specs.Book.{Book, Outcome, head_word, on_key, filled}
use Rattle.book_load.specs.Loads.{load_into, load_at, loads}
use Rattle.book_history.specs.Writes.{Region, Only, SpaceWrites, CallWrites, nothing, bytes_at, word_and, both, taking_pages, filling}
use Rattle.book_history.specs.Writes.{taking_freed, filling_run, load_writes, run_counts, load_counts, writes, Wrote, Differs, Changes}
use Rattle.book_history.proofs.LawsOnly.{only_same, only_set}
use Rattle.book_history.proofs.LawsWritesDesks.{slab_counts_lem, run_counts_lem, by_desk_lem}
use Rattle.book_history.proofs.LawsWritesSpace.{wrote_same, wrote_then, wrote_run, wrote_filled, only_run}
use Rattle.book_history.proofs.LawsWritesFreed.{freed_run_lies, wrote_unlinked}

-- A call on a key that is accepted: the shape is within its limits, the key has a head word, and what comes after the two tests is
-- accepted.
pub on_key_lem : {A : Type 0} (b : Book) (key : ℕ) (after : Answer A) {x : A} → on_key b key after ≡ accepted x
    → InShape b.space × (key < length b.heads) × (after ≡ accepted x)
unfolding on_key
on_key_lem b key after e =
    let p = passed _ _ _ e in
    let q = passed _ _ after p.1 in
    ((shape_holds b.space (length b.heads) p.0).0, leb-false (length b.heads) key q.0, q.1)

-- A book that differs in nothing.
pub differs_not : (n : CallWrites) (b : Book) → Differs n b b
differs_not n b = record {
  heads = only_same n.heads b.heads;
  space = wrote_same n.space b.space;
  counts = only_same n.counts b.counts;
}

-- A key's head word is set, in a space and with counts that differ in what is named only.
pub differs_placed : {n : SpaceWrites} {rs : List Region} (key word : ℕ) (s : Space) (counts : List ℕ) (b : Book) → Wrote n b.space s
    → Only rs b.counts counts → Differs (word_and key n rs) b (record { heads = set b.heads key word; space = s; counts = counts })
differs_placed key word s counts b w o = record { heads = only_set [] b.heads key word; space = w; counts = o }

-- ---- a load

-- A space with the parts of a list written to the pages of a taken run.
abbrev with_run : List ℕ → Taken → Space
with_run ns t =
    space (write_run t.off (length (cutting ns)) (length ns) t.space.body t.off (cutting ns)) t.space.mark t.space.free

-- The parts of a list of rising numbers, written to the pages of a taken run.
pages_wrote : (ns : List ℕ) (s : Space) (t : Taken) {m : SpaceWrites} → Rising (2 ^ 62) 0 ns → RunLies (length (cutting ns)) s t
    → Wrote m s t.space → Wrote (both m (bytes_at t.off (length (cutting ns) * page_size))) s (with_run ns t)
pages_wrote ns s t r lies w =
    let ends = lies.ends in
    let within = lies.shape.within in
    let fit = (pages_allowed ns (rising_words 0 ns (rising_below (2 ^ 62) (2 ^ 63) 0 ns (omega arith) r))).fit in
    wrote_then w
    (record {
      body = only_run t.off (length (cutting ns)) (length ns) t.space.body t.off (cutting ns) fit (omega arith);
      free = only_same [] t.space.free;
      mark = λ z. refl;
      rises = omega arith;
    })

-- A run that is taken where a search led, and written.
run_wrote : (ns : List ℕ) (freed : ℕ) (s : Space) (t : Taken) → AreBytes s.body → InShape s → Rising (2 ^ 62) 0 ns
    → 0 < length (cutting ns) → (found : Option ℕ) → searched (length (cutting ns)) freed s ≡ accepted found
    → take_found (length (cutting ns)) freed s found ≡ accepted t → Wrote (filling_run (length (cutting ns)) freed s found) s (with_run ns t)
unfolding filling_run take_found
run_wrote ns freed s t bytes i r some' none is e =
    let count = length (cutting ns) in
    subst (λ (o : ℕ). Wrote (both (taking_pages s) (bytes_at o (count * page_size))) s (with_run ns t)) (run_ran count s i e).begins
    (pages_wrote ns s t r (found_lies count freed s none i some' is e) (wrote_run count s i e))
run_wrote ns freed s t bytes i r some' (some off) is e =
    let count = length (cutting ns) in
    subst (λ (t : Taken). Wrote (both (taking_freed off count freed s) (bytes_at off (count * page_size))) s (with_run ns t)) (accepted_inj e)
    (pages_wrote ns s (run_freed off count freed s) r (freed_run_lies count freed off s bytes i some' is)
    (wrote_unlinked count freed off s bytes i some' is))

-- A list of rising numbers, by the class that it is given.
into_only : (fit : SlabFit) (desk : ℕ) (b : Book) (key : ℕ) (ns : List ℕ) (to : Option ℕ) {o : Outcome Loaded} → AreBytes b.space.body
    → InShape b.space → Rising (2 ^ 62) 0 ns → 0 < length ns → loads_to fit (length ns) (stream_len ns) ≡ to
    → load_into desk b key ns to ≡ accepted o
    → Differs
    (word_and key (load_writes ns to (freed_count b.counts) b.space) (load_counts desk ns to (freed_count b.counts) b.space))
    b o.book
unfolding load_into load_writes load_counts
into_only fit desk b key ns (some class) bytes i r many is e =
    let l = loads_to_lem fit (length ns) (stream_len ns) is in
    let (t, took, out) = went_on (slab_for desk class b.space b.counts) _ e in
    subst (λ (o : Outcome Loaded). Differs (word_and key (filling class (payload_len (stream_len ns)) b.space) []) b o.book)
    (accepted_inj out)
    (differs_placed key (head_word (Slab class (length ns) t.off)) (filled t (slab_payload ns)) t.counts b
    (wrote_filled class b.space (omega (arith, l.1)) i (payload_len (stream_len ns)) (slab_payload ns) t (length_payload ns) l.2
    (took_is (slab_for_lem desk b.space b.counts class took)).0)
    (slab_counts_lem desk b.counts class b.space took))
into_only fit desk b key ns none bytes i r many is e =
    let count = length (cutting ns) in
    let freed = freed_count b.counts in
    let (t, took, out) = went_on (run_for desk count b.space b.counts) _ e in
    let (found, sought, ran, left) = run_for_lem desk b.space b.counts count took in
    subst
    (λ (o : Outcome Loaded).
    Differs (word_and key (load_writes ns none freed b.space) (load_counts desk ns none freed b.space)) b o.book)
    (accepted_inj out)
    (rw sought
    (differs_placed key _ _ t.counts b (run_wrote ns freed b.space (taken t) bytes i r (parts_some ns r many) found sought ran)
    (subst (λ (xs : List ℕ). Only (run_counts desk found) b.counts xs) (sym left)
    (run_counts_lem desk b.counts count (held_count desk b.counts + count) found))))

-- A list of rising numbers.
at_only : (fit : SlabFit) (ds : List ℕ) (b : Book) (key : ℕ) (ns : List ℕ) {o : Outcome Loaded} → AreBytes b.space.body
    → InShape b.space → Rising (2 ^ 62) 0 ns → load_at fit (desk_of ds key) b key ns ≡ accepted o
    → Changes ds b o.book (load fit key ns)
unfolding load_at writes
at_only fit ds b key [] bytes i r e =
    subst (λ (o : Outcome Loaded). Differs (record { heads = []; space = nothing; counts = [] }) b o.book) (accepted_inj e)
    (differs_not (record { heads = []; space = nothing; counts = [] }) b)
at_only fit ds b key (n ∷ []) bytes i r e =
    subst (λ (o : Outcome Loaded). Differs (word_and key nothing []) b o.book) (accepted_inj e)
    (differs_placed {n = nothing} key (head_word (Inline n 1)) b.space b.counts b (wrote_same nothing b.space)
    (only_same [] b.counts))
at_only fit ds b key (n ∷ m ∷ ns) bytes i r e =
    into_only fit (desk_of ds key) b key (n ∷ m ∷ ns) (loads_to fit (length (n ∷ m ∷ ns)) (stream_len (n ∷ m ∷ ns))) bytes i r
    (omega arith) refl e

-- A load by a key's desk.
pub load_only : (fit : SlabFit) (ds : List ℕ) (b : Book) (key : ℕ) (ns : List ℕ) {o : Outcome Loaded} → AreBytes b.space.body
    → loads fit (desk_of ds key) b key ns ≡ accepted o → Changes ds b o.book (load fit key ns)
unfolding loads
load_only fit ds b key ns bytes e =
    let k = by_desk_lem (desk_of ds key) b key _ e in
    let used = passed _ _ _ k.2 in
    let many = passed _ _ _ used.1 in
    let l = offered_all true 0 ns (load_at fit (desk_of ds key) b key ns) many.1 in
    at_only fit ds b key ns bytes k.0 l.0 l.1
