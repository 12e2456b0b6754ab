-- What a load with a spare slot is for: the next number moves the list only where its bytes don't fit. Assumes nothing.
use Prim.Native.Nat.{ℕ, ◌+◌, ◌≤◌, ◌<◌}
use mathlib.Core.Bool.{true, false≢true}
use mathlib.Core.List.{List, [], ◌∷◌}
use mathlib.Core.Option.{some}
use mathlib.Core.Path.{◌≡◌, refl, sym, ap, subst, ◌∙◌}
use native.Mathlib.Omega.{arith}
use lib.ListN.{length, length-append}
use lib.Seq.{get_or-set_same}
use Rattle.error.specs.Refusal.{accepted}
use Rattle.scripthash_layout.specs.Sizes.{slab_bytes, max_slab_count}
use Rattle.scripthash_stream.specs.Stream.{stream_len}
use Rattle.book_rules.specs.declared.places.SlabFit.TheVariants.{Spare}
use Rattle.book_rules.specs.Outcomes.{Loaded, Appended}
use Rattle.book_rules.specs.Places.{payload_len, stays, loads_to}
use Rattle.book_rules.proofs.LawsRules.{spare_stays}
use Rattle.plain_book.specs.Space.{Space}
use Rattle.plain_book.specs.Key.{Place, slab, Kept, written, longer, Key, empty_key, key_in, Placed}
use Rattle.plain_book.specs.Book.{Book, Outcome, key_of, extended, loads, appends}
use Rattle.plain_book.specs.Did.{LoadDid, loaded_none, loaded_one, loaded_slab, loaded_run, Outgrown, AppendDid, began, stayed}
use Rattle.plain_book.specs.Did.{moved_slab}
use Rattle.plain_book.specs.Did.{moved_page, joined_page, begun_page}
use Rattle.plain_book.proofs.LawsHistory.{load_did, append_did}

-- A list that can stay in its slab isn't rewritten by an append.
stays_put : {end held n : ℕ} {list : List ℕ} {s : Space} {old : Place} {p : Placed} (class off : ℕ) (kept : Kept)
    → old ≡ slab class off kept
    → stays class (length list) (longer n kept).bytes ≡ true
    → AppendDid end held list n s old p → p.rewritten ≡ 0
stays_put class off kept is fits began = refl
stays_put class off kept is fits (stayed c o k q) = refl
stays_put {n = n} {list = list} class off kept is fits (moved_slab old c t out q got) =
    absurd (false≢true (sym (subst (Outgrown list n) is out) ∙ fits))
stays_put {n = n} {list = list} class off kept is fits (moved_page old t out q got) =
    absurd (false≢true (sym (subst (Outgrown list n) is out) ∙ fits))
stays_put class off kept is fits (joined_page ps q) = refl
stays_put class off kept is fits (begun_page ps t q got) = refl

-- Where a load with a spare slot put a list of two numbers or more for which it has a slab.
spare_place : {end : ℕ} {s : Space} {ns : List ℕ} {p : Placed} (class : ℕ) → 2 ≤ length ns → loads_to Spare (length ns) (stream_len ns)
    ≡ some class
    → LoadDid Spare end s ns p → (off : ℕ) × (p.place ≡ slab class off (written ns))
spare_place class two to loaded_none = absurd (omega arith)
spare_place class two to loaded_one = absurd (omega arith)
spare_place {ns = ns} class two to (loaded_slab c t many q got) =
    let same : c ≡ class = cc in (t.off, ap (λ (x : ℕ). slab x t.off (written ns)) same)
spare_place class two to (loaded_run t many q got) = let z : ◌≡◌ {A = ℕ} 0 1 = cc in absurd (omega arith)

-- A list of 2 to 255 numbers that was loaded with a spare slot into a slab: an append rewrites nothing where the number's bytes fit.
pub spare_append : (b : Book) (key n : ℕ) (ns : List ℕ) {o : Outcome Loaded} {after : Outcome Appended} {class : ℕ}
    → loads Spare b key ns ≡ accepted o
    → 2 ≤ length ns → length ns < max_slab_count → loads_to Spare (length ns) (stream_len ns) ≡ some class
    → payload_len (longer n (written ns)).bytes ≤ slab_bytes class
    → appends o.book key n ≡ accepted after → after.told.rewritten ≡ 0
spare_append b key n ns {o} {class = class} e two few to fits e' =
    let (p, within, free, rises, got, is) = load_did Spare b key ns e in
    let (off, place) = spare_place class two to got in
    let held : key_of key o.book ≡ key_in ns p.place true =
    ap (λ (x : Outcome Loaded). key_of key x.book) is ∙ get_or-set_same b.keys key _ empty_key within in
    let (p', within', rises', low, did, is') = append_did o.book key n e' in
    let longer-list : extended (key_of key o.book).list n ≡ extended ns n = ap (λ (k : Key). extended k.list n) held in
    let count : length (extended ns n) ≡ length ns + 1 = length-append ns (n ∷ []) in
    let stay : stays class (length (extended (key_of key o.book).list n)) (longer n (written ns)).bytes ≡ true =
    rw (longer-list, count) (spare_stays (length ns) (stream_len ns) _ to few fits) in
    ap (λ (x : Outcome Appended). x.told.rewritten) is'
    ∙ stays_put class off (written ns) (ap (λ (k : Key). k.place) held ∙ place) stay did
