-- The ceilings of demand 3, over every list of calls on a plain book, from the start or the last drop: moves, records rewritten, and the
-- pages of a load. Assumes nothing.
use Prim.Native.Nat.{ℕ, suc, ◌+◌, ◌^◌, ◌≤◌}
use mathlib.Core.Bool.{false, false≢true}
use mathlib.Core.List.{List, [], ◌∷◌, ◌++◌}
use mathlib.Core.Logic.{inl}
use mathlib.Core.Path.{◌≡◌, refl, sym, ap, ◌∙◌}
use native.Mathlib.Nat.{le_refl, le_trans}
use native.Mathlib.Omega.{arith}
use lib.ListN.{length, length-append}
use Rattle.error.specs.Refusal.{Answer, accepted, refused, answered}
use Rattle.scripthash_layout.specs.Sizes.{page_size}
use Rattle.scripthash_stream.proofs.LawsStream.{rising_below}
use Rattle.scripthash_cutting.specs.Cutting.{cutting, AllowedCutting}
use Rattle.scripthash_cutting.proofs.LawsPages.{pages_optimal}
use Rattle.book_rules.specs.declared.places.SlabFit.{SlabFit}
use Rattle.book_rules.specs.Outcomes.{Loaded, book_after, answer_of}
use Rattle.book_statements.specs.Calls.{Change, load, append, drop, Made, Call, ask, change, answers_to}
use Rattle.plain_book.specs.Space.{Space}
use Rattle.plain_book.specs.Key.{Place, empty, inline, slab, pages, Kept, longer, pages_of, Placed, run_pages}
use Rattle.plain_book.specs.Book.{Book, fresh, Outcome, key_of, in_use, extended, loads, does, after, answers}
use Rattle.book_statements.specs.Moves.{Tally, no_moves, tally_of}
use Rattle.book_desks.specs.Desks.{Limits}
use Rattle.plain_book.specs.Sound.{Fits, SoundKey}
use Rattle.plain_book.specs.Ceilings.{most_moves, most_rewritten, FewestPages, EachFewest}
use Rattle.plain_book.specs.Did.{LoadDid, loaded_none, loaded_one, loaded_slab, loaded_run}
use Rattle.plain_book.proofs.LawsMoves.{Spent, spent_most, append_spent, load_spent}
use Rattle.plain_book.proofs.LawsHistory.{load_did, fresh_key, KeptByCalls, kept_calls}
use Rattle.plain_book.proofs.LawsSound.{empty_sound, sound_kept}
use Rattle.plain_book.proofs.LawsKept.{longer_numbers}

-- A key that is not in use was never moved.
unused : (n : ℕ) (place : Place) (t : Tally) → in_use place ≡ false → Spent n place t → (t.moves ≡ 0) × (t.rewritten ≡ 0)
unused n empty t f (z, m, r) = (m, r)
unused n inline t f (z, m, r) = (m, r)
unused n (slab class off kept) t f s = absurd (false≢true (sym f))
unused n (pages ps) t f s = absurd (false≢true (sym f))

-- The stream of a sound key's slab with one number more holds the key's list with that number.
longer_is : (n : ℕ) (list : List ℕ) (class off : ℕ) (kept : Kept) → Fits list (slab class off kept)
    → (longer n kept).numbers ≡ list ++ (n ∷ [])
unfolding Fits
longer_is n list class off kept f = longer_numbers n kept ∙ ap (λ (l : List ℕ). l ++ (n ∷ [])) f.0

-- Calls keep a key sound, and its tally within what its place allows.
spent_kept : KeptByCalls (λ k t. SoundKey k × Spent (length k.list) k.place t)
spent_kept =
    record {
      loads = λ fit end k ns s p t (sound, h) f rises e.
          let (m, r) = unused (length k.list) k.place t f h in
          (sound_kept.loads fit end k ns s p t sound f rises e, load_spent end s t m r e);
      appends = λ end k n s p t (sound, h) rises low e. (
        sound_kept.appends end k n s p t sound rises low e,
        append_spent end (length k.list) (extended k.list n) n s t (length-append k.list (n ∷ []))
            (λ class off kept is. longer_is n k.list class off kept (rw is at sound.fits)) h e,
      );
      drops = (sound_kept.drops, (refl, refl, refl));
    }

-- A sound key that nothing moved yet is within what its place allows, in whatever forms its list is kept.
start_spent : (list : List ℕ) (place : Place) → Fits list place → Spent (length list) place no_moves
unfolding Fits
start_spent list empty f = (f, refl, refl)
start_spent list inline f = (f, refl, refl)
start_spent list (slab class off kept) (same, each, c, two, few, bytes, low) = record { class = c; few = few; so_far = inl (refl, refl) }
start_spent list (pages ps) f = (omega arith, omega arith)

-- Take any book with a sound key and any list of calls: from the start or the last drop the key is moved no more than 9 times, and has no
-- more than 765 records rewritten by moves.
pub ceilings_from : (b : Book) (key : ℕ) (cs : List Call) → SoundKey (key_of key b)
    → ((tally_of key (answers b cs) no_moves).moves ≤ most_moves) × ((tally_of key (answers b cs) no_moves).rewritten ≤ most_rewritten)
ceilings_from b key cs sound =
    spent_most _ (key_of key (after b cs)).place _
    (kept_calls _ spent_kept key b cs no_moves (sound, start_spent (key_of key b).list (key_of key b).place sound.fits)).1

-- Take any fresh book and any list of calls: from empty to drop no key is moved more than 9 times, nor has more than 765 records rewritten
-- by moves.
pub ceilings : (ds : List ℕ) (size heads : ℕ) (l : Limits) (key : ℕ) (cs : List Call)
    → ((tally_of key (answers (fresh ds size heads l) cs) no_moves).moves ≤ most_moves)
    × ((tally_of key (answers (fresh ds size heads l) cs) no_moves).rewritten ≤ most_rewritten)
ceilings ds size heads l key cs = ceilings_from (fresh ds size heads l) key cs (rw (fresh_key ds size heads l key) empty_sound)

-- ---- the pages of a load

-- A run has as many pages as the list was cut into.
pub run_length : (off : ℕ) (parts : List (List ℕ)) → length (run_pages off parts) ≡ length parts
unfolding run_pages
run_length off [] = refl
run_length off (p ∷ []) = refl
run_length off (p ∷ q ∷ ps) = ap suc (run_length (off + page_size) (q ∷ ps))

-- The pages of a load: those of the cutting, or none.
load_pages : {fit : SlabFit} (end : ℕ) (s : Space) {ns : List ℕ} {p : Placed} → LoadDid fit end s ns p
    → pages_of p.place ≤ length (cutting ns)
load_pages end s loaded_none = omega arith
load_pages end s loaded_one = omega arith
load_pages end s (loaded_slab c t two q got) = omega arith
load_pages end s {ns} (loaded_run t two q got) = rw (run_length t.off (cutting ns)) (le_refl (length (cutting ns)))

-- For every accepted load, every allowed cutting of its list has at least as many pages as the load reports.
pub load_least : (fit : SlabFit) (b : Book) (key : ℕ) (ns : List ℕ) {o : Outcome Loaded} → loads fit b key ns ≡ accepted o
    → (parts : List (List ℕ)) → AllowedCutting ns parts → o.told.pages ≤ length parts
load_least fit b key ns e parts ok =
    let (p, within, free, rises, got, is) = load_did fit b key ns e in
    rw (ap (λ (x : Outcome Loaded). x.told.pages) is)
    (le_trans (load_pages b.size b.space got) (pages_optimal ns (rising_below (2 ^ 62) (2 ^ 63) 0 ns (omega arith) rises) parts ok))

-- So it is with each load of a list of calls, on any book.
fewest_pages : (b : Book) (c : Change) (a : Answer (Outcome (Made c))) → does b c ≡ a → FewestPages c (answer_of a)
unfolding FewestPages does answered
fewest_pages b (load fit key ns) (accepted o) e = load_least fit b key ns e
fewest_pages b (load fit key ns) (refused number) e = tt
fewest_pages b (append key n) a e = tt
fewest_pages b (drop key) a e = tt

pub loads_least : (b : Book) (cs : List Call) → EachFewest (answers b cs)
unfolding EachFewest answers_to
loads_least b [] = tt
loads_least b (ask q ∷ cs) = loads_least b cs
loads_least b (change c ∷ cs) = (fewest_pages b c (does b c) refl, loads_least (book_after b (does b c)) cs)
