-- Every list of calls keeps each key of a plain book sound, and those of a fresh one are. Assumes nothing.
use Prim.Native.Nat.{ℕ, suc, ◌+◌, ◌-◌, ◌*◌, ◌^◌, ◌≤◌, ◌<◌}
use mathlib.Core.Bool.{Bool, true}
use mathlib.Core.List.{List, [], ◌∷◌, ◌++◌, append_assoc, append-nil}
use mathlib.Core.Path.{◌≡◌, refl, sym, ap, ◌∙◌}
use native.Mathlib.Nat.{le_refl}
use native.Mathlib.Omega.{arith}
use lib.ListN.{length, length-append}
use borrow.Author.Tests.{leb-true}
use Rattle.compact.specs.Uleb128.{divided, uleb_len}
use Rattle.compact.proofs.LawsLength.{len_mono}
use Rattle.scripthash_layout.specs.Sizes.{max_slab_count}
use Rattle.scripthash_stream.specs.Stream.{Rising, last_from, stream_len, stream_len_from}
use Rattle.scripthash_stream.proofs.LawsStream.{rising_append, rising_below}
use Rattle.scripthash_cutting.specs.Cutting.{page_room, last_page_room, cutting, replace_last, joined, Fit}
use Rattle.scripthash_cutting.proofs.LawsPages.{pages_allowed}
use Rattle.scripthash_cutting.proofs.LawsRising.{rising_words}
use Rattle.book_rules.specs.declared.places.SlabFit.{SlabFit}
use Rattle.plain_book.specs.Space.{Space}
use Rattle.plain_book.specs.Key.{written, longer, Page, Place, empty, inline, slab, pages, empty_key, last_page, no_page}
use Rattle.plain_book.specs.Key.{counted_after, one_page, longer_page, joins, Placed}
use Rattle.plain_book.specs.Key.{run_pages}
use Rattle.book_rules.proofs.LawsRules.{stays_holds, moves_to_lem, loads_to_lem}
use Rattle.plain_book.proofs.LawsKept.{len_snoc, longer_numbers, written_each, longer_each}
use Rattle.plain_book.proofs.LawsSlabs.{taken_low}
use Rattle.book_statements.specs.Calls.{Call}
use Rattle.book_statements.specs.Moves.{no_moves}
use Rattle.book_desks.specs.Desks.{Limits}
use Rattle.plain_book.specs.Book.{Book, fresh, key_of, extended, after}
use Rattle.plain_book.proofs.LawsHistory.{fresh_key, KeptByCalls, kept_calls}
use Rattle.plain_book.specs.Sound.{held, FitPages, Fits, Known, SoundKey}
use Rattle.plain_book.specs.Did.{LoadDid, loaded_none, loaded_one, loaded_slab, loaded_run, Outgrown, AppendDid, began, stayed}
use Rattle.plain_book.specs.Did.{moved_slab, moved_page, begun_page, joined_page}

-- ---- a list with one number more

-- The difference to a number below 2^62 has at most 9 bytes.
pub len_below : (n prev : ℕ) → n < 2 ^ 62 → uleb_len (n - prev) ≤ 9
unfolding divided uleb_len
len_below n prev h = len_mono (n - prev) 4611686018427387903 (omega arith)

-- it rises, where the number is above the last
pub rises_snoc : (top : ℕ) (ns : List ℕ) (n : ℕ) → Rising top 0 ns → last_from 0 ns < n → n < top → Rising top 0 (ns ++ (n ∷ []))
unfolding Rising
rises_snoc top ns n r h t = rising_append top 0 ns (n ∷ []) r (h, t, tt)

-- ---- pages

-- the last page of a run has the room of a last page, the others that of a page
run_fits : (off : ℕ) (parts : List (List ℕ)) → 0 < length parts → Fit last_page_room page_room parts → FitPages (run_pages off parts)
unfolding run_pages Fit FitPages written
run_fits off [] h f = absurd (omega arith)
run_fits off (p ∷ []) h (some', fits) = ((some', fits, omega arith, written_each p), refl)
run_fits off (p ∷ q ∷ []) h (some', fits, f) =
    ((some', fits, le_refl page_room, written_each p), run_fits (off + 4096) (q ∷ []) (omega arith) f)
run_fits off (p ∷ q ∷ r ∷ ps) h (some', fits, f) =
    ((some', fits, le_refl page_room, written_each p), run_fits (off + 4096) (q ∷ r ∷ ps) (omega arith) f)

run_held : (off : ℕ) (parts : List (List ℕ)) → held (run_pages off parts) ≡ joined parts
unfolding run_pages held joined written
run_held off [] = refl
run_held off (p ∷ []) = refl
run_held off (p ∷ q ∷ ps) = ap (λ (l : List ℕ). p ++ l) (run_held (off + 4096) (q ∷ ps))

-- a number that joins the last page
join_held : (n : ℕ) (ps : List Page) → FitPages ps → held (replace_last (λ p. longer_page n p ∷ []) ps) ≡ held ps ++ (n ∷ [])
unfolding held replace_last FitPages longer
join_held n [] f = absurd f
join_held n (p ∷ []) f = append-nil (p.part.numbers ++ (n ∷ []))
    ∙ ap (λ (l : List ℕ). l ++ (n ∷ [])) (sym (append-nil p.part.numbers))
join_held n (p ∷ q ∷ ps) (f, fs) =
    ap (λ (l : List ℕ). p.part.numbers ++ l) (join_held n (q ∷ ps) fs) ∙ sym (append_assoc p.part.numbers (held (q ∷ ps)) (n ∷ []))

join_fits : (n : ℕ) (page : Page) (ps : List Page) → FitPages ps → (longer n (last_page page ps).part).bytes ≤ (last_page page ps).room
    → FitPages (replace_last (λ p. longer_page n p ∷ []) ps)
unfolding FitPages replace_last last_page
join_fits n page [] f h = f
join_fits n page (p ∷ []) ((a, b, c, d), r) h =
    ((rw (longer_numbers n p.part, length-append p.part.numbers (n ∷ [])) (omega arith), h, c, longer_each n p.part d), r)
join_fits n page (p ∷ q ∷ []) (f, fs) h = (f, join_fits n p (q ∷ []) fs h)
join_fits n page (p ∷ q ∷ r ∷ ps) (f, fs) h = (f, join_fits n p (q ∷ r ∷ ps) fs h)

-- one that begins a page
begin_held : (n off : ℕ) (ps : List Page) → held (ps ++ one_page off (n ∷ [])) ≡ held ps ++ (n ∷ [])
unfolding held written
begin_held n off [] = refl
begin_held n off (p ∷ ps) = ap (λ (l : List ℕ). p.part.numbers ++ l) (begin_held n off ps)
    ∙ sym (append_assoc p.part.numbers (held ps) (n ∷ []))

begin_fits : (n off : ℕ) (ps : List Page) → FitPages ps → uleb_len (n - 0) ≤ last_page_room → FitPages (ps ++ one_page off (n ∷ []))
unfolding FitPages stream_len_from written
begin_fits n off [] f h = absurd f
begin_fits n off (p ∷ []) (f, r) h = (f, ((omega arith, omega arith, omega arith, written_each (n ∷ [])), refl))
begin_fits n off (p ∷ q ∷ ps) (f, fs) h = (f, begin_fits n off (q ∷ ps) fs h)

-- ---- places

-- Numbers below 2^62 take at most 9 bytes each in shortest forms.
nine_each : (prev : ℕ) (ns : List ℕ) → Rising (2 ^ 62) prev ns → stream_len_from prev ns ≤ 9 * length ns
unfolding Rising stream_len_from
nine_each prev [] r = omega arith
nine_each prev (n ∷ ns) (a, b, r) = omega (arith, len_below n prev b, nine_each n ns r)

-- So a list that a slab may hold fits a last page, written anew, with one number more.
pub moved_small : (ns : List ℕ) (n : ℕ) → Rising (2 ^ 62) 0 ns → n < 2 ^ 62 → length ns ≤ max_slab_count
    → stream_len (ns ++ (n ∷ [])) ≤ last_page_room
moved_small ns n r l few = omega (arith, len_snoc 0 ns n, len_below n (last_from 0 ns) l, nine_each 0 ns r)

-- a list that outgrew its place has two numbers then, and had no more than a slab may hold
outgrown_two : (ns : List ℕ) (n : ℕ) (old : Place) → Fits ns old → Outgrown (ns ++ (n ∷ [])) n old
    → (2 ≤ length (ns ++ (n ∷ []))) × (length ns ≤ max_slab_count)
unfolding Fits
outgrown_two ns n empty f out = absurd out
outgrown_two ns n inline f out = let d = length-append ns (n ∷ []) in (omega arith, omega arith)
outgrown_two ns n (slab class off kept) (same, each, c, two, few, bytes, low) out = let d = length-append ns (n ∷ []) in (omega arith, few)
outgrown_two ns n (pages ps) f out = absurd out

-- an append keeps a list fitting, where the new number is below 2^62
append_fits : (end count : ℕ) (ns : List ℕ) (n : ℕ) (s : Space) {old : Place} {p : Placed} → Rising (2 ^ 62) 0 ns → n < 2 ^ 62 → Fits ns old
    → AppendDid end count (ns ++ (n ∷ [])) n s old p → Fits (ns ++ (n ∷ [])) p.place
unfolding Fits FitPages held written joins
append_fits end count ns n s r l f began = omega (arith, length-append ns (n ∷ []))
append_fits end count ns n s r l f (stayed class off kept q) =
    let (same, each, c, two, few, bytes, low) = f in
    let (few', slots, fits) = stays_holds class (length (ns ++ (n ∷ []))) (longer n kept).bytes q in (
      longer_numbers n kept ∙ ap (λ (l : List ℕ). l ++ (n ∷ [])) same,
      longer_each n kept each,
      c,
      omega (arith, length-append ns (n ∷ [])),
      few',
      fits,
      low,
    )
append_fits end count ns n s r l f (moved_slab old c t out q got) =
    let m = moves_to_lem (length (ns ++ (n ∷ []))) (stream_len (ns ++ (n ∷ []))) q in
    (refl, written_each (ns ++ (n ∷ [])), m.slab, (outgrown_two ns n old f out).0, m.few, m.fits, taken_low end c s m.slab got)
append_fits end count ns n s r l f (moved_page old t out q got) =
    let (two, few) = outgrown_two ns n old f out in
    (append-nil (ns ++ (n ∷ [])), ((omega arith, moved_small ns n r l few, omega arith, written_each (ns ++ (n ∷ []))), refl))
append_fits end count ns n s r l f (joined_page ps q) =
    let (is_held_lem, fit) = f in
    let room = leb-true (longer n (last_page no_page ps).part).bytes (last_page no_page ps).room q in
    (join_held n ps fit ∙ ap (λ (l : List ℕ). l ++ (n ∷ [])) is_held_lem, join_fits n no_page ps fit room)
append_fits end count ns n s r l f (begun_page ps t q got) =
    let (is_held_lem, fit) = f in
    let nine = len_below n 0 l in
    (begin_held n t.off ps ∙ ap (λ (l : List ℕ). l ++ (n ∷ [])) is_held_lem, begin_fits n t.off ps fit (omega arith))

-- parts that make up some numbers are some
pub some_parts : (n : ℕ) (ns : List ℕ) (parts : List (List ℕ)) → joined parts ≡ n ∷ ns → 0 < length parts
unfolding joined
some_parts n ns [] e = let z : 0 ≡ suc (length ns) = ap length e in absurd (omega arith)
some_parts n ns (p ∷ ps) e = omega arith

-- so are those of a list of two or more
parts_some : (ns : List ℕ) (parts : List (List ℕ)) → joined parts ≡ ns → 2 ≤ length ns → 0 < length parts
parts_some [] parts e two = absurd (omega arith)
parts_some (n ∷ ns) parts e two = some_parts n ns parts e

-- a load gives a list a place that it fits
load_fits : {fit : SlabFit} (end : ℕ) (s : Space) {ns : List ℕ} {p : Placed} → Rising (2 ^ 62) 0 ns → LoadDid fit end s ns p
    → Fits ns p.place
unfolding Fits written
load_fits end s r loaded_none = refl
load_fits end s r loaded_one = refl
load_fits {fit} end s {ns} r (loaded_slab c t two q got) =
    let (few, class, fits) = loads_to_lem fit (length ns) (stream_len ns) q in
    (refl, written_each ns, class, two, few, fits, taken_low end c s class got)
load_fits end s {ns} r (loaded_run t two q got) =
    let ok = pages_allowed ns (rising_words 0 ns (rising_below (2 ^ 62) (2 ^ 63) 0 ns (omega arith) r)) in (
      run_held t.off (cutting ns) ∙ ok.consecutive,
      run_fits t.off (cutting ns) (parts_some ns (cutting ns) ok.consecutive two)
          ok.fit,
    )

-- ---- totals

-- A total that is told stays so in any place.
pub known_anywhere : (place : Place) → Known place true
known_anywhere empty = refl
known_anywhere inline = refl
known_anywhere (slab class off kept) = refl
known_anywhere (pages ps) = tt

-- A list that outgrew its place is counted.
outgrown_counted : (list : List ℕ) (n : ℕ) (old : Place) (counted : Bool) → Outgrown list n old → counted_after old counted ≡ true
outgrown_counted list n empty counted out = refl
outgrown_counted list n inline counted out = refl
outgrown_counted list n (slab class off kept) counted out = refl
outgrown_counted list n (pages ps) counted out = absurd out

-- An append leaves a total unknown only where the list was in pages, and there it stays.
known_append : (end count : ℕ) (list : List ℕ) (n : ℕ) (counted : Bool) (s : Space) {old : Place} {p : Placed}
    → AppendDid end count list n s old p → Known p.place (counted_after old counted)
known_append end count list n counted s began = refl
known_append end count list n counted s (stayed class off kept q) = refl
known_append end count list n counted s (moved_slab old c t out q got) = outgrown_counted list n old counted out
known_append end count list n counted s (moved_page old t out q got) = tt
known_append end count list n counted s (joined_page ps q) = tt
known_append end count list n counted s (begun_page ps t q got) = tt

-- ---- every list of calls

-- A key that holds nothing is sound.
pub empty_sound : SoundKey empty_key
unfolding Rising Fits
empty_sound = record { rises = tt; fits = refl; known = refl }

-- Calls keep a key sound.
pub sound_kept : KeptByCalls (λ k t. SoundKey k)
sound_kept =
    record {
      loads = λ fit end k ns s p t h f rises e. record { rises = rises; fits = load_fits end s rises e; known = known_anywhere p.place };
      appends = λ end k n s p t h rises low e.
          record {
            rises = rises_snoc (2 ^ 62) k.list n h.rises rises low;
            fits = append_fits end (length k.list) k.list n s h.rises low h.fits e;
            known = known_append end (length k.list) (extended k.list n) n k.counted s e;
          };
      drops = empty_sound;
    }

-- Take any book and any list of calls: a key that is sound stays so.
pub sound_from : (b : Book) (key : ℕ) (cs : List Call) → SoundKey (key_of key b) → SoundKey (key_of key (after b cs))
sound_from b key cs h = kept_calls _ sound_kept key b cs no_moves h

-- After any list of calls on a fresh book, each key is sound.
pub sound : (ds : List ℕ) (size heads : ℕ) (l : Limits) (key : ℕ) (cs : List Call) → SoundKey (key_of key (after (fresh ds size heads l) cs))
sound ds size heads l key cs = sound_from (fresh ds size heads l) key cs (rw (fresh_key ds size heads l key) empty_sound)
