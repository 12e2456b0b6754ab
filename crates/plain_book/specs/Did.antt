-- What an accepted load or append of a plain book did, case by case: where the list stands then, the space, and the records rewritten.
use Rattle.std.specs.Prelude.{ℕ, ◌≤◌, true, false, List, [], ◌∷◌, ◌≡◌, length}
use Rattle.std.proofs.Math.Option.{none, some}
use Rattle.error.specs.Refusal.{accepted}
use Rattle.scripthash_layout.specs.Sizes.{page_class}
use Rattle.scripthash_stream.specs.Stream.{stream_len}
use Rattle.scripthash_cutting.specs.Cutting.{cutting}
use Rattle.book_rules.specs.declared.places.SlabFit.{SlabFit}
use Rattle.book_rules.specs.Places.{stays, moves_to, loads_to}
use Rattle.plain_book.specs.Space.{Space, Taken, take_block, take_run}
use Rattle.plain_book.specs.Key.{Place, empty, inline, slab, pages, Page, Kept, written, longer, one_page, joins, joined_to, begun_at}
use Rattle.plain_book.specs.Key.{run_pages, freed_place, Placed, placed}

-- What a load did.
pub data LoadDid (fit : SlabFit) (end : ℕ) (s : Space) : List ℕ → Placed → Type 0 where
  -- No number stands nowhere, and one in the head word.
  loaded_none : LoadDid fit end s [] (placed empty s 0)
  loaded_one : {n : ℕ} → LoadDid fit end s (n ∷ []) (placed inline s 0)
  -- More are written to a taken slab, or to the pages of a taken run.
  loaded_slab : {ns : List ℕ} (class : ℕ) (t : Taken) → 2 ≤ length ns → loads_to fit (length ns) (stream_len ns) ≡ some class
      → take_block end class s ≡ accepted t → LoadDid fit end s ns (placed (slab class t.off (written ns)) t.space 0)
  loaded_run : {ns : List ℕ} (t : Taken) → 2 ≤ length ns → loads_to fit (length ns) (stream_len ns) ≡ none
      → take_run end (length (cutting ns)) s ≡ accepted t
      → LoadDid fit end s ns (placed (pages (run_pages t.off (cutting ns))) t.space 0)

-- A list with one number more can't stay where it stood: in the head word, or in a slab that it outgrew.
abbrev pub Outgrown : List ℕ → ℕ → Place → Type 0
Outgrown list n empty = ⊥
Outgrown list n inline = Unit {0}
Outgrown list n (slab class off kept) = stays class (length list) (longer n kept).bytes ≡ false
Outgrown list n (pages ps) = ⊥

-- What an append did to a list that held some records and has one number more now, by the place where it stood.
pub data AppendDid (end held : ℕ) (list : List ℕ) (n : ℕ) (s : Space) : Place → Placed → Type 0 where
  -- A first number stands in the head word.
  began : AppendDid end held list n s empty (placed inline s 0)
  -- The list stays in its slab.
  stayed : (class off : ℕ) (kept : Kept) → stays class (length list) (longer n kept).bytes ≡ true
      → AppendDid end held list n s (slab class off kept) (placed (slab class off (longer n kept)) s 0)
  -- It moves to a taken slab or page, its old slab is freed, and the records held before are rewritten.
  moved_slab : (old : Place) (class : ℕ) (t : Taken) → Outgrown list n old → moves_to (length list) (stream_len list) ≡ some class
      → take_block end class s ≡ accepted t
      → AppendDid end held list n s old (placed (slab class t.off (written list)) (freed_place old t.space) held)
  moved_page : (old : Place) (t : Taken) → Outgrown list n old → moves_to (length list) (stream_len list) ≡ none
      → take_block end page_class s ≡ accepted t
      → AppendDid end held list n s old (placed (pages (one_page t.off list)) (freed_place old t.space) held)
  -- The number joins the last page, or begins a taken one.
  joined_page : (ps : List Page) → joins n ps ≡ true → AppendDid end held list n s (pages ps) (placed (joined_to n ps) s 0)
  begun_page : (ps : List Page) (t : Taken) → joins n ps ≡ false → take_block end page_class s ≡ accepted t
      → AppendDid end held list n s (pages ps) (placed (begun_at t.off n ps) t.space 0)
