-- What an accepted load or append of a plain book did, case by case: the other laws cite this, and don't open where a list goes. Assumes
-- nothing.
use Prim.Native.Nat.{ℕ}
use mathlib.Core.Bool.{Bool, true, false, cond}
use mathlib.Core.List.{List, [], ◌∷◌}
use mathlib.Core.Option.{Option, none, some}
use mathlib.Core.Path.{◌≡◌, refl, subst, ◌∙◌}
use native.Mathlib.Omega.{arith}
use lib.ListN.{length}
use Rattle.error.specs.Refusal.{Answer, accepted}
use Rattle.error.proofs.LawsAnswer.{accepted_inj, passed, went_on}
use Rattle.scripthash_layout.specs.Sizes.{page_class}
use Rattle.scripthash_stream.specs.Stream.{stream_len}
use Rattle.scripthash_cutting.specs.Cutting.{cutting}
use Rattle.book_rules.specs.declared.places.SlabFit.{SlabFit}
use Rattle.book_rules.specs.Places.{stays, moves_to, loads_to}
use Rattle.book_desks.specs.Desks.{Limits, permitted}
use Rattle.plain_book.specs.Space.{Space, Taken, take_block, take_run}
use Rattle.plain_book.specs.Key.{Place, empty, inline, slab, pages, longer, joins, joined_to, Placed, placed, Leave, moved, begin_page}
use Rattle.plain_book.specs.Key.{append_pages, append_place, load_into, load_place}
use Rattle.plain_book.specs.Book.{allowed}
use Rattle.plain_book.specs.Did.{LoadDid, loaded_none, loaded_one, loaded_slab, loaded_run, Outgrown, AppendDid, began, stayed}
use Rattle.plain_book.specs.Did.{moved_slab, moved_page, joined_page, begun_page}

-- ---- what a take has to pass

-- It only turns back: what it lets through is what the take gave.
abbrev pub OnlyRefuses : Leave → Type 0
OnlyRefuses leave = (k : ℕ) (a : Answer Taken) (t : Taken) → leave k a ≡ accepted t → a ≡ accepted t

-- What a desk's takes have to pass only turns back.
pub allowed_refuses : (l : Limits) (end desk : ℕ) (held : List ℕ) → OnlyRefuses (allowed l end desk held)
unfolding allowed permitted
allowed_refuses l end desk held k a t e =
    let (u, got, e1) = went_on a _ e in
    let (below, e2) = passed _ _ _ e1 in
    let (covered, is) = passed _ _ _ e2 in
    got ∙ is

-- ---- what was done

-- A load.
pub load_cases : (fit : SlabFit) (end : ℕ) (leave : Leave) (ns : List ℕ) (s : Space) {p : Placed} → OnlyRefuses leave
    → load_place fit end leave ns s ≡ accepted p → LoadDid fit end s ns p
unfolding load_place load_into
load_cases fit end leave [] s only e = subst (LoadDid fit end s []) (accepted_inj e) loaded_none
load_cases fit end leave (n ∷ []) s only e = subst (LoadDid fit end s (n ∷ [])) (accepted_inj e) loaded_one
load_cases fit end leave (n ∷ m ∷ ns) s {p} only e = go (loads_to fit (length (n ∷ m ∷ ns)) (stream_len (n ∷ m ∷ ns))) refl e
  where
    go : (o : Option ℕ) → loads_to fit (length (n ∷ m ∷ ns)) (stream_len (n ∷ m ∷ ns)) ≡ o → load_into end leave o (n ∷ m ∷ ns) s ≡ accepted p
        → LoadDid fit end s (n ∷ m ∷ ns) p
    go (some c) q e =
        let (t, got, is) = went_on (leave 0 (take_block end c s)) _ e in
        subst (LoadDid fit end s (n ∷ m ∷ ns)) (accepted_inj is) (loaded_slab c t (omega arith) q (only 0 _ t got))
    go none q e =
        let (t, got, is) = went_on (leave _ (take_run end (length (cutting (n ∷ m ∷ ns))) s)) _ e in
        subst (LoadDid fit end s (n ∷ m ∷ ns)) (accepted_inj is) (loaded_run t (omega arith) q (only _ _ t got))

module _ (end : ℕ) (leave : Leave) (held : ℕ) (list : List ℕ) (n : ℕ) (s : Space) (only : OnlyRefuses leave) where
  -- A list that moves.
  moved_cases : (old : Place) {p : Placed} → Outgrown list n old
      → moved end leave (moves_to (length list) (stream_len list)) held list old s ≡ accepted p
      → AppendDid end held list n s old p
  unfolding moved
  moved_cases old {p} out e = go (moves_to (length list) (stream_len list)) refl e
    where
      go : (o : Option ℕ) → moves_to (length list) (stream_len list) ≡ o → moved end leave o held list old s ≡ accepted p
          → AppendDid end held list n s old p
      go (some c) q e =
          let (t, got, is) = went_on (leave 0 (take_block end c s)) _ e in
          subst (AppendDid end held list n s old) (accepted_inj is) (moved_slab old c t out q (only 0 _ t got))
      go none q e =
          let (t, got, is) = went_on (leave 1 (take_block end page_class s)) _ e in
          subst (AppendDid end held list n s old) (accepted_inj is) (moved_page old t out q (only 1 _ t got))

  -- An append.
  pub append_cases : (old : Place) {p : Placed} → append_place end leave held list n old s ≡ accepted p → AppendDid end held list n s old p
  unfolding append_place append_pages begin_page
  append_cases empty e = subst (AppendDid end held list n s empty) (accepted_inj e) began
  append_cases inline e = moved_cases inline tt e
  append_cases (slab class off kept) {p} e = go (stays class (length list) (longer n kept).bytes) refl e
    where
      go : (t : Bool) → stays class (length list) (longer n kept).bytes ≡ t
          → cond t (accepted (placed (slab class off (longer n kept)) s 0))
          (moved end leave (moves_to (length list) (stream_len list)) held list (slab class off kept) s) ≡ accepted p
          → AppendDid end held list n s (slab class off kept) p
      go true q e = subst (AppendDid end held list n s (slab class off kept)) (accepted_inj e) (stayed class off kept q)
      go false q e = moved_cases (slab class off kept) q e
  append_cases (pages ps) {p} e = go (joins n ps) refl e
    where
      go : (t : Bool) → joins n ps ≡ t → cond t (accepted (placed (joined_to n ps) s 0)) (begin_page end leave ps n s) ≡ accepted p
          → AppendDid end held list n s (pages ps) p
      go true q e = subst (AppendDid end held list n s (pages ps)) (accepted_inj e) (joined_page ps q)
      go false q e =
          let (t, got, is) = went_on (leave 1 (take_block end page_class s)) _ e in
          subst (AppendDid end held list n s (pages ps)) (accepted_inj is) (begun_page ps t q (only 1 _ t got))
