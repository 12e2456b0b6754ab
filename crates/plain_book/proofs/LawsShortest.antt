-- Lengths are those of shortest forms (FORMAT, The plain book): every list of calls keeps them so, and in a fresh book they are. Assumes
-- nothing.
use Prim.Native.Nat.{ℕ, ◌+◌}
use mathlib.Core.List.{List, [], ◌∷◌, ◌++◌}
use lib.ListN.{length}
use Rattle.scripthash_layout.specs.Sizes.{page_size}
use Rattle.scripthash_cutting.specs.Cutting.{cutting, replace_last}
use Rattle.book_rules.specs.declared.places.SlabFit.{SlabFit}
use Rattle.book_statements.specs.Calls.{Call}
use Rattle.book_statements.specs.Moves.{no_moves}
use Rattle.book_desks.specs.Desks.{Limits}
use Rattle.plain_book.specs.Space.{Space}
use Rattle.plain_book.specs.Key.{Page, Place, one_page, longer_page}
use Rattle.plain_book.specs.Key.{Placed, run_pages}
use Rattle.plain_book.specs.Book.{Book, fresh, key_of, extended, after}
use Rattle.plain_book.specs.Sound.{ShortestPages, ShortestPlace}
use Rattle.plain_book.specs.Did.{LoadDid, loaded_none, loaded_one, loaded_slab, loaded_run, AppendDid, began, stayed, moved_slab}
use Rattle.plain_book.specs.Did.{moved_page, joined_page, begun_page}
use Rattle.plain_book.proofs.LawsKept.{written_shortest, shortest_longer}
use Rattle.plain_book.proofs.LawsHistory.{KeptByCalls, kept_calls, kept_fresh}

-- ---- pages

-- A page that is written anew.
one_shortest : (off : ℕ) (list : List ℕ) → ShortestPages (one_page off list)
unfolding ShortestPages
one_shortest off list = (written_shortest list, tt)

-- The pages of a run.
run_shortest : (off : ℕ) (parts : List (List ℕ)) → ShortestPages (run_pages off parts)
unfolding run_pages ShortestPages
run_shortest off [] = tt
run_shortest off (p ∷ []) = (written_shortest p, tt)
run_shortest off (p ∷ q ∷ ps) = (written_shortest p, run_shortest (off + page_size) (q ∷ ps))

-- A number that joins the last page.
join_shortest : (n : ℕ) (ps : List Page) → ShortestPages ps → ShortestPages (replace_last (λ p. longer_page n p ∷ []) ps)
unfolding replace_last ShortestPages
join_shortest n [] s = tt
join_shortest n (p ∷ []) (s, ss) = (shortest_longer n p.part s, tt)
join_shortest n (p ∷ q ∷ ps) (s, ss) = (s, join_shortest n (q ∷ ps) ss)

-- A number that begins a page.
begin_shortest : (n off : ℕ) (ps : List Page) → ShortestPages ps → ShortestPages (ps ++ one_page off (n ∷ []))
unfolding ShortestPages
begin_shortest n off [] s = one_shortest off (n ∷ [])
begin_shortest n off (p ∷ ps) (s, ss) = (s, begin_shortest n off ps ss)

-- ---- an append, and a load

-- What stays is longer by a shortest form, and what moves or begins is written anew.
append_shortest : (end held : ℕ) (list : List ℕ) (n : ℕ) (s : Space) {old : Place} {p : Placed} → ShortestPlace old
    → AppendDid end held list n s old p → ShortestPlace p.place
unfolding ShortestPlace
append_shortest end held list n s h began = tt
append_shortest end held list n s h (stayed class off kept q) = shortest_longer n kept h
append_shortest end held list n s h (moved_slab old c t out q got) = written_shortest list
append_shortest end held list n s h (moved_page old t out q got) = one_shortest t.off list
append_shortest end held list n s h (joined_page ps q) = join_shortest n ps h
append_shortest end held list n s h (begun_page ps t q got) = begin_shortest n t.off ps h

-- A loaded list is written anew.
load_shortest : {fit : SlabFit} (end : ℕ) (s : Space) {ns : List ℕ} {p : Placed} → LoadDid fit end s ns p → ShortestPlace p.place
unfolding ShortestPlace
load_shortest end s loaded_none = tt
load_shortest end s loaded_one = tt
load_shortest end s {ns} (loaded_slab c t two q got) = written_shortest ns
load_shortest end s {ns} (loaded_run t two q got) = run_shortest t.off (cutting ns)

-- ---- every list of calls

-- Calls keep lengths those of shortest forms.
shortest_kept : KeptByCalls (λ k t. ShortestPlace k.place)
unfolding ShortestPlace
shortest_kept =
    record {
      loads = λ fit end k ns s p t h f rises e. load_shortest end s e;
      appends = λ end k n s p t h rises low e. append_shortest end (length k.list) (extended k.list n) n s h e;
      drops = tt;
    }

-- Take any book and any list of calls: a key whose lengths are those of shortest forms keeps them so.
pub shortest_from : (b : Book) (key : ℕ) (cs : List Call) → ShortestPlace (key_of key b).place
    → ShortestPlace (key_of key (after b cs)).place
shortest_from b key cs h = kept_calls _ shortest_kept key b cs no_moves h

-- After any list of calls on a fresh book all lengths are those of shortest forms.
pub shortest_fresh : (ds : List ℕ) (size heads : ℕ) (l : Limits) (key : ℕ) (cs : List Call)
    → ShortestPlace (key_of key (after (fresh ds size heads l) cs)).place
shortest_fresh ds size heads l key cs = kept_fresh _ shortest_kept ds size heads l key cs
