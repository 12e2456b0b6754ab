-- A run taken out of the freed pages of a body of bytes changes what it names only: the links of those left whose successor goes, and the
-- free head of pages. Over the laws of the search.
use Prim.Native.Nat.{ℕ, ◌+◌, ◌*◌, ◌≤◌, ◌<◌}
use mathlib.Core.Bool.{true, true≢false}
use mathlib.Core.List.{List, [], ◌∷◌}
use mathlib.Core.Logic.{◌⊎◌, inl, inr, ⊎_elim}
use mathlib.Core.Option.{some}
use mathlib.Core.Path.{◌≡◌, refl, ap, sym, ◌∙◌}
use native.Mathlib.Nat.{add-zero}
use native.Mathlib.Omega.{arith}
use lib.Dec.{eqb}
use lib.ListN.{get_or, drop}
use lib.Seq.{get_or-take, get_or-drop}
use borrow.Author.Tests.{eqb-true}
use Rattle.error.specs.Refusal.{accepted}
use Rattle.buffer.specs.Bytes.{part}
use Rattle.buffer.specs.LittleEndian.{AreBytes}
use Rattle.scripthash_layout.specs.Sizes.{page_class, page_size}
use Rattle.free_runs.specs.Runs.{is_in, losing}
use Rattle.free_runs.specs.PageList.{walked, top_of, relinked}
use Rattle.free_runs.proofs.LawsRuns.{either}
use Rattle.free_runs.proofs.LawsWalk.{walked_pages}
use Rattle.free_runs.proofs.LawsStack.{ends_names, walked_distinct}
use Rattle.free_runs.proofs.LawsTaken.{losing_part}
use Rattle.book_space.specs.Space.{Space, InShape, searched, left_without, run_freed, take_found}
use Rattle.book_space.proofs.LawsFreed.{RunLies, list_ends, found_lies}
use Rattle.book_history.specs.Writes.{region, Outside, links_of, both, taking_freed, Wrote}
use Rattle.book_history.proofs.LawsOnly.{outside_of, only_covered, only_set}

-- What lies outside of the links of some pages keeps clear of each.
links_clear : (os : List ℕ) (i : ℕ) → Outside (links_of os).body i → (o : ℕ) → is_in o os ≡ true → (i + 1 ≤ o) ⊎ (o + 8 ≤ i)
unfolding links_of both Outside is_in
links_clear [] i h o e = absurd (true≢false (sym e))
links_clear (x ∷ xs) i h o e =
    ⊎_elim
    (λ (here : eqb x o ≡ true).
    let is = eqb-true x o here in
    ⊎_elim (λ (l : i < x). inl (omega arith)) (λ (l : x + 8 ≤ i). inr (omega arith)) h.0)
    (λ (there : is_in o xs ≡ true). links_clear xs i h.1 o there)
    (either (eqb x o) (is_in o xs) e)

-- An element as a part of one.
part_one : (b : List ℕ) (i : ℕ) → get_or (part b i 1) 0 0 ≡ get_or b i 0
unfolding part
part_one b i = get_or-take 1 (drop i b) 0 0 (omega arith) ∙ get_or-drop i b 0 0 ∙ ap (λ (k : ℕ). get_or b k 0) (add-zero i)

module _ (pages freed off : ℕ) (s : Space) (bytes : AreBytes s.body) (i : InShape s) (some_pages : 0 < pages)
    (found : searched pages freed s ≡ accepted (some off))
  where
    abbrev head : ℕ
    head = get_or s.free page_class 0

    abbrev list : List ℕ
    list = walked freed s.body head

    abbrev left : List ℕ
    left = left_without off pages freed s

    -- The run keeps the space in shape.
    pub freed_run_lies : RunLies pages s (run_freed off pages freed s)
    unfolding take_found
    freed_run_lies = found_lies pages freed s (some off) i some_pages found refl

    -- Those left whose successor goes.
    abbrev lose : List ℕ
    lose = losing off (off + pages * page_size) list

    -- Bytes outside of their links stay.
    byte_stays : (j : ℕ) → Outside (links_of lose).body j
        → get_or (relinked left s.body) j 0 ≡ get_or s.body j 0
    byte_stays j out =
        let ends = list_ends pages freed off s some_pages found in
        let ps = walked_pages s.mark s.body freed head ends in
        let within = i.within in
        let same : part (relinked left s.body) j 1 ≡ part s.body j 1 =
        losing_part s.body bytes off (off + pages * page_size) list head (ends_names s.mark s.body (omega arith) freed head ends)
        (λ o m. (ps.aligned o m, let b = ps.below o m in omega arith)) (walked_distinct s.mark s.body freed head ends) j 1
        (links_clear lose j out) in
        sym (part_one (relinked left s.body) j) ∙ ap (λ (b : List ℕ). get_or b 0 0) same ∙ part_one s.body j

    -- The run is taken.
    pub wrote_unlinked : Wrote (taking_freed off pages freed s) s (run_freed off pages freed s).space
    unfolding taking_freed both
    wrote_unlinked =
        record {
          body = record { long = freed_run_lies.size; same = λ j h. byte_stays j (outside_of (links_of lose).body [] j h).0 };
          free =
              only_covered (λ j h. (outside_of (links_of lose).free (region page_class 1 ∷ []) j h).1)
              (only_set [] s.free page_class (top_of left));
          mark = λ z. refl;
          rises = omega arith;
        }
