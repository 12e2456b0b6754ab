-- A run that a search of the freed pages found: where it lies, how many pages are left, and what stays. Over the laws of the search.
use Prim.Native.Nat.{ℕ, ◌+◌, ◌-◌, ◌*◌, ◌%◌, ◌≤◌, ◌<◌}
use mathlib.Core.Bool.{true}
use mathlib.Core.List.{List}
use mathlib.Core.Option.{Option, none, some}
use mathlib.Core.Path.{◌≡◌, refl, sym, subst, ◌∙◌}
use native.Mathlib.Omega.{arith}
use lib.ListN.{length, get_or, set, length-set}
use Rattle.error.specs.Refusal.{accepted}
use Rattle.error.proofs.LawsAnswer.{accepted_inj}
use Rattle.scripthash_layout.specs.Sizes.{page_class, page_size}
use Rattle.scripthash_layout.specs.Head.{payload_start}
use Rattle.scripthash_free.proofs.LawsBlock.{Standing}
use Rattle.free_runs.specs.Runs.{is_in, Freed}
use Rattle.free_runs.specs.PageList.{walked, pages_end, top_of, relinked}
use Rattle.free_runs.proofs.LawsRuns.{lowest_found}
use Rattle.free_runs.proofs.LawsSought.{run_found_lem, run_passed}
use Rattle.free_runs.proofs.LawsWalk.{ends_page, from_member, walked_pages}
use Rattle.free_runs.proofs.LawsLinks.{length_relinked, left_among}
use Rattle.free_runs.proofs.LawsStack.{length_walked, walked_distinct, left_count}
use Rattle.book_space.specs.Space.{Space, space, InShape, Taken, searched, left_without, run_freed, take_found}
use Rattle.book_space.specs.Steps.{Takes}
use Rattle.book_space.proofs.LawsSteps.{takes_yes}
use Rattle.book_space.proofs.LawsTake.{shape_stays, run_ran}

-- What a run that was taken promises, out of freed pages or at the mark: the space is in shape, and as long, with as many free heads; the
-- run's pages lie at multiples of 4,096 below the mark.
pub record RunLies (pages : ℕ) (s : Space) (t : Taken) : Type 0 where
  pub shape : InShape t.space
  pub size : length t.space.body ≡ length s.body
  pub heads : length t.space.free ≡ length s.free
  pub rises : s.mark ≤ t.space.mark
  pub aligned : t.off % page_size ≡ 0
  pub begins : payload_start ≤ t.off
  pub ends : t.off + pages * page_size ≤ t.space.mark

-- A search of so many freed pages that found a run.
module _ (pages freed off : ℕ) (s : Space) (some_pages : 0 < pages) (found : searched pages freed s ≡ accepted (some off)) where
  abbrev head : ℕ
  head = get_or s.free page_class 0

  abbrev list : List ℕ
  list = walked freed s.body head

  -- The list of freed pages passed.
  pub list_ends : pages_end s.mark freed s.body head ≡ true
  list_ends = run_passed s.mark freed s.body head pages (some off) found

  -- The run's pages are freed.
  pub run_freed_lem : Freed pages off list
  run_freed_lem =
      (lowest_found pages list some_pages off (accepted_inj (sym (run_found_lem s.mark freed s.body head pages list_ends) ∙ found))).all

  -- A freed page can stand below the mark.
  stands : (o : ℕ) → is_in o list ≡ true → Standing page_class o s.mark
  stands o h =
      let r = from_member s.mark s.body freed head o list_ends h in (ends_page s.mark s.body r.0 o r.2 r.3).0

  first_stands : Standing page_class off s.mark
  first_stands = let z : off + 0 * page_size ≡ off = omega arith in stands off (rw z at (run_freed_lem 0 some_pages))

  -- The run lies below the mark.
  pub run_below : off + pages * page_size ≤ s.mark
  run_below =
      let last = stands (off + (pages - 1) * page_size) (run_freed_lem (pages - 1) (omega arith)) in omega (arith, last.ends)

  -- There are no fewer freed pages than it has.
  pub run_few : pages ≤ freed
  run_few =
      let ps = walked_pages s.mark s.body freed head list_ends in
      let c = left_count off pages list first_stands.aligned ps.aligned
      (walked_distinct s.mark s.body freed head list_ends) run_freed_lem in
      omega (arith, length_walked freed s.body head)

  -- It keeps the space in shape.
  freed_lies : InShape s → RunLies pages s (run_freed off pages freed s)
  freed_lies i =
      let left = left_without off pages freed s in
      let size = length_relinked left s.body
      (λ o h. let t = stands o (left_among off (off + pages * page_size) o list h) in omega (arith, t.ends, i.within)) in
      let after = (run_freed off pages freed s).space in
      record {
        shape = shape_stays s after i size i.aligned (omega arith) (omega (arith, size, i.within));
        size = size;
        heads = length-set s.free page_class (top_of left);
        rises = omega arith;
        aligned = first_stands.aligned;
        begins = first_stands.begins;
        ends = run_below;
      }

-- Taking it out of the list takes it: the links of those left are written, and the free head is the first of them.
pub unlinked_takes : (pages freed off : ℕ) (s : Space) {top : ℕ} {body : List ℕ} → top ≡ top_of (left_without off pages freed s)
    → body ≡ relinked (left_without off pages freed s) s.body
    → Takes (accepted (run_freed off pages freed s)) s (space body s.mark (set s.free page_class top)) (accepted off)
unlinked_takes pages freed off s t b = rw (t, b) (takes_yes s (accepted (run_freed off pages freed s)) refl)

-- A run taken where a search led promises that.
pub found_lies : (pages freed : ℕ) (s : Space) (found : Option ℕ) {t : Taken} → InShape s → 0 < pages
    → searched pages freed s ≡ accepted found → take_found pages freed s found ≡ accepted t → RunLies pages s t
unfolding take_found
found_lies pages freed s none i some_pages is e =
    let r = run_ran pages s i e in
    record {
      shape = r.kept.shape;
      size = r.kept.size;
      heads = r.kept.heads;
      rises = r.kept.rises;
      aligned = omega (arith, r.begins);
      begins = omega (arith, r.begins, i.begins);
      ends = omega (arith, r.ends);
    }
found_lies pages freed s (some off) i some_pages is e =
    subst (λ (t : Taken). RunLies pages s t) (accepted_inj e) (freed_lies pages freed off s some_pages is i)
