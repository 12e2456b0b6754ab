-- How the search for a stretch goes on, and what it tells at its end. Assumes nothing.
use Rattle.std.proofs.Common.{◌≡◌, ℕ, ◌+◌, ◌-◌, ◌*◌, ◌/◌, ◌%◌, ◌<◌, ◌≤◌, Bool, true, false, not, List, sym, refl, ◌∙◌, ⊎_elim, true≢false, arith}
use Rattle.buffer.proofs.LawsOrder.{lt_or_ge}
use mathlib.Core.Option.{Option}
use Rattle.error.specs.Refusal.{Answer, accepted, refused, refuse_if}
use Rattle.free_runs.specs.Runs.{is_in, Freed, lowest}
use Rattle.free_runs.specs.PageList.{walked, pages_end, run_sought}
use Rattle.free_runs.specs.Steps.{Sought}
use Rattle.free_runs.proofs.LawsRuns.{Lowest}

module _ (n end start : ℕ) (os : List ℕ) (s : Sought n end start os) where
  -- A page more that is freed.
  pub sought_freed : is_in (end * 4096) os ≡ true → Sought n (end + 1) start os
  sought_freed e =
      record {
        at = let a = s.at in omega arith;
        all = λ i h k.
            ⊎_elim (λ (l : start + i < end). s.all i h l)
            (λ (g : end ≤ start + i). let z : start + i ≡ end = omega arith in rw z e)
            (lt_or_ge (start + i) end);
        least = s.least;
      }

  -- So many are found: the rest need not be looked at.
  pub sought_found : (to : ℕ) → end ≤ to → start + n ≤ end → Sought n to start os
  sought_found to l h = record { at = let a = s.at in omega arith; all = λ i k m. s.all i k (omega arith); least = s.least }

  -- Pages that aren't freed, with fewer than so many before them: a stretch can only begin behind them.
  pub sought_past : (to : ℕ) → 0 < n → end < start + n → end < to
      → ((p : ℕ) → end ≤ p → p < to → is_in (p * 4096) os ≡ false) → Sought n to to os
  sought_past to pos short l miss =
      record {
        at = omega arith;
        all = λ i h k. absurd (omega arith);
        least = λ p f.
            ⊎_elim
            (λ (low : p < to).
            absurd
            (⊎_elim
            (λ (before : p < end).
            let a = s.least p f in
            let z : p + (end - p) ≡ end = omega arith in
            true≢false (sym (rw z at (f (end - p) (omega arith))) ∙ miss end (omega arith) l))
            (λ (from : end ≤ p). let z : p + 0 ≡ p = omega arith in true≢false (sym (rw z at (f 0 pos)) ∙ miss p from low))
            (lt_or_ge p end)))
            (λ (h : to ≤ p). h)
            (lt_or_ge p to);
      }

-- The search begins.
pub sought_none : (n : ℕ) (os : List ℕ) → Sought n 0 0 os
sought_none n os = record { at = omega arith; all = λ i h k. absurd (omega arith); least = λ p f. omega arith }

-- A list of pages: each offset is a page's, below a mark.
pub record Pages (mark : ℕ) (os : List ℕ) : Type 0 where
  pub aligned : (o : ℕ) → is_in o os ≡ true → o % 4096 ≡ 0
  pub below : (o : ℕ) → is_in o os ≡ true → o + 4096 ≤ mark

module _ (mark n end start : ℕ) (os : List ℕ) (ps : Pages mark os) (pos : 0 < n) (s : Sought n end start os) where
  -- A stretch at an offset is one of pages.
  by_pages : (p : ℕ) → Freed n p os → (p ≡ p / 4096 * 4096) × ((i : ℕ) → i < n → is_in ((p / 4096 + i) * 4096) os ≡ true)
  by_pages p f =
      let first : is_in p os ≡ true = let z : p + 0 * 4096 ≡ p = omega arith in rw z at (f 0 pos) in
      let a = ps.aligned p first in
      (omega arith, λ i h. let z : p + i * 4096 ≡ (p / 4096 + i) * 4096 = omega arith in rw z at (f i h))

  pub sought_lowest : start + n ≤ end → Lowest n (start * 4096) os
  sought_lowest h =
      record {
        all = λ i k. let z : (start + i) * 4096 ≡ start * 4096 + i * 4096 = omega arith in rw z at (s.all i k (omega arith));
        least = λ p f. let b = by_pages p f in let l = s.least (p / 4096) b.1 in omega (arith, b.0);
      }

  pub sought_missed : end < start + n → mark / 4096 ≤ end → (p : ℕ) → Freed n p os → ⊥
  sought_missed h m p f =
      let b = by_pages p f in
      let l = s.least (p / 4096) b.1 in
      let k = ps.below ((p / 4096 + (n - 1)) * 4096) (b.1 (n - 1) (omega arith)) in
      omega arith

-- The search of a list that passed, and of one that doesn't.
pub run_found_lem : (mark count : ℕ) (body : List ℕ) (head pages : ℕ) → pages_end mark count body head ≡ true
    → run_sought mark count body head pages ≡ accepted (lowest pages (walked count body head))
unfolding run_sought refuse_if
run_found_lem mark count body head pages e = rw e

pub run_strays : (mark count : ℕ) (body : List ℕ) (head pages : ℕ) → pages_end mark count body head ≡ false
    → run_sought mark count body head pages ≡ refused 42
unfolding run_sought refuse_if
run_strays mark count body head pages e = rw e

-- A search that isn't refused was of a list that passed.
passed_by : (t : Bool) (r : Option ℕ) (a : Answer (Option ℕ)) → refuse_if (not t) 42 a ≡ accepted r → t ≡ true
unfolding refuse_if
passed_by true r a e = refl
passed_by false r a e = let z : ◌≡◌ {A = ℕ} 0 1 = cc in absurd (omega arith)

pub run_passed : (mark count : ℕ) (body : List ℕ) (head pages : ℕ) (r : Option ℕ)
    → run_sought mark count body head pages ≡ accepted r → pages_end mark count body head ≡ true
unfolding run_sought
run_passed mark count body head pages r e = passed_by (pages_end mark count body head) r _ e
