use Rattle.std.proofs.Common.{◌≡◌, ℕ, ◌+◌, ◌*◌, ◌/◌, ◌<◌, ◌≤◌, Bool, ◌||◌, List, replicate, sym, ap, ◌∙◌, subst, ⊎_elim, arith, rules}
use Rattle.buffer.proofs.LawsOrder.{lt_or_ge}
use Rattle.free_runs.specs.Runs.{is_in}
use Rattle.free_runs.specs.Steps.{window_pages, Unset}
use Rattle.free_runs.specs.Freed.{pages_of}
use Rattle.free_runs.proofs.LawsFlags.{unset_zeros, unset_flag}
use Rattle.free_runs.proofs.search.look_near.Goals as goal

pub returns : goal.returns
returns c =
    let a = c.args in
    let list = a.list.now in
    let f = rw c.in_ok-next.was at c.flag_pages.ensures in
    let e = c.min-end.ensures in
    let p = c.requires.below in
    let cleared : c.fill.new.self ≡ replicate 4096 0 = rw c.told-words at (c.fill.ensures.after (λ y h. search rules)) in
    let unset : Unset c.fill.new.self = subst (λ (w : List ℕ). Unset w) (sym cleared) unset_zeros in
    let m = f.marks in
    let top = m.limit in
    record {
      passed = f.passed;
      looks = record {
        sought = c.scan-start.ensures (pages_of list)
            (record {
              tells = λ i h.
                  m.flags i (omega arith)
                  ∙ ap (λ (b : Bool). b || is_in ((a.from + i) * 4096) (pages_of list))
                  (unset_flag _ unset i (omega arith));
            });
        more = omega arith;
        inside = omega arith;
        limit = top;
        none_between = λ q l h.
            ⊎_elim (λ (k : a.from + window_pages < list.mark / 4096). m.none_between q (omega arith) h)
            (λ (k : list.mark / 4096 ≤ a.from + window_pages). absurd (omega arith))
            (lt_or_ge (a.from + window_pages) (list.mark / 4096));
      };
    }
