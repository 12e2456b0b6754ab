use Rattle.std.proofs.Common.{ℕ, ◌-◌, ◌*◌, ◌<◌, List, sym, ◌∙◌, arith, ltb-true}
use Rattle.free_runs.specs.Steps.{window_pages, Unset, Flags, Sought}
use Rattle.free_runs.specs.Overlaid.{Overlays}
use Rattle.free_runs.specs.Freed.{pages_of}
use Rattle.free_runs.proofs.LawsRuns.{lowest_missed}
use Rattle.free_runs.proofs.LawsSought.{sought_none}
use Rattle.free_runs.proofs.LawsWalk.{walked_pages}
use Rattle.free_runs.proofs.LawsOverlaid.{twice, flags_first, flags_second, ruled_out}
use Rattle.free_runs.proofs.overlaid.rule_out.Goals as goal

module _ (os before words : List ℕ) (unset : Unset before) (overlays : Overlays os before words) (pages first : ℕ)
    (scanned : (xs : List ℕ) → Flags words 0 window_pages xs → Sought pages 0 0 xs → Sought pages window_pages first xs)
  where
    -- The flags were searched once.
    once : Sought pages window_pages first (twice os)
    once = scanned (twice os) (flags_first os before words unset overlays) (sought_none _ _)

    -- And once more.
    again : (second : ℕ)
        → ((xs : List ℕ) → Flags words window_pages window_pages xs → Sought pages window_pages first xs
        → Sought pages (2 * window_pages) second xs)
        → Sought pages (2 * window_pages) second (twice os)
    again second on = on (twice os) (flags_second os before words unset overlays) once

pub overflow_sub-first : goal.overflow_sub-first
overflow_sub-first c =
    let a = c.args in
    let list = a.list.now in
    let passes = sym c.overlay_pages.ensures.passed ∙ c.if-not-overlay_pages.false in
    (once (pages_of list) _ _ c.requires.unset (c.overlay_pages.ensures.overlays passes) a.pages c.scan-first.result
    c.scan-first.ensures).at

pub scan-second-requires : goal.scan-second-requires
scan-second-requires c =
    let a = c.args in
    let list = a.list.now in
    let passes = sym c.overlay_pages.ensures.passed ∙ c.if-not-overlay_pages.false in
    let l = (once (pages_of list) _ _ c.requires.unset (c.overlay_pages.ensures.overlays passes) a.pages
    c.scan-first.result c.scan-first.ensures).at in
    record {
      to_scan = record {
        to_go_on = record { some_pages = c.requires.some_pages; begun = l; short = omega arith };
        forward = omega arith;
        small = omega arith;
      };
      window = omega arith;
    }

pub overflow_sub-result : goal.overflow_sub-result
overflow_sub-result c =
    let a = c.args in
    let list = a.list.now in
    let passes = sym c.overlay_pages.ensures.passed ∙ c.if-not-overlay_pages.false in
    (again (pages_of list) _ _ c.requires.unset (c.overlay_pages.ensures.overlays passes) a.pages c.scan-first.result
    c.scan-first.ensures c.scan-second.result c.scan-second.ensures).at

pub returns : goal.returns
returns c =
    let a = c.args in
    let list = a.list.now in
    let passes = sym c.overlay_pages.ensures.passed ∙ c.if-not-overlay_pages.false in
    let os = pages_of list in
    record {
      passed = sym passes;
      rules = λ z.
          let short : 2 * window_pages - c.scan-second.result < a.pages = ltb-true _ _ z in
          lowest_missed a.pages os c.requires.some_pages
          (ruled_out list.mark a.pages c.scan-second.result os (walked_pages list.mark list.body.now list.count list.head passes) c.requires.some_pages
          (omega arith)
          (again os _ _ c.requires.unset (c.overlay_pages.ensures.overlays passes) a.pages c.scan-first.result c.scan-first.ensures
          c.scan-second.result c.scan-second.ensures)
          (omega arith));
    }
