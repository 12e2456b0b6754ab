use Rattle.std.proofs.Common.{ℕ, sym, ap, ◌∙◌}
use mathlib.Core.Option.{Option}
use Rattle.error.specs.Refusal.{accepted}
use Rattle.free_runs.proofs.LawsFlags.{unset_zeros}
use Rattle.free_runs.proofs.LawsSought.{run_found_lem, run_strays}
use Rattle.free_runs.proofs.search.find_run.Goals as goal

pub rule_out-requires : goal.rule_out-requires
rule_out-requires c = record { unset = unset_zeros; some_pages = c.requires.some_pages }

pub returns-in_default : goal.returns-in_default
returns-in_default c =
    let list = c.args.list.now in sym (run_strays list.mark list.count list.body.now list.head c.args.pages (sym c.in_default.ensures.passed))

pub returns-then-none : goal.returns-then-none
returns-then-none c =
    let a = c.args in
    let list = a.list.now in
    sym (run_found_lem list.mark list.count list.body.now list.head a.pages (sym c.in-Some.ensures.passed)
    ∙ ap (λ (o : Option ℕ). accepted o) (c.in-Some.ensures.rules c.if-none.true))
