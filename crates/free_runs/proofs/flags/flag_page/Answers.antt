use Rattle.std.proofs.Common.{ℕ, List, sym, subst, arith}
use Rattle.free_runs.specs.Steps.{FlagsOne}
use Rattle.free_runs.proofs.LawsMark.{one_flagged}
use Rattle.free_runs.proofs.flags.flag_page.Goals as goal

pub returns : goal.returns
returns c =
    let a = c.args in
    subst (λ (w : List ℕ). FlagsOne a.from a.page a.next a.words.now w a.next) (sym c.set_flag.ensures)
    (one_flagged a.from a.page a.next a.words.now c.told-words (omega arith) (omega arith))
