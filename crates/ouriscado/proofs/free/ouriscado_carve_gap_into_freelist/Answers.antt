-- `ouriscado_carve_gap_into_freelist` tells the number of what `carve_lent` answers.
use Rattle.std.proofs.Common.{sym, ◌∙◌, ap}
use Rattle.error.specs.Refusal.{refusal_of}
use Rattle.error.proofs.LawsOut.{number_answered}
use Rattle.error.proofs.LawsResult.{number_meant}
use Rattle.scripthash_free.specs.Answers.{was_done}
use Rattle.ouriscado.proofs.free.ouriscado_carve_gap_into_freelist.Goals as goal

pub returns-clause-number : goal.returns-clause-number
returns-clause-number c =
    c.number.ensures ∙ sym (number_meant (λ done. tt) c.carve_lent.result) ∙ ap refusal_of c.carve_lent.ensures.answer ∙ number_answered was_done _
