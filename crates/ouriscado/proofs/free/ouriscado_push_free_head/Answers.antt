-- `ouriscado_push_free_head` tells the number of what `push_lent` answers.
use Rattle.std.proofs.Common.{sym, ◌∙◌, ap}
use Rattle.error.specs.Refusal.{refusal_of}
use Rattle.error.proofs.LawsOut.{number_answered}
use Rattle.error.proofs.LawsResult.{number_meant}
use Rattle.scripthash_free.specs.Answers.{was_done}
use Rattle.ouriscado.proofs.free.ouriscado_push_free_head.Goals as goal

pub returns-clause-number : goal.returns-clause-number
returns-clause-number c =
    c.number.ensures ∙ sym (number_meant (λ done. tt) c.push_lent.result) ∙ ap refusal_of c.push_lent.ensures.answer ∙ number_answered was_done _
