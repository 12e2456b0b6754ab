-- `ouriscado_pop_free_head` hands out what `pop_lent` answers.
use Rattle.std.proofs.Common.{◌∙◌, ap}
use Rattle.error.specs.Refusal.{refusal_of}
use Rattle.error.proofs.LawsOut.{number_answered, value_answered, value_same}
use Rattle.scripthash_free.specs.FreeList.{Pop}
use Rattle.std.proofs.Math.Option.{get_or}
use Rattle.ouriscado.proofs.free.ouriscado_pop_free_head.Goals as goal

pub returns : goal.returns
returns c =
    let e = c.pop_lent-answer.ensures in
    let h = c.put_block.ensures in
    record {
      number = h.number ∙ ap refusal_of e.answer
          ∙ number_answered (λ (p : Pop). p.block) _;
      heads = e.heads;
      off = h.off ∙ value_same (λ o. get_or o 0) _ e.answer
          ∙ value_answered (λ o. get_or o 0) (λ (p : Pop). p.block) _ _;
    }
