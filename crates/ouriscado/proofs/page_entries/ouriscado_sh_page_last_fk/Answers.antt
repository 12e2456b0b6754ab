-- `ouriscado_sh_page_last_fk` hands out what `sh_page_last_fk` answers.
use Rattle.std.proofs.Common.{refl, sym, ◌∙◌, ap}
use Rattle.error.specs.Refusal.{refusal_of}
use Rattle.error.proofs.LawsOut.{number_answered, value_answered, value_same}
use Rattle.error.proofs.LawsResult.{number_meant}
use Rattle.scripthash_pages.specs.Entries.{last_of}
use Rattle.ouriscado.proofs.LawsAnswers.{value_meant}
use Rattle.ouriscado.proofs.page_entries.ouriscado_sh_page_last_fk.Goals as goal

pub returns : goal.returns
returns c =
    let e = c.sh_page_last_fk.ensures in
    let h = c.hand_out.ensures in
    record {
      number = h.number ∙ sym (number_meant (λ fk. fk) c.sh_page_last_fk.result) ∙ ap refusal_of e ∙ number_answered last_of _;
      last = h.value ∙ value_meant (λ fk. fk) (λ x. x) (λ x. refl) c.sh_page_last_fk.result 0 ∙ value_same (λ x. x) _ e
          ∙ value_answered (λ x. x) last_of _ _;
    }
