-- `ouriscado_sh_page_try_append` hands out what `sh_page_try_append` answers.
use Rattle.std.proofs.Common.{◌∙◌, ap}
use Rattle.error.specs.Refusal.{refusal_of}
use Rattle.error.proofs.LawsOut.{number_answered, value_answered, value_same}
use Rattle.scripthash_pages.specs.Entries.{has_spot}
use Rattle.ouriscado.proofs.page_entries.ouriscado_sh_page_try_append.Goals as goal

pub returns : goal.returns
returns c =
    let e = c.sh_page_try_append.ensures in
    let h = c.put_appended.ensures in
    record {
      number = h.number ∙ ap refusal_of e.answer
          ∙ number_answered has_spot _;
      bytes = e.bytes;
      appended = h.appended ∙ value_same (λ x. x) _ e.answer ∙ value_answered (λ x. x) has_spot _ _;
    }
