-- `ouriscado_read_uleb128` hands out what `read_form` answers.
use Rattle.std.proofs.Common.{sym, ◌∙◌, ap}
use Rattle.error.proofs.LawsOut.{number_accepted, number_refused, number_answered, value_accepted, value_answered, value_refused}
use Rattle.compact.specs.Uleb128.{number_read}
use Rattle.compact.specs.Answers.{read_uleb_answer}
use Rattle.ouriscado.proofs.uleb128.ouriscado_read_uleb128.Goals as goal

pub returns-in-Ok : goal.returns-in-Ok
returns-in-Ok c =
    let yes = sym c.read_form.ensures ∙ ap read_uleb_answer c.in-Ok.is in
    record {
      number = number_accepted yes ∙ number_answered number_read _;
      value = value_accepted (λ r. r.value) _ yes ∙ value_answered (λ r. r.value) number_read _ _;
      len = value_accepted (λ r. r.len) _ yes ∙ value_answered (λ r. r.len) number_read _ _;
      shortest = value_accepted (λ r. r.shortest) _ yes ∙ value_answered (λ r. r.shortest) number_read _ _;
    }

pub returns-in-Err : goal.returns-in-Err
returns-in-Err c =
    let no = sym c.read_form.ensures ∙ ap read_uleb_answer c.in-Err.is in
    record {
      number = c.from.ensures ∙ number_refused no ∙ number_answered number_read _;
      value = value_refused (λ r. r.value) _ no ∙ value_answered (λ r. r.value) number_read _ _;
      len = value_refused (λ r. r.len) _ no ∙ value_answered (λ r. r.len) number_read _ _;
      shortest = value_refused (λ r. r.shortest) _ no ∙ value_answered (λ r. r.shortest) number_read _ _;
    }
