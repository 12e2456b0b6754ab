-- `ouriscado_sh_page_stream_tail` hands out what `sh_page_stream_tail` answers.
use Rattle.std.proofs.Common.{sym, ◌∙◌, ap}
use Rattle.error.proofs.LawsOut.{number_accepted, number_refused, number_answered, value_accepted, value_answered, value_refused}
use Rattle.scripthash_stream.specs.Stream.{end_from}
use Rattle.scripthash_stream.specs.Answers.{scan_answer}
use Rattle.ouriscado.proofs.page_entries.ouriscado_sh_page_stream_tail.Goals as goal

pub returns-in-Err : goal.returns-in-Err
returns-in-Err c =
    let e = c.sh_page_stream_tail.ensures in
    let no = sym e ∙ ap scan_answer c.in-Err.is in
    record {
      number = c.from.ensures ∙ number_refused no
          ∙ number_answered (end_from 0) _;
      taken = value_refused (λ t. t.taken) _ no
          ∙ value_answered (λ t. t.taken) (end_from 0) _ _;
      last = value_refused (λ t. t.last) _ no ∙ value_answered (λ t. t.last) (end_from 0) _ _;
    }

pub returns-in-Ok : goal.returns-in-Ok
returns-in-Ok c =
    let e = c.sh_page_stream_tail.ensures in
    let yes = sym e ∙ ap scan_answer c.in-Ok.is in
    record {
      number = number_accepted yes
          ∙ number_answered (end_from 0) _;
      taken = value_accepted (λ t. t.taken) _ yes
          ∙ value_answered (λ t. t.taken) (end_from 0) _ _;
      last = value_accepted (λ t. t.last) _ yes ∙ value_answered (λ t. t.last) (end_from 0) _ _;
    }
