-- `ouriscado_sh_page_entries_into` hands out what `sh_page_entries_into` answers.
use Rattle.std.proofs.Common.{sym, ◌∙◌, ap}
use Rattle.error.proofs.LawsOut.{number_accepted, number_refused, number_answered, value_accepted, value_answered, value_refused}
use Rattle.scripthash_pages.specs.Entries.{entries_read_of}
use Rattle.scripthash_pages.specs.EntryAnswers.{entries_answer}
use Rattle.ouriscado.proofs.page_entries.ouriscado_sh_page_entries_into.Goals as goal

pub returns-in-Err : goal.returns-in-Err
returns-in-Err c =
    let e = c.sh_page_entries_into.ensures in
    let no = sym e.answer ∙ ap entries_answer c.in-Err.is in
    record {
      number = c.from.ensures ∙ number_refused no
          ∙ number_answered (entries_read_of _) _;
      list = e.list;
      count = value_refused (λ r. r.count) _ no ∙ value_answered (λ r. r.count) (entries_read_of _) _ _;
      padded = value_refused (λ r. r.padded) _ no ∙ value_answered (λ r. r.padded) (entries_read_of _) _ _;
    }

pub returns-in-Ok : goal.returns-in-Ok
returns-in-Ok c =
    let e = c.sh_page_entries_into.ensures in
    let yes = sym e.answer ∙ ap entries_answer c.in-Ok.is in
    record {
      number = number_accepted yes ∙ number_answered (entries_read_of _) _;
      list = e.list;
      count = value_accepted (λ r. r.count) _ yes ∙ value_answered (λ r. r.count) (entries_read_of _) _ _;
      padded = value_accepted (λ r. r.padded) _ yes ∙ value_answered (λ r. r.padded) (entries_read_of _) _ _;
    }
