-- `ouriscado_sh_page_decode_slice_into` hands out what `sh_page_decode_slice_into` answers.
use Rattle.std.proofs.Common.{sym, ◌∙◌, ap}
use Rattle.error.proofs.LawsOut.{number_accepted, number_refused, number_answered, value_accepted, value_answered, value_refused}
use Rattle.scripthash_pages.specs.Entries.{page_read_of}
use Rattle.scripthash_pages.specs.EntryAnswers.{slice_answer}
use Rattle.ouriscado.proofs.page_entries.ouriscado_sh_page_decode_slice_into.Goals as goal

pub returns-in-Err : goal.returns-in-Err
unfolding page_read_of
returns-in-Err c =
    let e = c.sh_page_decode_slice_into.ensures in
    let no = sym e.answer ∙ ap slice_answer c.in-Err.is in
    record {
      number = c.from.ensures ∙ number_refused no
          ∙ number_answered (page_read_of _) _;
      list = e.list;
      count = value_refused (λ r. r.count) _ no ∙ value_answered (λ r. r.count) (page_read_of _) _ _;
      next = value_refused (λ r. r.next) _ no ∙ value_answered (λ r. r.next) (page_read_of _) _ _;
      padded = value_refused (λ r. r.padded) _ no ∙ value_answered (λ r. r.padded) (page_read_of _) _ _;
    }

pub returns-in-Ok : goal.returns-in-Ok
unfolding page_read_of
returns-in-Ok c =
    let e = c.sh_page_decode_slice_into.ensures in
    let yes = sym e.answer ∙ ap slice_answer c.in-Ok.is in
    record {
      number = number_accepted yes
          ∙ number_answered (page_read_of _) _;
      list = e.list;
      count = value_accepted (λ r. r.count) _ yes ∙ value_answered (λ r. r.count) (page_read_of _) _ _;
      next = value_accepted (λ r. r.next) _ yes ∙ value_answered (λ r. r.next) (page_read_of _) _ _;
      padded = value_accepted (λ r. r.padded) _ yes ∙ value_answered (λ r. r.padded) (page_read_of _) _ _;
    }
