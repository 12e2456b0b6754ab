-- `ouriscado_decode_slab_payload_into` hands out what `decode_slab_payload_into` answers.
use Rattle.std.proofs.Common.{sym, ◌∙◌, ap}
use Rattle.error.proofs.LawsOut.{number_accepted, number_refused, number_answered, value_accepted, value_answered, value_refused}
use Rattle.scripthash_slabs.specs.Slab.{slab_list_of}
use Rattle.scripthash_slabs.specs.Answers.{slab_answer}
use Rattle.ouriscado.proofs.slab.ouriscado_decode_slab_payload_into.Goals as goal

pub returns-in-Err : goal.returns-in-Err
returns-in-Err c =
    let e = c.decode_slab_payload_into.ensures in
    let no = sym e.answer ∙ ap slab_answer c.in-Err.is in
    record {
      number = c.from.ensures ∙ number_refused no
          ∙ number_answered (slab_list_of _) _;
      list = e.list;
      used = value_refused (λ l. l.used) _ no ∙ value_answered (λ l. l.used) (slab_list_of _) _ _;
      len = value_refused (λ l. l.len) _ no ∙ value_answered (λ l. l.len) (slab_list_of _) _ _;
      padded = value_refused (λ l. l.padded) _ no ∙ value_answered (λ l. l.padded) (slab_list_of _) _ _;
    }

pub returns-in-Ok : goal.returns-in-Ok
returns-in-Ok c =
    let e = c.decode_slab_payload_into.ensures in
    let yes = sym e.answer ∙ ap slab_answer c.in-Ok.is in
    record {
      number = number_accepted yes
          ∙ number_answered (slab_list_of _) _;
      list = e.list;
      used = value_accepted (λ l. l.used) _ yes ∙ value_answered (λ l. l.used) (slab_list_of _) _ _;
      len = value_accepted (λ l. l.len) _ yes ∙ value_answered (λ l. l.len) (slab_list_of _) _ _;
      padded = value_accepted (λ l. l.padded) _ yes ∙ value_answered (λ l. l.padded) (slab_list_of _) _ _;
    }
