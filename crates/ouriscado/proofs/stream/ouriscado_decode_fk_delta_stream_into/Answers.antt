-- `ouriscado_decode_fk_delta_stream_into` hands out what `decode_fk_delta_stream_into` answers.
use Rattle.std.proofs.Common.{◌∙◌, ap}
use Rattle.error.specs.Refusal.{refusal_of}
use Rattle.error.proofs.LawsOut.{number_answered, value_answered, value_same}
use Rattle.scripthash_stream.specs.Stream.{StreamTold, stream_told}
use Rattle.ouriscado.proofs.stream.ouriscado_decode_fk_delta_stream_into.Goals as goal

pub returns : goal.returns
returns c =
    let e = c.decode_fk_delta_stream_into.ensures in
    let h = c.put_read.ensures in
    record {
      number = h.number ∙ ap refusal_of e.answer
          ∙ number_answered (stream_told _ _) _;
      list = e.list;
      taken = h.taken ∙ value_same (λ (x : StreamTold). x.taken) _ e.answer ∙ value_answered (λ (x : StreamTold). x.taken) (stream_told _ _) _ _;
      padded = h.padded ∙ value_same (λ (x : StreamTold). x.padded) _ e.answer
          ∙ value_answered (λ (x : StreamTold). x.padded) (stream_told _ _) _ _;
    }
