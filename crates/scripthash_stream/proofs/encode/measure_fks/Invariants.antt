-- What the loop of `measure_fks` keeps: what is left, judged from the number before it, with the length so far, answers like the whole.
use Prim.Native.Nat.{◌*◌, ◌^◌, ◌≤◌, ◌<◌}
use mathlib.Core.Path.{◌≡◌}
use lib.ListN.{drop}
use Rattle.error.specs.Refusal.{accepted}
use Rattle.scripthash_stream.specs.Stream.{stream_len, judged}
use Rattle.scripthash_stream.proofs.LawsEncode.{measured_from}
use Rattle.scripthash_stream.proofs.encode.measure_fks.Given as goal

abbrev pub invariant-loop-fk : goal.invariant-loop-fk
invariant-loop-fk l = record {
  small : l.prev < 2 ^ 63;
  short : l.len ≤ 10 * l.fk-index;
  answers : measured_from l.len l.prev (drop l.fk-index l.fks) ≡ judged 0 l.fks (accepted (stream_len l.fks));
}
