-- What is left of the list, judged from the number before it, with the length so far, answers like the whole.
use Prim.Native.Nat.{◌*◌, ◌^◌, ◌≤◌, ◌<◌}
use mathlib.Core.Bool.{true}
use mathlib.Core.Path.{◌≡◌}
use lib.ListN.{drop}
use Rattle.error.specs.Refusal.{accepted}
use Rattle.scripthash_stream.specs.Stream.{stream_len}
use Rattle.book_rules.specs.Offered.{offered_list}
use Rattle.book_rules.proofs.LawsOffered.{offered_from}
use Rattle.book_rules.proofs.offered.judge_list.Given as goal

abbrev pub invariant-loop-fk : goal.invariant-loop-fk
invariant-loop-fk l = record {
  small : l.prev < 2 ^ 62;
  short : l.len ≤ 10 * l.fk-index;
  resumed : offered_from l.len l.prev (drop l.fk-index l.fks) ≡ offered_list true 0 l.fks (accepted (stream_len l.fks));
}
