-- What the loop of `put_fks` keeps: the numbers that are left rise, their stream fits from the offset on, and written there it makes the
-- destination what the contract says.
use Prim.Native.Nat.{◌+◌, ◌^◌, ◌≤◌}
use mathlib.Core.Path.{◌≡◌}
use lib.ListN.{length, drop}
use Rattle.buffer.specs.Bytes.{overwrite}
use Rattle.scripthash_stream.specs.Stream.{Rising, stream_from, stream, stream_len_from}
use Rattle.scripthash_stream.proofs.encode.put_fks.Given as goal

abbrev pub invariant-loop-fk : goal.invariant-loop-fk
invariant-loop-fk l = record {
  rises : Rising (2 ^ 63) l.prev (drop l.fk-index l.fks);
  fits : l.off + stream_len_from l.prev (drop l.fk-index l.fks) ≤ length l.out;
  makes : overwrite l.out l.off (stream_from l.prev (drop l.fk-index l.fks)) ≡ overwrite l.fn.out 0 (stream l.fks);
}
