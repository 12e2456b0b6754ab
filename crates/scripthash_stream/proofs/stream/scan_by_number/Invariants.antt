-- What the loop of `scan_by_number` keeps: the scan of what is left, from where the loop is, ends where the whole scan does.
use Prim.Native.Nat.{◌-◌, ◌^◌, ◌≤◌, ◌<◌}
use mathlib.Core.Path.{◌≡◌}
use lib.ListN.{length, drop}
use Rattle.error.specs.Refusal.{answered}
use Rattle.scripthash_stream.specs.Stream.{scan, end_from, ends_from}
use Rattle.scripthash_stream.proofs.stream.scan_by_number.Given as goal

abbrev pub invariant-loop : goal.invariant-loop
invariant-loop l = record {
  inside : l.off ≤ length l.buf;
  small : l.prev < 2 ^ 63;
  ends : ends_from l.off l.prev (l.n - l.counter) (drop l.off l.buf) ≡ answered (end_from 0) (scan l.n l.buf);
}
