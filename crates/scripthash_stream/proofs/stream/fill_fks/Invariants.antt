-- What the loop of `fill_fks` keeps: where the whole stream scans, so does the rest of it, and its numbers, written from k on, make the list
-- what the contract says.
use Prim.Native.Nat.{◌^◌, ◌≤◌, ◌<◌}
use mathlib.Core.Path.{◌≡◌}
use lib.ListN.{length}
use Rattle.error.specs.Refusal.{accepted}
use Rattle.scripthash_stream.specs.Stream.{Scan, scan}
use Rattle.scripthash_stream.proofs.LawsFill.{Left}
use Rattle.scripthash_stream.proofs.stream.fill_fks.Given as goal

abbrev pub invariant-loop-k : goal.invariant-loop-k
invariant-loop-k l = record {
  room : l.n ≤ length l.out;
  inside : l.off ≤ length l.buf;
  small : l.prev < 2 ^ 63;
  left : (s : Scan) → scan l.n l.buf ≡ accepted s → Left l.buf l.n l.fn.out l.out l.prev l.off l.k s;
}
